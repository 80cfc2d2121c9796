-- The first of some states that isn't live decides.
use Rattle.std.proofs.Common.{◌≡◌, ◌+◌, ◌<◌, ◌∙◌, ℕ, zero, suc, List, ◌∷◌, length, map, take, refl, ap, subst, arith}
use Rattle.std.specs.List.{range_with_len}
use Rattle.fdr_record.specs.declared.event.Event.{Event}
use Rattle.call_trie.specs.declared.state.TrieState.{TrieState}
use Rattle.call_trie.specs.declared.state.TrieState.TheVariants.{Live, Full, Deep}
use Rattle.call_trie.specs.Tries.{excess, first_stop}
use Rattle.call_trie.specs.TrieLaws.{FirstExcessDecides, StaysLive}

stops_here : (s : TrieState) (later : List TrieState) → (s ≡ Live → ⊥) → first_stop (s ∷ later) ≡ s
stops_here Live later ends = absurd (ends refl)
stops_here Full later ends = refl
stops_here Deep later ends = refl

goes_on : (s : TrieState) (later : List TrieState) → s ≡ Live → first_stop (s ∷ later) ≡ first_stop later
goes_on s later is = ap (λ (t : TrieState). first_stop (t ∷ later)) is

first_from : (f : ℕ → TrieState) (a n k at : ℕ) → a + k ≡ at → k < n → (f at ≡ Live → ⊥) → ((m : ℕ) → m < at → f m ≡ Live)
    → first_stop (map f (range_with_len a n)) ≡ f at
first_from f a zero k at is few much least = absurd (omega (arith, few))
first_from f a (suc n) zero at is few much least =
    let here : a ≡ at = omega (arith, is) in
    subst (λ (b : ℕ). first_stop (f a ∷ map f (range_with_len (a + 1) n)) ≡ f b) here
    (stops_here (f a) (map f (range_with_len (a + 1) n)) (subst (λ (b : ℕ). f b ≡ Live → ⊥) (let back : at ≡ a = omega (arith, is) in back) much))
first_from f a (suc n) (suc k) at is few much least =
    goes_on (f a) (map f (range_with_len (a + 1) n)) (least a (omega (arith, is)))
    ∙ first_from f (a + 1) n k at (omega (arith, is)) (omega (arith, few)) much least

all_live : (f : ℕ → TrieState) (a n : ℕ) → ((m : ℕ) → m < a + n → f m ≡ Live) → first_stop (map f (range_with_len a n)) ≡ Live
all_live f a zero live = refl
all_live f a (suc n) live =
    goes_on (f a) (map f (range_with_len (a + 1) n)) (live a (omega arith)) ∙ all_live f (a + 1) n (λ m low. live m (omega (arith, low)))

pub first_decides : (room : ℕ) (events : List Event) → FirstExcessDecides room events
first_decides room events n first =
    first_from (λ k. excess room (take k events)) 0 (suc (length events)) n n (omega arith) (omega (arith, first.within)) first.much first.least

pub stays_live : (room : ℕ) (events : List Event) → StaysLive room events
stays_live room events live = all_live (λ k. excess room (take k events)) 0 (suc (length events)) (λ m low. live m (omega (arith, low)))
