-- The chains of a table: the way along one, and one more step.
use Rattle.std.proofs.Common.{◌≡◌, ◌≢◌, ◌+◌, ◌-◌, ◌*◌, ◌/◌, ◌%◌, ◌^◌, ◌++◌, ◌<◌, ◌≤◌, ◌∙◌, ◌&&◌, ℕ, zero, suc, Bool, true, false, List, [], ◌∷◌, length, refl, ap, sym, subst, arith, nat_eq, nat_lt, get_or, set, below_more, length-append}
use Rattle.std.specs.Prelude.{replicate}
use Rattle.std.proofs.Math.ListN.{get_or-append}
use Rattle.std.proofs.Math.Seq.{get_or-append_seam}
use Rattle.std.proofs.lemmas.Bool.{eq-eqb}
use Rattle.std.proofs.lemmas.Bool.Decides.{nat_tests}
use Rattle.std.proofs.lemmas.List.{get_or-set_other, get_or-set_same, length-set}
use Rattle.std.proofs.Math.Nat.{mul-lt-mul_of_pos_right}
use Rattle.std.proofs.lemmas.Nat.{div_below, mod_below, mul-lt}
use Rattle.call_trie.specs.declared.table.Step.{Step}
use Rattle.call_trie.specs.private.Chains.{AreChained, HasNone, IsLatest, Walks, bucket_in}

-- ---- buckets

-- the upper half of a number of 64 bits
pub part_low : (n : ℕ) → n % 2 ^ 64 / 2 ^ 32 < 2 ^ 32
part_low n = div_below (n % 2 ^ 64) (2 ^ 32) (2 ^ 32) (omega arith) (mod_below n (2 ^ 64) (omega arith))

-- a number of 32 bits in proportion to a count is below it
pub scaled_fits : (part buckets : ℕ) → part < 2 ^ 32 → buckets < 2 ^ 32 → part * buckets < 2 ^ 64
scaled_fits part buckets low few = mul-lt part buckets (2 ^ 32) (2 ^ 32) low few

pub scaled_below : (part buckets : ℕ) → part < 2 ^ 32 → 0 < buckets → part * buckets / 2 ^ 32 < buckets
scaled_below part buckets low some =
    div_below (part * buckets) (2 ^ 32) buckets (omega arith)
    (let more : part * buckets < 2 ^ 32 * buckets = product_less part (2 ^ 32) buckets low some in omega (arith, more))
  where
    product_less : (a b n : ℕ) → a < b → 0 < n → a * n < b * n
    product_less a b n less positive = mul-lt-mul_of_pos_right less positive

-- ---- the way along a chain

pub walks_first : (buckets : ℕ) (steps : List Step) (before latest : List ℕ) (step : Step) (b n : ℕ) → AreChained buckets steps before latest
    → b ≡ bucket_in buckets step → b < buckets → n ≡ get_or latest b 0 → Walks buckets steps step n
walks_first buckets steps before latest step b n chained is within here =
    let own : IsLatest buckets steps b (length steps) n =
    subst (IsLatest buckets steps b (length steps)) (sym here) (chained.latest_are b within) in record {
      low = own.low;
      own = λ d some. own.own d some ∙ is;
      absent = λ k d from below same. own.none k d from below (ap (bucket_in buckets) same ∙ sym is);
    }

-- the step at hand isn't the one that is looked for
pub walks_on : (buckets : ℕ) (steps : List Step) (before latest : List ℕ) (step : Step) (n place next : ℕ) → AreChained buckets steps before latest
    → Walks buckets steps step n → 0 < n → place ≡ n - 1 → ((d : Step) → get_or steps place d ≡ step → ⊥) → next ≡ get_or before place 0
    → (next < n) × Walks buckets steps step next
walks_on buckets steps before latest step n place next chained walks some at other here =
    let within : place < length steps = omega (arith, walks.low, some, at) in
    let bucket = bucket_in buckets (get_or steps place step) in
    let its : bucket ≡ bucket_in buckets step =
    ap (λ (k : ℕ). bucket_in buckets (get_or steps k step)) at ∙ walks.own step some in
    let own : IsLatest buckets steps bucket place next =
    subst (IsLatest buckets steps bucket place) (sym here) (chained.before_are place step within) in (
      omega (arith, own.low, at, some),
      record {
        low = omega (arith, own.low, within);
        own = λ d more. own.own d more ∙ its;
        absent = λ k d from below same. by_place k d from below same (nat_eq k place) refl (own.none k d from);
      },
    )
  where
    by_place : (k : ℕ) (d : Step) → next ≤ k → k < length steps → get_or steps k d ≡ step → (b : Bool) → nat_eq k place ≡ b
        → (k < place → bucket_in buckets (get_or steps k d) ≡ bucket_in buckets (get_or steps place step) → ⊥) → ⊥
    by_place k d from below same true is none =
        let here : k ≡ place = let e : nat_eq k place ≡ true = is in grind (arith, nat_tests) in
        other d (ap (λ (m : ℕ). get_or steps m d) (sym here) ∙ same)
    by_place k d from below same false is none =
        let apart : k ≢ place = λ e. let yes : nat_eq k place ≡ true = eq-eqb k place e in let never : true ≡ false = sym yes ∙ is in (let n : ⊥ = cc in n) in
        by_order (nat_lt k place) refl apart
      where
        by_order : (less : Bool) → nat_lt k place ≡ less → k ≢ place → ⊥
        by_order true low differ =
            none (let e : nat_lt k place ≡ true = low in grind (arith, nat_tests))
            (ap (bucket_in buckets) same ∙ sym (ap (λ (m : ℕ). bucket_in buckets (get_or steps m step)) at ∙ walks.own step some))
        by_order false high differ =
            let up : place ≤ k = let e : nat_lt k place ≡ false = high in grind (arith, nat_tests) in
            walks.absent k d (omega (arith, up, differ, at, some)) below same

-- at the end of a chain there is none
pub walked : (buckets : ℕ) (steps : List Step) (step : Step) (n : ℕ) → Walks buckets steps step n → n ≡ 0 → HasNone steps step
walked buckets steps step n walks end = λ k d below same. walks.absent k d (omega (arith, end)) below same

-- ---- one more step

pub chained_none : (buckets : ℕ) (latest : List ℕ) (n : ℕ) → latest ≡ replicate n 0 → AreChained buckets [] [] latest
chained_none buckets latest n is = record {
  level = refl;
  latest_are = λ bucket within. none bucket (ap (λ (l : List ℕ). get_or l bucket 0) is ∙ zeros n bucket);
  before_are = λ i d within. absurd (omega (arith, within));
}
  where
    zeros : (m k : ℕ) → let zs : List ℕ = replicate m 0 in get_or zs k 0 ≡ 0
    zeros zero k = refl
    zeros (suc m) zero = refl
    zeros (suc m) (suc k) = zeros m k

    none : (bucket : ℕ) → get_or latest bucket 0 ≡ 0 → IsLatest buckets [] bucket 0 (get_or latest bucket 0)
    none bucket zero_at = record {
      low = omega (arith, zero_at);
      own = λ d some. absurd (omega (arith, some, zero_at));
      none = λ k d from below same. absurd (omega (arith, below));
    }

-- the latest of some of the steps is still that
kept_latest : (buckets : ℕ) (steps : List Step) (step : Step) (bucket count n : ℕ) → count ≤ length steps → IsLatest buckets steps bucket count n
    → IsLatest buckets (steps ++ step ∷ []) bucket count n
kept_latest buckets steps step bucket count n few own = record {
  low = own.low;
  own = λ d some. ap (bucket_in buckets) (get_or-append steps (step ∷ []) d (n - 1) (omega (arith, own.low, some, few))) ∙ own.own d some;
  none = λ k d from below same. own.none k d from below
      (ap (bucket_in buckets) (sym (get_or-append steps (step ∷ []) d k (omega (arith, below, few)))) ∙ same);
}

-- one more step in another bucket
other_latest : (buckets : ℕ) (steps : List Step) (step : Step) (bucket n : ℕ) → (bucket_in buckets step ≡ bucket → ⊥) → IsLatest buckets steps bucket (length steps) n
    → IsLatest buckets (steps ++ step ∷ []) bucket (length steps + 1) n
other_latest buckets steps step bucket n other own =
    let kept = kept_latest buckets steps step bucket (length steps) n (omega arith) own in record {
      low = omega (arith, kept.low);
      own = kept.own;
      none = λ k d from below same.
          below_more (λ m. n ≤ m → bucket_in buckets (get_or (steps ++ step ∷ []) m d) ≡ bucket → ⊥) (length steps)
          (λ m low at is. kept.none m d at low is)
          (λ at is. other (ap (bucket_in buckets) (sym (get_or-append_seam steps step [] d)) ∙ is)) k below from same;
    }

-- the step itself is the latest of its bucket
own_latest : (buckets : ℕ) (steps : List Step) (step : Step) → IsLatest buckets (steps ++ step ∷ []) (bucket_in buckets step) (length steps + 1) (length steps + 1)
own_latest buckets steps step = record {
  low = omega arith;
  own = λ d some. ap (λ (m : ℕ). bucket_in buckets (get_or (steps ++ step ∷ []) m d)) (omega arith)
      ∙ ap (bucket_in buckets) (get_or-append_seam steps step [] d);
  none = λ k d from below same. absurd (omega (arith, from, below));
}

pub chained_more : (buckets : ℕ) (steps : List Step) (before latest : List ℕ) (step : Step) (b : ℕ) → AreChained buckets steps before latest
    → length latest ≡ buckets → b ≡ bucket_in buckets step → b < buckets
    → AreChained buckets (steps ++ step ∷ []) (before ++ get_or latest b 0 ∷ []) (set latest b (length steps + 1))
chained_more buckets steps before latest step b chained size is within = record {
  level = omega (arith, chained.level, length-append before (get_or latest b 0 ∷ []), length-append steps (step ∷ []));
  latest_are = λ bucket low. subst (λ (m : ℕ). IsLatest buckets (steps ++ step ∷ []) bucket m (get_or (set latest b (length steps + 1)) bucket 0)) (sym longer)
      (by_bucket bucket low (nat_eq bucket b) refl);
  before_are = λ i d low. below_more (λ m. IsLatest buckets (steps ++ step ∷ []) (bucket_in buckets (get_or (steps ++ step ∷ []) m d)) m (get_or (before ++ get_or latest b 0 ∷ []) m 0))
      (length steps) (λ m less. earlier m d less) (last d) i (omega (arith, low, longer));
}
  where
    longer : length (steps ++ step ∷ []) ≡ length steps + 1
    longer = omega (arith, length-append steps (step ∷ []))

    by_bucket : (bucket : ℕ) → bucket < buckets → (same : Bool) → nat_eq bucket b ≡ same
        → IsLatest buckets (steps ++ step ∷ []) bucket (length steps + 1) (get_or (set latest b (length steps + 1)) bucket 0)
    by_bucket bucket low true same =
        let at : bucket ≡ b = let e : nat_eq bucket b ≡ true = same in grind (arith, nat_tests) in
        let put : get_or (set latest b (length steps + 1)) bucket 0 ≡ length steps + 1 =
        ap (λ (m : ℕ). get_or (set latest b (length steps + 1)) m 0) at ∙ get_or-set_same latest b (length steps + 1) 0 (omega (arith, within, size)) in
        subst (IsLatest buckets (steps ++ step ∷ []) bucket (length steps + 1)) (sym put)
        (subst (λ (m : ℕ). IsLatest buckets (steps ++ step ∷ []) m (length steps + 1) (length steps + 1)) (sym (at ∙ is)) (own_latest buckets steps step))
    by_bucket bucket low false other =
        let apart : bucket ≢ b = λ e. let yes : nat_eq bucket b ≡ true = eq-eqb bucket b e in let never : true ≡ false = sym yes ∙ other in (let n : ⊥ = cc in n) in
        subst (IsLatest buckets (steps ++ step ∷ []) bucket (length steps + 1)) (sym (get_or-set_other latest b bucket (length steps + 1) 0 apart))
        (other_latest buckets steps step bucket (get_or latest bucket 0) (λ same. apart (sym same ∙ sym is)) (chained.latest_are bucket low))

    earlier : (m : ℕ) (d : Step) → m < length steps
        → IsLatest buckets (steps ++ step ∷ []) (bucket_in buckets (get_or (steps ++ step ∷ []) m d)) m (get_or (before ++ get_or latest b 0 ∷ []) m 0)
    earlier m d less =
        subst (λ (s : Step). IsLatest buckets (steps ++ step ∷ []) (bucket_in buckets s) m (get_or (before ++ get_or latest b 0 ∷ []) m 0)) (sym (get_or-append steps (step ∷ []) d m less))
        (subst (IsLatest buckets (steps ++ step ∷ []) (bucket_in buckets (get_or steps m d)) m) (sym (get_or-append before (get_or latest b 0 ∷ []) 0 m (omega (arith, less, chained.level))))
        (kept_latest buckets steps step (bucket_in buckets (get_or steps m d)) m (get_or before m 0) (omega (arith, less)) (chained.before_are m d less)))

    last : (d : Step) → IsLatest buckets (steps ++ step ∷ []) (bucket_in buckets (get_or (steps ++ step ∷ []) (length steps) d)) (length steps) (get_or (before ++ get_or latest b 0 ∷ []) (length steps) 0)
    last d =
        let here : get_or (before ++ get_or latest b 0 ∷ []) (length steps) 0 ≡ get_or latest b 0 =
        ap (λ (m : ℕ). get_or (before ++ get_or latest b 0 ∷ []) m 0) (sym chained.level) ∙ get_or-append_seam before (get_or latest b 0) [] 0 in
        subst (λ (s : Step). IsLatest buckets (steps ++ step ∷ []) (bucket_in buckets s) (length steps) (get_or (before ++ get_or latest b 0 ∷ []) (length steps) 0))
        (sym (get_or-append_seam steps step [] d))
        (subst (IsLatest buckets (steps ++ step ∷ []) (bucket_in buckets step) (length steps)) (sym here)
        (subst (λ (m : ℕ). IsLatest buckets (steps ++ step ∷ []) m (length steps) (get_or latest b 0)) is
        (kept_latest buckets steps step b (length steps) (get_or latest b 0) (omega arith) (chained.latest_are b within))))

-- ---- what the code has

-- an item that is there doesn't depend on what stands for one that isn't
pub any_default : {X : Type 0} (xs : List X) (i : ℕ) (d e : X) → i < length xs → get_or xs i d ≡ get_or xs i e
any_default [] i d e within = absurd (omega (arith, within))
any_default (x ∷ xs) zero d e within = refl
any_default (x ∷ xs) (suc i) d e within = any_default xs i d e (omega (arith, within))

-- a step that isn't the one that is looked for
pub differs_at : (steps : List Step) (place : ℕ) (step zero_step : Step) → place < length steps
    → (nat_eq (get_or steps place zero_step).parent step.parent && nat_eq (get_or steps place zero_step).func step.func) ≡ false
    → (d : Step) → get_or steps place d ≡ step → ⊥
differs_at steps place step zero_step within other d same =
    let is : get_or steps place zero_step ≡ step = any_default steps place zero_step d within ∙ same in
    let test : (nat_eq (get_or steps place zero_step).parent step.parent && nat_eq (get_or steps place zero_step).func step.func) ≡ true =
    ap (λ (s : Step). nat_eq s.parent step.parent && nat_eq s.func step.func) is
    ∙ (ap (λ b. b && nat_eq step.func step.func) (eq-eqb step.parent step.parent refl) ∙ eq-eqb step.func step.func refl) in
    let never : true ≡ false = sym test ∙ other in (let n : ⊥ = cc in n)

pub table_more : (steps steps' : List Step) (before before' latest latest' : List ℕ) (step : Step) (b n x : ℕ) → AreChained (length latest) steps before latest
    → b ≡ bucket_in (length latest) step → b < length latest → steps' ≡ steps ++ step ∷ [] → before' ≡ before ++ x ∷ [] → x ≡ get_or latest b x
    → latest' ≡ set latest b n → n ≡ length steps + 1 → AreChained (length latest') steps' before' latest'
table_more steps steps' before before' latest latest' step b n x chained is within steps_are before_are here latest_are number =
    let own = chained_more (length latest) steps before latest step b chained refl is within in
    let first : x ≡ get_or latest b 0 = here ∙ any_default latest b x 0 within in
    let befores : before' ≡ before ++ get_or latest b 0 ∷ [] = before_are ∙ ap (λ (m : ℕ). before ++ m ∷ []) first in
    let latests : latest' ≡ set latest b (length steps + 1) = latest_are ∙ ap (set latest b) number in
    let size : length latest' ≡ length latest = ap {B = ℕ} length latest_are ∙ length-set latest b n in
    subst (λ (m : ℕ). AreChained m steps' before' latest') (sym size)
    (subst (λ (l : List Step). AreChained (length latest) l before' latest') (sym steps_are)
    (subst (λ (l : List ℕ). AreChained (length latest) (steps ++ step ∷ []) l latest') (sym befores)
    (subst (AreChained (length latest) (steps ++ step ∷ []) (before ++ get_or latest b 0 ∷ [])) (sym latests) own)))
