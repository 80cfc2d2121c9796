-- Buffers of a run in any order are those of its threads, one after another.
use Rattle.std.proofs.Common.{◌≡◌, ◌≢◌, ℕ, zero, suc, ◌+◌, ◌<◌, ◌≤◌, ◌==◌, List, [], ◌∷◌, ◌++◌, Bool, true, false, true≢false, Some, refl, sym, subst, ap, ◌∙◌, arith, inl, inr, length}
use Rattle.std.specs.Prelude.{IsPermutation, filter, not, replicate, slice_get}
use Rattle.std.specs.List.{AllByRecursion, enumerate_from, flat_map}
use Rattle.std.proofs.lemmas.Bool.{cases_Bool, eq-eqb, eqb-true, ne_eqb}
use Rattle.std.proofs.lemmas.List.Concat.{flat_map-cons}
use Rattle.std.proofs.lemmas.List.Elements.{filter-append, recursion_from_All}
use Rattle.std.proofs.lemmas.List.Sorted.{IsPermutation-append_right, IsPermutation-filter_both, IsPermutation-refl, IsPermutation-trans}
use Rattle.fdr_buffer.specs.Filled.{Filled, empty_buffer, has_event}
use Rattle.buffer_queue.specs.Left.{IsLeft, IsUsed, of_thread}
use Rattle.machine_step.specs.declared.setup.Setup.{Setup}
use Rattle.traced_run.specs.Kept.{kept_buffers, thread_buffers}
use Rattle.traced_run.specs.Runs.{ThreadRun}
use Rattle.thread_run.specs.Recordings.{Recording}
use Rattle.thread_run.proofs.PoolAndHands.{AreHands, hands_of}

-- ---- filters

pub filter_yes : {X : Type 0} (p : X → Bool) (x : X) (xs : List X) → p x ≡ true → filter p (x ∷ xs) ≡ x ∷ filter p xs
filter_yes p x xs so = rw so refl

pub filter_no : {X : Type 0} (p : X → Bool) (x : X) (xs : List X) → p x ≡ false → filter p (x ∷ xs) ≡ filter p xs
filter_no p x xs not_so = rw not_so refl

-- two tests in either order
pub filter_swap : {X : Type 0} (p q : X → Bool) (xs : List X) → filter p (filter q xs) ≡ filter q (filter p xs)
filter_swap p q [] = refl
filter_swap p q (x ∷ xs) =
    let rest = filter_swap p q xs in
    elim (cases_Bool (p x)) [
      | inl so ↦ elim (cases_Bool (q x)) [
        | inl also ↦
            ap (filter p) (filter_yes q x xs also) ∙ filter_yes p x (filter q xs) so ∙ ap (λ ys. x ∷ ys) rest
            ∙ sym (filter_yes q x (filter p xs) also) ∙ ap (filter q) (sym (filter_yes p x xs so))
        | inr never ↦
            ap (filter p) (filter_no q x xs never) ∙ rest ∙ sym (filter_no q x (filter p xs) never) ∙ ap (filter q) (sym (filter_yes p x xs so))
      ]
      | inr not_so ↦ elim (cases_Bool (q x)) [
        | inl also ↦
            ap (filter p) (filter_yes q x xs also) ∙ filter_no p x (filter q xs) not_so ∙ rest ∙ ap (filter q) (sym (filter_no p x xs not_so))
        | inr never ↦ ap (filter p) (filter_no q x xs never) ∙ rest ∙ ap (filter q) (sym (filter_no p x xs not_so))
      ]
    ]

-- what holds of all holds of those that pass a test
pub filter_all : {X : Type 0} (P : X → Type 0) (p : X → Bool) (xs : List X) → AllByRecursion P xs → AllByRecursion P (filter p xs)
filter_all P p [] all = tt
filter_all P p (x ∷ xs) (here, all) =
    let rest = filter_all P p xs all in
    elim (cases_Bool (p x)) [
      | inl so ↦ subst (AllByRecursion P) (sym (filter_yes p x xs so)) (here, rest)
      | inr not_so ↦ subst (AllByRecursion P) (sym (filter_no p x xs not_so)) rest
    ]

pub joined_all : {X : Type 0} (P : X → Type 0) (xs ys : List X) → AllByRecursion P xs → AllByRecursion P ys → AllByRecursion P (xs ++ ys)
joined_all P [] ys first second = second
joined_all P (x ∷ xs) ys (here, first) second = (here, joined_all P xs ys first second)

-- ---- threads

-- the buffer is of a thread from one number up to another
abbrev pub IsBetween : ℕ → ℕ → Filled → Type 0
IsBetween low high b = (low ≤ b.thread) × (b.thread < high)

abbrev Others : ℕ → List Filled → List Filled
Others thread xs = filter (λ (b : Filled). not (b.thread == thread)) xs

others_between : (low high : ℕ) (xs : List Filled) → AllByRecursion (IsBetween low high) xs → AllByRecursion (IsBetween (low + 1) high) (Others low xs)
others_between low high [] all = tt
others_between low high (x ∷ xs) ((at, below), all) =
    let rest = others_between low high xs all in
    let out : Filled → Bool = λ (b : Filled). not (b.thread == low) in
    elim (cases_Bool (x.thread == low)) [
      | inl so ↦ subst (AllByRecursion (IsBetween (low + 1) high)) (sym (filter_no out x xs (ap not so))) rest
      | inr not_so ↦
          let next : low + 1 ≤ x.thread = above at (λ same. true≢false (sym (eq-eqb x.thread low same) ∙ not_so)) in
          subst (AllByRecursion (IsBetween (low + 1) high)) (sym (filter_yes out x xs (ap not not_so))) ((next, below), rest)
    ]
  where
    above : low ≤ x.thread → x.thread ≢ low → low + 1 ≤ x.thread
    above up other = omega (arith, up, other)

-- those of another thread stay
others_same : (thread other : ℕ) (xs : List Filled) → other ≢ thread → of_thread other (Others thread xs) ≡ of_thread other xs
others_same thread other [] differs = refl
others_same thread other (x ∷ xs) differs =
    let rest = others_same thread other xs differs in
    let out : Filled → Bool = λ (b : Filled). not (b.thread == thread) in
    let own : Filled → Bool = λ (b : Filled). b.thread == other in
    elim (cases_Bool (x.thread == thread)) [
      | inl so ↦
          let at : x.thread ≡ thread = eqb-true x.thread thread so in
          let not_so : own x ≡ false = ne_eqb x.thread other (λ same. differs (sym same ∙ at)) in
          ap (of_thread other) (filter_no out x xs (ap not so)) ∙ rest ∙ sym (filter_no own x xs not_so)
      | inr not_so ↦ ap (of_thread other) (filter_yes out x xs (ap not not_so)) ∙ elim (cases_Bool (own x)) [
        | inl also ↦ filter_yes own x (Others thread xs) also ∙ ap (λ (bs : List Filled). x ∷ bs) rest ∙ sym (filter_yes own x xs also)
        | inr never ↦ filter_no own x (Others thread xs) never ∙ rest ∙ sym (filter_no own x xs never)
      ]
    ]

none_between : (low : ℕ) (xs : List Filled) → AllByRecursion (IsBetween low (low + 0)) xs → xs ≡ []
none_between low [] all = refl
none_between low (x ∷ xs) ((at, below), all) = absurd (omega (arith, at, below))

-- buffers of these threads, of each of which they are those that its run leaves
pub split_all : (setup : Setup) (k : ℕ) (runs : List ThreadRun) (xs : List Filled) → AllByRecursion (IsBetween k (k + length runs)) xs
    → ((i : ℕ) (run : ThreadRun) → slice_get runs i ≡ Some run → of_thread (k + i) xs ≡ thread_buffers setup (k + i, run))
    → IsPermutation xs (flat_map (thread_buffers setup) (enumerate_from k runs))
split_all setup k [] xs all each = subst (IsPermutation xs) (none_between k xs all) (IsPermutation-refl xs)
split_all setup k (run ∷ runs) xs all each =
    let own : Filled → Bool = λ (b : Filled). b.thread == k in
    let out : Filled → Bool = λ (b : Filled). not (b.thread == k) in
    let here : k + 0 ≡ k = omega arith in
    let count : k + suc (length runs) ≡ k + 1 + length runs = omega arith in
    let first : of_thread k xs ≡ thread_buffers setup (k, run) =
    subst (λ (n : ℕ). of_thread n xs ≡ thread_buffers setup (n, run)) here (each zero run refl) in
    let within : AllByRecursion (IsBetween (k + 1) (k + 1 + length runs)) (Others k xs) =
    subst (λ (n : ℕ). AllByRecursion (IsBetween (k + 1) n) (Others k xs)) count (others_between k (k + suc (length runs)) xs all) in
    let rest = split_all setup (k + 1) runs (Others k xs) within (λ i r found.
    let there : k + suc i ≡ k + 1 + i = omega arith in
    let other : k + 1 + i ≢ k = λ same. absurd (omega (arith, same)) in
    others_same k (k + 1 + i) xs other
    ∙ subst (λ (n : ℕ). of_thread n xs ≡ thread_buffers setup (n, r)) there (each (suc i) r found)) in
    let apart : IsPermutation xs (filter own xs ++ filter out xs) = IsPermutation-filter_both own out (λ x. refl) xs in
    let joined = IsPermutation-append_right (filter own xs) (filter out xs) (flat_map (thread_buffers setup) (enumerate_from (k + 1) runs)) rest in
    subst (IsPermutation xs) (ap (λ (bs : List Filled). bs ++ flat_map (thread_buffers setup) (enumerate_from (k + 1) runs)) first
    ∙ sym (flat_map-cons (thread_buffers setup) (k, run) (enumerate_from (k + 1) runs)))
    (IsPermutation-trans xs (filter own xs ++ filter out xs) (filter own xs ++ flat_map (thread_buffers setup) (enumerate_from (k + 1) runs)) apart joined)

-- ---- buffers that hold events

-- the law that those which a thread's run leaves do
abbrev pub HoldEvents : Type 0
HoldEvents = (setup : Setup) (thread : ℕ) (run : ThreadRun) → filter has_event (thread_buffers setup (thread, run)) ≡ thread_buffers setup (thread, run)

fresh_empty : (size n : ℕ) → filter has_event (replicate n (empty_buffer size)) ≡ []
fresh_empty size zero = refl
fresh_empty size (suc n) = fresh_empty size n

used_between : (size n : ℕ) (xs : List Filled) → AllByRecursion (IsUsed size n) xs → AllByRecursion (IsBetween 1 n) xs
used_between size n [] all = tt
used_between size n (x ∷ xs) (is, all) = ((omega (arith, is.some_thread), is.below), used_between size n xs all)

hands_between : (k : ℕ) (rs : List Recording) → 0 < k → AreHands k rs
    → AllByRecursion (IsBetween k (k + length rs)) (filter has_event (hands_of rs))
hands_between k [] some are = tt
hands_between k (r ∷ rs) some (is, are) =
    let Between : Filled → Type 0 = IsBetween k (k + suc (length rs)) in
    let rest : AllByRecursion Between (filter has_event (hands_of rs)) =
    lower (filter has_event (hands_of rs)) (hands_between (k + 1) rs (omega arith) are) in
    elim (cases_Bool r.hand.begun) [
      | inl so ↦
          let own : r.hand.thread ≡ k = is.begun so in
          elim (cases_Bool (has_event r.hand)) [
            | inl full ↦ subst (AllByRecursion Between) (sym (filter_yes has_event r.hand (hands_of rs) full)) ((omega (arith, own), omega (arith, own)), rest)
            | inr empty ↦ subst (AllByRecursion Between) (sym (filter_no has_event r.hand (hands_of rs) empty)) rest
          ]
      | inr not_so ↦
          let none : has_event r.hand ≡ false = rw (is.unbegun not_so).1 refl in
          subst (AllByRecursion Between) (sym (filter_no has_event r.hand (hands_of rs) none)) rest
    ]
  where
    lower : (xs : List Filled) → AllByRecursion (IsBetween (k + 1) (k + 1 + length rs)) xs → AllByRecursion (IsBetween k (k + suc (length rs))) xs
    lower [] all = tt
    lower (x ∷ xs) ((up, below), all) = ((omega (arith, up), omega (arith, below)), lower xs all)

pub all_between : (setup : Setup) (rows : List (List Filled)) (left : List Filled) → IsLeft setup rows left → (rs : List Recording)
    → AreHands 1 rs → length rows ≡ length rs → AllByRecursion (IsBetween 1 (1 + length rs)) (filter has_event (left ++ hands_of rs))
all_between setup rows left is rs are count =
    let Between : Filled → Type 0 = IsBetween 1 (1 + length rs) in
    let end : length rows + 1 ≡ 1 + length rs = omega (arith, count) in
    let used : AllByRecursion Between (filter has_event is.used) =
    filter_all Between has_event is.used
    (subst (λ (n : ℕ). AllByRecursion (IsBetween 1 n) is.used) end
    (used_between setup.size (length rows + 1) is.used (recursion_from_All (IsUsed setup.size (length rows + 1)) is.used is.each))) in
    let of_left : filter has_event left ≡ filter has_event is.used =
    ap (filter has_event) is.all
    ∙ filter-append has_event (replicate is.fresh (empty_buffer setup.size)) is.used
    ∙ ap (λ (bs : List Filled). bs ++ filter has_event is.used) (fresh_empty setup.size is.fresh) in
    subst (AllByRecursion Between) (sym (filter-append has_event left (hands_of rs)))
    (joined_all Between (filter has_event left) (filter has_event (hands_of rs)) (subst (AllByRecursion Between) (sym of_left) used)
    (hands_between 1 rs (omega arith) are))

-- the buffers that hold events are those of a run, if the buffers of each thread are those that its run leaves
pub in_order : HoldEvents → (setup : Setup) (runs : List ThreadRun) (xs : List Filled)
    → AllByRecursion (IsBetween 1 (1 + length runs)) (filter has_event xs)
    → ((i : ℕ) (run : ThreadRun) → slice_get runs i ≡ Some run → of_thread (1 + i) xs ≡ thread_buffers setup (1 + i, run))
    → IsPermutation (filter has_event xs) (kept_buffers setup runs)
in_order hold setup runs xs between each =
    split_all setup 1 runs (filter has_event xs) between (λ i run found.
    filter_swap (λ (b : Filled). b.thread == 1 + i) has_event xs ∙ ap (filter has_event) (each i run found) ∙ hold setup (1 + i) run)
