-- The ids of map entries, entry by entry.
use Rattle.std.proofs.Common.{◌≡◌, ◌<◌, ◌≤◌, ◌+◌, ℕ, zero, suc, List, [], ◌∷◌, ◌++◌, ◌==◌, true, false, length, take, get_or, map, Option, Some, None, refl, sym, ap, subst, ◌∙◌, arith, inl, inr}
use Rattle.std.specs.Prelude.{slice_get, Contains, nat_lt}
use Rattle.std.specs.List.{position_or_len}
use Rattle.std.specs.List.Sorted.{IsStrictlyIncreasing, IsNonDecreasing, IsNonDecreasingBy, IsPartitionPoint}
use Rattle.std.proofs.lemmas.Bool.{cases_eq, cases_lt, ltb-true, ltb-false}
use Rattle.std.proofs.lemmas.List.{length-map, get_or-map}
use Rattle.std.proofs.lemmas.Simd.{map-map}
use Rattle.std.proofs.lemmas.List.Kept.{AllPairs-from_increasing}
use Rattle.std.proofs.lemmas.Option.{slice_get-get_or, same_Some}
use Rattle.std.proofs.Math.Seq.{take-suc}
use Rattle.xray_image.specs.declared.map_entry.SledEntry.{SledEntry}
use Rattle.xray_image.specs.private.Views.{entry_of}
use Rattle.xray_image.specs.Program.{distinct, id_of}
use Rattle.xray_image.specs.private.Numbering.{AreNumbersOf, IsBefore, HasCounted}
use Rattle.xray_image.proofs.Distinct.{first_number, new_number, old_number, place_of_number}

-- ---- numbers of functions

-- what ascends strictly doesn't fall
pub not_falling : {X : Type 0} (n : X → ℕ) (xs : List X) → IsStrictlyIncreasing (map n xs) → IsNonDecreasingBy n xs
not_falling n xs up i j d le lt = elim (cases_eq i j) [
  | inl same ↦ rw same (omega arith)
  | inr other ↦ omega (arith, AllPairs-from_increasing (map n xs) up i j 0 (omega arith) (omega (arith, length-map xs n)), get_or-map n xs i d 0 (omega arith), get_or-map n xs j d 0 lt)
]

-- where the numbers below a given one end, that number stands, if it is one of the ascending numbers
pub stands_there : {X : Type 0} (n : X → ℕ) (xs : List X) (s i : ℕ) → IsStrictlyIncreasing (map n xs) → Contains (map n xs) s → i ≤ length xs
    → IsPartitionPoint (λ y. nat_lt (n y) s ≡ true) (λ y. nat_lt (n y) s ≡ false) xs i → slice_get (map n xs) i ≡ Some s
stands_there n [] s i up known le point = absurd (omega (arith, known.1))
stands_there n (x ∷ xs) s i up known le point =
    let ys = map n (x ∷ xs) in
    let k = known.0 in
    let count = length-map (x ∷ xs) n in
    let there : get_or ys k 0 ≡ s = sym (get_or_any ys k s 0 known.1) ∙ known.2 in
    let at_k : get_or ys k 0 ≡ n (get_or (x ∷ xs) k x) = get_or-map n (x ∷ xs) k x 0 (omega (arith, count, known.1)) in
    let not_below : i ≤ k = elim (cases_lt k i) [
      | inl below ↦ absurd (omega (arith, ltb-true _ s (point.0 k x (omega arith) below), at_k, there))
      | inr above ↦ above
    ] in
    let at_i : get_or ys i 0 ≡ n (get_or (x ∷ xs) i x) = get_or-map n (x ∷ xs) i x 0 (omega (arith, count, known.1, not_below)) in
    let least : s ≤ get_or ys i 0 = omega (arith, ltb-false _ s (point.1 i x (omega arith) (omega (arith, count, known.1, not_below))), at_i) in
    let same : i ≡ k = elim (cases_eq i k) [
      | inl same ↦ same
      | inr other ↦ absurd (omega (arith, AllPairs-from_increasing ys up i k 0 (omega (arith, not_below, other)) known.1, there, least))
    ] in
    slice_get-get_or ys i 0 (omega (arith, same, known.1)) ∙ ap Some (ap (λ j. get_or ys j 0) same ∙ there)
  where
    get_or_any : (zs : List ℕ) (j d e : ℕ) → j < length zs → get_or zs j d ≡ get_or zs j e
    get_or_any [] j d e lt = absurd (omega arith)
    get_or_any (z ∷ zs) zero d e lt = refl
    get_or_any (z ∷ zs) (suc j) d e lt = get_or_any zs j d e (omega arith)

-- there are as many numbers as addresses
pub as_many : (all some numbers : List ℕ) → AreNumbersOf all some numbers → length numbers ≡ length some
as_many all some numbers are = sym (length-map numbers (slice_get all)) ∙ ap length are.each ∙ length-map some Some

-- ---- one entry more

numbers_after : (starts functions : List ℕ) (i x : ℕ) (last : Option ℕ) (numbers numbers' : List ℕ) → IsNonDecreasing functions → i < length functions → x ≡ get_or functions i 0
    → IsBefore functions i last → AreNumbersOf starts (distinct [] (take i functions)) numbers → (last ≡ Some x → numbers' ≡ numbers)
    → ((last ≡ Some x → ⊥) → (some : List ℕ) → AreNumbersOf starts some numbers → AreNumbersOf starts (some ++ x ∷ []) numbers')
    → AreNumbersOf starts (distinct [] (take (i + 1) functions)) numbers'
numbers_after starts functions zero x None numbers numbers' up lt is before are known added =
    subst (λ (d : List ℕ). AreNumbersOf starts d numbers') (ap (λ y. y ∷ []) is ∙ sym (first_number functions up lt)) (added (λ e. absurd cc) [] are)
numbers_after starts functions (suc i) x None numbers numbers' up lt is before are known added = absurd (omega (arith, before))
numbers_after starts functions zero x (Some y) numbers numbers' up lt is before are known added = absurd (omega (arith, before.0))
numbers_after starts functions (suc i) x (Some y) numbers numbers' up lt is before are known added =
    let at : get_or functions i 0 ≡ y = ap (λ n. get_or functions n 0) (omega arith) ∙ before.1 in
    let more : suc i + 1 ≡ suc (suc i) = omega arith in
    elim (cases_eq y x) [
      | inl same ↦
          let kept : numbers' ≡ numbers = known (ap Some same) in
          subst (λ (n : ℕ). AreNumbersOf starts (distinct [] (take n functions)) numbers') (sym more)
          (subst (λ (d : List ℕ). AreNumbersOf starts d numbers') (sym (old_number functions up i lt (at ∙ same ∙ is)))
          (subst (λ (ns : List ℕ). AreNumbersOf starts (distinct [] (take (suc i) functions)) ns) (sym kept) are))
      | inr other ↦
          let new = added (λ e. other (same_Some y x e)) (distinct [] (take (suc i) functions)) are in
          subst (λ (n : ℕ). AreNumbersOf starts (distinct [] (take n functions)) numbers') (sym more)
          (subst (λ (d : List ℕ). AreNumbersOf starts d numbers')
          (ap (λ z. distinct [] (take (suc i) functions) ++ z ∷ []) is ∙ sym (new_number functions up i lt (λ e. other (sym at ∙ e ∙ sym is)))) new)
    ]

-- the id of an entry's function by its place among the functions of all entries
pub id_at : (lines : List SledEntry) (i : ℕ) → i < length lines
    → get_or (map (λ e. id_of (map entry_of lines) e.function) lines) i 0
    ≡ 1 + position_or_len (λ y. y == get_or (map (λ e. e.function) lines) i 0) (distinct [] (map (λ e. e.function) lines))
id_at lines i lt =
    let none : SledEntry = record { sled = 0; function = 0; kind = 0; always = 0; version = 0 } in
    let mine : get_or (map (λ e. e.function) lines) i 0 ≡ (get_or lines i none).function = get_or-map (λ e. e.function) lines i none 0 lt in
    let all : map (λ e. e.function) (map entry_of lines) ≡ map (λ e. e.function) lines = map-map (λ e. e.function) entry_of lines in
    get_or-map (λ e. id_of (map entry_of lines) e.function) lines i none 0 lt
    ∙ ap (λ (xs : List ℕ). 1 + position_or_len (λ y. y == (get_or lines i none).function) (distinct [] xs)) all
    ∙ ap (λ (x : ℕ). 1 + position_or_len (λ y. y == x) (distinct [] (map (λ e. e.function) lines))) (sym mine)

pub counted_more : (starts functions ids : List ℕ) (i x id : ℕ) (last : Option ℕ) (numbers numbers' so_far so_far' : List ℕ)
    → IsNonDecreasing functions → i < length functions → length ids ≡ length functions → x ≡ get_or functions i 0
    → get_or ids i 0 ≡ 1 + position_or_len (λ y. y == get_or functions i 0) (distinct [] functions)
    → HasCounted starts functions ids i last numbers so_far → (last ≡ Some x → numbers' ≡ numbers)
    → ((last ≡ Some x → ⊥) → (some : List ℕ) → AreNumbersOf starts some numbers → AreNumbersOf starts (some ++ x ∷ []) numbers')
    → length numbers' ≤ length numbers + 1 → id ≡ length numbers' → so_far' ≡ so_far ++ id ∷ []
    → HasCounted starts functions ids (i + 1) (Some x) numbers' so_far'
counted_more starts functions ids i x id last numbers numbers' so_far so_far' up lt count is id_is counted known added few id_of_all more =
    let after = numbers_after starts functions i x last numbers numbers' up lt is counted.before counted.numbers_are known added in
    let next : i + 1 ≡ suc i = omega arith in
    let place : get_or ids i 0 ≡ length (distinct [] (take (suc i) functions)) = id_is ∙ place_of_number functions up i lt in
    let mine : id ≡ get_or ids i 0 = id_of_all ∙ as_many starts _ numbers' after ∙ ap (λ n. length (distinct [] (take n functions))) next ∙ sym place in
    record {
      numbers_are = after;
      few = omega (arith, few, counted.few);
      ids_are = more ∙ ap (λ t. t ++ id ∷ []) counted.ids_are ∙ ap (λ y. take i ids ++ y ∷ []) mine ∙ sym (take-suc ids i 0 (omega arith)) ∙ ap (λ n. take n ids) (sym next);
      before = (omega arith, ap (λ n. get_or functions n 0) (omega arith) ∙ sym is);
    }
