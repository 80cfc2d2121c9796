-- Sleds in ranges of the map.
use Rattle.std.proofs.Common.{◌≡◌, ℕ, ◌+◌, ◌*◌, ◌-◌, ◌/◌, ◌%◌, ◌<◌, ◌≤◌, zero, suc, List, [], ◌∷◌, true, false, length, take, drop, get_or, map, Some, refl, sym, ap, ◌∙◌, ◌==◌, inl, inr, arith}
use Rattle.std.specs.Prelude.{slice_get, nat_lt, nat_le}
use Rattle.std.specs.List.{enumerate_from, flat_map}
use Rattle.std.specs.List.Sorted.{IsPartitionPoint}
use Rattle.std.proofs.lemmas.Bool.{cases_lt, eq-eqb, ne_eqb, ltb-true, ltb-false, leb-true, leb-false}
use Rattle.std.proofs.lemmas.List.{length-map, get_or-map, length-take, length-drop}
use Rattle.std.proofs.lemmas.List.FromFn.{length-enumerate_from, get_or-enumerate_from}
use Rattle.std.proofs.lemmas.Option.{none-some, same_Some}
use Rattle.xray_image.specs.declared.sled.Sled.{Sled}
use Rattle.xray_image.specs.Program.{Program}
use Rattle.patch_script.specs.declared.micro.Micro.{Micro}
use Rattle.patch_script.specs.declared.sleds.SledRange.{SledRange}
use Rattle.patch_script.specs.declared.sleds.SledValues.{SledValues}
use Rattle.patch_script.specs.Micros.{Numbered, all_sleds, sleds_of, patch_sled, unpatch_sled}
use Rattle.patch_script.specs.private.Sleds.{values_of, HasId, in_range}
use Rattle.patch_script.proofs.Lists.{filter_range, slice_get-fours}

slice_get-take : {X : Type 0} (n : ℕ) (xs : List X) (k : ℕ) → k < n → slice_get (take n xs) k ≡ slice_get xs k
slice_get-take zero xs k lt = absurd (omega arith)
slice_get-take (suc n) [] k lt = refl
slice_get-take (suc n) (x ∷ xs) zero lt = refl
slice_get-take (suc n) (x ∷ xs) (suc k) lt = slice_get-take n xs k (omega arith)

slice_get-drop : {X : Type 0} (n : ℕ) (xs : List X) (k : ℕ) → slice_get (drop n xs) k ≡ slice_get xs (n + k)
slice_get-drop zero xs k = ap (slice_get xs) (omega arith)
slice_get-drop (suc n) [] k = refl
slice_get-drop (suc n) (x ∷ xs) k = slice_get-drop n xs k ∙ ap (slice_get (x ∷ xs)) (let next : suc (n + k) ≡ suc n + k = omega arith in next)

slice_get-enumerate : {X : Type 0} (n : ℕ) (xs : List X) (k : ℕ) (x : X) → slice_get xs k ≡ Some x → slice_get (enumerate_from n xs) k ≡ Some (n + k, x)
slice_get-enumerate n [] k x at = absurd (none-some x at)
slice_get-enumerate n (y ∷ ys) zero x at = ap (λ m. Some (m, y)) (let same : n ≡ n + 0 = omega arith in same) ∙ ap (λ z. Some (n + 0, z)) (same_Some y x at)
slice_get-enumerate n (y ∷ ys) (suc k) x at = slice_get-enumerate (n + 1) ys k x at ∙ ap (λ m. Some (m, x)) (let next : (n + 1) + k ≡ n + suc k = omega arith in next)

-- ---- a range

pub range_length : (program : Program) (range : SledRange) → range.start ≤ range.end → range.end ≤ length program.sleds → length (in_range range (all_sleds program)) ≡ range.end - range.start
range_length program range ordered within =
    omega (
      arith,
      length-take (range.end - range.start) (drop range.start (all_sleds program)),
      length-drop range.start (all_sleds program),
      length-enumerate_from 0 program.sleds,
    )

range_at : (program : Program) (range : SledRange) (k : ℕ) (sled : Sled) → k < range.end - range.start → slice_get program.sleds (range.start + k) ≡ Some sled
    → slice_get (in_range range (all_sleds program)) k ≡ Some (range.start + k, sled)
range_at program range k sled lt at =
    slice_get-take (range.end - range.start) (drop range.start (all_sleds program)) k lt
    ∙ slice_get-drop range.start (all_sleds program) k
    ∙ slice_get-enumerate 0 program.sleds (range.start + k) sled at
    ∙ ap (λ m. Some (m, sled)) (let zero_first : 0 + (range.start + k) ≡ range.start + k = omega arith in zero_first)

-- the store that patches a sled of a range, by its number among all of these stores
pub patching_at : (program : Program) (range : SledRange) (sleds : List Numbered) (step k : ℕ) (sled : Sled) (micro : Micro) → sleds ≡ in_range range (all_sleds program)
    → step < 4 * (range.end - range.start) → k ≡ range.start + step / 4 → slice_get program.sleds k ≡ Some sled
    → slice_get (patch_sled program (k, sled)) (step % 4) ≡ Some micro → slice_get (flat_map (patch_sled program) sleds) step ≡ Some micro
patching_at program range sleds step k sled micro are lt is at part =
    let here : slice_get sleds (step / 4) ≡ Some (k, sled) =
    ap (λ ss. slice_get ss (step / 4)) are
    ∙ range_at program range (step / 4) sled (omega arith) (ap (slice_get program.sleds) (sym is) ∙ at)
    ∙ ap (λ m. Some (m, sled)) (sym is) in
    let split : step ≡ 4 * (step / 4) + step % 4 = omega arith in
    ap (slice_get (flat_map (patch_sled program) sleds)) split
    ∙ slice_get-fours (patch_sled program) sleds (step / 4) (step % 4) (k, sled) (λ s. refl) here (omega arith)
    ∙ part

-- the store that unpatches one
pub unpatching_at : (program : Program) (earlier : List ℕ) (range : SledRange) (sleds : List Numbered) (step k : ℕ) (sled : Sled) (micro : Micro)
    → sleds ≡ in_range range (all_sleds program) → step < range.end - range.start → k ≡ range.start + step → slice_get program.sleds k ≡ Some sled
    → micro ≡ unpatch_sled earlier (k, sled) → slice_get (map (unpatch_sled earlier) sleds) step ≡ Some micro
unpatching_at program earlier range sleds step k sled micro are lt is at store =
    let here : slice_get sleds step ≡ Some (k, sled) =
    ap (λ ss. slice_get ss step) are
    ∙ range_at program range step sled lt (ap (slice_get program.sleds) (sym is) ∙ at)
    ∙ ap (λ m. Some (m, sled)) (sym is) in
    mapped (unpatch_sled earlier) sleds step (k, sled) here ∙ ap (λ m. Some m) (sym store)
  where
    mapped : (f : Numbered → Micro) (xs : List Numbered) (n : ℕ) (x : Numbered) → slice_get xs n ≡ Some x → slice_get (map f xs) n ≡ Some (f x)
    mapped f [] n x at = absurd (none-some x at)
    mapped f (y ∷ ys) zero x at = ap (λ z. Some (f z)) (same_Some y x at)
    mapped f (y ∷ ys) (suc n) x at = mapped f ys n x at

-- ---- the range of a function

pub id_range : (sleds : List SledValues) (id start end : ℕ) → start ≤ length sleds → end ≤ length sleds
    → IsPartitionPoint (λ y. nat_lt y.id id ≡ true) (λ y. nat_lt y.id id ≡ false) sleds start
    → IsPartitionPoint (λ y. nat_le y.id id ≡ true) (λ y. nat_le y.id id ≡ false) sleds end
    → HasId sleds id (record { start = start; end = end })
id_range sleds id start end start_in end_in low high = record {
  ordered = ordered;
  within = end_in;
  before = λ k d lt. ltb-true _ id (low.0 k d (omega arith) lt);
  inside = λ k d from to. (let above = ltb-false _ id (low.1 k d from (omega arith)) in let below = leb-true _ id (high.0 k d (omega arith) to) in omega arith);
  following = λ k d from lt. leb-false _ id (high.1 k d from lt);
}
  where
    at_end : (xs : List SledValues) → end < length xs → SledValues
    at_end [] lt = absurd (omega arith)
    at_end (x ∷ xs) lt = x

    ordered : start ≤ end
    ordered = elim (cases_lt end start) [
      | inl lt ↦ absurd (let x = at_end sleds (omega arith) in let low_one = ltb-true _ id (low.0 end x (omega arith) lt) in let high_one = leb-false _ id (high.1 end x (omega arith) (omega arith)) in omega arith)
      | inr le ↦ le
    ]

pub function_range : (program : Program) (values : List SledValues) (id : ℕ) (range : SledRange) → values ≡ map (values_of program.trampolines) program.sleds → HasId values id range
    → sleds_of program id ≡ in_range range (all_sleds program)
function_range program values id range are has =
    filter_range (λ s. s.1.id == id) (all_sleds program) range.start (range.end - range.start) (omega (arith, has.ordered, has.within, count, length-enumerate_from 0 program.sleds))
    (λ k d lt. ne_eqb _ id (λ same. let less = has.before k (values_of program.trampolines d.1) lt in omega (arith, same, less, id_at k d (omega (arith, has.ordered, has.within, count)))))
    (λ k d from to. eq-eqb _ id (id_at k d (omega (arith, has.ordered, has.within, count)) ∙ has.inside k (values_of program.trampolines d.1) from (omega (arith, has.ordered))))
    (λ k d from lt. ne_eqb _ id (λ same. let more = has.following k (values_of program.trampolines d.1) (omega (arith, has.ordered)) (omega (arith, count, length-enumerate_from 0 program.sleds)) in
    omega (arith, same, more, id_at k d (omega (arith, length-enumerate_from 0 program.sleds)))))
  where
    count : length values ≡ length program.sleds
    count = ap length are ∙ length-map program.sleds (values_of program.trampolines)

    id_at : (k : ℕ) (d : Numbered) → k < length program.sleds → (get_or (all_sleds program) k d).1.id ≡ (get_or values k (values_of program.trampolines d.1)).id
    id_at k d lt =
        ap (λ (s : Numbered). s.1.id) (get_or-enumerate_from 0 program.sleds k d lt)
        ∙ sym (ap (λ (v : SledValues). v.id) (ap (λ (vs : List SledValues). get_or vs k (values_of program.trampolines d.1)) are ∙ get_or-map (values_of program.trampolines) program.sleds k d.1 (values_of program.trampolines d.1) lt))
