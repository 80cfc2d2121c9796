-- The index of the units grows by one unit.
use Rattle.std.proofs.Common.{◌≡◌, ◌≢◌, ℕ, zero, suc, ◌+◌, ◌-◌, ◌*◌, ◌/◌, ◌<◌, ◌≤◌, List, length, get_or, set, sym, ap, subst, ◌∙◌, arith, inl, inr}
use Rattle.std.specs.Prelude.{Contains, Some, slice_get}
use Rattle.std.proofs.lemmas.Option.{slice_get_within, get_or_from_slice_get}
use Rattle.std.specs.List.Sorted.{IsStrictlyIncreasing}
use Rattle.std.proofs.lemmas.Bool.{cases_eq, cases_lt}
use Rattle.std.proofs.lemmas.List.Kept.{AllPairs-from_increasing}
use Rattle.std.proofs.lemmas.List.Elements.{Contains-get_or}
use Rattle.std.proofs.lemmas.List.{get_or-map, get_or-set_same, get_or-set_other, length-map, length-set}
use Rattle.std.proofs.Math.Nat.{div-add-mod}
use Rattle.std.proofs.lemmas.Nat.{mod_below}
use Rattle.xray_image.specs.declared.unit.Unit.{Unit}
use Rattle.xray_image.specs.Program.{addresses}
use Rattle.xray_image.specs.private.Index.{AreWithin, IsNumbered, IsFirstOf, HasBegun, HasFirst}

-- the address of a unit that was read
pub address_read : (units : List Unit) (i : ℕ) (u : Unit) → slice_get units i ≡ Some u → get_or (addresses units) i 0 ≡ u.address
address_read units i u found =
    get_or-map (λ v. v.address) units i u 0 (slice_get_within units i u found) ∙ ap (λ (v : Unit). v.address) (get_or_from_slice_get units i u u found)

-- it is among those that hold all units
pub address_above : (base n : ℕ) (units : List Unit) (i : ℕ) (u : Unit) → AreWithin base n (addresses units) → slice_get units i ≡ Some u → (base ≤ u.address) × (u.address < base + n)
address_above base n units i u within found =
    let at = address_read units i u found in
    let there = within i (omega (arith, length-map units (λ v. v.address), slice_get_within units i u found)) in
    (omega (arith, at, there), omega (arith, at, there))

-- a byte lies in its block
in_block : (k : ℕ) → (128 * (k / 128) ≤ k) × (k < 128 * (k / 128) + 128)
in_block k = (omega (arith, div-add-mod k 128), omega (arith, div-add-mod k 128, mod_below k 128 (omega arith)))

-- the difference of ascending numbers is at least that of their places
gap : (all : List ℕ) → IsStrictlyIncreasing all → (i d : ℕ) → i + d < length all → get_or all i 0 + d ≤ get_or all (i + d) 0
gap all up i zero lt = let e : i + 0 ≡ i = omega arith in omega (arith, ap (λ n. get_or all n 0) e)
gap all up i (suc d) lt =
    let e : i + suc d ≡ i + d + 1 = omega arith in
    omega (arith, gap all up i d (omega arith), up (i + d) (omega arith), ap (λ n. get_or all n 0) e)

module _ (all firsts steps : List ℕ) (base i : ℕ) (below : i < length all) (within : AreWithin base (length steps) all) (up : IsStrictlyIncreasing all)
    (so_far : HasFirst all firsts steps base i) where
  abbrev place : ℕ
  place = get_or all i 0 - base

  -- the first of a block that is begun isn't far away
  pub first_near : place / 128 < length firsts → (get_or firsts (place / 128) 0 ≤ i) × (i < get_or firsts (place / 128) 0 + 128)
  first_near begun =
      let first = so_far.first_of (place / 128) begun in
      let f : ℕ = get_or firsts (place / 128) 0 in
      let far = gap all up f (i - f) (omega (arith, first.counted, below)) in
      let there : f + (i - f) ≡ i = omega (arith, first.counted) in (
        first.counted,
        omega (
          arith,
          first.counted,
          far,
          ap (λ n. get_or all n 0) there,
          first.following f (omega (arith, first.counted, below)) (omega arith),
          (in_block place).1,
          (within i below).0,
        ),
      )

  module _ (firsts' : List ℕ) (begun : HasBegun firsts firsts' (place / 128) i) (reaches : place / 128 < length firsts') where
    abbrev step : ℕ
    step = i - get_or firsts' (place / 128) 0

    abbrev steps' : List ℕ
    steps' = set steps place step

    -- the first of the unit's own block
    own_first : (get_or firsts' (place / 128) 0 ≤ i) × (step < 255)
    own_first = elim (cases_lt (place / 128) (length firsts)) [
      | inl old ↦ (omega (arith, begun.kept (place / 128) old, first_near old), omega (arith, begun.kept (place / 128) old, first_near old))
      | inr new ↦ (omega (arith, begun.begun (place / 128) new reaches), omega (arith, begun.begun (place / 128) new reaches))
    ]

    first_of : (b : ℕ) → b < length firsts' → IsFirstOf all firsts' base (i + 1) b
    first_of b lt = elim (cases_lt b (length firsts)) [
      | inl old ↦
          let same = begun.kept b old in
          let was = so_far.first_of b old in
          record { counted = omega (arith, same, was.counted); following = λ j j_in le. was.following j j_in (omega (arith, same, le)) }
      | inr new ↦
          let now = begun.begun b new lt in
          record {
            counted = omega (arith, now.1);
            following = λ j j_in le.
                let there : get_or all i 0 + (j - i) ≤ get_or all (i + (j - i)) 0 = gap all up i (j - i) (omega (arith, now.1, le, j_in)) in
                let same : i + (j - i) ≡ j = omega (arith, now.1, le) in
                omega (arith, there, ap (λ n. get_or all n 0) same, now.0, (in_block place).0, (within i below).0);
          }
    ]

    stands : (k : ℕ) → k < length steps' → get_or steps' k 0 ≢ 255 → Contains all (base + k)
    stands k lt differs = elim (cases_eq k place) [
      | inl same ↦
          let there : get_or all i 0 ≡ base + k = omega (arith, same, (within i below).0) in
          subst (Contains all) there (Contains-get_or all i 0 below)
      | inr other ↦
          so_far.stands k (omega (arith, lt, length-set steps place step)) (λ e. differs (get_or-set_other steps place k step 0 other ∙ e))
    ]

    numbered : (j : ℕ) → j < i + 1 → IsNumbered firsts' steps' (get_or all j 0 - base) j
    numbered j lt = elim (cases_eq j i) [
      | inl same ↦
          let at : get_or steps' place 0 ≡ step = get_or-set_same steps place step 0 (omega (arith, within i below)) in
          let mine : IsNumbered firsts' steps' place i = record { has_block = reaches; has_step = omega (arith, at, own_first.1); sum = omega (arith, at, own_first.0) } in
          subst (λ (n : ℕ). IsNumbered firsts' steps' (get_or all n 0 - base) n) (sym same) mine
      | inr other ↦
          let k : ℕ = get_or all j 0 - base in
          let was = so_far.numbered j (omega (arith, lt, other)) in
          let before = AllPairs-from_increasing all up j i 0 (omega (arith, lt, other)) below in
          let kept = get_or-set_other steps place k step 0 (λ e. omega (arith, e, before, within i below, within j (omega (arith, lt, other, below)))) in
          let same = begun.kept (k / 128) was.has_block in
          record { has_block = omega (arith, was.has_block, begun.longer); has_step = omega (arith, kept, was.has_step); sum = omega (arith, kept, same, was.sum) }
    ]

    pub one_more : HasFirst all firsts' steps' base (i + 1)
    one_more = record { first_of = first_of; stands = stands; numbered = numbered }
