-- What an accepted file says about its units and sleds.
use Rattle.std.proofs.Common.{◌≡◌, ◌≢◌, ℕ, zero, suc, ◌+◌, ◌<◌, ◌≤◌, ◌^◌, Bool, true, false, List, [], ◌∷◌, length, map, take, drop, Option, Some, None, refl, sym, ap, subst, ◌∙◌, inl, inr, arith, add-one, length-append}
use Rattle.std.specs.Prelude.{slice_get, if◌then◌else◌, option_and_then, ◌⊎◌, ◌++◌}
use Rattle.std.specs.Option.{option_map}
use Rattle.std.specs.List.{flat_map, zip}
use Rattle.std.proofs.lemmas.List.{length-take, length-map}
use Rattle.std.proofs.lemmas.Slice.Zip.{length-zip}
use Rattle.xray_image.specs.declared.unit.Unit.{Unit}
use Rattle.xray_image.specs.declared.unit.What.TheVariants as whats
use Rattle.xray_image.specs.Container.{Function, MapFields, Parts, code_length, function_count, entry_count, base_address, several, function_entry_at, entries_from, map_distance, map_fields_at, parts_of}
use Rattle.xray_image.specs.Layout.{width_of}
use Rattle.xray_image.specs.Units.{Piece, Instruction, JumpSled, ReturnSled, Align, piece_bytes, sleds_in, what_of, units_from, places_from}
use Rattle.xray_image.specs.Program.{Program, IsAccepted, sled_of}
use Rattle.machine_step.specs.declared.step.Step.{Step}
use Rattle.machine_step.specs.private.Steps.{IsPlaceOf, IsStepAt}
use Rattle.machine_step.proofs.OneUnit.{has_byte}
use Rattle.machine_step.proofs.Places.{place_more}
use Rattle.machine_step.proofs.MachineSteps.{AreInOrder}

-- ---- the code's size

code_of_parts : (code : List ℕ) (at : ℕ) (found : List Function × List ℕ) (entries : Option (List MapFields × List ℕ)) (parts : Parts)
    → option_map (λ (e : List MapFields × List ℕ). let whole : Parts = record { code = code; functions = found.0; entries = entries_from at e.0; rest = e.1 } in whole) entries ≡ Some parts
    → parts.code ≡ code
code_of_parts code at found None parts is = absurd cc
code_of_parts code at found (Some e) parts is =
    let whole : Parts = record { code = code; functions = found.0; entries = entries_from at e.0; rest = e.1 } in
    let same : whole ≡ parts = cc in sym (ap (λ (p : Parts). p.code) same)

code_of_file : (short : Bool) (code : List ℕ) (at : ℕ) (functions : Option (List Function × List ℕ)) (n : ℕ) (parts : Parts)
    → (if short then None else option_and_then
    (λ functions. option_map
    (λ entries. let whole : Parts = record { code = code; functions = functions.0; entries = entries_from at entries.0; rest = entries.1 } in whole)
    (several map_fields_at n functions.1)) functions) ≡ Some parts
    → parts.code ≡ code
code_of_file true code at functions n parts is = absurd cc
code_of_file false code at None n parts is = absurd cc
code_of_file false code at (Some found) n parts is = code_of_parts code at found (several map_fields_at n found.1) parts is

code_is : (bytes : List ℕ) (parts : Parts) → parts_of bytes ≡ Some parts → parts.code ≡ take (code_length bytes) (drop 64 bytes)
code_is bytes parts is =
    code_of_file _ (take (code_length bytes) (drop 64 bytes)) (base_address bytes + map_distance) (several function_entry_at (function_count bytes) (drop (64 + code_length bytes) bytes))
    (entry_count bytes) parts is

-- units begin within the code
unit_within : (address sleds : ℕ) (pieces : List Piece) (i : ℕ) (u : Unit) → slice_get (units_from address sleds pieces) i ≡ Some u
    → u.address < address + length (flat_map piece_bytes pieces)
unit_within address sleds [] i u found = absurd cc
unit_within address sleds (piece ∷ pieces) zero u found =
    let byte = has_byte piece in
    let first : Unit = record { address = address; what = what_of sleds piece } in
    let same : first ≡ u = cc in
    let at : address ≡ u.address = ap (λ (v : Unit). v.address) same in
    omega (arith, length-append (piece_bytes piece) (flat_map piece_bytes pieces))
unit_within address sleds (piece ∷ pieces) (suc i) u found =
    let later = unit_within (address + length (piece_bytes piece)) (sleds + sleds_in piece) pieces i u found in
    omega (arith, length-append (piece_bytes piece) (flat_map piece_bytes pieces))

-- addresses are far below 2^64
pub low_address : (bytes : List ℕ) (program : Program) → IsAccepted bytes program → (i : ℕ) (u : Unit)
    → slice_get program.units i ≡ Some u → u.address + 6 < 2 ^ 64
low_address bytes program accepted i u found =
    let code : length (flat_map piece_bytes accepted.pieces) ≡ length (take (code_length bytes) (drop 64 bytes)) =
    ap length (sym accepted.units.whole ∙ code_is bytes accepted.parts accepted.reaches) in
    let units : program.units ≡ units_from (base_address bytes) 0 accepted.pieces = ap (λ (p : Program). p.units) accepted.holds in
    let within = unit_within (base_address bytes) 0 accepted.pieces i u (subst (λ us. slice_get us i ≡ Some u) units found) in
    omega (arith, length-take (code_length bytes) (drop 64 bytes), accepted.header.code_limit, accepted.header.base_limit)

-- ---- sleds

-- the sleds of the code are numbered from 0 on
numbered_sled : (address sleds : ℕ) (pieces : List Piece) (i : ℕ) (u : Unit) (k : ℕ)
    → slice_get (units_from address sleds pieces) i ≡ Some u → u.what ≡ whats.Sled k
    → k < sleds + length (places_from address pieces)
numbered_sled address sleds [] i u k found is = absurd cc
numbered_sled address sleds (Instruction instr ∷ pieces) zero u k found is =
    let first : Unit = record { address = address; what = whats.Plain instr } in
    let same : first ≡ u = cc in
    let what : whats.Plain instr ≡ u.what = ap (λ (v : Unit). v.what) same in absurd cc
numbered_sled address sleds (JumpSled shift ∷ pieces) zero u k found is =
    let first : Unit = record { address = address; what = whats.Sled sleds } in
    let same : first ≡ u = cc in
    let what : whats.Sled sleds ≡ u.what = ap (λ (v : Unit). v.what) same in
    let number : sleds ≡ k = cc in omega arith
numbered_sled address sleds (ReturnSled shift ∷ pieces) zero u k found is =
    let first : Unit = record { address = address; what = whats.Sled sleds } in
    let same : first ≡ u = cc in
    let what : whats.Sled sleds ≡ u.what = ap (λ (v : Unit). v.what) same in
    let number : sleds ≡ k = cc in omega arith
numbered_sled address sleds (Align ∷ pieces) zero u k found is =
    let first : Unit = record { address = address; what = whats.Pad } in
    let same : first ≡ u = cc in
    let what : whats.Pad ≡ u.what = ap (λ (v : Unit). v.what) same in absurd cc
numbered_sled address sleds (Instruction instr ∷ pieces) (suc i) u k found is =
    let later = numbered_sled _ (sleds + 0) pieces i u k found is in omega arith
numbered_sled address sleds (JumpSled shift ∷ pieces) (suc i) u k found is =
    let later = numbered_sled (address + 11) (sleds + 1) pieces i u k found is in omega arith
numbered_sled address sleds (ReturnSled shift ∷ pieces) (suc i) u k found is =
    let later = numbered_sled (address + 11) (sleds + 1) pieces i u k found is in omega arith
numbered_sled address sleds (Align ∷ pieces) (suc i) u k found is =
    let later = numbered_sled (address + 1) (sleds + 0) pieces i u k found is in omega arith

-- each sled of the code has its entry in the map
pub has_sled : (bytes : List ℕ) (program : Program) → IsAccepted bytes program → (i : ℕ) (u : Unit) (k : ℕ)
    → slice_get program.units i ≡ Some u → u.what ≡ whats.Sled k → k < length program.sleds
has_sled bytes program accepted i u k found is =
    let places = places_from (base_address bytes) accepted.pieces in
    let entries = accepted.parts.entries in
    let units : program.units ≡ units_from (base_address bytes) 0 accepted.pieces = ap (λ (p : Program). p.units) accepted.holds in
    let below = numbered_sled (base_address bytes) 0 accepted.pieces i u k (subst (λ us. slice_get us i ≡ Some u) units found) is in
    let sleds : length program.sleds ≡ length (map (sled_of entries) (zip places entries)) =
    ap (λ (p : Program). length p.sleds) accepted.holds in
    let mapped = length-map (zip places entries) (sled_of entries) in
    let zipped = length-zip places entries in
    let same : length entries ≡ length places =
    sym (length-map entries (λ e. e.sled)) ∙ (ap length accepted.map_order ∙ length-map places (λ p. p.address)) in
    omega arith

-- ---- the order of the units

width_of_piece : (sleds : ℕ) (piece : Piece) → width_of (what_of sleds piece) ≡ length (piece_bytes piece)
width_of_piece sleds (Instruction instr) = refl
width_of_piece sleds (JumpSled shift) = refl
width_of_piece sleds (ReturnSled shift) = refl
width_of_piece sleds Align = refl

-- units from an address on begin there or after it
begins_after : (address sleds : ℕ) (pieces : List Piece) (i : ℕ) (u : Unit) → slice_get (units_from address sleds pieces) i ≡ Some u
    → address ≤ u.address
begins_after address sleds [] i u found = absurd cc
begins_after address sleds (piece ∷ pieces) zero u found =
    let first : Unit = record { address = address; what = what_of sleds piece } in
    let same : first ≡ u = cc in
    let at : address ≡ u.address = ap (λ (v : Unit). v.address) same in omega arith
begins_after address sleds (piece ∷ pieces) (suc i) u found =
    let later = begins_after (address + length (piece_bytes piece)) (sleds + sleds_in piece) pieces i u found in omega arith

-- the first address has the first place
first_place : (address sleds : ℕ) (pieces : List Piece) → IsPlaceOf (units_from address sleds pieces) address 0
first_place address sleds [] = inr (refl, λ among. omega (arith, among.1))
first_place address sleds (piece ∷ pieces) = inl refl

place_following : (address sleds : ℕ) (pieces : List Piece) (i : ℕ) (u : Unit) → slice_get (units_from address sleds pieces) i ≡ Some u
    → IsPlaceOf (units_from address sleds pieces) (u.address + width_of u.what) (suc i)
place_following address sleds [] i u found = absurd cc
place_following address sleds (piece ∷ pieces) zero u found =
    let first : Unit = record { address = address; what = what_of sleds piece } in
    let same : first ≡ u = cc in
    let byte = has_byte piece in
    let following : address + length (piece_bytes piece) ≡ u.address + width_of u.what =
    ap (λ w. address + w) (sym (width_of_piece sleds piece)) ∙ ap (λ (v : Unit). v.address + width_of v.what) same in
    let other : address ≢ address + length (piece_bytes piece) = λ e. omega arith in
    subst (λ a. IsPlaceOf (units_from address sleds (piece ∷ pieces)) a 1) following
    (place_more first _ (address + length (piece_bytes piece)) 0 other (first_place (address + length (piece_bytes piece)) (sleds + sleds_in piece) pieces))
place_following address sleds (piece ∷ pieces) (suc i) u found =
    let first : Unit = record { address = address; what = what_of sleds piece } in
    let byte = has_byte piece in
    let from = begins_after (address + length (piece_bytes piece)) (sleds + sleds_in piece) pieces i u found in
    let other : address ≢ u.address + width_of u.what = λ e. omega arith in
    place_more first _ (u.address + width_of u.what) (suc i) other
    (place_following (address + length (piece_bytes piece)) (sleds + sleds_in piece) pieces i u found)

pub are_in_order : (bytes : List ℕ) (program : Program) → IsAccepted bytes program → AreInOrder program
are_in_order bytes program accepted =
    let units : program.units ≡ units_from (base_address bytes) 0 accepted.pieces = ap (λ (p : Program). p.units) accepted.holds in
    record {
      following = λ place u found.
          let next : IsPlaceOf (units_from (base_address bytes) 0 accepted.pieces) (u.address + width_of u.what) (suc place) =
          place_following (base_address bytes) 0 accepted.pieces place u (subst (λ us. slice_get us place ≡ Some u) units found) in
          rw add-one (subst (λ us. IsPlaceOf us (u.address + width_of u.what) (suc place)) (sym units) next);
    }

-- ---- the steps so far

-- each step is at its place
pub record HoldsSteps (program : Program) (all : List Step) : Type 0 where
  pub each : (place : ℕ) (step : Step) → slice_get all place ≡ Some step → IsStepAt program place step

-- what is found in a list with one more item
found_more : (all : List Step) (last : Step) (i : ℕ) (step : Step) → slice_get (all ++ last ∷ []) i ≡ Some step
    → (slice_get all i ≡ Some step) ⊎ ((i ≡ length all) × (last ≡ step))
found_more [] last zero step found = inr (refl, cc)
found_more [] last (suc i) step found = absurd cc
found_more (first ∷ all) last zero step found = inl found
found_more (first ∷ all) last (suc i) step found = found_later (found_more all last i step found)
  where
    found_later : (slice_get all i ≡ Some step) ⊎ ((i ≡ length all) × (last ≡ step))
        → (slice_get (first ∷ all) (suc i) ≡ Some step) ⊎ ((suc i ≡ length (first ∷ all)) × (last ≡ step))
    found_later (inl before) = inl before
    found_later (inr (at, same)) = inr (ap suc at, same)

pub one_more_step : (program : Program) (all : List Step) (last : Step) → HoldsSteps program all → IsStepAt program (length all) last
    → HoldsSteps program (all ++ last ∷ [])
one_more_step program all last holds is = record {
  each = λ place step found. step_in (found_more all last place step found);
}
  where
    step_in : {place : ℕ} {step : Step} → (slice_get all place ≡ Some step) ⊎ ((place ≡ length all) × (last ≡ step)) → IsStepAt program place step
    step_in {place} {step} (inl before) = holds.each place step before
    step_in {place} {step} (inr (at, same)) =
        subst (λ (s : Step). IsStepAt program place s) same (subst (λ n. IsStepAt program n last) (sym at) is)
