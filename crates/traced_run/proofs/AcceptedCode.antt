-- What an accepted image says of its code: registers that it names, places of its sleds, and their trampolines.
use Rattle.std.proofs.Common.{◌≡◌, ℕ, zero, suc, ◌+◌, List, [], ◌∷◌, length, Option, Some, None, refl, sym, ap, subst, ◌∙◌, arith}
use Rattle.std.specs.Prelude.{Contains, FitsSigned, pos, ◌-ℤ◌, slice_get}
use Rattle.std.specs.Int.{w32}
use Rattle.std.specs.List.{AllByRecursion, zip}
use Rattle.std.specs.Option.{IsSomeAnd, option_map}
use Rattle.std.proofs.lemmas.Option.{slice_get-map}
use Rattle.subset_decode.specs.declared.instr.Instr.{Instr}
use Rattle.subset_decode.specs.declared.instr.Instr.TheVariants.{Call, Jmp, Mov}
use Rattle.subset_decode.specs.Encoding.{IsEncodable, IsNamed}
use Rattle.xray_image.specs.declared.sled.Sled.{Sled}
use Rattle.xray_image.specs.declared.unit.Unit.{Unit}
use Rattle.xray_image.specs.declared.unit.What.{What}
use Rattle.xray_image.specs.declared.unit.What.TheVariants as whats
use Rattle.xray_image.specs.Container.{MapEntry, base_address}
use Rattle.xray_image.specs.Program.{IsAccepted, Program, sled_of, trampoline_of}
use Rattle.xray_image.specs.Units.{Align, Instruction, IsPiece, JumpSled, Piece, ReturnSled, SledPlace, piece_bytes, places_from, sleds_in, units_from, what_of}
use Rattle.xray_image.proofs.Acceptance.{sleds_are, sleds_stand}
use Rattle.machine_step.specs.PlainStep.{State}
use Rattle.traced_run.specs.Executed.{to_trampoline}
use Rattle.traced_run.proofs.SmallIds.{small_id}

-- an item of a list has a place
pub at_place : {X : Type 0} (xs : List X) (x : X) → Contains xs x → (i : ℕ) × (slice_get xs i ≡ Some x)
at_place [] x (i, below, is) = absurd (omega arith)
at_place (first ∷ xs) x (zero, below, is) = (zero, ap Some is)
at_place (first ∷ xs) x (suc i, below, is) = let later = at_place xs x (i, omega arith, is) in (suc later.0, later.1)

-- ---- instructions

named_piece : (sleds : ℕ) (piece : Piece) (what : What) (instr : Instr) → IsPiece piece → what_of sleds piece ≡ what → what ≡ whats.Plain instr → IsNamed instr
named_piece sleds (Instruction i) what instr fits is plain =
    let same : i ≡ instr = cc in subst IsNamed same fits
named_piece sleds (JumpSled shift) what instr fits is plain = absurd cc
named_piece sleds (ReturnSled shift) what instr fits is plain = absurd cc
named_piece sleds Align what instr fits is plain = absurd cc

named_from : (address sleds : ℕ) (pieces : List Piece) (i : ℕ) (u : Unit) (instr : Instr) → AllByRecursion IsPiece pieces
    → slice_get (units_from address sleds pieces) i ≡ Some u → u.what ≡ whats.Plain instr → IsNamed instr
named_from address sleds [] i u instr fit found plain = absurd cc
named_from address sleds (piece ∷ pieces) zero u instr fit found plain =
    let first : Unit = record { address = address; what = what_of sleds piece } in
    let same : first ≡ u = cc in
    named_piece sleds piece u.what instr fit.0 (ap (λ (v : Unit). v.what) same) plain
named_from address sleds (piece ∷ pieces) (suc i) u instr fit found plain =
    named_from (address + length (piece_bytes piece)) (sleds + sleds_in piece) pieces i u instr fit.1 found plain

-- ---- sleds

both_at : {X Y : Type 0} (xs : List X) (ys : List Y) (i : ℕ) (x : X) (y : Y) → slice_get (zip xs ys) i ≡ Some (x, y)
    → (slice_get xs i ≡ Some x) × (slice_get ys i ≡ Some y)
both_at [] ys i x y found = absurd cc
both_at (first ∷ xs) [] i x y found = absurd cc
both_at {X} {Y} (first ∷ xs) (second ∷ ys) zero x y found =
    let pair : X × Y = (first, second) in
    let same : pair ≡ (x, y) = cc in (ap (λ (p : X × Y). Some p.0) same, ap (λ (p : X × Y). Some p.1) same)
both_at (first ∷ xs) (second ∷ ys) (suc i) x y found = both_at xs ys i x y found

module _ (bytes : List ℕ) (program : Program) (a : IsAccepted bytes program) where
  -- the instructions of the code name only registers that they may name
  pub names_registers : (u : Unit) (instr : Instr) → Contains program.units u → u.what ≡ whats.Plain instr → IsNamed instr
  names_registers u instr among plain =
      let at = at_place program.units u among in
      let units : program.units ≡ units_from (base_address bytes) 0 a.pieces = ap (λ (p : Program). p.units) a.holds in
      named_from (base_address bytes) 0 a.pieces at.0 u instr a.units.pieces_fit (subst (λ us. slice_get us at.0 ≡ Some u) units at.1) plain

  -- a sled of the code is at the address of its unit
  pub stands_at_unit : (u : Unit) (k : ℕ) (sled : Sled) → Contains program.units u → u.what ≡ whats.Sled k → slice_get program.sleds k ≡ Some sled
      → sled.address ≡ u.address
  stands_at_unit u k sled among is found =
      let at = at_place program.units u among in
      subst (λ (s : Option Sled). IsSomeAnd s (λ s. s.address ≡ u.address)) found (sleds_stand bytes program a at.0 k u at.1 is)

  -- a call or a jump at the end of a sled reaches its trampoline
  pub reaches_trampoline : (k : ℕ) (sled : Sled) → slice_get program.sleds k ≡ Some sled
      → FitsSigned w32 (pos (trampoline_of program.trampolines sled.kind) -ℤ pos (sled.address + 11))
  reaches_trampoline k sled found = by_pair (slice_get (zip places a.parts.entries) k) refl mapped
    where
      places : List SledPlace
      places = places_from (base_address bytes) a.pieces

      Near : Sled → Type 0
      Near s = FitsSigned w32 (pos (trampoline_of program.trampolines s.kind) -ℤ pos (s.address + 11))

      mapped : option_map (sled_of a.parts.entries) (slice_get (zip places a.parts.entries) k) ≡ Some sled
      mapped =
          sym (slice_get-map (sled_of a.parts.entries) (zip places a.parts.entries) k)
          ∙ ap (λ (ss : List Sled). slice_get ss k) (sym (sleds_are bytes program a)) ∙ found

      by_pair : (pair : Option (SledPlace × MapEntry)) → slice_get (zip places a.parts.entries) k ≡ pair
          → option_map (sled_of a.parts.entries) pair ≡ Some sled → Near sled
      by_pair None at is = absurd cc
      by_pair (Some (place, entry)) at is =
          let both = both_at places a.parts.entries k place entry at in
          let same : sled_of a.parts.entries (place, entry) ≡ sled = cc in
          subst Near same (a.near k place entry both.0 both.1)

  -- the id of a sled, and the distances to its trampoline, fit their instructions
  pub id_fits : (k : ℕ) (sled : Sled) → slice_get program.sleds k ≡ Some sled → IsEncodable (Mov 10 sled.id)
  id_fits k sled found = (omega arith, omega (arith, small_id bytes program k sled a found))

  pub distances_fit : (k : ℕ) (sled : Sled) (s : State) → slice_get program.sleds k ≡ Some sled → s.address ≡ sled.address
      → IsEncodable (Call (to_trampoline program.trampolines sled s)) × IsEncodable (Jmp (to_trampoline program.trampolines sled s))
  distances_fit k sled s found at =
      let near : FitsSigned w32 (to_trampoline program.trampolines sled s) =
      subst (λ (address : ℕ). FitsSigned w32 (pos (trampoline_of program.trampolines sled.kind) -ℤ pos (address + 11))) (sym at)
      (reaches_trampoline k sled found) in
      (near, near)
