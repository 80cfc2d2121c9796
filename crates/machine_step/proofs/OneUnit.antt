-- Units that come one after the other begin at different addresses.
use Rattle.std.proofs.Common.{◌≡◌, ℕ, zero, suc, ◌+◌, ◌<◌, ◌≤◌, List, [], ◌∷◌, length, get_or, refl, sym, ◌∙◌, arith}
use Rattle.std.specs.Prelude.{Contains}
use Rattle.subset_decode.specs.declared.instr.Instr.TheVariants.{Mov, Add, Sub, Push, Pop, Call, Jmp, Jnz, Ret, Out}
use Rattle.xray_image.specs.declared.unit.Unit.{Unit}
use Rattle.xray_image.specs.Units.{Piece, Instruction, JumpSled, ReturnSled, Align, piece_bytes, sleds_in, units_from}
use Rattle.xray_image.specs.Container.{base_address}
use Rattle.xray_image.specs.Program.{Program, IsAccepted}

-- a piece has at least one byte
pub has_byte : (piece : Piece) → 1 ≤ length (piece_bytes piece)
has_byte (Instruction (Mov dst imm)) = grind arith
has_byte (Instruction (Add dst src)) = grind arith
has_byte (Instruction (Sub dst src)) = grind arith
has_byte (Instruction (Push reg)) = grind arith
has_byte (Instruction (Pop reg)) = grind arith
has_byte (Instruction (Call rel)) = grind arith
has_byte (Instruction (Jmp rel)) = grind arith
has_byte (Instruction (Jnz rel)) = grind arith
has_byte (Instruction Ret) = grind arith
has_byte (Instruction (Out port)) = grind arith
has_byte (JumpSled shift) = grind arith
has_byte (ReturnSled shift) = grind arith
has_byte Align = grind arith

-- units from an address on begin there or after it
pub from_address : (address sleds : ℕ) (pieces : List Piece) (i : ℕ) (d : Unit)
    → i < length (units_from address sleds pieces) → address ≤ (get_or (units_from address sleds pieces) i d).address
from_address address sleds [] i d below = absurd (omega arith)
from_address address sleds (piece ∷ pieces) zero d below = omega arith
from_address address sleds (piece ∷ pieces) (suc i) d below =
    let later = from_address (address + length (piece_bytes piece)) (sleds + sleds_in piece) pieces i d (omega arith) in
    omega arith

-- two units that begin at one address are the same
pub same_unit : (address sleds : ℕ) (pieces : List Piece) (i j : ℕ) (d e : Unit)
    → i < length (units_from address sleds pieces) → j < length (units_from address sleds pieces)
    → (get_or (units_from address sleds pieces) i d).address ≡ (get_or (units_from address sleds pieces) j e).address
    → get_or (units_from address sleds pieces) i d ≡ get_or (units_from address sleds pieces) j e
same_unit address sleds [] i j d e i_below j_below same = absurd (omega arith)
same_unit address sleds (piece ∷ pieces) zero zero d e i_below j_below same = refl
same_unit address sleds (piece ∷ pieces) zero (suc j) d e i_below j_below same =
    let byte = has_byte piece in
    let later = from_address (address + length (piece_bytes piece)) (sleds + sleds_in piece) pieces j e (omega arith) in
    absurd (omega arith)
same_unit address sleds (piece ∷ pieces) (suc i) zero d e i_below j_below same =
    let byte = has_byte piece in
    let later = from_address (address + length (piece_bytes piece)) (sleds + sleds_in piece) pieces i d (omega arith) in
    absurd (omega arith)
same_unit address sleds (piece ∷ pieces) (suc i) (suc j) d e i_below j_below same =
    same_unit (address + length (piece_bytes piece)) (sleds + sleds_in piece) pieces i j d e (omega arith) (omega arith) same

-- no two units of a program begin at one address
pub record OneUnit (program : Program) : Type 0 where
  pub same : (u v : Unit) → Contains program.units u → Contains program.units v → u.address ≡ v.address → u ≡ v

among_units : (address sleds : ℕ) (pieces : List Piece) (u v : Unit)
    → Contains (units_from address sleds pieces) u → Contains (units_from address sleds pieces) v
    → u.address ≡ v.address → u ≡ v
among_units address sleds pieces u v (i, i_below, is_u) (j, j_below, is_v) same =
    sym is_u ∙ (same_unit address sleds pieces i j u v i_below j_below (cc) ∙ is_v)

pub accepted_units : (bytes : List ℕ) (program : Program) → IsAccepted bytes program → OneUnit program
accepted_units bytes program accepted = record {
  same = rw accepted.holds (among_units (base_address bytes) 0 accepted.pieces);
}
