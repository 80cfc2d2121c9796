-- The units of a code: what stands in it, one after the other.
use Rattle.std.specs.Prelude.{◌≡◌, ◌<◌, ◌^◌, ◌+◌, ℕ, List, [], ◌∷◌, length, Bool, true, false, ⊤}
use Rattle.std.specs.List.{flat_map, AllByRecursion}
use Rattle.byteorder.specs.Endian.{little_bytes}
use Rattle.subset_decode.specs.declared.instr.Instr.{Instr}
use Rattle.subset_decode.specs.Encoding.{spelling, IsNamed}
use Rattle.xray_image.specs.declared.unit.What.{What}
use Rattle.xray_image.specs.declared.unit.What.TheVariants as whats
use Rattle.xray_image.specs.declared.unit.Unit.{Unit}

-- A unit as its bytes say: an instruction, a sled, or the alignment byte. A sled begins with a jump (entry and tail) or
-- with a return (exit), and has the displacement of its nop.
pub data Piece : Type 0 where
  Instruction : (instr : Instr) → Piece
  JumpSled : (shift : ℕ) → Piece
  ReturnSled : (shift : ℕ) → Piece
  Align : Piece

-- the nop of nine bytes after a sled's first two: nopw with a displacement of 32 bits
abbrev pub nop_bytes : ℕ → List ℕ
nop_bytes shift = 0x66 ∷ 0x0F ∷ 0x1F ∷ 0x84 ∷ 0x00 ∷ little_bytes 4 shift

-- The bytes of a unit. A jump sled begins with a jump over itself. A return sled begins with a return and 2E, with
-- which no unit begins. So a plain return is never taken for a sled.
abbrev pub piece_bytes : Piece → List ℕ
piece_bytes (Instruction instr) = spelling instr
piece_bytes (JumpSled shift) = 0xEB ∷ 0x09 ∷ nop_bytes shift
piece_bytes (ReturnSled shift) = 0xC3 ∷ 0x2E ∷ nop_bytes shift
piece_bytes Align = 0x90 ∷ []

-- each field of a piece fits its bytes
abbrev pub IsPiece : Piece → Type 0
IsPiece (Instruction instr) = IsNamed instr
IsPiece (JumpSled shift) = shift < 2 ^ 32
IsPiece (ReturnSled shift) = shift < 2 ^ 32
IsPiece Align = ⊤

-- the pieces are the whole code, one after the other
pub record IsUnits (code : List ℕ) (pieces : List Piece) : Type 0 where
  pub whole : code ≡ flat_map piece_bytes pieces
  pub pieces_fit : AllByRecursion IsPiece pieces

-- what a piece is as a unit, with the number of sleds before it
abbrev pub what_of : ℕ → Piece → What
what_of sleds (Instruction instr) = whats.Plain instr
what_of sleds (JumpSled shift) = whats.Sled sleds
what_of sleds (ReturnSled shift) = whats.Sled sleds
what_of sleds Align = whats.Pad

-- how many sleds a piece is, 0 or 1
abbrev pub sleds_in : Piece → ℕ
sleds_in (Instruction instr) = 0
sleds_in (JumpSled shift) = 1
sleds_in (ReturnSled shift) = 1
sleds_in Align = 0

-- the units of pieces from an address on; their sleds are numbered from a number on
abbrev pub units_from : ℕ → ℕ → List Piece → List Unit
units_from address sleds [] = []
units_from address sleds (piece ∷ pieces) = record { address = address; what = what_of sleds piece }
    ∷ units_from (address + length (piece_bytes piece)) (sleds + sleds_in piece) pieces

-- a sled as the code shows it
pub record SledPlace : Type 0 where
  pub address : ℕ
  pub shift : ℕ
  pub returns : Bool

-- the sleds among pieces from an address on, in ascending address
abbrev pub places_from : ℕ → List Piece → List SledPlace
places_from address [] = []
places_from address (Instruction instr ∷ pieces) = places_from (address + length (spelling instr)) pieces
places_from address (JumpSled shift ∷ pieces) = record { address = address; shift = shift; returns = false } ∷ places_from (address + 11) pieces
places_from address (ReturnSled shift ∷ pieces) = record { address = address; shift = shift; returns = true } ∷ places_from (address + 11) pieces
places_from address (Align ∷ pieces) = places_from (address + 1) pieces
