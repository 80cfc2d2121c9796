-- Pieces that are sleds.
use Rattle.std.specs.Prelude.{⊤}
use Rattle.xray_image.specs.Units.{Piece, Instruction, JumpSled, ReturnSled, Align}

-- a piece that is a sled
abbrev pub IsSled : Piece → Type 0
IsSled (Instruction instr) = ⊥
IsSled (JumpSled shift) = ⊤
IsSled (ReturnSled shift) = ⊤
IsSled Align = ⊥
