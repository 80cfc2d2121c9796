-- The text of pieces.
use Rattle.std.specs.Prelude.{ℕ, ◌-◌, List, ◌++◌, false, length, replicate}
use Rattle.std.specs.Fmt.{decimal, digits}
use Rattle.std.specs.List.{flat_map}
use Rattle.xray_io.specs.declared.piece.Piece.{Piece}
use Rattle.xray_io.specs.declared.piece.Piece.TheVariants.{Bytes, Number, Right, Hex}

-- n in lower-case hexadecimal, with zeros (48) before it up to a least number of digits
abbrev pub hexadecimal : ℕ → ℕ → List ℕ
hexadecimal n least = replicate (least - length (digits 16 false n)) 48 ++ digits 16 false n

-- n in decimal, with spaces (32) before it up to a least number of places
abbrev pub right_aligned : ℕ → ℕ → List ℕ
right_aligned n width = replicate (width - length (decimal n)) 32 ++ decimal n

-- what a piece is printed as
abbrev pub piece_text : Piece → List ℕ
piece_text (Bytes bytes) = bytes.now
piece_text (Number n) = decimal n
piece_text (Right n width) = right_aligned n width
piece_text (Hex n least) = hexadecimal n least

-- pieces, one after the other
abbrev pub text_of : List Piece → List ℕ
text_of pieces = flat_map piece_text pieces
