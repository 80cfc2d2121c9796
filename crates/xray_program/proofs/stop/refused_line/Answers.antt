use Rattle.std.proofs.Common.{◌≡◌, ◌++◌, ℕ, List, [], ◌∷◌, append_assoc, codes}
use Rattle.xray_io.specs.Piece.{piece_text}
use Rattle.xray_program.specs.Outcomes.{err_line}
use Rattle.xray_program.proofs.stop.refused_line.Goals as goal

-- the pieces of the line, one after another
line_of_pieces : (name kind a b c d : List ℕ)
    → codes "xray: " ++ (name ++ (codes ": " ++ (kind ++ (codes " " ++ (a ++ (b ++ (c ++ (d ++ 10 ∷ []))))))))
    ≡ err_line (name ++ codes ": " ++ kind ++ codes " " ++ (a ++ b ++ c ++ d))
line_of_pieces name kind a b c d = simp append_assoc

pub returns : goal.returns
returns c =
    let words = c.args.words.now in
    rw (c.as_bytes.ensures.value, c.as_bytes-2.ensures.value)
    (line_of_pieces c.args.name.now c.args.kind.now (piece_text words.first) (piece_text words.second) (piece_text words.third) (piece_text words.fourth))
