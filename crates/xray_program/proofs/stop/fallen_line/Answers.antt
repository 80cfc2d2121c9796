use Rattle.std.proofs.Common.{◌≡◌, ◌++◌, ℕ, List, [], ◌∷◌, append_assoc, codes}
use Rattle.xray_io.specs.Piece.{piece_text}
use Rattle.xray_program.specs.Outcomes.{err_line}
use Rattle.xray_program.proofs.stop.fallen_line.Goals as goal

line_of_pieces : (a b c d : List ℕ) → codes "xray: " ++ (a ++ (b ++ (c ++ (d ++ 10 ∷ [])))) ≡ err_line (a ++ b ++ c ++ d)
line_of_pieces a b c d = simp append_assoc

pub returns : goal.returns
returns c =
    let t = c.args.trouble.now in
    line_of_pieces (piece_text t.first) (piece_text t.second) (piece_text t.third) (piece_text t.fourth)
