-- The text of the words of a refusal.
use Rattle.std.specs.Prelude.{ℕ, List, ◌++◌}
use Rattle.xray_io.specs.Piece.{piece_text}
use Rattle.fault_words.specs.declared.words.Words.{Words}

-- its pieces, one after another
abbrev pub words_text : Words → List ℕ
words_text w = piece_text w.first ++ piece_text w.second ++ piece_text w.third ++ piece_text w.fourth
