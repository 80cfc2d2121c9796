-- The lines of a text. A text is bytes. `lines` of `Rattle.std.specs.Str.Lines` ends a line at each LF and drops one CR
-- directly before an LF. Bytes after the last LF are a line too.
use Rattle.std.specs.Prelude.{ℕ, List}
use Rattle.std.specs.List.{enumerate_from}
use Rattle.std.specs.Str.Lines.{lines}
use Rattle.text_lines.specs.declared.text.Line.{Line}

-- the lines of a text, each with its number, counted from 1
abbrev pub numbered_lines : List ℕ → List (ℕ × List ℕ)
numbered_lines text = enumerate_from 1 (lines text)

-- a line that was read, as its number and its bytes
abbrev pub numbered : Line → ℕ × List ℕ
numbered line = (line.number, line.bytes.now)
