-- The lines that facts are printed as.
use Rattle.std.specs.Prelude.{ℕ, List}
use Rattle.runtime_log.specs.declared.facts.Line.{Line}
use Rattle.runtime_log.specs.Facts.{counter_line}

abbrev pub line_text : Line → List ℕ
line_text line = counter_line line.0 line.1.now
