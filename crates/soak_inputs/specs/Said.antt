-- What the assembler text says.
use Rattle.std.specs.Prelude.{ℕ}
use Rattle.std.specs.List.{enumerate_from, filter_map}
use Rattle.asm_text.specs.Language.{statement_of}
use Rattle.asm_text.specs.Layout.{StatementLines}
use Rattle.soak_inputs.specs.Texts.{all_lines}

-- what the words of its lines say, each with the number of its line
abbrev pub soak_said : (number : ℕ) → StatementLines
soak_said number = enumerate_from 1 (filter_map statement_of (all_lines number))
