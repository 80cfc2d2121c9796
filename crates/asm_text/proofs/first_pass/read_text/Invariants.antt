use Rattle.std.proofs.Common.{◌≡◌, []}
use Rattle.text_lines.specs.Lines.{numbered_lines}
use Rattle.asm_text.specs.Refusals.{read_statements}
use Rattle.asm_text.specs.private.FirstPass.{lines_in, IsFirstPass}
use Rattle.asm_text.proofs.first_pass.read_text.Given as goal

-- reading the rest of the text after the lines so far gives what reading the whole text gives
abbrev pub invariant-loop-line : goal.invariant-loop-line
invariant-loop-line l = record {
  left : read_statements [] (numbered_lines l.text) ≡ read_statements (lines_in l.pass.entries.items) l.line-iterator;
  sound : IsFirstPass l.pass;
}
