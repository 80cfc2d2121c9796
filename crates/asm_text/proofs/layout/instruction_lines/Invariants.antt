use Rattle.std.proofs.Common.{◌≡◌, ◌+◌, ◌≤◌, drop}
use Rattle.asm_text.specs.Layout.{instruction_lines}
use Rattle.asm_text.specs.private.FirstPass.{lines_in}
use Rattle.asm_text.proofs.layout.instruction_lines.Given as goal

abbrev pub invariant-loop-entry : goal.invariant-loop-entry
invariant-loop-entry l = record {
  counted : instruction_lines (lines_in l.entries) ≡ l.count + instruction_lines (lines_in (drop l.entry-index l.entries));
  few : l.count ≤ l.entry-index;
}
