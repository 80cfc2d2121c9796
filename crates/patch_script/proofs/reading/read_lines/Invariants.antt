use Rattle.std.proofs.Common.{◌≡◌, []}
use Rattle.text_lines.specs.Lines.{numbered_lines}
use Rattle.patch_script.specs.private.Drafts.{program_of, lines_of, IsDraft}
use Rattle.patch_script.specs.Refusals.{read_lines}
use Rattle.patch_script.proofs.reading.read_lines.Given as goal

-- reading the rest of the text after the commands so far gives what reading the whole text gives
abbrev pub invariant-loop-line : goal.invariant-loop-line
invariant-loop-line l = record {
  left : read_lines l.image l.threads [] (numbered_lines l.text) ≡ read_lines l.image l.threads (lines_of l.draft) l.line-iterator;
  program : program_of l.draft ≡ l.image;
  threads : l.draft.placed.threads ≡ l.threads;
  sound : IsDraft l.draft;
}
