use Rattle.std.proofs.Common.{◌≡◌}
use Rattle.elf_file.specs.Sections.{sections_at}
use Rattle.elf_file.proofs.sections.read_sections.Given as goal

abbrev pub invariant-loop-number : goal.invariant-loop-number
invariant-loop-number l = l.sections.items ≡ sections_at l.file (record { at = l.first; count = l.number })
