use Rattle.std.proofs.Common.{◌≤◌, take}
use Rattle.elf_file.specs.Views.{names_held}
use Rattle.program_map.specs.private.NamedIds.{IsNamed}
use Rattle.program_map.proofs.facts.named_functions.Given as goal

abbrev pub invariant-loop-sled : goal.invariant-loop-sled
invariant-loop-sled l = (l.named.functions ≤ l.sled-index) × IsNamed (names_held l.names) (take l.sled-index l.sleds) l.named
