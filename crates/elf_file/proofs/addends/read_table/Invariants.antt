use Rattle.std.proofs.Common.{◌≡◌, ℕ, nat_eq}
use Rattle.std.specs.HashMap.{get}
use Rattle.std.specs.List.{range_with_len}
use Rattle.elf_file.specs.Addends.{first_addend}
use Rattle.elf_file.proofs.addends.read_table.Given as goal

abbrev pub invariant-loop-number : goal.invariant-loop-number
invariant-loop-number l =
    (address : ℕ) → get nat_eq l.held.words address ≡ first_addend l.table (range_with_len 0 l.number) address
