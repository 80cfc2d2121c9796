use Rattle.std.proofs.Common.{◌≡◌, ◌-◌, ◌/◌, List, length}
use Rattle.std.specs.List.{range_with_len}
use Rattle.xray_io.specs.Rows.{InTurn}
use Rattle.elf_file.specs.Symbols.{symbol_rows, symbols_in}
use Rattle.elf_file.specs.declared.symbol.Symbol.{Symbol}
use Rattle.elf_file.specs.private.Tables.{HoldsBest}
use Rattle.elf_file.proofs.symbols.read_symbols.Given as goal

abbrev pub invariant-loop-number : goal.invariant-loop-number
invariant-loop-number l =
    (l.held.names.items ≡ l.names) × ((symbols : List Symbol) × HoldsBest symbols l.held
    × (symbols_in l.offset l.table l.names ≡ InTurn (symbol_rows l.offset l.table l.names) symbols (range_with_len l.number (length l.table / 24 - l.number))))
