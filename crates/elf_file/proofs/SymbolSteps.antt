-- The symbols of a table, taken in turn.
use Rattle.std.proofs.Common.{◌≡◌, ◌-◌, ◌/◌, ◌<◌, ℕ, List, length, Result, Ok, Err, refl, ap, ◌∙◌}
use Rattle.std.specs.List.{range_with_len}
use Rattle.xray_io.specs.Rows.{InTurn, ◌>>=◌}
use Rattle.elf_file.specs.declared.fault.ElfFault.{ElfFault}
use Rattle.elf_file.specs.declared.symbol.Symbol.{Symbol}
use Rattle.elf_file.specs.declared.symbols.FunctionNames.{FunctionNames}
use Rattle.elf_file.specs.Symbols.{best_at, symbol_rows, symbols_in}
use Rattle.elf_file.specs.private.Tables.{HoldsBest, Took, names_from}
use Rattle.elf_file.proofs.Turns.{turn_refused}

-- a symbol was taken, and what its rows gave
pub took_ok : {X : Type 0} (held : FunctionNames) (done : X) (rows : Result (List Symbol) ElfFault) → Took held (Ok done) rows
    → (after : List Symbol) × (rows ≡ Ok after) × HoldsBest after held
took_ok held done (Ok after) took = (after, refl, took)
took_ok held done (Err fault) took = absurd took

-- a symbol is refused, and so is the table
pub table_refused : (offset : ℕ) (table names : List ℕ) (before : List Symbol) (number : ℕ) (fault : ElfFault) → number < length table / 24
    → symbols_in offset table names ≡ InTurn (symbol_rows offset table names) before (range_with_len number (length table / 24 - number))
    → symbol_rows offset table names before number ≡ Err fault → names_from offset table names ≡ Err fault
table_refused offset table names before number fault lt so_far row =
    ap (λ r. r >>= λ symbols. Ok (record { symbol = best_at symbols; names = names }))
    (so_far ∙ turn_refused (symbol_rows offset table names) before fault number (length table / 24) lt row)
