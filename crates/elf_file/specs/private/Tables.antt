-- Tables in memory that are filled entry by entry, for the contracts of private functions.
use Rattle.std.specs.Prelude.{◌≡◌, ◌⊎◌, ℕ, List, Some, None, Result, Ok, Err, cond, nat_eq}
use Rattle.std.specs.HashMap.{get}
use Rattle.std.specs.Option.{option_or}
use Rattle.xray_io.specs.Rows.{◌>>=◌}
use Rattle.elf_file.specs.declared.addends.Addends.{Addends}
use Rattle.elf_file.specs.declared.fault.ElfFault.{ElfFault}
use Rattle.elf_file.specs.declared.fault.ElfFault.TheVariants.{NoMemory}
use Rattle.elf_file.specs.declared.symbol.Symbol.{Symbol}
use Rattle.elf_file.specs.declared.symbols.FunctionNames.{FunctionNames}
use Rattle.elf_file.specs.Addends.{addend_of, sets_word}
use Rattle.elf_file.specs.Symbols.{SymbolNames, best_at, symbols_in}

-- it has the best of these symbols for each address
pub record HoldsBest (symbols : List Symbol) (held : FunctionNames) : Type 0 where
  pub each : (address : ℕ) → get nat_eq held.best address ≡ best_at symbols address

-- A symbol was taken: it has the best of these. Or the symbol is refused so, or memory ran out.
abbrev pub Took : {X : Type 0} → FunctionNames → Result X ElfFault → Result (List Symbol) ElfFault → Type 0
Took held (Ok done) (Ok symbols) = HoldsBest symbols held
Took held (Ok done) (Err fault) = ⊥
Took held (Err fault) rows = (fault ≡ NoMemory) ⊎ (rows ≡ Err fault)

-- the names that a table of symbols gives
abbrev pub names_from : (offset : ℕ) → (table names : List ℕ) → Result SymbolNames ElfFault
names_from offset table names = symbols_in offset table names >>= λ symbols. Ok (record { symbol = best_at symbols; names = names })

-- a relocation was taken: the word that it sets is there, unless it was before
pub record AddsWord (table : List ℕ) (number : ℕ) (old new : Addends) : Type 0 where
  pub each : (address : ℕ) → get nat_eq new.words address
      ≡ option_or (get nat_eq old.words address) (cond (sets_word table address number) (Some (addend_of table number)) None)
