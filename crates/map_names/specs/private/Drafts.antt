-- Reading a sled map line by line, for the contracts of private functions.
use Rattle.std.specs.Prelude.{◌≡◌, ◌⊎◌, ℕ, List, [], Result, Ok, Err}
use Rattle.xray_io.specs.Rows.{InTurn}
use Rattle.text_lines.specs.Lines.{numbered_lines}
use Rattle.map_names.specs.declared.fault.MapFault.{MapFault}
use Rattle.map_names.specs.declared.fault.MapFault.TheVariants.{NoMemory}
use Rattle.map_names.specs.declared.reading.Draft.{Draft}
use Rattle.map_names.specs.declared.reading.Part.{Part}
use Rattle.map_names.specs.declared.reading.Part.TheVariants.{Head, Entries, Tail}
use Rattle.map_names.specs.Entries.{NamedFunction}
use Rattle.map_names.specs.MapNames.{named}
use Rattle.map_names.specs.Maps.{Before, Start, Listed, Whole, map_line_rows, map_of, naming_of}

-- what came before the next line, if these entries did
abbrev pub before_in : Part → List NamedFunction → Before
before_in Head entries = Start
before_in Entries entries = Listed entries
before_in Tail entries = Whole entries

-- the draft has the names of these entries; before the first line of the map there are none
pub record IsDraftOf (entries : List NamedFunction) (draft : Draft) : Type 0 where
  pub names : named draft.names ≡ naming_of entries
  pub none : draft.part ≡ Head → entries ≡ []

-- the draft is what came before the next line
abbrev pub Stands : Draft → Before → Type 0
Stands draft before = (entries : List NamedFunction) × IsDraftOf entries draft × (before_in draft.part entries ≡ before)

-- A line was taken: the draft is what came before the next one. Or the line is refused so, or memory ran out.
abbrev pub Takes : {X : Type 0} → Result X MapFault → Result Before MapFault → Draft → Type 0
Takes (Ok done) (Ok before) draft = Stands draft before
Takes (Ok done) (Err fault) draft = ⊥
Takes (Err fault) rows draft = (fault ≡ NoMemory) ⊎ (rows ≡ Err fault)

-- All lines were taken: the draft is what came before the end of the text. Or the text is refused so, or memory ran out.
abbrev pub Reads : List ℕ → Result Draft MapFault → Type 0
Reads text (Ok draft) = (before : Before) × Stands draft before × (InTurn map_line_rows Start (numbered_lines text) ≡ Ok before)
Reads text (Err fault) = (fault ≡ NoMemory) ⊎ (map_of text ≡ Err fault)
