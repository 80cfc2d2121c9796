-- What the lines at their places say.
use Rattle.std.specs.Prelude.{◌≡◌, ℕ, ◌≤◌, List, [], ◌∷◌, map, Option, Some, None}
use Rattle.std.specs.List.{flat_map}
use Rattle.xray_image.specs.Units.{piece_bytes}
use Rattle.xray_image.specs.Limits.{most_code}
use Rattle.asm_text.specs.declared.layout.Owner.{Owner as CodeOwner}
use Rattle.asm_text.specs.declared.layout.Laid.{Laid}
use Rattle.asm_text.specs.declared.name_table.NameTable.{NameTable}
use Rattle.asm_text.specs.Layout.{StatementLines, LineOwner, Placed, UnitDraft, piece_of, next_place, place_of}
use Rattle.asm_text.specs.private.FirstPass.{IsNames}
use Rattle.asm_text.specs.private.Views.{statement_said}

abbrev pub owner_in : CodeOwner → LineOwner
owner_in owner = record { traced = owner.traced; always = owner.always; start = owner.start }

abbrev pub line_placed : Laid → Placed
line_placed laid = record { line = laid.line; statement = statement_said laid.statement; owner = owner_in laid.owner; place = laid.place }

abbrev pub placed_in : List Laid → List Placed
placed_in lines = map line_placed lines

-- the first place, or else the second
abbrev pub earlier : Option ℕ → Option ℕ → Option ℕ
earlier (Some place) next = Some place
earlier None next = next

-- for each line, the place of the next instruction line or function, from this line on
abbrev pub next_places : List Placed → List (Option ℕ)
next_places [] = []
next_places (p ∷ following) = next_place (p ∷ following) ∷ next_places following

-- the lines without their places
abbrev pub lines_of : List Placed → StatementLines
lines_of lines = map (λ p. (p.line, p.statement)) lines

-- the table of names and the next places are those of the lines, and each name's place is within the code
pub record ArePlaces (all : List Placed) (table : NameTable) (next : List (Option ℕ)) : Type 0 where
  pub names : IsNames (lines_of all) table
  pub targets : next ≡ next_places all
  pub within : (name : List ℕ) (place : ℕ) → place_of name all ≡ Some place → place ≤ most_code

-- the bytes of parts; branches count from the place after them
abbrev pub parts_bytes : List Placed → ℕ → List UnitDraft → List ℕ
parts_bytes all following parts = flat_map piece_bytes (map (piece_of all following) parts)
