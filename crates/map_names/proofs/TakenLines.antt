-- The lines of a map, taken one after another.
use Rattle.std.proofs.Common.{◌≡◌, ◌∷◌, ◌+◌, ◌++◌, ◌∙◌, ℕ, Bool, true, false, List, [], Option, Some, None, refl, sym, ap, subst, inl, inr, length}
use Rattle.std.specs.Prelude.{◌⊎◌, Result, Ok, Err, codes, not, if◌then◌else◌}
use Rattle.std.specs.List.{enumerate_from}
use Rattle.std.specs.Option.{option_or}
use Rattle.std.specs.Str.Lines.{lines}
use Rattle.xray_io.specs.Rows.{First, InTurn, NeedsPart, ◌>>=◌}
use Rattle.text_lines.specs.Lines.{numbered_lines}
use Rattle.map_names.specs.declared.fault.MapFault.{MapFault}
use Rattle.map_names.specs.declared.fault.MapFault.TheVariants.{Syntax, NoMemory}
use Rattle.map_names.specs.declared.reading.Draft.{Draft}
use Rattle.map_names.specs.declared.reading.Part.{Part}
use Rattle.map_names.specs.declared.reading.Part.TheVariants.{Head, Entries, Tail}
use Rattle.map_names.specs.Entries.{NamedFunction, entry_said}
use Rattle.map_names.specs.MapNames.{named}
use Rattle.map_names.specs.Maps.{Before, Start, Listed, Whole, map_ended, is_line, map_line_rows, map_naming, map_of, names_id, naming_of, said_line_rows}
use Rattle.map_names.proofs.EntryNames.{naming_more}
use Rattle.map_names.specs.private.Drafts.{IsDraftOf, Reads, Stands, Takes, before_in}

-- what the lines after these come to
abbrev later : List (ℕ × List ℕ) → Result Before MapFault → Result Before MapFault
later lines before = before >>= λ after. InTurn map_line_rows after lines

-- the answer of a call that did what it had to
abbrev done : Result (Unit {0}) MapFault
done = Ok tt

-- what a call that takes a line ensures
abbrev Took : Draft → ℕ × List ℕ → Result (Unit {0}) MapFault → Draft → Type 0
Took old line result new = (entries : List NamedFunction) → IsDraftOf entries old → Takes result (map_line_rows (before_in old.part entries) line) new

-- a line was taken
pub line_taken : (old new : Draft) (before : Before) (line : ℕ × List ℕ) (rest : List (ℕ × List ℕ)) → Stands old before → Took old line done new
    → (after : Before) × Stands new after × (InTurn map_line_rows before (line ∷ rest) ≡ InTurn map_line_rows after rest)
line_taken old new before line rest stands took =
    by_rows (map_line_rows (before_in old.part stands.0) line) refl (took stands.0 stands.1)
  where
    by_rows : (rows : Result Before MapFault) → map_line_rows (before_in old.part stands.0) line ≡ rows → Takes done rows new
        → (after : Before) × Stands new after × (InTurn map_line_rows before (line ∷ rest) ≡ InTurn map_line_rows after rest)
    by_rows (Ok after) is now = (after, now, ap (λ b. later rest (map_line_rows b line)) (sym stands.2) ∙ ap (later rest) is)
    by_rows (Err fault) is now = absurd now

-- a line was refused, or memory ran out
pub line_refused : (old new : Draft) (before : Before) (line : ℕ × List ℕ) (rest : List (ℕ × List ℕ)) (fault : MapFault) → Stands old before
    → Took old line (Err fault) new → (fault ≡ NoMemory) ⊎ (InTurn map_line_rows before (line ∷ rest) ≡ Err fault)
line_refused old new before line rest fault stands took =
    elim (took stands.0 stands.1) [
      | inl memory ↦ inl memory
      | inr is ↦ inr (ap (λ b. later rest (map_line_rows b line)) (sym stands.2) ∙ ap (later rest) is)
    ]

-- the text is refused where its lines are
pub text_refused : (text : List ℕ) (fault : MapFault) → InTurn map_line_rows Start (numbered_lines text) ≡ Err fault → map_of text ≡ Err fault
text_refused text fault is = ap (λ before. before >>= map_ended (length (lines text) + 1)) is

-- the names of a text that is refused
pub naming_refused : (text : List ℕ) (fault : MapFault) → map_of text ≡ Err fault → map_naming text ≡ Err fault
naming_refused text fault is = ap (λ entries. entries >>= λ es. Ok (naming_of es)) is

-- what the end of the text comes to
at_end : (text : List ℕ) (before : Before) → InTurn map_line_rows Start (numbered_lines text) ≡ Ok before
    → map_of text ≡ map_ended (length (lines text) + 1) before
at_end text before is = ap (λ all. all >>= map_ended (length (lines text) + 1)) is

-- the map ended with its text
pub naming_read : (text : List ℕ) (draft : Draft) → draft.part ≡ Tail → Reads text (Ok draft) → map_naming text ≡ Ok (named draft.names)
naming_read text draft is read =
    let entries = read.1.0 in
    let whole : read.0 ≡ Whole entries = sym read.1.2 ∙ ap (λ b. before_in b entries) is in
    let end : map_of text ≡ Ok entries = at_end text read.0 read.2 ∙ ap (map_ended (length (lines text) + 1)) whole in
    ap (λ es. es >>= λ all. Ok (naming_of all)) end ∙ ap Ok (sym read.1.1.names)

-- the text ended before its map, or before any line of it
pub naming_open : (text : List ℕ) (draft : Draft) → draft.part ≡ Entries → Reads text (Ok draft)
    → map_naming text ≡ Err (Syntax (length (lines text) + 1))
naming_open text draft is read =
    let entries = read.1.0 in
    let open_map : read.0 ≡ Listed entries = sym read.1.2 ∙ ap (λ b. before_in b entries) is in
    naming_refused text (Syntax (length (lines text) + 1)) (at_end text read.0 read.2 ∙ ap (map_ended (length (lines text) + 1)) open_map)

pub naming_none_begun : (text : List ℕ) (draft : Draft) → draft.part ≡ Head → Reads text (Ok draft)
    → map_naming text ≡ Err (Syntax (length (lines text) + 1))
naming_none_begun text draft is read =
    let entries = read.1.0 in
    let start : read.0 ≡ Start = sym read.1.2 ∙ ap (λ b. before_in b entries) is in
    naming_refused text (Syntax (length (lines text) + 1)) (at_end text read.0 read.2 ∙ ap (map_ended (length (lines text) + 1)) start)

-- ---- lines

-- a line that says an entry
pub line_listed : (entries : List NamedFunction) (old new : Draft) (number : ℕ) (line : List ℕ) (entry : NamedFunction) → IsDraftOf entries old → old.part ≡ Entries
    → is_line (codes "...") line ≡ false → entry_said line ≡ Some entry
    → ((id : ℕ) → (named new.names).name id ≡ option_or ((named old.names).name id) (if names_id id entry then Some entry.name else None))
    → new.part ≡ Entries → Takes done (said_line_rows (Listed entries) (number, line)) new
line_listed entries old new number line entry before is_open not_end says adds stays =
    let listed : List NamedFunction = entries ++ entry ∷ [] in
    let rows : said_line_rows (Listed entries) (number, line) ≡ Ok (Listed listed) =
    ap (λ (end : Bool). First end (Ok (Whole entries)) (NeedsPart (entry_said line) (Err (Syntax number)) λ e. Ok (Listed (entries ++ e ∷ [])))) not_end
    ∙ ap (λ (said : Option NamedFunction). NeedsPart said (Err (Syntax number)) λ e. Ok (Listed (entries ++ e ∷ []))) says in
    let is_draft : IsDraftOf listed new = record {
      names = naming_more entries entry (named old.names) (named new.names) before.names adds;
      none = λ head. absurd (let same : Entries ≡ Head = sym stays ∙ head in cc);
    } in
    subst (λ (r : Result Before MapFault). Takes done r new) (sym rows) (listed, is_draft, ap (λ (b : Part). before_in b listed) stays)
