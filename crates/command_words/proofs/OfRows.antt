-- A command and its row in the table.
use Rattle.std.proofs.Common.{◌≡◌, ◌∙◌, ◌&&◌, ℕ, Bool, cond, true, false, List, [], ◌∷◌, Option, Some, None, find, refl, sym, ap, subst, true≢false}
use Rattle.std.specs.List.{cons_option, list_all}
use Rattle.std.specs.Prelude.{codes, if◌then◌else◌, is_some, option_and_then}
use Rattle.std.specs.Str.{bytes_eq}
use Rattle.std.proofs.Math.Bool.{or-true}
use Rattle.xray_io.specs.declared.wall.Wall.{Wall}
use Rattle.command_words.specs.Files.{AreOfTheirRows, IsOfItsRow, files_given, named_in, row_of}
use Rattle.command_words.specs.Items.{Item, items_of}
use Rattle.command_words.specs.Lines.{Line, row_allows, is_cut, keeps, line_by, line_of, outputs_differ, outputs_in, value_in}
use Rattle.command_words.specs.Made.{Takes, Word, by_word, made_of, no_options, line_says}
use Rattle.command_words.specs.Numbers.{number_meant}
use Rattle.command_words.specs.Reports.{NameSource, ByIds, ByImage, ByMap}
use Rattle.command_words.specs.Rows.{CommandRow, FileRow, MaybeRead, Numeral, OptionRow, Read, Role, Written}
use Rattle.command_words.specs.Tables.{report_row}
use Rattle.command_words.specs.Words.{asm_row, check_row, commands, dump_row, extract_row, import_row, map_row, order_row, plain_row, profile_row, run_row, sim_row, soak_row}
use Rattle.command_words.specs.Words.{Command, Extract, Account, Stack, Convert, Dump, Check, Order, Soak, Import, Map, Calls}
use Rattle.command_words.specs.Words.{InTable, command_by, table_entry, outputs_of, profile_options_in, report_by, run_options_in, with_source}
use Rattle.command_words.specs.declared.tables.Verb.{Verb}
use Rattle.command_words.proofs.Arguments.{Each}
use Rattle.command_words.proofs.Texts.{and_parts, equal_texts}

same : {X : Type 0} (one other : X) → Some one ≡ Some other → one ≡ other
same one other e = cc

pub never : {X : Type 0} {C : Type 0} (x : X) → None ≡ Some x → C
never x e = cc

-- ---- what holds of all that is made, holds of what is made of words

abbrev OfWords : Type 0 → Type 1
OfWords Y = List (List ℕ) → Y → Type 0

-- whatever a place gives
abbrev AllWords : {T Y : Type 0} (role : Role) → (Word role → T) → (T → OfWords Y → Type 0) → OfWords Y → Type 0
AllWords Read make Rest P = (word : List ℕ) → Rest (make word) (λ words. P (word ∷ words))
AllWords MaybeRead make Rest P = Rest (make None) P × ((word : List ℕ) → Rest (make (Some word)) (λ words. P (word ∷ words)))
AllWords Written make Rest P = (word : List ℕ) → Rest (make word) (λ words. P (word ∷ words))
AllWords (Numeral values) make Rest P = (number : ℕ) (word : List ℕ) → Rest (make number) (λ words. P (word ∷ words))

-- whatever all places give, and the options say
abbrev AllMade : (X Y : Type 0) (files : List FileRow) → Takes files (X → Y) → OfWords Y → Type 0
AllMade X Y [] make P = (options : X) → P [] (make options)
AllMade X Y (file ∷ files) make P = AllWords file.role make (λ made Q. AllMade X Y files made Q) P

made_is : (X Y : Type 0) (files : List FileRow) (make : Takes files (X → Y)) (options : Option X) (P : OfWords Y) → AllMade X Y files make P
    → (words : List (List ℕ)) (y : Y) → made_of files make options words ≡ Some y → P words y
made_is X Y [] make None P all [] y is = never y is
made_is X Y [] make (Some options) P all [] y is = subst (P []) (same _ _ is) (all options)
made_is X Y [] make options P all (word ∷ words) y is = never y is
made_is X Y (file ∷ files) make options P all words y is =
    go file.role make P all words is (λ made Q all words is. made_is X Y files made options Q all words y is)
  where
    More : Type 1
    More = (made : Takes files (X → Y)) (Q : OfWords Y) → AllMade X Y files made Q → (words : List (List ℕ)) → made_of files made options words ≡ Some y → Q words y

    by_number : (make : ℕ → Takes files (X → Y)) (P : OfWords Y) (word : List ℕ) (words : List (List ℕ)) (found : Option ℕ)
        → ((number : ℕ) → AllMade X Y files (make number) (λ words. P (word ∷ words)))
        → option_and_then (λ number. made_of files (make number) options words) found ≡ Some y → More → P (word ∷ words) y
    by_number make P word words None all is more = never y is
    by_number make P word words (Some number) all is more = more (make number) (λ words. P (word ∷ words)) (all number) words is

    go : (role : Role) (make : Word role → Takes files (X → Y)) (P : OfWords Y) → AllWords role make (λ made Q. AllMade X Y files made Q) P
        → (words : List (List ℕ)) → by_word role make (λ made rest. made_of files made options rest) words ≡ Some y → More → P words y
    go Read make P all [] is more = never y is
    go Read make P all (word ∷ words) is more = more (make word) (λ words. P (word ∷ words)) (all word) words is
    go MaybeRead make P all [] is more = more (make None) P all.0 [] is
    go MaybeRead make P all (word ∷ words) is more = more (make (Some word)) (λ words. P (word ∷ words)) (all.1 word) words is
    go Written make P all [] is more = never y is
    go Written make P all (word ∷ words) is more = more (make word) (λ words. P (word ∷ words)) (all word) words is
    go (Numeral values) make P all [] is more = never y is
    go (Numeral values) make P all (word ∷ words) is more = by_number make P word words (number_meant values word) (λ number. all number word) is more

-- ---- each command

-- The command is in the table by this row, with the names among words that are in the places of files. Its outputs are
-- the names in the places of files that are written.
abbrev IsOf : CommandRow → Line → OfWords Command
IsOf row line words command =
    (table_entry command ≡ record { row = row; names = named_in row.files words; given = files_given row.options line })
    × (outputs_of command ≡ outputs_in row.files words)

-- so is each command that is said by an allowed line of the row
abbrev Says : CommandRow → (Wall → Line → Option Command) → Type 0
Says row said = (wall : Wall) (line : Line) (command : Command) → row_allows row line ≡ true → said wall line ≡ Some command
    → IsOf row line line.files command

abbrev IsLawful : CommandRow → Type 0
IsLawful row = Says row (command_by row.verb)

-- a command by its places
by_places : {X : Type 0} (row : CommandRow) (make : Takes row.files (X → Command)) (options : Wall → Line → Option X)
    → ((line : Line) → AllMade X Command row.files make (IsOf row line)) → Says row (λ wall line. line_says row.files make (options wall line) line)
by_places {X} row make options all wall line command allowed is =
    made_is X Command row.files make (options wall line) (IsOf row line) (all line) line.files command is

by_names : (row : CommandRow) (make : Takes row.files (Unit {0} → Command)) → ((line : Line) → AllMade (Unit {0}) Command row.files make (IsOf row line))
    → Says row (λ wall line. line_says row.files make no_options line)
by_names row make all = by_places row make (λ wall line. no_options) all

-- a line of a report doesn't have both an image and a map
both_named : (word : List ℕ) (verb : Verb) (options : List OptionRow) (line : Line) (trace image map : List ℕ) → row_allows (report_row word verb options) line ≡ true
    → line.files ≡ trace ∷ image ∷ [] → value_in (codes "map") line ≡ Some map → ⊥
both_named word verb options line trace image map allowed names given =
    let row = report_row word verb options in
    let rules : list_all (keeps row line) row.beside ≡ true = (and_parts (outputs_differ row.files line.files) _ allowed).1 in
    true≢false (sym (rw (given, names, or-true (is_some (value_in (codes "image") line))) at rules))

-- a report by what names its functions
by_source : {X : Type 0} (word : List ℕ) (verb : Verb) (options : List OptionRow) (make : List ℕ → NameSource → X → Command) (said : Line → Option X)
    → ((line : Line) → files_given (report_row word verb options).options line ≡ cons_option (value_in (codes "map") line) [])
    → ((trace : List ℕ) (source : NameSource) (option : X) → table_entry (make trace source option) ≡ with_source (report_row word verb options) trace source)
    → Says (report_row word verb options) (λ wall line. report_by make (said line) line)
by_source {X} word verb options make said map_only sources wall line command allowed is =
    go line.files (value_in (codes "map") line) (said line) refl refl refl
  where
    row : CommandRow
    row = report_row word verb options

    both : (trace : List ℕ) (source : NameSource) (option : X)
        → (table_entry (make trace source option) ≡ with_source row trace source) × (outputs_of (make trace source option) ≡ outputs_in row.files (with_source row trace source).names)
    both trace source option = (sources trace source option, ap (λ (t : InTable). outputs_in t.row.files t.names) (sources trace source option))

    go : (names : List (List ℕ)) (map : Option (List ℕ)) (option : Option X) → line.files ≡ names → value_in (codes "map") line ≡ map → said line ≡ option
        → IsOf row line line.files command
    go (trace ∷ []) None (Some option) e f g = rw (← same (make trace ByIds option) command (rw (g, e, f) at is), map_only line, e, f) (both trace ByIds option)
    go (trace ∷ []) (Some map) (Some option) e f g =
        rw (← same (make trace (ByMap map) option) command (rw (g, e, f) at is), map_only line, e, f) (both trace (ByMap map) option)
    go (trace ∷ image ∷ []) None (Some option) e f g =
        rw (← same (make trace (ByImage image) option) command (rw (g, e) at is), map_only line, e, f) (both trace (ByImage image) option)
    go (trace ∷ image ∷ []) (Some map) option e f g = absurd (both_named word verb options line trace image map allowed e f)
    go (trace ∷ []) map None e f g = never command (rw (g, e) at is)
    go (trace ∷ image ∷ []) None None e f g = never command (rw (g, e) at is)
    go [] map option e f g = never command (rw e at is)
    go (a ∷ b ∷ c ∷ names) map option e f g = never command (rw e at is)

-- ---- a line for each command

infixr 10 ◌▸◌
-- one, and those after it
◌▸◌ : {A B : Type 0} → A → B → A × B
a ▸ b = (a, b)

all_lawful : Each IsLawful commands
unfolding run_options_in profile_options_in
all_lawful =
    by_places plain_row _ _ (λ line image bounds. (refl, refl))
    ▸ by_names extract_row (λ image none. Extract image) (λ line image none. (refl, refl))
    ▸ by_places sim_row _ _ (λ line image script schedule trace audit options. (refl, refl))
    ▸ by_places run_row _ _ (λ line image script trace audit options. (refl, refl))
    ▸ by_places asm_row _ _ (λ line text image options. (refl, refl))
    ▸ by_source _ _ _ Account _ (λ line. refl) (λ trace source options. refl)
    ▸ by_source _ _ _ Stack _ (λ line. refl) (λ trace source format. refl)
    ▸ by_source _ _ _ Convert _ (λ line. refl) (λ trace source options. refl)
    ▸ by_names dump_row (λ trace none. Dump trace) (λ line trace none. (refl, refl))
    ▸ by_names check_row (λ image script trace audit none. Check image script trace audit) (λ line image script trace audit none. (refl, refl))
    ▸ by_names order_row (λ image script audit free schedule none. Order image script audit free schedule) (λ line image script audit free schedule none. (refl, refl))
    ▸ by_places profile_row _ _ (λ line image script options. (refl, refl))
    ▸ by_names soak_row (λ number none. Soak number) (λ line number word none. (refl, refl))
    ▸ by_names import_row (λ log trace none. Import log trace) (λ line log trace none. (refl, refl))
    ▸ by_names map_row (λ program map none. Map program map) (λ line program map none. (refl, refl))
    ▸ by_source _ _ _ Calls _ (λ line. refl) (λ trace source options. refl)
    ▸ tt

-- ---- all words

-- the line that items say is allowed by the row
pub allowed_in : (row : CommandRow) (items : List Item) (line : Line) → line_of row items ≡ Some line → row_allows row line ≡ true
allowed_in row items line is = go (is_cut row items) (row_allows row (line_by row items)) refl is
  where
    go : (b d : Bool) → row_allows row (line_by row items) ≡ d → (if b && d then Some (line_by row items) else None) ≡ Some line → row_allows row line ≡ true
    go true true e h = rw (← same (line_by row items) line h) e
    go true false e h = never line h
    go false d e h = never line h

-- the first row with the word, if each row is lawful
found_said : (wall : Wall) (word : List ℕ) (words : List (List ℕ)) (command : Command) (rows : List CommandRow) → Each IsLawful rows
    → option_and_then (λ row. option_and_then (command_by row.verb wall) (line_of row (items_of words))) (find (λ row. bytes_eq word row.word) rows) ≡ Some command
    → IsOfItsRow word words command
found_said wall word words command [] all is = never command is
found_said wall word words command (row ∷ rows) all is = go (bytes_eq word row.word) refl is (found_said wall word words command rows all.1)
  where
    said : CommandRow → Option Command
    said row = option_and_then (command_by row.verb wall) (line_of row (items_of words))

    by_line : (found : Option Line) → word ≡ row.word → line_of row (items_of words) ≡ found → option_and_then (command_by row.verb wall) found ≡ Some command
        → IsOfItsRow word words command
    by_line None e says is = never command is
    by_line (Some line) e says is =
        let of = all.0 wall line command (allowed_in row (items_of words) line says) is in
        let row_is : row ≡ row_of command = ap (λ (t : InTable). t.row) (sym of.0) in
        record {
          word_is = e ∙ ap (λ (r : CommandRow). r.word) row_is;
          line = line;
          says = ap (λ (r : CommandRow). line_of r (items_of words)) (sym row_is) ∙ says;
          names_are = ap (λ (t : InTable). t.names) of.0 ∙ ap (λ (r : CommandRow). named_in r.files line.files) row_is;
          given_are = ap (λ (t : InTable). t.given) of.0 ∙ ap (λ (r : CommandRow). files_given r.options line) row_is;
          outputs_are = of.1 ∙ ap (λ (r : CommandRow). outputs_in r.files line.files) row_is;
        }

    go : (b : Bool) → bytes_eq word row.word ≡ b → option_and_then said (cond b (Some row) (find (λ row. bytes_eq word row.word) rows)) ≡ Some command
        → (option_and_then said (find (λ row. bytes_eq word row.word) rows) ≡ Some command → IsOfItsRow word words command) → IsOfItsRow word words command
    go true e is more = by_line (line_of row (items_of words)) (equal_texts word row.word e) refl is
    go false e is more = more is

pub of_their_rows : AreOfTheirRows
of_their_rows wall word words command is = found_said wall word words command commands all_lawful is
