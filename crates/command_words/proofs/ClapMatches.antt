-- What is gathered from clap's matches, one file or option after the other.
use Rattle.std.proofs.Math.Seq.{drop-cons}
use Rattle.std.proofs.Common.{◌≡◌, ◌∙◌, ◌<◌, ◌+◌, ◌&&◌, ◌||◌, ℕ, true, false, Bool, cond, not, refl, sym, ap, drop, get_or, add-one, append_assoc, List, [], ◌∷◌, ◌++◌, length, map, option_map, option_copied, take, Option, Some, None, Bor}
use Rattle.std.proofs.lemmas.List.{map-append}
use Rattle.std.proofs.lemmas.Str.{IsUtf8-string_bytes, encodes-chars}
use Rattle.std.specs.List.{cons_option, find, list_all, list_any, position_from, zip}
use Rattle.std.specs.Prelude.{String, string_bytes, if◌then◌else◌}
use Rattle.std.specs.Str.{bytes_eq}
use Rattle.std.specs.declared.alloc.Global.{Global}
use Rattle.clap.proofs.WalkLemmas.{first_value-rows}
use Rattle.clap.specs.Matches.{first_value, found_of}
use Rattle.clap.specs.Walk.{Row, Text, first_of}
use Rattle.clap.specs.declared.parser.matches.ArgMatches.{ArgMatches}
use Rattle.command_words.specs.private.Clapped.{given_in, names_in, rows_in}
use Rattle.command_words.specs.Lines.{outputs_in}
use Rattle.command_words.specs.Rows as rows
use Rattle.command_words.specs.Rows.{is_output}
use Rattle.command_words.specs.private.CodeViews.{file_view, option_view}
use Rattle.command_words.specs.declared.rows.FileRow.{FileRow}
use Rattle.command_words.specs.declared.rows.OptionRow.{OptionRow}
use Rattle.command_words.proofs.Arguments.{Each}
use Rattle.command_words.proofs.WordShapes.{IsText}

-- each word of a command line is text
pub words_are_text : (words : List (String Global)) → Each IsText (map string_bytes words)
words_are_text [] = tt
words_are_text (word ∷ words) = (encodes-chars (string_bytes word) (IsUtf8-string_bytes word), words_are_text words)

-- what clap answers for an id is the first value of its row
pub value_of_row : (matches : ArgMatches) (id : Text) (answer : Option (Bor Text)) → option_map (λ s. s.now) answer ≡ first_value (found_of matches) id
    → first_of id (rows_in matches) ≡ option_copied answer
value_of_row matches id answer gives = sym (first_value-rows (found_of matches) id) ∙ sym gives

-- the next file, before those after it
pub names_from : (files : List FileRow) (i : ℕ) (d : FileRow) (rows : List Row) → i < length files
    → names_in (map file_view (drop i files)) rows ≡ cons_option (first_of (file_view (get_or files i d)).label rows) (names_in (map file_view (drop (i + 1) files)) rows)
names_from files i d rows within = rw (add-one, drop-cons files i d) refl

-- the next option, before those after it
pub given_from : (options : List OptionRow) (i : ℕ) (d : OptionRow) (rows : List Row) → i < length options
    → given_in (map option_view (drop i options)) rows
    ≡ cons_option (option_map (λ value. ((get_or options i d).name.now, value)) (first_of (get_or options i d).name.now rows)) (given_in (map option_view (drop (i + 1) options)) rows)
given_from options i d rows within = rw (add-one, drop-cons options i d) refl

-- one more is gathered, or none is
pub one_more : {X Y : Type 0} (f : X → Y) (xs : List X) (x : X) (next : Option Y) (rest now all : List Y) → now ≡ cons_option next rest → next ≡ Some (f x)
    → map f xs ++ now ≡ all → map f (xs ++ x ∷ []) ++ rest ≡ all
one_more f xs x next rest now all step found before =
    ap (λ ys. ys ++ rest) (map-append f xs (x ∷ [])) ∙ append_assoc (map f xs) (f x ∷ []) rest
    ∙ ap (λ ys. map f xs ++ ys) (sym (step ∙ ap (λ o. cons_option o rest) found)) ∙ before

pub none_more : {X Y : Type 0} (f : X → Y) (xs : List X) (next : Option Y) (rest now all : List Y) → now ≡ cons_option next rest → next ≡ None
    → map f xs ++ now ≡ all → map f xs ++ rest ≡ all
none_more f xs next rest now all step none before = ap (λ ys. map f xs ++ ys) (sym (step ∙ ap (λ o. cons_option o rest) none)) ∙ before

-- two maps are one
pub mapped_twice : {X Y Z : Type 0} (f : X → Y) (g : Y → Z) (xs : List X) → map (λ x. g (f x)) xs ≡ map g (map f xs)
mapped_twice f g [] = refl
mapped_twice f g (x ∷ xs) = ap (λ zs. g (f x) ∷ zs) (mapped_twice f g xs)

-- ---- looking up

-- the place of a text among texts that are referred to
pub position_of_texts : (word : Text) (words : List (Bor Text)) (from : ℕ) → position_from (bytes_eq word) from (map (λ w. w.now) words) ≡ position_from (λ w. bytes_eq word w.now) from words
position_of_texts word [] from = refl
position_of_texts word (one ∷ words) from = go (bytes_eq word one.now) (position_of_texts word words (from + 1))
  where
    go : (b : Bool) → position_from (bytes_eq word) (from + 1) (map (λ w. w.now) words) ≡ position_from (λ w. bytes_eq word w.now) (from + 1) words
        → cond b (Some from) (position_from (bytes_eq word) (from + 1) (map (λ w. w.now) words)) ≡ cond b (Some from) (position_from (λ w. bytes_eq word w.now) (from + 1) words)
    go true more = refl
    go false more = more

-- an option that is given, as its texts
abbrev pub pair_view : Bor Text × Bor Text → Text × Text
pair_view pair = (pair.0.now, pair.1.now)

-- the first option of a name from a place on
abbrev pub given_from_place : Text → List (Bor Text × Bor Text) → ℕ → Option (Text × Text)
given_from_place name pairs i = find (λ (given : Text × Text). bytes_eq given.0 name) (map pair_view (drop i pairs))

-- ---- what a row allows

-- the outputs, by the places of files and the words in them
pub outputs_zipped : (p : Text → Bool) (files : List FileRow) (names : List (Bor Text))
    → list_all p (outputs_in (map file_view files) (map (λ name. name.now) names))
    ≡ list_all (λ pair. not (is_output (file_view pair.0)) || p pair.1.now) (zip files names)
outputs_zipped p [] names = refl
outputs_zipped p (file ∷ files) [] = refl
outputs_zipped p (file ∷ files) (name ∷ names) = go (is_output (file_view file)) (outputs_zipped p files names)
  where
    rest : List Text
    rest = outputs_in (map file_view files) (map (λ name. name.now) names)

    go : (b : Bool) → list_all p rest ≡ list_all (λ pair. not (is_output (file_view pair.0)) || p pair.1.now) (zip files names)
        → list_all p (if b then name.now ∷ rest else rest)
        ≡ ((not b || p name.now) && list_all (λ pair. not (is_output (file_view pair.0)) || p pair.1.now) (zip files names))
    go true more = ap (λ b. p name.now && b) more
    go false more = more

pub all_mapped : {X Y : Type 0} (p : Y → Bool) (f : X → Y) (xs : List X) → list_all p (map f xs) ≡ list_all (λ x. p (f x)) xs
all_mapped p f [] = refl
all_mapped p f (x ∷ xs) = ap (λ b. p (f x) && b) (all_mapped p f xs)

-- the files that have a word, by so many names as a line has
pub named_mapped : (name : Text) (files : List FileRow) (names : List (Bor Text))
    → list_any (λ (file : rows.FileRow). bytes_eq file.label name) (take (length (map (λ name. name.now) names)) (map file_view files))
    ≡ list_any (λ file. bytes_eq (file_view file).label name) (take (length names) files)
named_mapped name [] [] = refl
named_mapped name [] (one ∷ names) = refl
named_mapped name (file ∷ files) [] = refl
named_mapped name (file ∷ files) (one ∷ names) = ap (λ b. bytes_eq (file_view file).label name || b) (named_mapped name files names)
