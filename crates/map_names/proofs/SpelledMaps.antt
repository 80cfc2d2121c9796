-- Texts and their entries.
use Rattle.std.proofs.Common.{◌≡◌, ◌++◌, ◌∷◌, ◌∙◌, ◌⊎◌, ◌+◌, not, ℕ, Bool, true, false, inl, inr, List, [], Option, Some, None, length, refl, sym, ap, subst, arith, append_assoc}
use Rattle.std.specs.Prelude.{Result, Ok, Err, codes, filter, if◌then◌else◌}
use Rattle.std.specs.List.{enumerate_from}
use Rattle.std.specs.Str.Lines.{lines}
use Rattle.std.proofs.lemmas.Bool.{cases_Bool, false_from_ne_true}
use Rattle.std.proofs.lemmas.List.{append-nil, length-append}
use Rattle.std.proofs.lemmas.Slice.Eq.{bytes_eq-Decides}
use Rattle.xray_io.specs.Rows.{First, InTurn, NeedsPart, ◌>>=◌}
use Rattle.map_names.specs.declared.fault.MapFault.{MapFault}
use Rattle.map_names.specs.declared.fault.MapFault.TheVariants.{Syntax}
use Rattle.map_names.specs.Entries.{NamedFunction, entry_said}
use Rattle.map_names.specs.Maps.{Before, Start, Listed, Whole, map_ended, is_comment, is_line, map_line_rows, map_of, said_line_rows}
use Rattle.map_names.specs.Spelling.{SpellEach, SpellsEntry, SpellsMap}
use Rattle.map_names.proofs.SpelledLines.{after_id, entry_found, entry_is, whole_line}

-- the lines that come next
abbrev later : ℕ → List (List ℕ) → Result Before MapFault → Result Before MapFault
later n said before = before >>= λ after. InTurn map_line_rows after (enumerate_from n said)

-- the line of an entry doesn't end a map
not_end : (line : List ℕ) (entry : NamedFunction) → SpellsEntry line entry → is_line (codes "...") line ≡ false
not_end line entry is = false_from_ne_true (is_line (codes "...") line) (λ same. different (sym (whole_line line entry is) ∙ (bytes_eq-Decides line (codes "...")).0 same))
  where
    different : codes "- { id: " ++ (is.id ++ 44 ∷ after_id is) ≡ codes "..." → ⊥
    different same = let first : ◌≡◌ {A = ℕ} 45 46 = cc in omega (arith, first)

-- the lines that are no comments
abbrev said_of : List (List ℕ) → List (List ℕ)
said_of all = filter (λ (line : List ℕ). not (is_comment line)) all

-- what a line that isn't the end of a map makes of the entries before it
abbrev listed : ℕ → List NamedFunction → Option NamedFunction → Result Before MapFault
listed n entries said = NeedsPart said (Err (Syntax n)) λ entry. Ok (Listed (entries ++ entry ∷ []))

-- a comment is passed over
comment_passed : (line : List ℕ) (all : List (List ℕ)) (before : Before) (n : ℕ) → is_comment line ≡ true
    → InTurn map_line_rows before (enumerate_from n (line ∷ all)) ≡ InTurn map_line_rows before (enumerate_from (n + 1) all)
comment_passed line all before n is = ap (λ (t : Bool). later (n + 1) all (First t (Ok before) (said_line_rows before (n, line)))) is

comment_left : (line : List ℕ) (all : List (List ℕ)) → is_comment line ≡ true → said_of (line ∷ all) ≡ said_of all
comment_left line all is = ap (λ (t : Bool). if not t then line ∷ said_of all else said_of all) is

-- another line is looked at
line_looked : (line : List ℕ) (all : List (List ℕ)) (before : Before) (n : ℕ) → is_comment line ≡ false
    → InTurn map_line_rows before (enumerate_from n (line ∷ all)) ≡ later (n + 1) all (said_line_rows before (n, line))
line_looked line all before n is = ap (λ (t : Bool). later (n + 1) all (First t (Ok before) (said_line_rows before (n, line)))) is

line_kept : (line : List ℕ) (all : List (List ℕ)) → is_comment line ≡ false → said_of (line ∷ all) ≡ line ∷ said_of all
line_kept line all is = ap (λ (t : Bool). if not t then line ∷ said_of all else said_of all) is

-- ---- from lines to entries

-- after the end of a map there are only comments
turn_ended : (all : List (List ℕ)) (entries : List NamedFunction) (n : ℕ) → said_of all ≡ [] → InTurn map_line_rows (Whole entries) (enumerate_from n all) ≡ Ok (Whole entries)
turn_ended [] entries n none = refl
turn_ended (line ∷ all) entries n none = by_comment (cases_Bool (is_comment line)) (turn_ended all entries (n + 1))
  where
    by_comment : (is_comment line ≡ true) ⊎ (is_comment line ≡ false) → (said_of all ≡ [] → InTurn map_line_rows (Whole entries) (enumerate_from (n + 1) all) ≡ Ok (Whole entries))
        → InTurn map_line_rows (Whole entries) (enumerate_from n (line ∷ all)) ≡ Ok (Whole entries)
    by_comment (inl is) again = comment_passed line all (Whole entries) n is ∙ again (sym (comment_left line all is) ∙ none)
    by_comment (inr isnt) again = let some : line ∷ said_of all ≡ [] = sym (line_kept line all isnt) ∙ none in absurd cc

turn_listed : (all said : List (List ℕ)) (entries before : List NamedFunction) (n : ℕ) → said_of all ≡ said ++ codes "..." ∷ [] → SpellEach said entries
    → InTurn map_line_rows (Listed before) (enumerate_from n all) ≡ Ok (Whole (before ++ entries))
turn_listed [] said entries before n whole each =
    let sizes = ap (λ (l : List (List ℕ)). length l) whole in
    let one = length-append said (codes "..." ∷ []) in
    absurd (omega (arith, sizes, one))
turn_listed (line ∷ all) said entries before n whole each = by_comment (cases_Bool (is_comment line)) (λ lines_are are more. turn_listed all lines_are are more (n + 1))
  where
    by_comment : (is_comment line ≡ true) ⊎ (is_comment line ≡ false)
        → ((lines_are : List (List ℕ)) (are more : List NamedFunction) → said_of all ≡ lines_are ++ codes "..." ∷ [] → SpellEach lines_are are
        → InTurn map_line_rows (Listed more) (enumerate_from (n + 1) all) ≡ Ok (Whole (more ++ are)))
        → InTurn map_line_rows (Listed before) (enumerate_from n (line ∷ all)) ≡ Ok (Whole (before ++ entries))
    by_comment (inl is) again = comment_passed line all (Listed before) n is ∙ again said entries before (sym (comment_left line all is) ∙ whole) each
    by_comment (inr isnt) again = line_looked line all (Listed before) n isnt ∙ by_said said entries (sym (line_kept line all isnt) ∙ whole) each
      where
        by_said : (lines_are : List (List ℕ)) (are : List NamedFunction) → line ∷ said_of all ≡ lines_are ++ codes "..." ∷ [] → SpellEach lines_are are
            → later (n + 1) all (said_line_rows (Listed before) (n, line)) ≡ Ok (Whole (before ++ are))
        by_said [] [] same spelled =
            let last : line ≡ codes "..." = cc in
            let none : said_of all ≡ [] = cc in
            ap (λ (t : Bool). later (n + 1) all (First t (Ok (Whole before)) (listed n before (entry_said line)))) ((bytes_eq-Decides line (codes "...")).1 last)
            ∙ (turn_ended all before (n + 1) none ∙ ap (λ (es : List NamedFunction). Ok (Whole es)) (sym (append-nil before)))
        by_said [] (entry ∷ are) same spelled = absurd spelled
        by_said (first ∷ lines_are) [] same spelled = absurd spelled
        by_said (first ∷ lines_are) (entry ∷ are) same spelled =
            let here : line ≡ first = cc in
            let rest : said_of all ≡ lines_are ++ codes "..." ∷ [] = cc in
            let says : SpellsEntry line entry = (let P : List ℕ → Type 0 = λ l. SpellsEntry l entry in subst P (sym here) spelled.0) in
            ap (λ (t : Bool). later (n + 1) all (First t (Ok (Whole before)) (listed n before (entry_said line)))) (not_end line entry says)
            ∙ (ap (λ (o : Option NamedFunction). later (n + 1) all (listed n before o)) (entry_found line entry says)
            ∙ (again lines_are are (before ++ entry ∷ []) rest spelled.1
            ∙ ap (λ (es : List NamedFunction). Ok (Whole es)) (append_assoc before (entry ∷ []) are)))

turn_begun : (all said : List (List ℕ)) (entries : List NamedFunction) (n : ℕ) → said_of all ≡ codes "---" ∷ said ++ codes "..." ∷ [] → SpellEach said entries
    → InTurn map_line_rows Start (enumerate_from n all) ≡ Ok (Whole entries)
turn_begun [] said entries n whole each = absurd (let none : [] ≡ codes "---" ∷ said ++ codes "..." ∷ [] = whole in cc)
turn_begun (line ∷ all) said entries n whole each = by_comment (cases_Bool (is_comment line)) (λ rest. turn_begun all said entries (n + 1) rest each)
  where
    by_comment : (is_comment line ≡ true) ⊎ (is_comment line ≡ false)
        → (said_of all ≡ codes "---" ∷ said ++ codes "..." ∷ [] → InTurn map_line_rows Start (enumerate_from (n + 1) all) ≡ Ok (Whole entries))
        → InTurn map_line_rows Start (enumerate_from n (line ∷ all)) ≡ Ok (Whole entries)
    by_comment (inl is) again = comment_passed line all Start n is ∙ again (sym (comment_left line all is) ∙ whole)
    by_comment (inr isnt) again =
        let kept : line ∷ said_of all ≡ codes "---" ∷ said ++ codes "..." ∷ [] = sym (line_kept line all isnt) ∙ whole in
        let first : line ≡ codes "---" = cc in
        let rest : said_of all ≡ said ++ codes "..." ∷ [] = cc in
        line_looked line all Start n isnt
        ∙ (ap (λ (t : Bool). later (n + 1) all (First (not t) (Err (Syntax n)) (Ok (Listed [])))) ((bytes_eq-Decides line (codes "---")).1 first)
        ∙ turn_listed all said entries [] (n + 1) rest each)

pub map_found : (text : List ℕ) (entries : List NamedFunction) → SpellsMap text entries → map_of text ≡ Ok entries
map_found text entries is =
    let end : ℕ = length (lines text) + 1 in
    ap (λ (before : Result Before MapFault). before >>= map_ended end) (turn_begun (lines text) is.said entries 1 is.whole is.each)

-- ---- from entries to lines

-- after the end of a map no other lines are taken
ended_is : (all : List (List ℕ)) (before entries : List NamedFunction) (n end : ℕ)
    → (InTurn map_line_rows (Whole before) (enumerate_from n all) >>= map_ended end) ≡ Ok entries → (said_of all ≡ []) × (entries ≡ before)
ended_is [] before entries n end is = (refl, cc)
ended_is (line ∷ all) before entries n end is = by_comment (cases_Bool (is_comment line)) (ended_is all before entries (n + 1) end)
  where
    by_comment : (is_comment line ≡ true) ⊎ (is_comment line ≡ false)
        → ((InTurn map_line_rows (Whole before) (enumerate_from (n + 1) all) >>= map_ended end) ≡ Ok entries → (said_of all ≡ []) × (entries ≡ before))
        → (said_of (line ∷ all) ≡ []) × (entries ≡ before)
    by_comment (inl passed) again =
        let later_ones = again (sym (ap (λ (b : Result Before MapFault). b >>= map_ended end) (comment_passed line all (Whole before) n passed)) ∙ is) in
        (comment_left line all passed ∙ later_ones.0, later_ones.1)
    by_comment (inr isnt) again =
        let none = sym (ap (λ (b : Result Before MapFault). b >>= map_ended end) (line_looked line all (Whole before) n isnt)) ∙ is in
        absurd cc

-- these lines are those of entries, and the last one
record AreListed (said : List (List ℕ)) (before entries : List NamedFunction) : Type 0 where
  lines_are : List (List ℕ)
  later_are : List NamedFunction
  each : SpellEach lines_are later_are
  whole : said ≡ lines_are ++ codes "..." ∷ []
  all : entries ≡ before ++ later_are

turn_is : (all : List (List ℕ)) (before entries : List NamedFunction) (n end : ℕ)
    → (InTurn map_line_rows (Listed before) (enumerate_from n all) >>= map_ended end) ≡ Ok entries → AreListed (said_of all) before entries
turn_is [] before entries n end is = absurd cc
turn_is (line ∷ all) before entries n end is = by_comment (cases_Bool (is_comment line)) (λ more. turn_is all more entries (n + 1) end)
  where
    by_comment : (is_comment line ≡ true) ⊎ (is_comment line ≡ false)
        → ((more : List NamedFunction) → (InTurn map_line_rows (Listed more) (enumerate_from (n + 1) all) >>= map_ended end) ≡ Ok entries → AreListed (said_of all) more entries)
        → AreListed (said_of (line ∷ all)) before entries
    by_comment (inl passed) again =
        let P : List (List ℕ) → Type 0 = λ said. AreListed said before entries in
        subst P (sym (comment_left line all passed)) (again before (sym (ap (λ (b : Result Before MapFault). b >>= map_ended end) (comment_passed line all (Listed before) n passed)) ∙ is))
    by_comment (inr kept) again =
        let P : List (List ℕ) → Type 0 = λ said. AreListed said before entries in
        subst P (sym (line_kept line all kept)) (by_line (cases_Bool (is_line (codes "...") line)))
      where
        looked : (later (n + 1) all (said_line_rows (Listed before) (n, line)) >>= map_ended end) ≡ Ok entries
        looked = sym (ap (λ (b : Result Before MapFault). b >>= map_ended end) (line_looked line all (Listed before) n kept)) ∙ is

        by_line : (is_line (codes "...") line ≡ true) ⊎ (is_line (codes "...") line ≡ false) → AreListed (line ∷ said_of all) before entries
        by_line (inl last) =
            let ended = ended_is all before entries (n + 1) end (sym (ap (λ (t : Bool). later (n + 1) all (First t (Ok (Whole before)) (listed n before (entry_said line))) >>= map_ended end) last) ∙ looked) in
            record {
              lines_are = [];
              later_are = [];
              each = tt;
              whole = ap (λ (l : List ℕ). l ∷ said_of all) ((bytes_eq-Decides line (codes "...")).0 last) ∙ ap (λ (l : List (List ℕ)). codes "..." ∷ l) ended.0;
              all = ended.1 ∙ sym (append-nil before);
            }
        by_line (inr isnt) = by_entry (entry_said line) refl (sym (ap (λ (t : Bool). later (n + 1) all (First t (Ok (Whole before)) (listed n before (entry_said line))) >>= map_ended end) isnt) ∙ looked)
          where
            by_entry : (found : Option NamedFunction) → entry_said line ≡ found → (later (n + 1) all (listed n before found) >>= map_ended end) ≡ Ok entries → AreListed (line ∷ said_of all) before entries
            by_entry None at same = absurd cc
            by_entry (Some entry) at same =
                let rest = again (before ++ entry ∷ []) same in
                record {
                  lines_are = line ∷ rest.lines_are;
                  later_are = entry ∷ rest.later_are;
                  each = (entry_is line entry at, rest.each);
                  whole = ap (λ (l : List (List ℕ)). line ∷ l) rest.whole;
                  all = rest.all ∙ append_assoc before (entry ∷ []) rest.later_are;
                }

-- these lines are those of a map
record AreMap (said : List (List ℕ)) (entries : List NamedFunction) : Type 0 where
  inner : List (List ℕ)
  each : SpellEach inner entries
  whole : said ≡ codes "---" ∷ inner ++ codes "..." ∷ []

begun_is : (all : List (List ℕ)) (entries : List NamedFunction) (n end : ℕ)
    → (InTurn map_line_rows Start (enumerate_from n all) >>= map_ended end) ≡ Ok entries → AreMap (said_of all) entries
begun_is [] entries n end is = absurd cc
begun_is (line ∷ all) entries n end is = by_comment (cases_Bool (is_comment line)) (begun_is all entries (n + 1) end)
  where
    by_comment : (is_comment line ≡ true) ⊎ (is_comment line ≡ false)
        → ((InTurn map_line_rows Start (enumerate_from (n + 1) all) >>= map_ended end) ≡ Ok entries → AreMap (said_of all) entries)
        → AreMap (said_of (line ∷ all)) entries
    by_comment (inl passed) again =
        let P : List (List ℕ) → Type 0 = λ said. AreMap said entries in
        subst P (sym (comment_left line all passed))
        (again (sym (ap (λ (b : Result Before MapFault). b >>= map_ended end) (comment_passed line all Start n passed)) ∙ is))
    by_comment (inr kept) again = by_first (cases_Bool (is_line (codes "---") line))
      where
        looked : (later (n + 1) all (said_line_rows Start (n, line)) >>= map_ended end) ≡ Ok entries
        looked = sym (ap (λ (b : Result Before MapFault). b >>= map_ended end) (line_looked line all Start n kept)) ∙ is

        by_first : (is_line (codes "---") line ≡ true) ⊎ (is_line (codes "---") line ≡ false) → AreMap (said_of (line ∷ all)) entries
        by_first (inr isnt) =
            let none = sym (ap (λ (t : Bool). later (n + 1) all (First (not t) (Err (Syntax n)) (Ok (Listed []))) >>= map_ended end) isnt) ∙ looked in
            absurd cc
        by_first (inl begins) =
            let turn = sym (ap (λ (t : Bool). later (n + 1) all (First (not t) (Err (Syntax n)) (Ok (Listed []))) >>= map_ended end) begins) ∙ looked in
            let listing = turn_is all [] entries (n + 1) end turn in
            record {
              inner = listing.lines_are;
              each = let P : List NamedFunction → Type 0 = λ es. SpellEach listing.lines_are es in subst P (sym listing.all) listing.each;
              whole =
                  line_kept line all kept
                  ∙ (ap (λ (l : List ℕ). l ∷ said_of all) ((bytes_eq-Decides line (codes "---")).0 begins) ∙ ap (λ (l : List (List ℕ)). codes "---" ∷ l) listing.whole);
            }

pub map_is : (text : List ℕ) (entries : List NamedFunction) → map_of text ≡ Ok entries → SpellsMap text entries
map_is text entries is =
    let made = begun_is (lines text) entries 1 (length (lines text) + 1) is in
    record { said = made.inner; each = made.each; whole = made.whole }
