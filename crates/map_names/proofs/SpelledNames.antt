-- Names and the bytes that are written for them.
use Rattle.std.proofs.Common.{◌≡◌, ◌++◌, ◌∷◌, ◌∙◌, ◌⊎◌, ◌==◌, ◌||◌, ◌&&◌, ◌<◌, not, ℕ, Bool, true, false, inl, inr, List, [], Option, Some, None, length, refl, sym, ap, subst, arith}
use Rattle.std.specs.Prelude.{◌≢◌, All, IsTrue, option_map, option_and_then, if◌then◌else◌}
use Rattle.std.specs.Option.{option_map_or}
use Rattle.std.specs.List.{flat_map, list_all}
use Rattle.map_names.specs.declared.quote.Quote.TheVariants.{Single, Double}
use Rattle.map_names.specs.declared.quote.Quote.{Quote}
use Rattle.map_names.specs.Entries.{after_label, before_ending, between, mark_of, name_spelled, unquoted_name, quoted_byte, quoted_from, quoted_name, is_plain_byte}
use Rattle.map_names.specs.Spelling.{Escaped, IsLetter, IsPlain, Itself, Letter, SpellsName, letter_name, letter_text, single_byte, single_quoted}
use Rattle.std.proofs.lemmas.Bool.{and_from, and_parts, cases_Bool, eq-eqb, eqb-true, false≢true, ne_eqb}
use Rattle.std.proofs.lemmas.Option.{same_Some}
use Rattle.std.proofs.lemmas.List.Elements.{All-cons, All-head, All-nil, All-tail}
use Rattle.map_names.proofs.LineParts.{after_found, after_is, ending_found, ending_is, no_label}

-- ---- between single marks

-- what is read after a byte
abbrev then_read : List ℕ → Option (List ℕ) → Option (List ℕ)
then_read front more = option_map (λ (later : List ℕ). front ++ later) more

single_found : (name : List ℕ) → quoted_from Single (flat_map single_byte name) false ≡ Some name
unfolding quoted_from quoted_byte
single_found [] = refl
single_found (b ∷ name) = by_test (cases_Bool (b == 39)) (single_found name)
  where
    by_test : ((b == 39) ≡ true) ⊎ ((b == 39) ≡ false) → quoted_from Single (flat_map single_byte name) false ≡ Some name → quoted_from Single (single_byte b ++ flat_map single_byte name) false ≡ Some (b ∷ name)
    by_test (inl is) again =
        ap (λ (t : Bool). quoted_from Single ((if t then 39 ∷ 39 ∷ [] else b ∷ []) ++ flat_map single_byte name) false) is
        ∙ (ap (λ (o : Option (List ℕ)). then_read [] (then_read (39 ∷ []) o)) again
        ∙ ap (λ (n : ℕ). Some (n ∷ name)) (sym (eqb-true b 39 is)))
    by_test (inr isnt) again =
        ap (λ (t : Bool). quoted_from Single ((if t then 39 ∷ 39 ∷ [] else b ∷ []) ++ flat_map single_byte name) false) isnt
        ∙ (ap (λ (t : Bool). option_and_then (λ (one : List ℕ × Bool). then_read one.0 (quoted_from Single (flat_map single_byte name) one.1)) (Some (if t then ([], true) else (b ∷ [], false)))) isnt
        ∙ ap (then_read (b ∷ [])) again)

-- what a name begins with, and what was read after it
record Begins (front name : List ℕ) (more : Option (List ℕ)) : Type 0 where
  later : List ℕ
  read : more ≡ Some later
  whole : front ++ later ≡ name

read_then : (front name : List ℕ) (more : Option (List ℕ)) → then_read front more ≡ Some name → Begins front name more
read_then front name None is = absurd cc
read_then front name (Some later) is = record { later = later; read = refl; whole = same_Some _ _ is }

single_is : (bytes name : List ℕ) → quoted_from Single bytes false ≡ Some name → bytes ≡ flat_map single_byte name
unfolding quoted_from quoted_byte
single_is [] name is = ap (flat_map single_byte) (same_Some _ _ is)
single_is (b ∷ []) name is = by_test (cases_Bool (b == 39))
  where
    by_test : ((b == 39) ≡ true) ⊎ ((b == 39) ≡ false) → b ∷ [] ≡ flat_map single_byte name
    by_test (inl mark) =
        let none : Some name ≡ None = sym is ∙ ap (λ (t : Bool). option_and_then (λ (one : List ℕ × Bool). then_read one.0 (quoted_from Single [] one.1)) (Some (if t then ([], true) else (b ∷ [], false)))) mark in
        absurd cc
    by_test (inr isnt) =
        let some : Some name ≡ Some (b ∷ []) = sym is ∙ ap (λ (t : Bool). option_and_then (λ (one : List ℕ × Bool). then_read one.0 (quoted_from Single [] one.1)) (Some (if t then ([], true) else (b ∷ [], false)))) isnt in
        sym (ap (flat_map single_byte) (same_Some _ _ some) ∙ ap (λ (t : Bool). (if t then 39 ∷ 39 ∷ [] else b ∷ []) ++ []) isnt)
single_is (b ∷ c ∷ bytes) name is = by_test (cases_Bool (b == 39)) (cases_Bool (c == 39)) (single_is (c ∷ bytes)) (single_is bytes)
  where
    by_test : ((b == 39) ≡ true) ⊎ ((b == 39) ≡ false) → ((c == 39) ≡ true) ⊎ ((c == 39) ≡ false)
        → ((more : List ℕ) → quoted_from Single (c ∷ bytes) false ≡ Some more → c ∷ bytes ≡ flat_map single_byte more)
        → ((more : List ℕ) → quoted_from Single bytes false ≡ Some more → bytes ≡ flat_map single_byte more) → b ∷ c ∷ bytes ≡ flat_map single_byte name
    by_test (inr isnt) other next last =
        let read : then_read (b ∷ []) (quoted_from Single (c ∷ bytes) false) ≡ Some name =
        sym (ap (λ (t : Bool). option_and_then (λ (one : List ℕ × Bool). then_read one.0 (quoted_from Single (c ∷ bytes) one.1)) (Some (if t then ([], true) else (b ∷ [], false)))) isnt) ∙ is in
        let parts = read_then (b ∷ []) name (quoted_from Single (c ∷ bytes) false) read in
        ap (λ (l : List ℕ). b ∷ l) (next parts.later parts.read)
        ∙ (sym (ap (λ (t : Bool). (if t then 39 ∷ 39 ∷ [] else b ∷ []) ++ flat_map single_byte parts.later) isnt)
        ∙ ap (flat_map single_byte) parts.whole)
    by_test (inl mark) (inr isnt) next last =
        let none : Some name ≡ None =
        sym is
        ∙ (ap (λ (t : Bool). option_and_then (λ (one : List ℕ × Bool). then_read one.0 (quoted_from Single (c ∷ bytes) one.1)) (Some (if t then ([], true) else (b ∷ [], false)))) mark
        ∙ ap (λ (t : Bool). then_read [] (option_and_then (λ (one : List ℕ × Bool). then_read one.0 (quoted_from Single bytes one.1)) (if t then Some (c ∷ [], false) else None))) isnt) in
        absurd cc
    by_test (inl mark) (inl again) next last =
        let read : then_read [] (then_read (c ∷ []) (quoted_from Single bytes false)) ≡ Some name =
        sym (ap (λ (t : Bool). option_and_then (λ (one : List ℕ × Bool). then_read one.0 (quoted_from Single (c ∷ bytes) one.1)) (Some (if t then ([], true) else (b ∷ [], false)))) mark
        ∙ ap (λ (t : Bool). then_read [] (option_and_then (λ (one : List ℕ × Bool). then_read one.0 (quoted_from Single bytes one.1)) (if t then Some (c ∷ [], false) else None))) again)
        ∙ is in
        let outer = read_then [] name (then_read (c ∷ []) (quoted_from Single bytes false)) read in
        let parts = read_then (c ∷ []) outer.later (quoted_from Single bytes false) outer.read in
        ap (λ (n : ℕ). n ∷ c ∷ bytes) (eqb-true b 39 mark)
        ∙ (ap (λ (n : ℕ). 39 ∷ n ∷ bytes) (eqb-true c 39 again)
        ∙ (ap (λ (l : List ℕ). 39 ∷ 39 ∷ l) (last parts.later parts.read)
        ∙ (sym (ap (λ (t : Bool). (if t then 39 ∷ 39 ∷ [] else c ∷ []) ++ flat_map single_byte parts.later) again)
        ∙ ap (flat_map single_byte) (parts.whole ∙ outer.whole))))

-- ---- between double marks

-- what is read of a byte and those after it
abbrev next_read : List ℕ → Option (List ℕ × Bool) → Option (List ℕ)
next_read bytes said = option_and_then (λ (one : List ℕ × Bool). then_read one.0 (quoted_from Double bytes one.1)) said

double_found : (letters : List Letter) → All IsLetter letters → quoted_from Double (flat_map letter_text letters) false ≡ Some (flat_map letter_name letters)
unfolding quoted_from quoted_byte
double_found [] each = refl
double_found (Itself b ∷ letters) each =
    let own : IsLetter (Itself b) = All-head IsLetter (Itself b) letters each in
    let rest : List ℕ = flat_map letter_text letters in
    ap (λ (t : Bool). next_read rest (if t then None else Some (if b == 92 then ([], true) else (b ∷ [], false)))) (ne_eqb b 34 own.0)
    ∙ (ap (λ (t : Bool). next_read rest (Some (if t then ([], true) else (b ∷ [], false)))) (ne_eqb b 92 own.1)
    ∙ ap (then_read (b ∷ [])) (double_found letters (All-tail IsLetter (Itself b) letters each)))
double_found (Escaped b ∷ letters) each = by_test (b == 34 || b == 92) refl (double_found letters (All-tail IsLetter (Escaped b) letters each))
  where
    by_test : (t : Bool) → (b == 34 || b == 92) ≡ t → quoted_from Double (flat_map letter_text letters) false ≡ Some (flat_map letter_name letters)
        → then_read [] (next_read (flat_map letter_text letters) (Some (if b == 34 || b == 92 then (b ∷ [], false) else (92 ∷ b ∷ [], false))))
        ≡ Some ((if b == 34 || b == 92 then b ∷ [] else 92 ∷ b ∷ []) ++ flat_map letter_name letters)
    by_test t is again =
        ap (λ (u : Bool). then_read [] (next_read (flat_map letter_text letters) (Some (if u then (b ∷ [], false) else (92 ∷ b ∷ [], false))))) is
        ∙ (by_value t ∙ ap (λ (u : Bool). Some ((if u then b ∷ [] else 92 ∷ b ∷ []) ++ flat_map letter_name letters)) (sym is))
      where
        by_value : (u : Bool) → then_read [] (next_read (flat_map letter_text letters) (Some (if u then (b ∷ [], false) else (92 ∷ b ∷ [], false))))
            ≡ Some ((if u then b ∷ [] else 92 ∷ b ∷ []) ++ flat_map letter_name letters)
        by_value true = ap (λ (o : Option (List ℕ)). then_read [] (then_read (b ∷ []) o)) again
        by_value false = ap (λ (o : Option (List ℕ)). then_read [] (then_read (92 ∷ b ∷ []) o)) again

-- letters that say a name
record AreLetters (bytes name : List ℕ) : Type 0 where
  letters : List Letter
  each : All IsLetter letters
  text : bytes ≡ flat_map letter_text letters
  says : name ≡ flat_map letter_name letters

no_letters : (name : List ℕ) → [] ≡ name → AreLetters [] name
no_letters name is = record { letters = []; each = All-nil IsLetter; text = refl; says = sym is }

one_letter : (letter : Letter) (bytes name later : List ℕ) → IsLetter letter → letter_name letter ++ later ≡ name → AreLetters bytes later → AreLetters (letter_text letter ++ bytes) name
one_letter letter bytes name later own whole rest = record {
  letters = letter ∷ rest.letters;
  each = All-cons IsLetter letter rest.letters own rest.each;
  text = ap (λ (l : List ℕ). letter_text letter ++ l) rest.text;
  says = sym whole ∙ ap (λ (l : List ℕ). letter_name letter ++ l) rest.says;
}

ne_from : (a b : ℕ) → (a == b) ≡ false → a ≢ b
ne_from a b is same = false≢true (sym is ∙ eq-eqb a b same)

double_is : (bytes name : List ℕ) → quoted_from Double bytes false ≡ Some name → AreLetters bytes name
unfolding quoted_from quoted_byte
double_is [] name is = no_letters name (same_Some _ _ is)
double_is (b ∷ []) name is = by_test (cases_Bool (b == 34)) (cases_Bool (b == 92))
  where
    by_test : ((b == 34) ≡ true) ⊎ ((b == 34) ≡ false) → ((b == 92) ≡ true) ⊎ ((b == 92) ≡ false) → AreLetters (b ∷ []) name
    by_test (inl mark) other =
        let none : Some name ≡ None = sym is ∙ ap (λ (t : Bool). next_read [] (if t then None else Some (if b == 92 then ([], true) else (b ∷ [], false)))) mark in
        absurd cc
    by_test (inr isnt) (inl slash) =
        let none : Some name ≡ None =
        sym is
        ∙ (ap (λ (t : Bool). next_read [] (if t then None else Some (if b == 92 then ([], true) else (b ∷ [], false)))) isnt
        ∙ ap (λ (t : Bool). next_read [] (Some (if t then ([], true) else (b ∷ [], false)))) slash) in
        absurd cc
    by_test (inr isnt) (inr nor) =
        let some : Some name ≡ Some (b ∷ []) =
        sym is
        ∙ (ap (λ (t : Bool). next_read [] (if t then None else Some (if b == 92 then ([], true) else (b ∷ [], false)))) isnt
        ∙ ap (λ (t : Bool). next_read [] (Some (if t then ([], true) else (b ∷ [], false)))) nor) in
        one_letter (Itself b) [] name [] (ne_from b 34 isnt, ne_from b 92 nor) (sym (same_Some _ _ some)) (no_letters [] refl)
double_is (b ∷ c ∷ bytes) name is = by_test (cases_Bool (b == 34)) (cases_Bool (b == 92)) (double_is (c ∷ bytes)) (double_is bytes)
  where
    by_test : ((b == 34) ≡ true) ⊎ ((b == 34) ≡ false) → ((b == 92) ≡ true) ⊎ ((b == 92) ≡ false)
        → ((more : List ℕ) → quoted_from Double (c ∷ bytes) false ≡ Some more → AreLetters (c ∷ bytes) more)
        → ((more : List ℕ) → quoted_from Double bytes false ≡ Some more → AreLetters bytes more) → AreLetters (b ∷ c ∷ bytes) name
    by_test (inl mark) other next last =
        let none : Some name ≡ None = sym is ∙ ap (λ (t : Bool). next_read (c ∷ bytes) (if t then None else Some (if b == 92 then ([], true) else (b ∷ [], false)))) mark in
        absurd cc
    by_test (inr isnt) (inr nor) next last =
        let read : then_read (b ∷ []) (quoted_from Double (c ∷ bytes) false) ≡ Some name =
        sym (ap (λ (t : Bool). next_read (c ∷ bytes) (if t then None else Some (if b == 92 then ([], true) else (b ∷ [], false)))) isnt
        ∙ ap (λ (t : Bool). next_read (c ∷ bytes) (Some (if t then ([], true) else (b ∷ [], false)))) nor)
        ∙ is in
        let parts = read_then (b ∷ []) name (quoted_from Double (c ∷ bytes) false) read in
        one_letter (Itself b) (c ∷ bytes) name parts.later (ne_from b 34 isnt, ne_from b 92 nor) parts.whole (next parts.later parts.read)
    by_test (inr isnt) (inl slash) next last = by_value (c == 34 || c == 92) refl
      where
        outer : then_read [] (next_read bytes (Some (if c == 34 || c == 92 then (c ∷ [], false) else (92 ∷ c ∷ [], false)))) ≡ Some name
        outer =
            sym (ap (λ (t : Bool). next_read (c ∷ bytes) (if t then None else Some (if b == 92 then ([], true) else (b ∷ [], false)))) isnt
            ∙ ap (λ (t : Bool). next_read (c ∷ bytes) (Some (if t then ([], true) else (b ∷ [], false)))) slash)
            ∙ is

        first : b ≡ 92
        first = eqb-true b 92 slash

        by_value : (t : Bool) → (c == 34 || c == 92) ≡ t → AreLetters (b ∷ c ∷ bytes) name
        by_value true own =
            let read = sym (ap (λ (t : Bool). then_read [] (next_read bytes (Some (if t then (c ∷ [], false) else (92 ∷ c ∷ [], false))))) own) ∙ outer in
            let both = read_then [] name (then_read (c ∷ []) (quoted_from Double bytes false)) read in
            let parts = read_then (c ∷ []) both.later (quoted_from Double bytes false) both.read in
            let says = ap (λ (t : Bool). (if t then c ∷ [] else 92 ∷ c ∷ []) ++ parts.later) own ∙ (parts.whole ∙ both.whole) in
            let P : ℕ → Type 0 = λ n. AreLetters (n ∷ c ∷ bytes) name in
            subst P (sym first) (one_letter (Escaped c) bytes name parts.later tt says (last parts.later parts.read))
        by_value false own =
            let read = sym (ap (λ (t : Bool). then_read [] (next_read bytes (Some (if t then (c ∷ [], false) else (92 ∷ c ∷ [], false))))) own) ∙ outer in
            let both = read_then [] name (then_read (92 ∷ c ∷ []) (quoted_from Double bytes false)) read in
            let parts = read_then (92 ∷ c ∷ []) both.later (quoted_from Double bytes false) both.read in
            let says = ap (λ (t : Bool). (if t then c ∷ [] else 92 ∷ c ∷ []) ++ parts.later) own ∙ (parts.whole ∙ both.whole) in
            let P : ℕ → Type 0 = λ n. AreLetters (n ∷ c ∷ bytes) name in
            subst P (sym first) (one_letter (Escaped c) bytes name parts.later tt says (last parts.later parts.read))

-- ---- what is written for a name

-- a quotation mark, bytes, and a mark
abbrev marked : Quote → List ℕ → List ℕ
marked quote inner = mark_of quote ∷ inner ++ mark_of quote ∷ []

between_found : (quote : Quote) (inner : List ℕ) → between quote (marked quote inner) ≡ Some inner
unfolding between
between_found quote inner =
    ap (option_and_then (before_ending (mark_of quote ∷ []))) (after_found (mark_of quote ∷ []) (inner ++ mark_of quote ∷ [])) ∙ ending_found (mark_of quote ∷ []) inner

between_none : (quote : Quote) (b : ℕ) (bytes : List ℕ) → b ≢ mark_of quote → between quote (b ∷ bytes) ≡ None
unfolding between
between_none quote b bytes isnt = ap (option_and_then (before_ending (mark_of quote ∷ []))) (no_label (mark_of quote ∷ []) (b ∷ bytes) (λ rest is. isnt cc))

between_is : (quote : Quote) (bytes inner : List ℕ) → between quote bytes ≡ Some inner → bytes ≡ marked quote inner
unfolding between
between_is quote bytes inner is = by_rest (after_label (mark_of quote ∷ []) bytes) refl is
  where
    by_rest : (after : Option (List ℕ)) → after_label (mark_of quote ∷ []) bytes ≡ after → option_and_then (before_ending (mark_of quote ∷ [])) after ≡ Some inner → bytes ≡ marked quote inner
    by_rest None at same = absurd cc
    by_rest (Some rest) at same = after_is (mark_of quote ∷ []) bytes rest at ∙ ap (λ (l : List ℕ). mark_of quote ∷ l) (ending_is (mark_of quote ∷ []) rest inner same)

-- which of the three it is
abbrev first_of_three : (single double plain : Option (List ℕ)) → Option (List ℕ)
first_of_three single double plain = option_map_or (quoted_name Single) single (option_map_or (quoted_name Double) double plain)

all_from : (bytes : List ℕ) → list_all is_plain_byte bytes ≡ true → All (λ (b : ℕ). IsTrue (is_plain_byte b)) bytes
all_from [] is = All-nil (λ (b : ℕ). IsTrue (is_plain_byte b))
all_from (b ∷ bytes) is =
    let parts = and_parts (is_plain_byte b) (list_all is_plain_byte bytes) is in
    All-cons (λ (x : ℕ). IsTrue (is_plain_byte x)) b bytes parts.0 (all_from bytes parts.1)

pub all_to : (bytes : List ℕ) → All (λ (b : ℕ). IsTrue (is_plain_byte b)) bytes → list_all is_plain_byte bytes ≡ true
all_to [] each = refl
all_to (b ∷ bytes) each =
    and_from (is_plain_byte b) (list_all is_plain_byte bytes) (All-head (λ (x : ℕ). IsTrue (is_plain_byte x)) b bytes each)
    (all_to bytes (All-tail (λ (x : ℕ). IsTrue (is_plain_byte x)) b bytes each))

-- no plain byte is a mark
not_plain : (b n : ℕ) → is_plain_byte n ≡ false → IsTrue (is_plain_byte b) → b ≢ n
not_plain b n isnt plain same = false≢true (sym isnt ∙ (ap is_plain_byte (sym same) ∙ plain))

single_not : is_plain_byte 39 ≡ false
unfolding is_plain_byte
single_not = refl

double_not : is_plain_byte 34 ≡ false
unfolding is_plain_byte
double_not = refl

plain_found : (written name : List ℕ) → IsPlain written name → name_spelled written ≡ Some name
unfolding name_spelled unquoted_name
plain_found [] name plain = absurd (omega (arith, plain.some))
plain_found (b ∷ written) name plain =
    let own : IsTrue (is_plain_byte b) = All-head (λ (x : ℕ). IsTrue (is_plain_byte x)) b written plain.bytes in
    let bytes : List ℕ = b ∷ written in
    let some : not (length bytes == 0) ≡ true = ap not (ne_eqb (length bytes) 0 (λ same. omega (arith, same))) in
    ap (λ (o : Option (List ℕ)). first_of_three o (between Double bytes) (unquoted_name bytes)) (between_none Single b written (not_plain b 39 single_not own))
    ∙ (ap (λ (o : Option (List ℕ)). first_of_three None o (unquoted_name bytes)) (between_none Double b written (not_plain b 34 double_not own))
    ∙ (ap (λ (t : Bool). if t then Some bytes else None) (and_from (not (length bytes == 0)) (list_all is_plain_byte bytes) some (all_to bytes plain.bytes))
    ∙ ap (λ (l : List ℕ). Some l) (sym plain.same)))

pub name_found : (written name : List ℕ) → SpellsName written name → name_spelled written ≡ Some name
unfolding name_spelled
name_found written name (inl is) =
    ap name_spelled is
    ∙ (ap (λ (o : Option (List ℕ)). first_of_three o (between Double (single_quoted name)) (unquoted_name (single_quoted name))) (between_found Single (flat_map single_byte name))
    ∙ single_found name)
name_found written name (inr (inl is)) =
    let inner : List ℕ = flat_map letter_text is.letters in
    let whole : List ℕ = marked Double inner in
    ap name_spelled is.text
    ∙ (ap (λ (o : Option (List ℕ)). first_of_three o (between Double whole) (unquoted_name whole)) (between_none Single 34 (inner ++ 34 ∷ []) (λ same. omega (arith, same)))
    ∙ (ap (λ (o : Option (List ℕ)). first_of_three None o (unquoted_name whole)) (between_found Double inner)
    ∙ (double_found is.letters is.each ∙ ap (λ (l : List ℕ). Some l) (sym is.says))))
name_found written name (inr (inr is)) = plain_found written name is

plain_is : (written name : List ℕ) → unquoted_name written ≡ Some name → IsPlain written name
unfolding unquoted_name
plain_is written name is = by_test (not (length written == 0) && list_all is_plain_byte written) refl is
  where
    by_test : (t : Bool) → (not (length written == 0) && list_all is_plain_byte written) ≡ t → (if t then Some written else None) ≡ Some name → IsPlain written name
    by_test false at same = absurd cc
    by_test true at same =
        let parts = and_parts (not (length written == 0)) (list_all is_plain_byte written) at in
        record { some = has_some (cases_Bool (length written == 0)) parts.0; bytes = all_from written parts.1; same = sym (same_Some _ _ same) }
      where
        has_some : ((length written == 0) ≡ true) ⊎ ((length written == 0) ≡ false) → not (length written == 0) ≡ true → 0 < length written
        has_some (inl none) some = absurd (false≢true (sym (ap not none) ∙ some))
        has_some (inr isnt) some = let ne : length written ≡ 0 → ⊥ = ne_from (length written) 0 isnt in omega (arith, ne)

pub name_is : (written name : List ℕ) → name_spelled written ≡ Some name → SpellsName written name
unfolding name_spelled
name_is written name is = by_marks (between Single written) refl (between Double written) refl is
  where
    by_marks : (single : Option (List ℕ)) → between Single written ≡ single → (double : Option (List ℕ)) → between Double written ≡ double
        → first_of_three single double (unquoted_name written) ≡ Some name → SpellsName written name
    by_marks (Some inner) one double other same =
        inl (between_is Single written inner one ∙ ap (λ (l : List ℕ). 39 ∷ l ++ 39 ∷ []) (single_is inner name same))
    by_marks None one (Some inner) other same =
        let letters = double_is inner name same in
        inr (inl (record {
          letters = letters.letters;
          each = letters.each;
          text = between_is Double written inner other ∙ ap (λ (l : List ℕ). 34 ∷ l ++ 34 ∷ []) letters.text;
          says = letters.says;
        }))
    by_marks None one None other same = inr (inr (plain_is written name same))
