-- Lines and their entries.
use Rattle.std.proofs.Common.{◌≡◌, ◌++◌, ◌∷◌, ◌∙◌, ◌⊎◌, ◌==◌, ◌||◌, ◌&&◌, not, ℕ, Bool, true, false, inl, inr, List, [], Option, Some, None, drop, length, take, refl, sym, ap, subst, arith, append_assoc}
use Rattle.std.specs.Prelude.{◌≢◌, codes, nat_le, is_some, option_map, option_and_then, if◌then◌else◌}
use Rattle.std.specs.Char.{is_digit}
use Rattle.std.specs.Option.{option_map_or, option_or}
use Rattle.std.specs.List.{flat_map, list_all}
use Rattle.std.proofs.Math.Seq.{drop-append_seam, take-append_seam}
use Rattle.std.proofs.lemmas.List.{append-nil, length-append}
use Rattle.std.proofs.lemmas.List.Folds.{list_all-append}
use Rattle.std.specs.Str.{bytes_eq}
use Rattle.std.specs.Str.Parse.{digits_value}
use Rattle.std.proofs.lemmas.Bool.{and_parts, cases_Bool, false≢true, ne_eqb}
use Rattle.std.proofs.lemmas.Option.{same_Some}
use Rattle.std.proofs.lemmas.List.Elements.{All-cons, All-nil}
use Rattle.std.proofs.lemmas.Slice.Eq.{bytes_eq-Decides}
use Rattle.text_lines.specs.Numbers.{is_numeral, number_of, numeral}
use Rattle.map_names.specs.Entries.{NamedFunction, after_label, after_truth, before_brace, before_ending, before_line_end, before_version, entry_said, field_in, id_in, is_address, is_entry, is_event, is_exit, is_kind, is_plain_byte, is_truth, name_said, name_spelled, no_name, past_field, past_fields}
use Rattle.map_names.specs.Spelling.{HasName, HasNoName, IsBrace, IsEnding, IsVersion, SpellsEntry, SpellsName, letter_text, single_byte}
use Rattle.map_names.proofs.LineParts.{NoComma, after_found, after_is, ending_found, ending_is, field_found, field_is, no_ending, no_label, past_found, past_is}
use Rattle.map_names.proofs.SpelledNames.{all_to, name_found, name_is}

-- ---- values without commas

no_commas : (value : List ℕ) → list_all (λ (b : ℕ). not (b == 44)) value ≡ true → NoComma value
no_commas [] is = All-nil (λ (b : ℕ). (b == 44) ≡ false)
no_commas (b ∷ value) is =
    let parts = and_parts (not (b == 44)) (list_all (λ (x : ℕ). not (x == 44)) value) is in
    All-cons (λ (x : ℕ). (x == 44) ≡ false) b value (by_test (b == 44) refl parts.0) (no_commas value parts.1)
  where
    by_test : (t : Bool) → (b == 44) ≡ t → not (b == 44) ≡ true → (b == 44) ≡ false
    by_test true at is = absurd (false≢true (sym (ap not at) ∙ is))
    by_test false at is = at

-- no digit is a comma
digits_no_comma : (radix : ℕ) (word : List ℕ) → is_digit 44 radix ≡ false → list_all (λ (b : ℕ). is_digit b radix) word ≡ true → NoComma word
digits_no_comma radix [] none is = All-nil (λ (b : ℕ). (b == 44) ≡ false)
digits_no_comma radix (b ∷ word) none is =
    let parts = and_parts (is_digit b radix) (list_all (λ (x : ℕ). is_digit x radix) word) is in
    All-cons (λ (x : ℕ). (x == 44) ≡ false) b word
    (ne_eqb b 44 (λ same. false≢true (sym none ∙ (ap (λ (x : ℕ). is_digit x radix) (sym same) ∙ parts.0)))) (digits_no_comma radix word none parts.1)

decimal_none : is_digit 44 10 ≡ false
decimal_none = refl

hexadecimal_none : is_digit 44 16 ≡ false
hexadecimal_none = refl

-- a word that is a numeral
is_some_numeral : (radix most : ℕ) (word : List ℕ) (n : ℕ)
    → (if is_numeral radix word && nat_le (digits_value radix word) most then Some (digits_value radix word) else None) ≡ Some n → list_all (λ (b : ℕ). is_digit b radix) word ≡ true
is_some_numeral radix most word n is = by_test (cases_Bool (is_numeral radix word && nat_le (digits_value radix word) most))
  where
    by_test : ((is_numeral radix word && nat_le (digits_value radix word) most) ≡ true) ⊎ ((is_numeral radix word && nat_le (digits_value radix word) most) ≡ false)
        → list_all (λ (b : ℕ). is_digit b radix) word ≡ true
    by_test (inl at) =
        (and_parts (not (length word == 0)) (list_all (λ (b : ℕ). is_digit b radix) word) (and_parts (is_numeral radix word) (nat_le (digits_value radix word) most) at).0).1
    by_test (inr at) =
        let none : Some n ≡ None = sym is ∙ ap (λ (t : Bool). if t then Some (digits_value radix word) else None) at in
        absurd cc

id_no_comma : (word : List ℕ) (n : ℕ) → number_of word ≡ Some n → NoComma word
id_no_comma word n is = digits_no_comma 10 word decimal_none (is_some_numeral 10 4294967295 word n is)

address_no_comma : (word : List ℕ) → is_address word ≡ true → NoComma word
unfolding is_address
address_no_comma word is = by_rest (after_label (codes "0x") word) refl is
  where
    by_rest : (rest : Option (List ℕ)) → after_label (codes "0x") word ≡ rest → option_map_or (λ (digits : List ℕ). is_some (numeral 16 digits)) rest false ≡ true → NoComma word
    by_rest None at same = absurd (false≢true same)
    by_rest (Some digits) at same = by_number (numeral 16 digits) refl same
      where
        by_number : (n : Option ℕ) → numeral 16 digits ≡ n → is_some n ≡ true → NoComma word
        by_number None now is = absurd (false≢true is)
        by_number (Some n) now is =
            let P : List ℕ → Type 0 = NoComma in
            subst P (sym (after_is (codes "0x") word digits at))
            (All-cons (λ (b : ℕ). (b == 44) ≡ false) 48 (120 ∷ digits) refl
            (All-cons (λ (b : ℕ). (b == 44) ≡ false) 120 digits refl (digits_no_comma 16 digits hexadecimal_none (is_some_numeral 16 18446744073709551615 digits n now))))

-- a word that is one of some words without commas
word_no_comma : (word text : List ℕ) → bytes_eq word text ≡ true → list_all (λ (b : ℕ). not (b == 44)) text ≡ true → NoComma word
word_no_comma word text is none = let P : List ℕ → Type 0 = NoComma in subst P (sym ((bytes_eq-Decides word text).0 is)) (no_commas text none)

either_word : (a b : Bool) → {P : Type 0} → (a || b) ≡ true → (a ≡ true → P) → (b ≡ true → P) → P
either_word true b is one other = one refl
either_word false b is one other = other is

kind_no_comma : (word : List ℕ) → is_kind word ≡ true → NoComma word
unfolding is_kind is_entry is_exit is_event
kind_no_comma word is =
    either_word (is_entry word || is_exit word) (is_event word) is
    (λ either. either_word (is_entry word) (is_exit word) either
    (λ entry. either_word (bytes_eq word (codes "function-enter") || bytes_eq word (codes "function-enter-arg")) (bytes_eq word (codes "log-args-enter")) entry
    (λ two. either_word (bytes_eq word (codes "function-enter")) (bytes_eq word (codes "function-enter-arg")) two
    (λ one. word_no_comma word (codes "function-enter") one refl) (λ one. word_no_comma word (codes "function-enter-arg") one refl))
    (λ one. word_no_comma word (codes "log-args-enter") one refl))
    (λ exit. either_word (bytes_eq word (codes "function-exit")) (bytes_eq word (codes "tail-exit")) exit
    (λ one. word_no_comma word (codes "function-exit") one refl) (λ one. word_no_comma word (codes "tail-exit") one refl)))
    (λ event. either_word (bytes_eq word (codes "custom-event")) (bytes_eq word (codes "typed-event")) event
    (λ one. word_no_comma word (codes "custom-event") one refl) (λ one. word_no_comma word (codes "typed-event") one refl))

-- what follows the word of a truth, and what stands before it
truth_found : (always rest : List ℕ) → is_truth always ≡ true → after_truth (always ++ rest) ≡ Some rest
unfolding is_truth after_truth
truth_found always rest is =
    either_word (bytes_eq always (codes "true")) (bytes_eq always (codes "false")) is
    (λ one. ap (λ (word : List ℕ). option_or (after_label (codes "true") (word ++ rest)) (after_label (codes "false") (word ++ rest))) ((bytes_eq-Decides always (codes "true")).0 one)
    ∙ ap (λ (o : Option (List ℕ)). option_or o (after_label (codes "false") (codes "true" ++ rest))) (after_found (codes "true") rest))
    (λ other. ap (λ (word : List ℕ). option_or (after_label (codes "true") (word ++ rest)) (after_label (codes "false") (word ++ rest))) ((bytes_eq-Decides always (codes "false")).0 other)
    ∙ (ap (λ (o : Option (List ℕ)). option_or o (after_label (codes "false") (codes "false" ++ rest))) (no_label (codes "true") (codes "false" ++ rest) different)
    ∙ after_found (codes "false") rest))
  where
    different : (front : List ℕ) → codes "false" ++ rest ≡ codes "true" ++ front → ⊥
    different front same = let first : ◌≡◌ {A = ℕ} 102 116 = cc in omega (arith, first)

-- a word of a truth, and what follows it
record IsTruly (bytes rest : List ℕ) : Type 0 where
  always : List ℕ
  passes : is_truth always ≡ true
  whole : bytes ≡ always ++ rest

is_true_word : is_truth (codes "true") ≡ true
unfolding is_truth
is_true_word = ap (λ (t : Bool). t || bytes_eq (codes "true") (codes "false")) ((bytes_eq-Decides (codes "true") (codes "true")).1 refl)

or_true : (a : Bool) → (a || true) ≡ true
or_true true = refl
or_true false = refl

is_false_word : is_truth (codes "false") ≡ true
unfolding is_truth
is_false_word =
    ap (λ (t : Bool). bytes_eq (codes "false") (codes "true") || t) ((bytes_eq-Decides (codes "false") (codes "false")).1 refl) ∙ or_true (bytes_eq (codes "false") (codes "true"))

truth_is : (bytes rest : List ℕ) → after_truth bytes ≡ Some rest → IsTruly bytes rest
unfolding after_truth
truth_is bytes rest is = by_found (after_label (codes "true") bytes) refl is
  where
    by_found : (one : Option (List ℕ)) → after_label (codes "true") bytes ≡ one → option_or one (after_label (codes "false") bytes) ≡ Some rest → IsTruly bytes rest
    by_found (Some front) at same = record { always = codes "true"; passes = is_true_word; whole = after_is (codes "true") bytes rest (at ∙ same) }
    by_found None at same = record { always = codes "false"; passes = is_false_word; whole = after_is (codes "false") bytes rest same }

-- ---- steps that may fail

split_then : {A B : Type 0} (f : A → Option B) (o : Option A) (y : B) → option_and_then f o ≡ Some y → (x : A) × (o ≡ Some x) × (f x ≡ Some y)
split_then f None y is = absurd cc
split_then f (Some x) y is = (x, refl, is)

split_map : {A B : Type 0} (f : A → B) (o : Option A) (y : B) → option_map f o ≡ Some y → (x : A) × (o ≡ Some x) × (f x ≡ y)
split_map f None y is = absurd cc
split_map f (Some x) y is = (x, refl, same_Some _ _ is)

-- ---- the end of a line

-- equal texts with endings of one length have equal endings, and equal fronts
same_ends : (a b c d : List ℕ) → a ++ c ≡ b ++ d → length c ≡ length d → c ≡ d
same_ends a b c d is same =
    let sizes = ap (λ (l : List ℕ). length l) is in
    let one = length-append a c in
    let other = length-append b d in
    let fronts : length a ≡ length b = omega (arith, sizes, one, other, same) in
    sym (drop-append_seam a c) ∙ (ap (drop (length a)) is ∙ (ap (λ (n : ℕ). drop n (b ++ d)) fronts ∙ drop-append_seam b d))

same_fronts : (a b c : List ℕ) → a ++ c ≡ b ++ c → a ≡ b
same_fronts a b c is =
    let sizes = ap (λ (l : List ℕ). length l) is in
    let one = length-append a c in
    let other = length-append b c in
    let fronts : length a ≡ length b = omega (arith, sizes, one, other) in
    sym (take-append_seam a c) ∙ (ap (take (length a)) is ∙ (ap (λ (n : ℕ). take n (b ++ c)) fronts ∙ take-append_seam b c))

-- a version at the end, without the brace
abbrev version_text : ℕ → List ℕ
version_text n = codes ", version: " ++ n ∷ []

-- no name has a colon without marks around it
colon_not : (n : ℕ) → list_all is_plain_byte (version_text n) ≡ false
unfolding is_plain_byte
colon_not n = refl

both_true : (a b : Bool) → (a && b) ≡ true → b ≡ true
both_true a b is = (and_parts a b is).1

-- what is written for a name doesn't end with a version
not_versioned : (written name front : List ℕ) (n : ℕ) → SpellsName written name → n ≢ 39 → n ≢ 34 → written ≡ front ++ version_text n → ⊥
not_versioned written name front n (inl is) single double ends =
    let same : 39 ∷ [] ≡ n ∷ [] =
    same_ends (39 ∷ flat_map single_byte name) (front ++ codes ", version: ") (39 ∷ []) (n ∷ []) (sym is ∙ (ends ∙ sym (append_assoc front (codes ", version: ") (n ∷ [])))) refl in
    single (let one : 39 ≡ n = cc in sym one)
not_versioned written name front n (inr (inl is)) single double ends =
    let same : 34 ∷ [] ≡ n ∷ [] =
    same_ends (34 ∷ flat_map letter_text is.letters) (front ++ codes ", version: ") (34 ∷ []) (n ∷ []) (sym is.text ∙ (ends ∙ sym (append_assoc front (codes ", version: ") (n ∷ [])))) refl in
    double (let one : 34 ≡ n = cc in sym one)
not_versioned written name front n (inr (inr is)) single double ends =
    let whole : list_all is_plain_byte (front ++ version_text n) ≡ true = ap (list_all is_plain_byte) (sym ends) ∙ all_to written is.bytes in
    let parts : list_all is_plain_byte (version_text n) ≡ true =
    both_true (list_all is_plain_byte front) (list_all is_plain_byte (version_text n)) (sym (list_all-append is_plain_byte front (version_text n)) ∙ whole) in
    false≢true (sym (colon_not n) ∙ parts)

-- bytes that don't end with a version
abbrev NoVersionEnd : List ℕ → Type 0
NoVersionEnd written = (n : ℕ) → n ≢ 39 → n ≢ 34 → (front : List ℕ) → written ≡ front ++ version_text n → ⊥

name_not_versioned : (written name : List ℕ) → SpellsName written name → NoVersionEnd written
name_not_versioned written name spells n single double front ends = not_versioned written name front n spells single double ends

nothing_not_versioned : NoVersionEnd []
nothing_not_versioned n single double front ends =
    let sizes = ap (λ (l : List ℕ). length l) ends in
    let one = length-append front (version_text n) in
    omega (arith, sizes, one)

-- no bytes end with two versions
other_version : (written front : List ℕ) (m n : ℕ) → m ≢ n → written ++ version_text m ≡ front ++ version_text n → ⊥
other_version written front m n isnt is =
    let versions : version_text m ≡ version_text n = same_ends written front (version_text m) (version_text n) is refl in
    let last : m ∷ [] ≡ n ∷ [] = same_ends (codes ", version: ") (codes ", version: ") (m ∷ []) (n ∷ []) versions refl in
    isnt cc

no_version : (written : List ℕ) (n : ℕ) → NoVersionEnd written → n ≢ 39 → n ≢ 34 → before_ending (version_text n) written ≡ None
no_version written n ends single double = no_ending (version_text n) written (λ front is. ends n single double front is)

-- the versions in turn
abbrev in_turn : (two one zeroth none : Option (List ℕ)) → Option (List ℕ)
in_turn two one zeroth none = option_or two (option_or one (option_or zeroth none))

version_found : (written version : List ℕ) → NoVersionEnd written → IsVersion version → before_version (written ++ version) ≡ Some written
unfolding before_version
version_found written version ends (inl is) =
    ap (λ (l : List ℕ). before_version (written ++ l)) is
    ∙ (ap before_version (append-nil written)
    ∙ (ap (λ (o : Option (List ℕ)). in_turn o (before_ending (codes ", version: 1") written) (before_ending (codes ", version: 0") written) (Some written))
    (no_version written 50 ends (λ same. omega (arith, same)) (λ same. omega (arith, same)))
    ∙ (ap (λ (o : Option (List ℕ)). in_turn None o (before_ending (codes ", version: 0") written) (Some written))
    (no_version written 49 ends (λ same. omega (arith, same)) (λ same. omega (arith, same)))
    ∙ ap (λ (o : Option (List ℕ)). in_turn None None o (Some written))
    (no_version written 48 ends (λ same. omega (arith, same)) (λ same. omega (arith, same))))))
version_found written version ends (inr (inl is)) =
    let text : List ℕ = written ++ codes ", version: 0" in
    ap (λ (l : List ℕ). before_version (written ++ l)) is
    ∙ (ap (λ (o : Option (List ℕ)). in_turn o (before_ending (codes ", version: 1") text) (before_ending (codes ", version: 0") text) (Some text))
    (no_ending (codes ", version: 2") text (λ front same. other_version written front 48 50 (λ e. omega (arith, e)) same))
    ∙ (ap (λ (o : Option (List ℕ)). in_turn None o (before_ending (codes ", version: 0") text) (Some text))
    (no_ending (codes ", version: 1") text (λ front same. other_version written front 48 49 (λ e. omega (arith, e)) same))
    ∙ ap (λ (o : Option (List ℕ)). in_turn None None o (Some text)) (ending_found (codes ", version: 0") written)))
version_found written version ends (inr (inr (inl is))) =
    let text : List ℕ = written ++ codes ", version: 1" in
    ap (λ (l : List ℕ). before_version (written ++ l)) is
    ∙ (ap (λ (o : Option (List ℕ)). in_turn o (before_ending (codes ", version: 1") text) (before_ending (codes ", version: 0") text) (Some text))
    (no_ending (codes ", version: 2") text (λ front same. other_version written front 49 50 (λ e. omega (arith, e)) same))
    ∙ ap (λ (o : Option (List ℕ)). in_turn None o (before_ending (codes ", version: 0") text) (Some text)) (ending_found (codes ", version: 1") written))
version_found written version ends (inr (inr (inr is))) =
    let text : List ℕ = written ++ codes ", version: 2" in
    ap (λ (l : List ℕ). before_version (written ++ l)) is
    ∙ ap (λ (o : Option (List ℕ)). in_turn o (before_ending (codes ", version: 1") text) (before_ending (codes ", version: 0") text) (Some text))
    (ending_found (codes ", version: 2") written)

-- the last byte of bytes
ends_with : (front other : List ℕ) (a b : ℕ) → front ++ a ∷ [] ≡ other ++ b ∷ [] → a ≡ b
ends_with front other a b is = let same : a ∷ [] ≡ b ∷ [] = same_ends front other (a ∷ []) (b ∷ []) is refl in cc

-- bytes before a version don't end with a blank, unless they did before it
no_blank : (written version front : List ℕ) → IsVersion version → (version ≡ [] → before_ending (codes " ") written ≡ None) → written ++ version ≡ front ++ codes " " → ⊥
no_blank written version front (inl is) direct same =
    let ends : written ≡ front ++ codes " " = sym (append-nil written) ∙ (ap (λ (l : List ℕ). written ++ l) (sym is) ∙ same) in
    let none : Some front ≡ None = sym (ap (before_ending (codes " ")) ends ∙ ending_found (codes " ") front) ∙ direct is in
    cc
no_blank written version front (inr (inl is)) direct same =
    let ends : (written ++ codes ", version: ") ++ 48 ∷ [] ≡ front ++ 32 ∷ [] =
    append_assoc written (codes ", version: ") (48 ∷ []) ∙ (ap (λ (l : List ℕ). written ++ l) (sym is) ∙ same) in
    let last = ends_with (written ++ codes ", version: ") front 48 32 ends in omega (arith, last)
no_blank written version front (inr (inr (inl is))) direct same =
    let ends : (written ++ codes ", version: ") ++ 49 ∷ [] ≡ front ++ 32 ∷ [] =
    append_assoc written (codes ", version: ") (49 ∷ []) ∙ (ap (λ (l : List ℕ). written ++ l) (sym is) ∙ same) in
    let last = ends_with (written ++ codes ", version: ") front 49 32 ends in omega (arith, last)
no_blank written version front (inr (inr (inr is))) direct same =
    let ends : (written ++ codes ", version: ") ++ 50 ∷ [] ≡ front ++ 32 ∷ [] =
    append_assoc written (codes ", version: ") (50 ∷ []) ∙ (ap (λ (l : List ℕ). written ++ l) (sym is) ∙ same) in
    let last = ends_with (written ++ codes ", version: ") front 50 32 ends in omega (arith, last)

brace_found : (part brace : List ℕ) → IsBrace brace → (brace ≡ codes "}" → (front : List ℕ) → part ≡ front ++ codes " " → ⊥) → before_brace (part ++ brace) ≡ Some part
unfolding before_brace
brace_found part brace (inl is) direct =
    ap (λ (l : List ℕ). before_brace (part ++ l)) is
    ∙ ap (λ (o : Option (List ℕ)). option_or o (before_ending (codes "}") (part ++ codes " }"))) (ending_found (codes " }") part)
brace_found part brace (inr is) direct =
    ap (λ (l : List ℕ). before_brace (part ++ l)) is
    ∙ (ap (λ (o : Option (List ℕ)). option_or o (before_ending (codes "}") (part ++ codes "}")))
    (no_ending (codes " }") (part ++ codes "}")
    (λ front same. direct is front (same_fronts part (front ++ codes " ") (codes "}") (same ∙ sym (append_assoc front (codes " ") (codes "}"))))))
    ∙ ending_found (codes "}") part)

end_found : (written ending : List ℕ) → NoVersionEnd written → IsEnding ending → (ending ≡ codes "}" → before_ending (codes " ") written ≡ None) → before_line_end (written ++ ending) ≡ Some written
unfolding before_line_end
end_found written ending ends is direct =
    let part : List ℕ = written ++ is.version in
    let whole : written ++ ending ≡ part ++ is.brace = ap (λ (l : List ℕ). written ++ l) is.joined ∙ sym (append_assoc written is.version is.brace) in
    let ends_direct : is.brace ≡ codes "}" → (front : List ℕ) → part ≡ front ++ codes " " → ⊥ =
    λ bare front same. no_blank written is.version front is.version_is
    (λ none. direct (is.joined ∙ (ap (λ (l : List ℕ). l ++ is.brace) none ∙ bare))) same in
    ap (λ (l : List ℕ). option_and_then before_version (before_brace l)) whole
    ∙ (ap (option_and_then before_version) (brace_found part is.brace is.brace_is ends_direct)
    ∙ version_found written is.version ends is.version_is)

-- what was found before an ending
record IsEnded (bytes written : List ℕ) : Type 0 where
  ending : List ℕ
  is_ending : IsEnding ending
  whole : bytes ≡ written ++ ending
  direct : ending ≡ codes "}" → before_ending (codes " ") written ≡ None

-- a version that was found
record IsVersioned (part written : List ℕ) : Type 0 where
  version : List ℕ
  is_version : IsVersion version
  whole : part ≡ written ++ version

version_is : (part written : List ℕ) → before_version part ≡ Some written → IsVersioned part written
unfolding before_version
version_is part written is =
    by_found (before_ending (codes ", version: 2") part) refl (before_ending (codes ", version: 1") part) refl (before_ending (codes ", version: 0") part) refl is
  where
    by_found : (two : Option (List ℕ)) → before_ending (codes ", version: 2") part ≡ two → (one : Option (List ℕ)) → before_ending (codes ", version: 1") part ≡ one
        → (zeroth : Option (List ℕ)) → before_ending (codes ", version: 0") part ≡ zeroth → in_turn two one zeroth (Some part) ≡ Some written → IsVersioned part written
    by_found (Some front) p one q zeroth r same =
        record { version = codes ", version: 2"; is_version = inr (inr (inr refl)); whole = ending_is (codes ", version: 2") part written (p ∙ same) }
    by_found None p (Some front) q zeroth r same =
        record { version = codes ", version: 1"; is_version = inr (inr (inl refl)); whole = ending_is (codes ", version: 1") part written (q ∙ same) }
    by_found None p None q (Some front) r same =
        record { version = codes ", version: 0"; is_version = inr (inl refl); whole = ending_is (codes ", version: 0") part written (r ∙ same) }
    by_found None p None q None r same = record { version = []; is_version = inl refl; whole = same_Some _ _ same ∙ sym (append-nil written) }

-- a brace that was found
record IsBraced (bytes part : List ℕ) : Type 0 where
  brace : List ℕ
  is_brace : IsBrace brace
  whole : bytes ≡ part ++ brace
  direct : brace ≡ codes "}" → before_ending (codes " }") bytes ≡ None

brace_is : (bytes part : List ℕ) → before_brace bytes ≡ Some part → IsBraced bytes part
unfolding before_brace
brace_is bytes part is = by_found (before_ending (codes " }") bytes) refl is
  where
    by_found : (found : Option (List ℕ)) → before_ending (codes " }") bytes ≡ found → option_or found (before_ending (codes "}") bytes) ≡ Some part → IsBraced bytes part
    by_found (Some front) at same = record {
      brace = codes " }";
      is_brace = inl refl;
      whole = ending_is (codes " }") bytes part (at ∙ same);
      direct = λ bare. absurd (let sizes = ap (λ (l : List ℕ). length l) bare in omega (arith, sizes));
    }
    by_found None at same = record { brace = codes "}"; is_brace = inr refl; whole = ending_is (codes "}") bytes part same; direct = λ bare. at }

-- a version and a brace are a bare brace only if there is no version
bare_ending : (version brace : List ℕ) → IsVersion version → IsBrace brace → version ++ brace ≡ codes "}" → (version ≡ []) × (brace ≡ codes "}")
bare_ending version brace (inl is) braced bare = (is, sym (ap (λ (l : List ℕ). l ++ brace) is) ∙ bare)
bare_ending version brace (inr (inl is)) braced bare =
    let sizes = ap (λ (l : List ℕ). length l) (sym (ap (λ (l : List ℕ). l ++ brace) is) ∙ bare) in absurd (omega (arith, sizes))
bare_ending version brace (inr (inr (inl is))) braced bare =
    let sizes = ap (λ (l : List ℕ). length l) (sym (ap (λ (l : List ℕ). l ++ brace) is) ∙ bare) in absurd (omega (arith, sizes))
bare_ending version brace (inr (inr (inr is))) braced bare =
    let sizes = ap (λ (l : List ℕ). length l) (sym (ap (λ (l : List ℕ). l ++ brace) is) ∙ bare) in absurd (omega (arith, sizes))

end_is : (bytes written : List ℕ) → before_line_end bytes ≡ Some written → IsEnded bytes written
unfolding before_line_end
end_is bytes written is =
    let braced = split_then before_version (before_brace bytes) written is in
    let brace = brace_is bytes braced.0 braced.1 in
    let version = version_is braced.0 written braced.2 in
    let whole : bytes ≡ written ++ (version.version ++ brace.brace) =
    brace.whole ∙ (ap (λ (l : List ℕ). l ++ brace.brace) version.whole ∙ append_assoc written version.version brace.brace) in
    record {
      ending = version.version ++ brace.brace;
      is_ending = record { version = version.version; brace = brace.brace; version_is = version.is_version; brace_is = brace.is_brace; joined = refl };
      whole = whole;
      direct = λ bare.
          let bares = bare_ending version.version brace.brace version.is_version brace.is_brace bare in
          no_ending (codes " ") written (λ front ends.
          let blank : bytes ≡ front ++ codes " }" = whole ∙ (ap (λ (l : List ℕ). written ++ l) bare ∙ (ap (λ (l : List ℕ). l ++ codes "}") ends ∙ append_assoc front (codes " ") (codes "}"))) in
          let none : Some front ≡ None = sym (ap (before_ending (codes " }")) blank ∙ ending_found (codes " }") front) ∙ brace.direct bares.1 in
          absurd cc);
    }

-- ---- whole lines

-- the pieces of a line, one by one
pub joined_so : (a b c d e f g h i j k l : List ℕ)
    → a ++ b ++ c ++ d ++ e ++ f ++ g ++ h ++ i ++ j ++ k ++ l ≡ a ++ (b ++ (c ++ (d ++ (e ++ (f ++ (g ++ (h ++ (i ++ (j ++ (k ++ l))))))))))
joined_so a b c d e f g h i j k l = simp append_assoc

-- what follows the fields before the name
abbrev at_always : Option (List ℕ) → Option (List ℕ)
at_always o = option_and_then after_truth (option_and_then (after_label (codes " always-instrument: ")) o)

abbrev at_kind : Option (List ℕ) → Option (List ℕ)
at_kind o = option_and_then (past_field (codes " kind: ") is_kind) o

abbrev at_function : Option (List ℕ) → Option (List ℕ)
at_function o = option_and_then (past_field (codes " function: ") is_address) o

-- the entry of a line whose id and fields were read
abbrev entry_from : ℕ × List ℕ → Option NamedFunction
entry_from start = option_map (λ (name : List ℕ). let entry : NamedFunction = record { id = start.0; name = name } in entry) (option_and_then name_said (past_fields start.1))

-- what follows the id: the other pieces
abbrev pub after_kind : {line : List ℕ} {entry : NamedFunction} → SpellsEntry line entry → List ℕ
after_kind is = codes " always-instrument: " ++ (is.always ++ (is.named ++ is.ending))

abbrev pub after_function : {line : List ℕ} {entry : NamedFunction} → SpellsEntry line entry → List ℕ
after_function is = codes " kind: " ++ (is.kind ++ 44 ∷ after_kind is)

abbrev pub after_address : {line : List ℕ} {entry : NamedFunction} → SpellsEntry line entry → List ℕ
after_address is = codes " function: " ++ (is.function ++ 44 ∷ after_function is)

abbrev pub after_id : {line : List ℕ} {entry : NamedFunction} → SpellsEntry line entry → List ℕ
after_id is = codes " address: " ++ (is.address ++ 44 ∷ after_address is)

pub whole_line : (line : List ℕ) (entry : NamedFunction) (is : SpellsEntry line entry) → line ≡ codes "- { id: " ++ (is.id ++ 44 ∷ after_id is)
whole_line line entry is =
    is.joined
    ∙ joined_so (codes "- { id: ") is.id (codes ", address: ") is.address (codes ", function: ") is.function (codes ", kind: ") is.kind (codes ", always-instrument: ") is.always
    is.named is.ending

id_read : (line : List ℕ) (entry : NamedFunction) (is : SpellsEntry line entry) → id_in (codes "- { id: " ++ (is.id ++ 44 ∷ after_id is)) ≡ Some (entry.id, after_id is)
unfolding id_in
id_read line entry is =
    ap (option_and_then (λ (field : List ℕ × List ℕ). option_map {U = ℕ × List ℕ} (λ (id : ℕ). (id, field.1)) (number_of field.0)))
    (field_found (codes "- { id: ") is.id (after_id is) (id_no_comma is.id entry.id is.id_is))
    ∙ ap (option_map {U = ℕ × List ℕ} (λ (id : ℕ). (id, after_id is))) is.id_is

fields_read : (line : List ℕ) (entry : NamedFunction) (is : SpellsEntry line entry) → past_fields (after_id is) ≡ Some (is.named ++ is.ending)
unfolding past_fields
fields_read line entry is =
    ap (λ (o : Option (List ℕ)). at_always (at_kind (at_function o)))
    (past_found (codes " address: ") is_address is.address (after_address is) (address_no_comma is.address is.address_is) is.address_is)
    ∙ (ap (λ (o : Option (List ℕ)). at_always (at_kind o))
    (past_found (codes " function: ") is_address is.function (after_function is) (address_no_comma is.function is.function_is) is.function_is)
    ∙ (ap (λ (o : Option (List ℕ)). at_always o) (past_found (codes " kind: ") is_kind is.kind (after_kind is) (kind_no_comma is.kind is.kind_is) is.kind_is)
    ∙ (ap (option_and_then after_truth) (after_found (codes " always-instrument: ") (is.always ++ (is.named ++ is.ending)))
    ∙ truth_found is.always (is.named ++ is.ending) is.always_is)))

-- the end of a line begins no name
end_unlabelled : (ending rest : List ℕ) → IsEnding ending → ending ≡ codes ", function-name: " ++ rest → ⊥
end_unlabelled ending rest is same = by_version is.version is.version_is (sym is.joined ∙ same)
  where
    by_version : (version : List ℕ) → IsVersion version → version ++ is.brace ≡ codes ", function-name: " ++ rest → ⊥
    by_version version (inl none) at = by_brace is.brace_is (sym (ap (λ (l : List ℕ). l ++ is.brace) none) ∙ at)
      where
        by_brace : IsBrace is.brace → is.brace ≡ codes ", function-name: " ++ rest → ⊥
        by_brace (inl braced) now = let first : codes " }" ≡ codes ", function-name: " ++ rest = sym braced ∙ now in let bytes : ◌≡◌ {A = ℕ} 32 44 = cc in omega (arith, bytes)
        by_brace (inr braced) now = let first : codes "}" ≡ codes ", function-name: " ++ rest = sym braced ∙ now in let bytes : ◌≡◌ {A = ℕ} 125 44 = cc in omega (arith, bytes)
    by_version version (inr (inl one)) at =
        let first : codes ", version: 0" ++ is.brace ≡ codes ", function-name: " ++ rest = sym (ap (λ (l : List ℕ). l ++ is.brace) one) ∙ at in
        let bytes : ◌≡◌ {A = ℕ} 118 102 = cc in omega (arith, bytes)
    by_version version (inr (inr (inl one))) at =
        let first : codes ", version: 1" ++ is.brace ≡ codes ", function-name: " ++ rest = sym (ap (λ (l : List ℕ). l ++ is.brace) one) ∙ at in
        let bytes : ◌≡◌ {A = ℕ} 118 102 = cc in omega (arith, bytes)
    by_version version (inr (inr (inr one))) at =
        let first : codes ", version: 2" ++ is.brace ≡ codes ", function-name: " ++ rest = sym (ap (λ (l : List ℕ). l ++ is.brace) one) ∙ at in
        let bytes : ◌≡◌ {A = ℕ} 118 102 = cc in omega (arith, bytes)

-- what is said of a name behind its label, or at the end of a line
abbrev name_by : Option (List ℕ) → Option (List ℕ) → Option (List ℕ)
name_by labelled end = option_map_or (λ (written : List ℕ). option_and_then name_spelled (before_line_end written)) labelled (option_and_then no_name end)

name_read : (named ending name : List ℕ) → IsEnding ending → HasName named ending name ⊎ HasNoName named name → name_said (named ++ ending) ≡ Some name
unfolding name_said no_name
name_read named ending name ends (inl has) =
    let whole : named ++ ending ≡ codes ", function-name: " ++ (has.written ++ ending) =
    ap (λ (l : List ℕ). l ++ ending) has.labelled ∙ append_assoc (codes ", function-name: ") has.written ending in
    ap (λ (l : List ℕ). name_by (after_label (codes ", function-name: ") l) (before_line_end (named ++ ending))) whole
    ∙ (ap (λ (o : Option (List ℕ)). name_by o (before_line_end (named ++ ending))) (after_found (codes ", function-name: ") (has.written ++ ending))
    ∙ (ap (option_and_then name_spelled) (end_found has.written ending (name_not_versioned has.written name has.spelled) ends has.direct)
    ∙ name_found has.written name has.spelled))
name_read named ending name ends (inr hasnt) =
    ap (λ (l : List ℕ). name_said (l ++ ending)) hasnt.0
    ∙ (ap (λ (o : Option (List ℕ)). name_by o (before_line_end ending)) (no_label (codes ", function-name: ") ending (λ rest same. end_unlabelled ending rest ends same))
    ∙ (ap (option_and_then no_name) (end_found [] ending nothing_not_versioned ends (λ bare. no_ending (codes " ") [] (λ front same. nothing_ends front same)))
    ∙ ap (λ (l : List ℕ). Some l) (sym hasnt.1)))
  where
    nothing_ends : (front : List ℕ) → [] ≡ front ++ codes " " → ⊥
    nothing_ends front same =
        let sizes = ap (λ (l : List ℕ). length l) same in
        let one = length-append front (codes " ") in
        omega (arith, sizes, one)

pub entry_found : (line : List ℕ) (entry : NamedFunction) → SpellsEntry line entry → entry_said line ≡ Some entry
unfolding entry_said
entry_found line entry is =
    ap entry_said (whole_line line entry is)
    ∙ (ap (option_and_then entry_from) (id_read line entry is)
    ∙ (ap (λ (o : Option (List ℕ)). option_map (λ (name : List ℕ). let made : NamedFunction = record { id = entry.id; name = name } in made) (option_and_then name_said o)) (fields_read line entry is)
    ∙ ap (option_map (λ (name : List ℕ). let made : NamedFunction = record { id = entry.id; name = name } in made)) (name_read is.named is.ending entry.name is.ending_is is.name_is)))

-- ---- and what a line with an entry is

-- the end of a line, with the name before it
record IsNamed (rest name : List ℕ) : Type 0 where
  named : List ℕ
  ending : List ℕ
  is_ending : IsEnding ending
  is_name : HasName named ending name ⊎ HasNoName named name
  whole : rest ≡ named ++ ending

-- nothing is left
empty_named : (part name : List ℕ) → no_name part ≡ Some name → HasNoName part name
unfolding no_name
empty_named [] name is = (refl, sym (same_Some _ _ is))
empty_named (b ∷ part) name is =
    let some : (length (b ∷ part) == 0) ≡ false = ne_eqb (length (b ∷ part)) 0 (λ same. omega (arith, same)) in
    let none : None ≡ Some name = sym (ap (λ (t : Bool). if t then Some [] else None) some) ∙ is in
    absurd cc

named_is : (rest name : List ℕ) → name_said rest ≡ Some name → IsNamed rest name
unfolding name_said
named_is rest name is = by_label (after_label (codes ", function-name: ") rest) refl is
  where
    by_label : (labelled : Option (List ℕ)) → after_label (codes ", function-name: ") rest ≡ labelled → name_by labelled (before_line_end rest) ≡ Some name → IsNamed rest name
    by_label (Some behind) at same =
        let spelled = split_then name_spelled (before_line_end behind) name same in
        let end = end_is behind spelled.0 spelled.1 in
        record {
          named = codes ", function-name: " ++ spelled.0;
          ending = end.ending;
          is_ending = end.is_ending;
          is_name = inl (record { written = spelled.0; spelled = name_is spelled.0 name spelled.2; labelled = refl; direct = end.direct });
          whole =
              after_is (codes ", function-name: ") rest behind at
              ∙ (ap (λ (l : List ℕ). codes ", function-name: " ++ l) end.whole ∙ sym (append_assoc (codes ", function-name: ") spelled.0 end.ending));
        }
    by_label None at same =
        let part = split_then no_name (before_line_end rest) name same in
        let end = end_is rest part.0 part.1 in
        record { named = part.0; ending = end.ending; is_ending = end.is_ending; is_name = inr (empty_named part.0 name part.2); whole = end.whole }

pub entry_is : (line : List ℕ) (entry : NamedFunction) → entry_said line ≡ Some entry → SpellsEntry line entry
unfolding entry_said past_fields id_in
entry_is line entry is =
    let start = split_then entry_from (id_in line) entry is in
    let made = split_map (λ (name : List ℕ). let e : NamedFunction = record { id = start.0.0; name = name } in e) (option_and_then name_said (past_fields start.0.1)) entry start.2 in
    let said = split_then name_said (past_fields start.0.1) made.0 made.1 in
    let truly = split_then after_truth (option_and_then (after_label (codes " always-instrument: ")) (at_kind (at_function (past_field (codes " address: ") is_address start.0.1)))) said.0 said.1 in
    let labelled = split_then (after_label (codes " always-instrument: ")) (at_kind (at_function (past_field (codes " address: ") is_address start.0.1))) truly.0 truly.1 in
    let kind = split_then (past_field (codes " kind: ") is_kind) (at_function (past_field (codes " address: ") is_address start.0.1)) labelled.0 labelled.1 in
    let function = split_then (past_field (codes " function: ") is_address) (past_field (codes " address: ") is_address start.0.1) kind.0 kind.1 in
    let id_field = split_then (λ (field : List ℕ × List ℕ). option_map {U = ℕ × List ℕ} (λ (id : ℕ). (id, field.1)) (number_of field.0)) (field_in (codes "- { id: ") line) start.0 start.1 in
    let id_number = split_map {B = ℕ × List ℕ} (λ (id : ℕ). (id, id_field.0.1)) (number_of id_field.0.0) start.0 id_field.2 in
    let address_past = past_is (codes " address: ") is_address start.0.1 function.0 function.1 in
    let function_past = past_is (codes " function: ") is_address function.0 kind.0 function.2 in
    let kind_past = past_is (codes " kind: ") is_kind kind.0 labelled.0 kind.2 in
    let always_label = after_is (codes " always-instrument: ") labelled.0 truly.0 labelled.2 in
    let always = truth_is truly.0 said.0 truly.2 in
    let named = named_is said.0 made.0 said.2 in
    let id_whole = field_is (codes "- { id: ") line id_field.0.0 id_field.0.1 id_field.1 in
    let same_rest : id_field.0.1 ≡ start.0.1 = ap (λ (p : ℕ × List ℕ). p.1) id_number.2 in
    let same_id : id_number.0 ≡ start.0.0 = ap (λ (p : ℕ × List ℕ). p.0) id_number.2 in
    let ids : start.0.0 ≡ entry.id = ap (λ (e : NamedFunction). e.id) made.2 in
    let names : made.0 ≡ entry.name = ap (λ (e : NamedFunction). e.name) made.2 in
    record {
      id = id_field.0.0;
      address = address_past.value;
      function = function_past.value;
      kind = kind_past.value;
      always = always.always;
      named = named.named;
      ending = named.ending;
      id_is = id_number.1 ∙ ap (λ (n : ℕ). Some n) (same_id ∙ ids);
      address_is = address_past.passes;
      function_is = function_past.passes;
      kind_is = kind_past.passes;
      always_is = always.passes;
      name_is = let P : List ℕ → Type 0 = λ name. HasName named.named named.ending name ⊎ HasNoName named.named name in subst P names named.is_name;
      ending_is = named.is_ending;
      joined =
          id_whole
          ∙ (ap (λ (l : List ℕ). codes "- { id: " ++ (id_field.0.0 ++ 44 ∷ l)) (same_rest
          ∙ (address_past.whole
          ∙ ap (λ (l : List ℕ). codes " address: " ++ (address_past.value ++ 44 ∷ l)) (function_past.whole
          ∙ ap (λ (l : List ℕ). codes " function: " ++ (function_past.value ++ 44 ∷ l)) (kind_past.whole
          ∙ ap (λ (l : List ℕ). codes " kind: " ++ (kind_past.value ++ 44 ∷ l)) (always_label
          ∙ ap (λ (l : List ℕ). codes " always-instrument: " ++ l) (always.whole
          ∙ ap (λ (l : List ℕ). always.always ++ l) named.whole))))))
          ∙ sym (joined_so (codes "- { id: ") id_field.0.0 (codes ", address: ") address_past.value (codes ", function: ") function_past.value (codes ", kind: ") kind_past.value
          (codes ", always-instrument: ") always.always named.named named.ending));
    }
