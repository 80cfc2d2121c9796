-- Names that are read back.
use Rattle.std.proofs.Common.{◌≡◌, ◌∷◌, ◌++◌, ◌∙◌, ◌⊎◌, ℕ, Bool, true, false, inl, inr, List, [], Some, None, refl, ap, sym, append_assoc}
use Rattle.std.specs.Prelude.{◌==◌, ◌||◌, ◌≢◌, IsTrue, option_and_then, if◌then◌else◌}
use Rattle.std.specs.List.{flat_map, list_all, list_any}
use Rattle.std.proofs.lemmas.List.{append-nil}
use Rattle.std.proofs.lemmas.Bool.{cases_Bool, eqb-true, ne_eqb, or_parts, eq-eqb}
use Rattle.function_names.specs.declared.form.NameForm.TheVariants.{Field, Quoted}
use Rattle.function_names.specs.Name.{byte_text, needs_marks, spelled}
use Rattle.function_names.specs.NameLaws.{CsvReadsBack, YamlReadsBack}
use Rattle.function_names.specs.Reading.{after_byte, bare_field, csv_field, ends_field, in_line, is_in_line, to_mark}

-- a byte of a name between marks
abbrev doubled : ℕ → ℕ → List ℕ
doubled mark b = if b == mark then mark ∷ mark ∷ [] else b ∷ []

-- a byte, and what is read after it
one_more : (mark b c : ℕ) (rest : List ℕ) → to_mark mark (doubled mark b ++ c ∷ rest) ≡ after_byte b (to_mark mark (c ∷ rest))
one_more mark b c rest = by_test (cases_Bool (b == mark))
  where
    by_test : ((b == mark) ≡ true) ⊎ ((b == mark) ≡ false) → to_mark mark (doubled mark b ++ c ∷ rest) ≡ after_byte b (to_mark mark (c ∷ rest))
    by_test (inl is) =
        let same : b ≡ mark = eqb-true b mark is in
        let again : (mark == mark) ≡ true = eq-eqb mark mark refl in
        ap (λ (t : Bool). to_mark mark ((if t then mark ∷ mark ∷ [] else b ∷ []) ++ c ∷ rest)) is
        ∙ (ap (λ (t : Bool). if t then (if t then after_byte mark (to_mark mark (c ∷ rest)) else Some ([], mark ∷ c ∷ rest)) else after_byte mark (to_mark mark (mark ∷ c ∷ rest))) again
        ∙ ap (λ (k : ℕ). after_byte k (to_mark mark (c ∷ rest))) (sym same))
    by_test (inr isnt) =
        ap (λ (t : Bool). to_mark mark ((if t then mark ∷ mark ∷ [] else b ∷ []) ++ c ∷ rest)) isnt
        ∙ ap (λ (t : Bool). if t then (if c == mark then after_byte mark (to_mark mark rest) else Some ([], c ∷ rest)) else after_byte b (to_mark mark (c ∷ rest))) isnt

-- what ends with a mark and more isn't empty
abbrev Some_first : List ℕ → Type 0
Some_first text = (c : ℕ) × (later : List ℕ) × (text ≡ c ∷ later)

some_first : (text : List ℕ) (next : ℕ) (rest : List ℕ) → Some_first (text ++ next ∷ rest)
some_first [] next rest = (next, rest, refl)
some_first (c ∷ text) next rest = (c, text ++ next ∷ rest, refl)

-- a name whose marks are doubled is read up to the mark after it
to_end : (mark : ℕ) (name rest : List ℕ) (next : ℕ) → next ≢ mark → to_mark mark (flat_map (doubled mark) name ++ mark ∷ next ∷ rest) ≡ Some (name, next ∷ rest)
to_end mark [] rest next isnt =
    ap (λ (t : Bool). if t then (if next == mark then after_byte mark (to_mark mark rest) else Some ([], next ∷ rest)) else after_byte mark (to_mark mark (next ∷ rest)))
    (eq-eqb mark mark refl)
    ∙ ap (λ (t : Bool). if t then after_byte mark (to_mark mark rest) else Some ([], next ∷ rest)) (ne_eqb next mark isnt)
to_end mark (b ∷ name) rest next isnt =
    let tail : List ℕ = flat_map (doubled mark) name ++ mark ∷ next ∷ rest in
    let first : Some_first tail = some_first (flat_map (doubled mark) name) mark (next ∷ rest) in
    ap (to_mark mark) (append_assoc (doubled mark b) (flat_map (doubled mark) name) (mark ∷ next ∷ rest))
    ∙ (ap (λ (t : List ℕ). to_mark mark (doubled mark b ++ t)) first.2
    ∙ (one_more mark b first.0 first.1
    ∙ (ap (λ (t : List ℕ). after_byte b (to_mark mark t)) (sym first.2)
    ∙ ap (after_byte b) (to_end mark name rest next isnt))))

-- ---- csv

-- a name that needs no marks is read up to the end of its field
bare_end : (name rest : List ℕ) (next : ℕ) → list_any needs_marks name ≡ false → ends_field next ≡ true → bare_field (flat_map (byte_text Field) name ++ next ∷ rest) ≡ Some (name, next ∷ rest)
bare_end [] rest next none ends =
    ap (λ (t : Bool). if t then Some ([], next ∷ rest) else if next == 34 then None else after_byte next (bare_field rest)) ends
bare_end (b ∷ name) rest next none ends =
    let parts = or_parts (needs_marks b) (list_any needs_marks name) none in
    let last = or_parts (b == 44 || b == 34 || b == 10) (b == 13) parts.0 in
    let third = or_parts (b == 44 || b == 34) (b == 10) last.0 in
    let two = or_parts (b == 44) (b == 34) third.0 in
    let tail : List ℕ = flat_map (byte_text Field) name ++ next ∷ rest in
    let goes_on : ends_field b ≡ false =
    ap (λ (t : Bool). t || b == 10 || b == 13) two.0 ∙ (ap (λ (t : Bool). t || b == 13) third.1 ∙ last.1) in
    ap (λ (t : Bool). bare_field ((if t then 34 ∷ 34 ∷ [] else b ∷ []) ++ flat_map (byte_text Field) name ++ next ∷ rest)) two.1
    ∙ (ap (λ (t : Bool). if t then Some ([], b ∷ tail) else if b == 34 then None else after_byte b (bare_field tail)) goes_on
    ∙ (ap (λ (t : Bool). if t then None else after_byte b (bare_field tail)) two.1
    ∙ ap (after_byte b) (bare_end name rest next parts.1 ends)))

-- what doesn't begin with a double mark is a field without marks
no_mark : (text : List ℕ) (name : List ℕ) (rest : List ℕ) → bare_field text ≡ Some (name, rest) → csv_field text ≡ Some (name, rest)
no_mark [] name rest is = is
no_mark (b ∷ text) name rest is = by_test (cases_Bool (b == 34)) (cases_Bool (ends_field b))
  where
    by_test : ((b == 34) ≡ true) ⊎ ((b == 34) ≡ false) → (ends_field b ≡ true) ⊎ (ends_field b ≡ false) → csv_field (b ∷ text) ≡ Some (name, rest)
    by_test (inr isnt) ends = ap (λ (t : Bool). if t then to_mark 34 text else bare_field (b ∷ text)) isnt ∙ is
    by_test (inl mark) (inl ends) =
        let same : b ≡ 34 = eqb-true b 34 mark in
        absurd (cc (sym ends ∙ ap ends_field same))
    by_test (inl mark) (inr ends) =
        let none : bare_field (b ∷ text) ≡ None =
        ap (λ (t : Bool). if t then Some ([], b ∷ text) else if b == 34 then None else after_byte b (bare_field text)) ends
        ∙ ap (λ (t : Bool). if t then None else after_byte b (bare_field text)) mark in
        absurd (cc (sym none ∙ is))

pub csv_reads_back : CsvReadsBack
csv_reads_back name rest next ends = by_test (cases_Bool (list_any needs_marks name))
  where
    ended : ends_field next ≡ true
    ended = ends

    not_mark : next ≢ 34
    not_mark same = cc (sym ended ∙ ap ends_field same)

    by_test : (list_any needs_marks name ≡ true) ⊎ (list_any needs_marks name ≡ false) → csv_field (spelled Field name ++ next ∷ rest) ≡ Some (name, next ∷ rest)
    by_test (inl marks) =
        let text : List ℕ = flat_map (byte_text Field) name in
        ap (λ (t : Bool). csv_field (((if t then 34 ∷ [] else []) ++ text ++ (if t then 34 ∷ [] else [])) ++ next ∷ rest)) marks
        ∙ (ap (to_mark 34) (append_assoc text (34 ∷ []) (next ∷ rest))
        ∙ to_end 34 name rest next not_mark)
    by_test (inr none) =
        let text : List ℕ = flat_map (byte_text Field) name in
        ap (λ (t : Bool). csv_field (((if t then 34 ∷ [] else []) ++ text ++ (if t then 34 ∷ [] else [])) ++ next ∷ rest)) none
        ∙ (ap (λ (t : List ℕ). csv_field (t ++ next ∷ rest)) (append-nil text)
        ∙ no_mark (text ++ next ∷ rest) name (next ∷ rest) (bare_end name rest next none ended))

-- ---- YAML

pub yaml_reads_back : YamlReadsBack
yaml_reads_back name rest next line isnt =
    let text : List ℕ = flat_map (byte_text Quoted) name in
    ap (λ (t : List ℕ). option_and_then in_line (to_mark 39 (t ++ 39 ∷ next ∷ rest))) (append-nil text)
    ∙ (ap (option_and_then in_line) (to_end 39 name rest next isnt)
    ∙ ap (λ (t : Bool). if t then Some (name, next ∷ rest) else None) (is_true line))
  where
    is_true : IsTrue (list_all is_in_line name) → list_all is_in_line name ≡ true
    is_true is = is
