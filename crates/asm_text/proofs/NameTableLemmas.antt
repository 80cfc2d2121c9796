-- a search in a table of references is one in the table of their texts
use Rattle.std.proofs.Common.{◌≡◌, ℕ, suc, Bool, true, false, cond, ◌||◌, List, [], ◌∷◌, ◌++◌, length, Option, Some, None, refl, sym, ap, subst, ◌∙◌}
use Rattle.std.specs.Prelude.{is_some, option_map}
use Rattle.std.specs.Str.{bytes_eq}
use Rattle.std.proofs.lemmas.Slice.Eq.{bytes_eq-Decides}
use Rattle.asm_text.specs.declared.name_table.NameTable.{NameTable}
use Rattle.asm_text.specs.Statements.{Statement, Base, Entry, Func, Label, Does}
use Rattle.asm_text.specs.Layout.{StatementLines, defines}
use Rattle.asm_text.specs.private.NameTables.{line_named}
use Rattle.asm_text.specs.Refusals.{is_defined, repeats}
use Rattle.asm_text.specs.private.FirstPass.{defined_at, name_defined, is_named, IsNames}

-- whether a name, if there is one, is defined
abbrev pub is_taken : Option (List ℕ) → StatementLines → Bool
is_taken None lines = false
is_taken (Some name) lines = is_defined name lines

or_false : (b : Bool) → (b || false) ≡ b
or_false true = refl
or_false false = refl

pub defines-named : (q : List ℕ) (statement : Statement) → defines q statement ≡ is_named (name_defined statement) q
defines-named q (Base address) = refl
defines-named q (Entry name) = refl
defines-named q (Func name choice) = or_false (bytes_eq name q)
defines-named q (Label name) = refl
defines-named q (Does operation) = refl

pub repeats-taken : (lines : StatementLines) (statement : Statement) → repeats lines statement ≡ is_taken (name_defined statement) lines
repeats-taken lines (Base address) = refl
repeats-taken lines (Entry name) = refl
repeats-taken lines (Func name choice) = refl
repeats-taken lines (Label name) = refl
repeats-taken lines (Does operation) = refl

some_map : (o : Option ℕ) → is_some (option_map suc o) ≡ is_some o
some_map None = refl
some_map (Some n) = refl

-- a name is defined exactly if a line defines it
pub is_defined-at : (q : List ℕ) (lines : StatementLines) → is_defined q lines ≡ is_some (defined_at q lines)
is_defined-at q [] = refl
is_defined-at q (line ∷ following) =
    elim (defines q line.1) as (λ t. (t || is_defined q following) ≡ is_some (cond t (Some 0) (option_map suc (defined_at q following)))) [
      | true ↦ refl
      | false ↦ is_defined-at q following ∙ sym (some_map (defined_at q following))
    ]

-- the answer for the first lines, or else that for one more
abbrev pub or_last : Option ℕ → Bool → ℕ → Option ℕ
or_last None here n = cond here (Some n) None
or_last (Some i) here n = Some i

map_or_last : (o : Option ℕ) (here : Bool) (n : ℕ) → option_map suc (or_last o here n) ≡ or_last (option_map suc o) here (suc n)
map_or_last None true n = refl
map_or_last None false n = refl
map_or_last (Some i) here n = refl

defined_at-more : (q : List ℕ) (lines : StatementLines) (number : ℕ) (statement : Statement)
    → defined_at q (lines ++ (number, statement) ∷ []) ≡ or_last (defined_at q lines) (defines q statement) (length lines)
defined_at-more q [] number statement = refl
defined_at-more q (line ∷ following) number statement =
    elim (defines q line.1) as (λ t. cond t (Some 0) (option_map suc (defined_at q (following ++ (number, statement) ∷ []))) ≡ or_last (cond t (Some 0) (option_map suc (defined_at q following))) (defines q statement) (length (line ∷ following))) [
      | true ↦ refl
      | false ↦ ap (option_map suc) (defined_at-more q following number statement) ∙ map_or_last (defined_at q following) (defines q statement) (length following)
    ]

none_from : (o : Option ℕ) → is_some o ≡ false → o ≡ None
none_from None h = refl
none_from (Some n) h = cc

-- a name that isn't defined is defined by no line
named_free : (o : Option (List ℕ)) (q : List ℕ) (lines : StatementLines) → is_taken o lines ≡ false → is_named o q ≡ true → defined_at q lines ≡ None
named_free None q lines free here = cc
named_free (Some name) q lines free here =
    let same : name ≡ q = (bytes_eq-Decides name q).0 here in
    none_from (defined_at q lines) (sym (is_defined-at q lines) ∙ subst (λ n. is_defined n lines ≡ false) same free)

-- the table with the names of one more line
pub names_more : (lines : StatementLines) (number : ℕ) (statement : Statement) (old new : NameTable) → IsNames lines old → repeats lines statement ≡ false
    → ((q : List ℕ) → line_named new q ≡ cond (is_named (name_defined statement) q) (Some (length lines)) (line_named old q)) → IsNames (lines ++ (number, statement) ∷ []) new
names_more lines number statement old new is free more q =
    let P : Bool → Type 0 = λ t. defines q statement ≡ t → cond t (Some (length lines)) (line_named old q) ≡ or_last (defined_at q lines) t (length lines) in
    let yes : P true = λ here. sym (ap (λ o. or_last o true (length lines)) (named_free (name_defined statement) q lines (sym (repeats-taken lines statement) ∙ free) (sym (defines-named q statement) ∙ here))) in
    let no : P false = λ _. is q ∙ keeps (defined_at q lines) in
    let each : (t : Bool) → P t = λ t. elim t as P [ true ↦ yes | false ↦ no ] in
    more q ∙ ap (λ t. cond t (Some (length lines)) (line_named old q)) (sym (defines-named q statement)) ∙ each (defines q statement) refl ∙ sym (defined_at-more q lines number statement)
  where
    keeps : (o : Option ℕ) → o ≡ or_last o false (length lines)
    keeps None = refl
    keeps (Some i) = refl

-- what the table says of a statement's name
pub repeats_some : (lines : StatementLines) (statement : Statement) (names : NameTable) → IsNames lines names → (name : List ℕ) → Some name ≡ name_defined statement
    → repeats lines statement ≡ is_some (line_named names name)
repeats_some lines statement names is name same =
    repeats-taken lines statement ∙ ap (λ o. is_taken o lines) (sym same) ∙ is_defined-at name lines ∙ ap is_some (sym (is name))
