-- What is known of the lines of a text that was read to its end.
use Rattle.std.proofs.Common.{◌≡◌, ℕ, ◌<◌, Bool, true, false, cond, not, ◌||◌, List, [], ◌∷◌, ◌++◌, refl, sym, ap, subst, ◌∙◌, arith, append_assoc, append-nil}
use Rattle.std.specs.Prelude.{⊤, Ok}
use Rattle.std.specs.Str.Lines.{lines}
use Rattle.std.proofs.lemmas.List.Sums.{fold-append}
use Rattle.std.proofs.lemmas.List.Folds.{list_any-append}
use Rattle.asm_text.specs.declared.fault.AsmFault.TheVariants as faults
use Rattle.asm_text.specs.Statements.{Statement, Base, Entry, Func, Label, Does}
use Rattle.asm_text.specs.Language.{statement_keyword_of, statement_of}
use Rattle.asm_text.specs.Layout.{StatementLines, is_function, is_instruction, instruction_lines, defines}
use Rattle.asm_text.specs.Refusals.{has_function, is_bare, is_statement_misplaced, is_defined, repeats, is_unresolved, resolved}
use Rattle.asm_text.specs.Assembling.{statements_said}
use Rattle.asm_text.proofs.ReadStatements.{IsShort, SaysShort, line_short}
use Rattle.asm_text.proofs.SaidLemmas.{Keeps, not_refused, said_parts, said_keeps}
use Rattle.std.proofs.lemmas.Bool.{or_parts, not-false}

-- ---- each line after those before it

-- a statement that may come after lines
pub record IsAllowed (before : StatementLines) (s : Statement) : Type 0 where
  pub short : IsShort s
  pub in_place : is_statement_misplaced before s ≡ false
  pub new_name : repeats before s ≡ false

-- each line may come after those before it
abbrev pub Allowed : StatementLines → StatementLines → Type 0
Allowed before [] = ⊤
Allowed before (line ∷ following) = IsAllowed before line.1 × Allowed (before ++ line ∷ []) following

allowed-more : (before lines : StatementLines) (number : ℕ) (s : Statement) → Allowed before lines → IsAllowed (before ++ lines) s → Allowed before (lines ++ (number, s) ∷ [])
allowed-more before [] number s all h = (subst (λ ls. IsAllowed ls s) (append-nil before) h, tt)
allowed-more before (line ∷ following) number s all h =
    (all.0, allowed-more (before ++ line ∷ []) following number s all.1 (subst (λ ls. IsAllowed ls s) (sym (append_assoc before (line ∷ []) following)) h))

-- what the words of a line say
statement_short : (words : List (List ℕ)) → SaysShort (statement_of words)
statement_short [] = tt
statement_short (word ∷ following) = line_short (statement_keyword_of word) word following

allowed_keeps : Keeps (Allowed [])
allowed_keeps before number words s all taken =
    allowed-more [] before number s all (record { short = subst SaysShort taken.said (statement_short words); in_place = taken.in_place; new_name = taken.fresh })

-- ---- the end of the text

-- no line is unresolved
abbrev pub Settled : StatementLines → StatementLines → Type 0
Settled lines [] = ⊤
Settled lines (line ∷ following) = (is_unresolved lines line.1 following ≡ false) × Settled lines following

-- the lines of a text that was read to its end
pub record AreSaid (said : StatementLines) : Type 0 where
  pub allowed : Allowed [] said
  pub some : has_function said ≡ true
  pub whole : is_bare said ≡ false
  pub settled : Settled said said

settled_by : (lines following said : StatementLines) → resolved lines following ≡ Ok said → Settled lines following
settled_by lines [] said e = tt
settled_by lines (line ∷ following) said e =
    let row = not_refused (is_unresolved lines line.1 following) (faults.Label line.0) (resolved lines following) said e in
    (row.0, settled_by lines following said row.1)

-- all lines of a text
pub are_said : (text : List ℕ) (said : StatementLines) → statements_said text ≡ Ok said → AreSaid said
are_said text said read =
    let parts = said_parts text said read in
    let early = or_parts (not (has_function said)) (is_bare said) parts.whole in
    record {
      allowed = said_keeps (Allowed []) allowed_keeps tt text said read;
      some = not-false (has_function said) early.0;
      whole = early.1;
      settled = settled_by said said said parts.named;
    }

-- ---- one line more

pub is_bare-more : (before : StatementLines) (line : ℕ × Statement) → is_bare (before ++ line ∷ []) ≡ cond (is_function line.1) true (cond (is_instruction line.1) false (is_bare before))
is_bare-more before line = fold-append (λ bare line. cond (is_function line.1) true (cond (is_instruction line.1) false bare)) false before (line ∷ [])

or_false : (b : Bool) → (b || false) ≡ b
or_false true = refl
or_false false = refl

pub has_function-more : (before : StatementLines) (line : ℕ × Statement) → has_function (before ++ line ∷ []) ≡ (has_function before || is_function line.1)
has_function-more before line = list_any-append (λ line. is_function line.1) before (line ∷ []) ∙ ap (λ t. has_function before || t) (or_false (is_function line.1))

pub is_defined-more : (name : List ℕ) (before : StatementLines) (line : ℕ × Statement) → is_defined name (before ++ line ∷ []) ≡ (is_defined name before || defines name line.1)
is_defined-more name before line = list_any-append (λ line. defines name line.1) before (line ∷ []) ∙ ap (λ t. is_defined name before || t) (or_false (defines name line.1))

-- ---- instruction lines

-- after a function an instruction line comes before the next function
abbrev pub IsFilled : Statement → StatementLines → Type 0
IsFilled (Base address) following = ⊤
IsFilled (Entry name) following = ⊤
IsFilled (Func name choice) following = 0 < instruction_lines following
IsFilled (Label name) following = ⊤
IsFilled (Does operation) following = ⊤

abbrev pub AllFilled : StatementLines → Type 0
AllFilled [] = ⊤
AllFilled (line ∷ following) = IsFilled line.1 following × AllFilled following

whole_after : (before : StatementLines) (line : ℕ × Statement) (following : StatementLines) → is_bare (before ++ line ∷ following) ≡ false → is_bare ((before ++ line ∷ []) ++ following) ≡ false
whole_after before line following whole = subst (λ ls. is_bare ls ≡ false) (sym (append_assoc before (line ∷ []) following)) whole

-- a function that has no instruction line yet gets one
line_after : (before following : StatementLines) → Allowed before following → is_bare (before ++ following) ≡ false → is_bare before ≡ true → 0 < instruction_lines following
line_after before [] all whole bare =
    let none : is_bare before ≡ false = subst (λ ls. is_bare ls ≡ false) (append-nil before) whole in absurd (cc (bare, none))
line_after before ((number, Base address) ∷ following) all whole bare =
    line_after (before ++ (number, Base address) ∷ []) following all.1 (whole_after before (number, Base address) following whole) (is_bare-more before (number, Base address) ∙ bare)
line_after before ((number, Entry name) ∷ following) all whole bare =
    line_after (before ++ (number, Entry name) ∷ []) following all.1 (whole_after before (number, Entry name) following whole) (is_bare-more before (number, Entry name) ∙ bare)
line_after before ((number, Func name choice) ∷ following) all whole bare =
    let filled : is_bare before ≡ false = all.0.in_place in absurd (cc (bare, filled))
line_after before ((number, Label name) ∷ following) all whole bare =
    line_after (before ++ (number, Label name) ∷ []) following all.1 (whole_after before (number, Label name) following whole) (is_bare-more before (number, Label name) ∙ bare)
line_after before ((number, Does operation) ∷ following) all whole bare = omega arith

filled_first : (before : StatementLines) (number : ℕ) (s : Statement) (following : StatementLines) → Allowed (before ++ (number, s) ∷ []) following → is_bare ((before ++ (number, s) ∷ []) ++ following) ≡ false → IsFilled s following
filled_first before number (Base address) following all whole = tt
filled_first before number (Entry name) following all whole = tt
filled_first before number (Func name choice) following all whole = line_after (before ++ (number, Func name choice) ∷ []) following all whole (is_bare-more before (number, Func name choice))
filled_first before number (Label name) following all whole = tt
filled_first before number (Does operation) following all whole = tt

pub all_filled : (before lines : StatementLines) → Allowed before lines → is_bare (before ++ lines) ≡ false → AllFilled lines
all_filled before [] all whole = tt
all_filled before (line ∷ following) all whole =
    let rest = whole_after before line following whole in
    (filled_first before line.0 line.1 following all.1 rest, all_filled (before ++ line ∷ []) following all.1 rest)
