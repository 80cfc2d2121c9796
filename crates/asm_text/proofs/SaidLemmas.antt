-- What is true of the lines of a text that isn't refused.
use Rattle.std.proofs.Common.{◌≡◌, ℕ, ◌+◌, ◌≤◌, Bool, true, false, cond, not, List, [], ◌∷◌, ◌++◌, length, ◌||◌, refl, ap, subst, ◌∙◌, ltb}
use Rattle.std.specs.Prelude.{⊤, Option, Some, None, Result, Ok, Err, sum_by, count_by}
use Rattle.std.specs.Str.Lines.{lines}
use Rattle.std.proofs.lemmas.Bool.{ltb-false, or_parts}
use Rattle.xray_io.specs.Rows.{◌>>=◌}
use Rattle.text_lines.specs.Lines.{numbered_lines}
use Rattle.text_lines.specs.Words.{is_clean, words_of}
use Rattle.asm_text.specs.declared.fault.AsmFault.{AsmFault}
use Rattle.asm_text.specs.declared.fault.AsmFault.TheVariants as faults
use Rattle.asm_text.specs.Statements.{Statement}
use Rattle.asm_text.specs.Language.{statement_of}
use Rattle.asm_text.specs.Layout.{StatementLines, is_function, unless_never, all_parts, widths, sleds_of_part}
use Rattle.asm_text.specs.private.Fits.{AllFit}
use Rattle.asm_text.specs.Refusals.{statement_judged, statement_spoken, with_words, statement_with_line, read_statements, is_statement_misplaced, names_reserved, is_out_of_range, repeats, exceeds_limits, ends_early, is_unresolved, resolved, text_ended}
use Rattle.asm_text.specs.Assembling.{statements_said}
use Rattle.asm_text.proofs.ReadStatements.{Good, read_good}

-- ---- a property that each line that is taken keeps

abbrev pub OnLines : (StatementLines → Type 0) → Result StatementLines AsmFault → Type 0
OnLines P (Ok lines) = P lines
OnLines P (Err fault) = ⊤

-- a line that no row refuses
pub record IsTaken (before : StatementLines) (number : ℕ) (words : List (List ℕ)) (s : Statement) : Type 0 where
  pub said : statement_of words ≡ Some s
  pub in_place : is_statement_misplaced before s ≡ false
  pub free : names_reserved s ≡ false
  pub in_range : is_out_of_range s ≡ false
  pub fresh : repeats before s ≡ false
  pub within : exceeds_limits (before ++ (number, s) ∷ []) ≡ false

abbrev pub Keeps : (StatementLines → Type 0) → Type 0
Keeps P = (before : StatementLines) (number : ℕ) (words : List (List ℕ)) (s : Statement) → P before → IsTaken before number words s → P (before ++ (number, s) ∷ [])

module _ (P : StatementLines → Type 0) (keeps : Keeps P) where
  judged_keeps : (before : StatementLines) (number : ℕ) (words : List (List ℕ)) (s : Statement) → P before → statement_of words ≡ Some s → OnLines P (statement_judged before number s)
  judged_keeps before number words s h said =
      by_tests (is_statement_misplaced before s) (names_reserved s) (is_out_of_range s) (repeats before s) (exceeds_limits (before ++ (number, s) ∷ [])) refl refl refl refl refl
    where
      by_tests : (m r o p e : Bool) → is_statement_misplaced before s ≡ m → names_reserved s ≡ r → is_out_of_range s ≡ o → repeats before s ≡ p → exceeds_limits (before ++ (number, s) ∷ []) ≡ e
          → OnLines P (cond m (Err (faults.Syntax number)) (cond r (Err (faults.Register number)) (cond o (Err (faults.Range number)) (cond p (Err (faults.Repeat number)) (cond e (Err (faults.Limit number)) (Ok (before ++ (number, s) ∷ [])))))))
      by_tests true r o p e a b c d f = tt
      by_tests false true o p e a b c d f = tt
      by_tests false false true p e a b c d f = tt
      by_tests false false false true e a b c d f = tt
      by_tests false false false false true a b c d f = tt
      by_tests false false false false false a b c d f = keeps before number words s h (record { said = said; in_place = a; free = b; in_range = c; fresh = d; within = f })

  spoken_keeps : (before : StatementLines) (number : ℕ) (words : List (List ℕ)) (o : Option Statement) → P before → statement_of words ≡ o → OnLines P (statement_spoken before number o)
  spoken_keeps before number words None h said = tt
  spoken_keeps before number words (Some s) h said = judged_keeps before number words s h said

  words_keep : (before : StatementLines) (number : ℕ) (words : List (List ℕ)) → P before → OnLines P (with_words before number words)
  words_keep before number [] h = h
  words_keep before number (word ∷ following) h = spoken_keeps before number (word ∷ following) (statement_of (word ∷ following)) h refl

  line_keeps : (before : StatementLines) (line : ℕ × List ℕ) → P before → OnLines P (statement_with_line before line)
  line_keeps before (number, line) h = by_clean (is_clean line)
    where
      by_clean : (t : Bool) → OnLines P (cond (not t) (Err (faults.Syntax number)) (with_words before number (words_of line)))
      by_clean true = words_keep before number (words_of line) h
      by_clean false = tt

  then_keeps : (r : Result StatementLines AsmFault) (f : StatementLines → Result StatementLines AsmFault) → OnLines P r → ((lines : StatementLines) → P lines → OnLines P (f lines)) → OnLines P (r >>= f)
  then_keeps (Ok lines) f kept more = more lines kept
  then_keeps (Err fault) f kept more = tt

  pub read_keeps : (before : StatementLines) (lines : List (ℕ × List ℕ)) → P before → OnLines P (read_statements before lines)
  read_keeps before [] h = h
  read_keeps before (line ∷ following) h = then_keeps (statement_with_line before line) (λ lines. read_statements lines following) (line_keeps before line h) (λ lines more. read_keeps lines following more)

-- ---- the rows at the end of the text

pub not_refused : {X : Type 0} (t : Bool) (fault : AsmFault) (r : Result X AsmFault) (x : X) → cond t (Err fault) r ≡ Ok x → (t ≡ false) × (r ≡ Ok x)
not_refused true fault r x e = absurd (cc e)
not_refused false fault r x e = (refl, e)

-- they leave the lines unchanged
resolved_same : (all lines said : StatementLines) → resolved all lines ≡ Ok said → all ≡ said
resolved_same all [] said e = cc e
resolved_same all (line ∷ following) said e =
    resolved_same all following said (not_refused (is_unresolved all line.1 following) (faults.Label line.0) (resolved all following) said e).1

-- the lines were read, there is a function and none without an instruction, and each name has its place
pub record IsSaid (text : List ℕ) (said : StatementLines) : Type 0 where
  pub read : read_statements [] (numbered_lines text) ≡ Ok said
  pub whole : ends_early said ≡ false
  pub named : resolved said said ≡ Ok said

pub said_parts : (text : List ℕ) (said : StatementLines) → statements_said text ≡ Ok said → IsSaid text said
said_parts text said e = by_read (read_statements [] (numbered_lines text)) refl e
  where
    by_read : (r : Result StatementLines AsmFault) → read_statements [] (numbered_lines text) ≡ r → (r >>= λ all. text_ended (length (lines text) + 1) all) ≡ Ok said → IsSaid text said
    by_read (Err fault) is e = absurd (cc e)
    by_read (Ok all) is e =
        let parts = not_refused (ends_early all) (faults.Syntax (length (lines text) + 1)) (resolved all all) said e in
        let same : all ≡ said = resolved_same all all said parts.1 in
        record {
          read = is ∙ ap (λ ls. Ok ls) same;
          whole = subst (λ ls. ends_early ls ≡ false) same parts.0;
          named = subst (λ ls. resolved ls ls ≡ Ok said) same parts.1;
        }

-- a property that each line keeps holds of all
pub said_keeps : (P : StatementLines → Type 0) → Keeps P → P [] → (text : List ℕ) (said : StatementLines) → statements_said text ≡ Ok said → P said
said_keeps P keeps none text said e = subst (OnLines P) (said_parts text said e).read (read_keeps P keeps [] (numbered_lines text) none)

-- all statements fit
pub said_fits : (text : List ℕ) (said : StatementLines) → statements_said text ≡ Ok said → AllFit said
said_fits text said e = subst Good (said_parts text said e).read (read_good [] (numbered_lines text) tt)

-- no limit is exceeded
pub record IsWithinLimits (said : StatementLines) : Type 0 where
  pub functions : count_by (λ line. is_function line.1) said ≤ 1024
  pub code : widths (all_parts unless_never said) ≤ 1048576
  pub sleds : sum_by sleds_of_part (all_parts unless_never said) ≤ 4096

pub said_within : (text : List ℕ) (said : StatementLines) → statements_said text ≡ Ok said → IsWithinLimits said
said_within text said e =
    let few : exceeds_limits said ≡ false = said_keeps (λ ls. exceeds_limits ls ≡ false) (λ before number words s h taken. taken.within) refl text said e in
    let functions = count_by (λ (line : ℕ × Statement). is_function line.1) said in
    let code = widths (all_parts unless_never said) in
    let sleds = sum_by sleds_of_part (all_parts unless_never said) in
    let first = or_parts (ltb 1024 functions || ltb 1048576 code) (ltb 4096 sleds) few in
    let second = or_parts (ltb 1024 functions) (ltb 1048576 code) first.0 in
    record { functions = ltb-false 1024 functions second.0; code = ltb-false 1048576 code second.1; sleds = ltb-false 4096 sleds first.1 }
