-- The totals of one more line.
use Rattle.std.proofs.Common.{◌≡◌, ℕ, ◌+◌, Bool, true, false, cond, ◌||◌, [], ◌∷◌, ◌++◌, refl, sym, ap, ◌∙◌, arith}
use Rattle.std.specs.Prelude.{sum_by, count_by, is_some}
use Rattle.std.specs.List.{list_any}
use Rattle.std.proofs.lemmas.List.Sums.{sum_by-append, fold-append}
use Rattle.std.proofs.lemmas.List.Folds.{list_any-append}
use Rattle.asm_text.specs.declared.totals.Totals.{Totals}
use Rattle.asm_text.specs.Statements.{Statement}
use Rattle.asm_text.specs.Layout.{StatementLines, is_function, is_instruction, base_in, entry_in_line, unless_never, all_parts, parts_of_line, width, widths, sleds_of_part}
use Rattle.asm_text.specs.private.FirstPass.{IsTotals, Follows, traced_after}
use Rattle.asm_text.proofs.LayoutLemmas.{all_parts-more, traced_by-more}

any_last : (p : ℕ × Statement → Bool) (lines : StatementLines) (number : ℕ) (statement : Statement) → list_any p (lines ++ (number, statement) ∷ []) ≡ (list_any p lines || p (number, statement))
any_last p lines number statement =
    list_any-append p lines ((number, statement) ∷ []) ∙ elim (p (number, statement)) as (λ t. (list_any p lines || (t || false)) ≡ (list_any p lines || t)) [ true ↦ refl | false ↦ refl ]

-- the totals of lines, and of one more line
pub totals_more : (lines : StatementLines) (number : ℕ) (statement : Statement) (old new : Totals) → IsTotals lines old → Follows old statement new → IsTotals (lines ++ (number, statement) ∷ []) new
totals_more lines number statement old new is more = record {
  has_base = more.has_base ∙ ap (λ t. t || is_some (base_in statement)) is.has_base ∙ sym (any_last (λ line. is_some (base_in line.1)) lines number statement);
  has_entry = more.has_entry ∙ ap (λ t. t || is_some (entry_in_line statement)) is.has_entry ∙ sym (any_last (λ line. is_some (entry_in_line line.1)) lines number statement);
  begun = more.begun ∙ ap (λ t. t || is_function statement) is.begun ∙ sym (any_last (λ line. is_function line.1) lines number statement);
  bare = more.bare ∙ ap (λ t. cond (is_function statement) true (cond (is_instruction statement) false t)) is.bare
      ∙ sym (fold-append (λ bare line. cond (is_function line.1) true (cond (is_instruction line.1) false bare)) false lines ((number, statement) ∷ []));
  traced = more.traced ∙ ap (λ t. traced_after t statement) is.traced ∙ sym (traced_by-more false lines number statement);
  functions = more.functions ∙ ap (λ n. n + cond (is_function statement) 1 0) is.functions
      ∙ sym (sum_by-append (λ (line : ℕ × Statement). cond (is_function line.1) 1 0) lines ((number, statement) ∷ []) ∙ ap (λ n. count_by (λ (line : ℕ × Statement). is_function line.1) lines + n) (zero_add (cond (is_function statement) 1 0)));
  code = code;
  sleds = sleds;
}
  where
    zero_add : (n : ℕ) → 0 + n ≡ n
    zero_add n = omega arith

    parts : all_parts unless_never (lines ++ (number, statement) ∷ []) ≡ all_parts unless_never lines ++ parts_of_line new.traced old.code statement
    parts = all_parts-more lines number statement
        ∙ ap (λ t. all_parts unless_never lines ++ parts_of_line t (widths (all_parts unless_never lines)) statement) (sym (more.traced ∙ ap (λ t. traced_after t statement) is.traced))
        ∙ ap (λ n. all_parts unless_never lines ++ parts_of_line new.traced n statement) (sym is.code)

    code : new.code ≡ widths (all_parts unless_never (lines ++ (number, statement) ∷ []))
    code = more.code ∙ ap (λ n. n + widths (parts_of_line new.traced old.code statement)) is.code
        ∙ sym (ap widths parts ∙ sum_by-append width (all_parts unless_never lines) (parts_of_line new.traced old.code statement))

    sleds : new.sleds ≡ sum_by sleds_of_part (all_parts unless_never (lines ++ (number, statement) ∷ []))
    sleds = more.sleds ∙ ap (λ n. n + sum_by sleds_of_part (parts_of_line new.traced old.code statement)) is.sleds
        ∙ sym (ap (sum_by sleds_of_part) parts ∙ sum_by-append sleds_of_part (all_parts unless_never lines) (parts_of_line new.traced old.code statement))
