use Rattle.std.proofs.Common.{◌≡◌, ◌∙◌, ◌||◌, ℕ, List, [], ◌∷◌, refl, ap, rules, tests}
use Rattle.std.specs.List.{list_any}
use Rattle.std.proofs.lemmas.Iterator.{YieldsList-from_slice}
use Rattle.std.proofs.lemmas.Iterator.Search.{any_from_yields_List}
use Rattle.asm_text.specs.declared.layout.Laid.{Laid}
use Rattle.asm_text.specs.Layout.{names_function}
use Rattle.asm_text.specs.private.Laying.{placed_in, lines_of}
use Rattle.asm_text.specs.private.Views.{statement_said}
use Rattle.asm_text.proofs.ending.has_function.Goals as goal

-- the same test, of what the lines say
said : (name : List ℕ) (lines : List Laid) → list_any (λ line. names_function name (statement_said line.statement)) lines ≡ list_any (λ line. names_function name line.1) (lines_of (placed_in lines))
said name [] = refl
said name (l ∷ ls) = ap (λ found. names_function name (statement_said l.statement) || found) (said name ls)

pub returns : goal.returns
returns c =
    any_from_yields_List (λ line. names_function c.args.name.now (statement_said line.statement)) _ _ _ c.any.ensures.ran (YieldsList-from_slice c.args.laid.now cc) (λ x b q k. search (rules, tests))
    ∙ said c.args.name.now c.args.laid.now
