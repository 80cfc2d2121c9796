use Rattle.std.proofs.Common.{◌≡◌, ◌∙◌, List, [], ◌∷◌, cond, length, refl, rules, tests, arith}
use Rattle.std.specs.Prelude.{filter}
use Rattle.std.specs.List.{cons_option}
use Rattle.std.proofs.lemmas.Iterator.{YieldsList-from_slice}
use Rattle.std.proofs.lemmas.Iterator.Consumers.{count_from_yields_List, YieldsList-from_filter}
use Rattle.xray_image.specs.Container.{Function}
use Rattle.asm_text.specs.declared.layout.Laid.{Laid}
use Rattle.asm_text.specs.Layout.{Placed, is_function, function_in, functions}
use Rattle.asm_text.specs.Statements.{Statement, Base, Entry, Func, Label, Does}
use Rattle.asm_text.specs.private.Laying.{line_placed, placed_in}
use Rattle.asm_text.specs.private.Views.{statement_said}
use Rattle.asm_text.proofs.write.count_functions.Goals as goal

-- a line counts exactly when it begins a function
first : (s : Statement) (p : Placed) (l : Laid) (ls : List Laid) (fs : List Function) → length ls ≡ length fs → length (cond (is_function s) (l ∷ ls) ls) ≡ length (cons_option (function_in 0 p s) fs)
first (Base address) p l ls fs e = e
first (Entry name) p l ls fs e = e
first (Func name choice) p l ls fs e = omega (arith, e)
first (Label name) p l ls fs e = e
first (Does operation) p l ls fs e = e

counted : (lines : List Laid) → length (filter (λ line. is_function (statement_said line.statement)) lines) ≡ length (functions 0 (placed_in lines))
counted [] = refl
counted (l ∷ ls) = first (statement_said l.statement) (line_placed l) l (filter (λ line. is_function (statement_said line.statement)) ls) (functions 0 (placed_in ls)) (counted ls)

pub returns : goal.returns
returns c =
    count_from_yields_List c.filter.result _ c.count.ensures.ran
    (YieldsList-from_filter _ (λ line. is_function (statement_said line.statement)) (YieldsList-from_slice c.args.lines.now cc) c.filter.ensures.closure (λ x b q k. search (rules, tests)))
    ∙ counted c.args.lines.now

pub overflow_cast-result : goal.overflow_cast-result
overflow_cast-result c =
    let count : c.count.result ≡ length (functions 0 (placed_in c.args.lines.now)) =
    count_from_yields_List c.filter.result _ c.count.ensures.ran
    (YieldsList-from_filter _ (λ line. is_function (statement_said line.statement)) (YieldsList-from_slice c.args.lines.now cc) c.filter.ensures.closure (λ x b q k. search (rules, tests)))
    ∙ counted c.args.lines.now in
    omega (arith, count, c.requires)
