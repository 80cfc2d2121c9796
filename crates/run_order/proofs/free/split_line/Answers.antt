use Rattle.std.proofs.Common.{◌∙◌, ◌∷◌, ◌+◌, List, ℕ, ap, drop, sym}
use Rattle.run_order.specs.FreeScripts.{lines_with_ends}
use Rattle.run_order.proofs.WholeLines.{first_whole, only_whole}
use Rattle.run_order.proofs.free.split_line.Goals as goal

pub returns-in-Some-clause-lines : goal.returns-in-Some-clause-lines
returns-in-Some-clause-lines c =
    first_whole c.args.text.now c.in-Some.end (sym c.in-Some.is ∙ c.first_end.ensures)
    ∙ ap (λ (line : List ℕ). line ∷ lines_with_ends (drop (c.in-Some.end + 1) c.args.text.now)) (sym c.split_at.ensures.front)
    ∙ ap (λ (later : List ℕ). c.split_at.result.0.now ∷ lines_with_ends later) (sym c.split_at.ensures.back)

pub returns-in-None-clause-lines : goal.returns-in-None-clause-lines
returns-in-None-clause-lines c = only_whole c.args.text.now (sym c.in-None.is ∙ c.first_end.ensures) c.requires
