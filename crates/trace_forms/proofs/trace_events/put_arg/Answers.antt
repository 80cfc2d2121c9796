use Rattle.std.proofs.Common.{◌++◌, ◌∙◌, Option, ℕ, ap}
use Rattle.trace_forms.specs.private.Texts.{arg_start}
use Rattle.trace_forms.proofs.Rows.{arg_row}
use Rattle.trace_forms.proofs.trace_events.put_arg.Goals as goal

pub returns-in-None-clause-text : goal.returns-in-None-clause-text
returns-in-None-clause-text c = c.put.ensures ∙ ap (λ (arg : Option ℕ). arg_start arg ++ c.args.row.now) c.in-None.ensures

pub returns-in-Some-clause-text : goal.returns-in-Some-clause-text
returns-in-Some-clause-text c =
    arg_row c.in-Some.arg _ _ _ _ c.put-in-Some.ensures c.put_number.ensures.text c.put-in-Some-2.ensures
    ∙ ap (λ (arg : Option ℕ). arg_start arg ++ c.args.row.now) c.in-Some.ensures
