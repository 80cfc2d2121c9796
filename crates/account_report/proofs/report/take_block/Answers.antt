use Rattle.std.proofs.Common.{◌∙◌, ◌++◌, List, [], ◌∷◌, sym, subst, arith}
use Rattle.std.proofs.lemmas.List.{take_all, take_more}
use Rattle.fdr_record.specs.declared.event.Event.{Event}
use Rattle.stack_rebuild.specs.PairLaws.{no_event}
use Rattle.account_report.specs.private.Folding.{Folds}
use Rattle.account_report.proofs.report.take_block.Goals as goal

pub taking-preserved : goal.taking-preserved
taking-preserved c = λ blocks folds.
    let events = c.as_slice-event-items.result.now in
    subst (λ (es : List Event). Folds c.event.new.self (blocks ++ record c.args.block.now { events = es } ∷ []))
    (sym (take_more events c.taking.event-index no_event (omega arith)))
    (c.in_ok-event.ensures.took blocks _ (c.taking.invariant blocks folds))

pub returns : goal.returns
returns c = λ blocks folds.
    let events = c.as_slice-event-items.result.now in
    subst (λ (es : List Event). Folds c.taking.fold (blocks ++ record c.args.block.now { events = es } ∷ []))
    (take_all c.taking.event-index events (omega arith) ∙ c.as_slice-event-items.ensures)
    (c.taking.invariant blocks folds)
