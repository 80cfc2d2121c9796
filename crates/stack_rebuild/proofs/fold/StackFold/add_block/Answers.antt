use Rattle.std.proofs.Common.{◌++◌, ◌∙◌, List, [], ◌∷◌, arith, subst, sym, take}
use Rattle.std.proofs.lemmas.List.{take_all, take_more}
use Rattle.fdr_record.specs.declared.event.Event.{Event}
use Rattle.fdr_file.specs.declared.trace.Block.{Block}
use Rattle.stack_rebuild.specs.PairLaws.{no_event}
use Rattle.stack_rebuild.specs.private.Folding.{Folds}
use Rattle.stack_rebuild.proofs.fold.StackFold.add_block.Goals as goal

pub event-requires : goal.event-requires
event-requires c = record { begun = (c.taking.invariant.some.0, _, c.taking.invariant.taken c.taking.invariant.some.0 c.taking.invariant.some.1) }

pub taking-preserved : goal.taking-preserved
taking-preserved c =
    let block = c.args.block.now in
    let events = c.as_slice-event-items.result.now in
    let with_events : List Event → Block = λ es. record block { events = es } in record {
      some = c.taking.invariant.some;
      taken = λ blocks is.
          subst (λ (es : List Event). Folds c.event.new.self (blocks ++ with_events es ∷ []))
          (sym (take_more events c.taking.event-index no_event (omega (arith, c.taking-test.true))))
          (c.in_ok-event.ensures.took blocks (with_events (take c.taking.event-index events)) (c.taking.invariant.taken blocks is));
    }

pub returns : goal.returns
returns c = λ blocks is.
    let block = c.args.block.now in
    let events = c.as_slice-event-items.result.now in
    let with_events : List Event → Block = λ es. record block { events = es } in
    subst (λ (es : List Event). Folds c.taking.self (blocks ++ with_events es ∷ []))
    (take_all c.taking.event-index events (omega (arith, c.taking-test.false)) ∙ c.as_slice-event-items.ensures) (c.taking.invariant.taken blocks is)
