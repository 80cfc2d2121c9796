use Rattle.std.proofs.Common.{List, ◌++◌, ◌<◌, ap, append_assoc, arith, length, sym, ◌∙◌}
use Rattle.std.specs.Prelude.{option_to_list}
use Rattle.std.proofs.lemmas.List.{length-drop}
use Rattle.fdr_record.specs.declared.event.Event.{Event}
use Rattle.runtime_log.specs.OwnEvents.{log_record_length}
use Rattle.runtime_log.specs.private.Walks.{walk_events}
use Rattle.runtime_log.proofs.EventsToCome.{settles_none, walk_end, walk_step, walk_stop}
use Rattle.runtime_log.proofs.blocks.next_told.Goals as goal

pub returns-in-Err-clause-ends : goal.returns-in-Err-clause-ends
returns-in-Err-clause-ends c = λ none.
    let some : 0 < length c.records.walk.rest.now = omega (arith, c.records-test.true, c.left.ensures) in
    c.records.invariant.left ∙ walk_stop c.records.walk _ some c.in-Err.ensures.0

pub returns-then-is_some-clause-gives : goal.returns-then-is_some-clause-gives
returns-then-is_some-clause-gives c =
    let some : 0 < length c.records.walk.rest.now = omega (arith, c.records-test.true, c.left.ensures) in
    let first = c.settled-first.result.0 in
    let later = c.settled-first.result.1 in
    let next = c.step.new.self in
    c.records.invariant.left
    ∙ walk_step c.records.walk next c.in-Ok.told some c.in-Ok.ensures.0 c.in-Ok.ensures.2
    ∙ ap (λ (es : List Event). es ++ walk_events next) c.settled-first.ensures.events
    ∙ append_assoc (option_to_list first) (option_to_list later) (walk_events next)

pub records-preserved : goal.records-preserved
records-preserved c =
    let i = c.records.invariant in
    let rest = c.records.walk.rest.now in
    let some : 0 < length rest = omega (arith, c.records-test.true, c.left.ensures) in
    let next = c.step.new.self in
    let past = c.in-Ok.ensures.2 in
    let none = settles_none c.settled-first.result.0 c.settled-first.result.1 (sym c.is_some.ensures ∙ c.if-is_some.false) c.settled-first.ensures.none in
    record {
      left =
          i.left
          ∙ walk_step c.records.walk next c.in-Ok.told some c.in-Ok.ensures.0 past
          ∙ ap (λ (es : List Event). es ++ walk_events next) (c.settled-first.ensures.events ∙ none);
      end = omega (arith, i.end, past.at_is, past.fits, ap length past.rest, length-drop (log_record_length c.records.walk.version rest) rest);
    }

pub returns-clause-ends : goal.returns-clause-ends
returns-clause-ends c = λ none. c.records.invariant.left ∙ walk_end c.records.walk (omega (arith, c.records-test.false, c.left.ensures))
