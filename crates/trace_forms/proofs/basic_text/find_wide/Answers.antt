use Rattle.std.proofs.Common.{◌∙◌, ap, arith, length, sym}
use Rattle.std.proofs.lemmas.Option.{MatchOption-at_none}
use Rattle.trace_forms.proofs.Wide.{narrow_on, wide_from_zero, wide_here, wide_nowhere}
use Rattle.trace_forms.proofs.basic_text.find_wide.Goals as goal

pub overflow_add-number : goal.overflow_add-number
overflow_add-number g c = omega (arith, c.requires, c.narrow.invariant.passed, ap {B = _} length c.in-Some.ensures)

pub returns-then-event-gt-MOST_CPU : goal.returns-then-event-gt-MOST_CPU
returns-then-event-gt-MOST_CPU g c =
    wide_here c.narrow.number _ _ _ c.in-Some.ensures (omega arith)
    ∙ (c.narrow.invariant.found ∙ sym (wide_from_zero (g.E.EventSource.left c.args.events.now)))

pub narrow-preserved : goal.narrow-preserved
narrow-preserved g c = record {
  passed = omega (arith, c.narrow.invariant.passed, ap {B = _} length c.in-Some.ensures);
  found = narrow_on c.narrow.number _ _ _ c.in-Some.ensures (omega arith) ∙ c.narrow.invariant.found;
}

pub returns : goal.returns
returns g c =
    wide_nowhere c.narrow.number _ (MatchOption-at_none _ _ c.in_default.is c.next_event.ensures)
    ∙ (c.narrow.invariant.found ∙ sym (wide_from_zero (g.E.EventSource.left c.args.events.now)))
