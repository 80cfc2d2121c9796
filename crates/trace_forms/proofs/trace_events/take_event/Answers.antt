use Rattle.std.proofs.Common.{Bool, subst, sym}
use Rattle.std.specs.Prelude.{◌≡◌, ◌+◌, [], MatchBool, length}
use Rattle.fdr_file.specs.ThreadEvents.{event_given}
use Rattle.trace_forms.proofs.GivenTexts.{taken}
use Rattle.trace_forms.proofs.trace_events.take_event.Goals as goal

pub returns : goal.returns
returns g c =
    let old = g.E.EventSource.left c.args.events.now in
    let new = g.E.EventSource.left c.next_event.new.self in
    subst (λ (b : Bool). MatchBool b (length old ≡ length new + 1) (old ≡ [])) (sym c.is_some.ensures) (taken event_given old new c.next_event.result c.next_event.ensures)
