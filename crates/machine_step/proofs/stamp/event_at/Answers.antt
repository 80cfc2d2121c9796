use Rattle.std.proofs.Common.{◌∙◌, ap, sym, ℕ, Some}
use Rattle.fdr_record.specs.declared.event.Event.{Event}
use Rattle.fdr_record.specs.declared.event.Kind.TheVariants as events
use Rattle.machine_step.specs.Events.{event_of, stamped}
use Rattle.machine_step.specs.private.Machine.{state_at}
use Rattle.machine_step.specs.PlainStep.{passing_at}
use Rattle.machine_step.proofs.stamp.event_at.Goals as goal

pub returns-in-Recorded : goal.returns-in-Recorded
returns-in-Recorded c =
    λ address k at found.
    let p = passing_at c.args.limits c.args.thread (state_at address c.args.machine.now) k at in
    ap (λ (e : Event). Some e) (c.plain_event.ensures address k at found) ∙ ap (event_of p) (sym c.in-Recorded.is)

pub returns-in-RecordedArg : goal.returns-in-RecordedArg
returns-in-RecordedArg c =
    λ address k at found.
    let p = passing_at c.args.limits c.args.thread (state_at address c.args.machine.now) k at in
    ap (λ (e : Event). Some (record e { kind = events.EntryArgs; arg = c.first_argument.result }))
    (c.plain_event-in-RecordedArg.ensures address k at found)
    ∙ (ap (λ (n : ℕ). Some (stamped p events.EntryArgs n)) c.first_argument.ensures ∙ ap (event_of p) (sym c.in-RecordedArg.is))
