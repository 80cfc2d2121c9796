use Rattle.fdr_file.specs.ThreadEvents.{ThreadEvent}
use Rattle.trace_forms.proofs.Rows.{end_row}
use Rattle.trace_forms.proofs.trace_events.put_end.Goals as goal

pub returns : goal.returns
returns c =
    let e : ThreadEvent = record { thread = c.args.thread; pid = c.args.pid; event = c.args.event.now } in
    end_row e _ _ _ _ _ _ _ _ _ _ _ _ c.from-2.ensures c.from.ensures c.requires c.put.ensures c.put_number.ensures.text c.put-2.ensures
    c.put_number-2.ensures.text c.put-3.ensures c.put_number-3.ensures.text c.put-4.ensures c.put_phase.ensures.text c.put-5.ensures
