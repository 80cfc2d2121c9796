use Rattle.trace_forms.proofs.Rows.{start_row}
use Rattle.trace_forms.proofs.trace_events.put_start.Goals as goal

pub returns : goal.returns
returns c =
    start_row c.args.before.now c.args.event.now _ _ _ _ _ _ c.from.ensures c.requires.none c.put.ensures c.put_number.ensures.text c.put_arg.ensures.text
    c.put-2.ensures
