use Rattle.traced_run.proofs.KeptEvents.{in_any_order, kept_filled, one_filled}
use Rattle.traced_run.proofs.laws.kept_buffers_hold_events.Goals as goal

pub returns : goal.returns
returns c = record {
  one = one_filled c.segments_hold_all.ensures.some;
  all = kept_filled c.segments_hold_all.ensures.some;
  any_order = in_any_order c.segments_hold_all.ensures.some;
}
