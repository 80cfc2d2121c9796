use Rattle.traced_run.proofs.Oldest.{lost_then_kept}
use Rattle.traced_run.proofs.laws.lost_and_left_segments_hold_all.Goals as goal

pub returns : goal.returns
returns c = lost_then_kept c.segments_hold_all.ensures.all
