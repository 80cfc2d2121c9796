use Rattle.traced_run.proofs.Oldest.{all_events, all_kept, own_events}
use Rattle.traced_run.proofs.laws.a_run_without_losses_is_whole.Goals as goal

pub returns-clause-segments : goal.returns-clause-segments
returns-clause-segments c = all_kept

pub returns-clause-events : goal.returns-clause-events
returns-clause-events c = all_events c.segments_hold_all.ensures.all

pub returns-clause-thread : goal.returns-clause-thread
returns-clause-thread c = own_events c.segments_hold_all.ensures.all
