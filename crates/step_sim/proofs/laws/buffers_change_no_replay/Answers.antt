use Rattle.step_sim.proofs.PooledReplay.{has_buffers, is_replay, last_moment}
use Rattle.step_sim.proofs.laws.buffers_change_no_replay.Goals as goal

pub returns : goal.returns
returns c = record { moments = last_moment; is = is_replay; has = has_buffers }
