use Rattle.step_sim.proofs.LostRuns.{replay_loses_oldest}
use Rattle.step_sim.proofs.SaidTurns.{turns_within}
use Rattle.step_sim.proofs.laws.lost_segments_are_the_oldest.Goals as goal

pub returns-clause-named : goal.returns-clause-named
returns-clause-named c = replay_loses_oldest

pub returns-clause-read : goal.returns-clause-read
returns-clause-read c = λ program script text schedule setup runs reads is.
    replay_loses_oldest program script schedule setup runs (turns_within setup.threads text schedule reads) is
