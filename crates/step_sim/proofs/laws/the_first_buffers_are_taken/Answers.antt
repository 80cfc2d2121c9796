use Rattle.step_sim.proofs.LostRuns.{replay_takes_first}
use Rattle.step_sim.proofs.SaidTurns.{turns_within}
use Rattle.step_sim.proofs.laws.the_first_buffers_are_taken.Goals as goal

pub returns-clause-named : goal.returns-clause-named
returns-clause-named c = replay_takes_first

pub returns-clause-read : goal.returns-clause-read
returns-clause-read c = λ program script text schedule setup runs reads is.
    replay_takes_first program script schedule setup runs (turns_within setup.threads text schedule reads) is
