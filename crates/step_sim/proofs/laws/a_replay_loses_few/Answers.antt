use Rattle.step_sim.proofs.LostRuns.{replay_loses}
use Rattle.step_sim.proofs.SaidTurns.{turns_within}
use Rattle.step_sim.proofs.laws.a_replay_loses_few.Goals as goal

pub returns : goal.returns
returns c = record {
  named = replay_loses;
  read = λ program script text schedule setup runs reads is.
      replay_loses program script schedule setup runs (turns_within setup.threads text schedule reads) is;
}
