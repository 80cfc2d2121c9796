use Rattle.step_sim.proofs.SaidTurns.{names_threads}
use Rattle.step_sim.proofs.StillMarks.{marks_follow}
use Rattle.step_sim.proofs.along.marks_of_a_replay_follow.Goals as goal

pub returns : goal.returns
returns c = λ program lines text schedule setup runs reads still is.
    marks_follow c.a_replay_reads_along.ensures.wanted c.a_replay_reads_along.ensures.whole program lines schedule setup runs
    (names_threads setup.threads text schedule reads) still is
