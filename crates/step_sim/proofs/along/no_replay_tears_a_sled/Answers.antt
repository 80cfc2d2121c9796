use Rattle.step_sim.proofs.WholeRuns.{decodes_whole}
use Rattle.step_sim.proofs.ReplayAlong.{replay_along}
use Rattle.step_sim.proofs.SaidTurns.{names_threads}
use Rattle.step_sim.proofs.along.no_replay_tears_a_sled.Goals as goal

pub returns-clause-named : goal.returns-clause-named
returns-clause-named c = λ cast schedule last names out. c.a_replay_reads_along.ensures.whole cast last (replay_along cast schedule last names out)

pub returns-clause-runs : goal.returns-clause-runs
returns-clause-runs c = λ program script text schedule setup runs reads is.
    decodes_whole c.a_replay_reads_along.ensures.wanted c.a_replay_reads_along.ensures.whole program script schedule setup runs (names_threads setup.threads text schedule reads) is
