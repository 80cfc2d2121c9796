use Rattle.step_sim.proofs.AllRecorded.{RunRecords}
use Rattle.step_sim.proofs.AllThreads.{FirstRest, RunOut}
use Rattle.step_sim.proofs.replay.run_all_out.Given as goal

abbrev pub invariant-loop-i : goal.invariant-loop-i
invariant-loop-i l =
    RunOut l.i l.patcher l.initial.cpus.items l.cpus.items × FirstRest l.i l.cpus.items
    × RunRecords l.i l.patcher l.initial.cpus.items l.initial.pool l.cpus.items l.pool
