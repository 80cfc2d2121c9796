use Rattle.std.proofs.Common.{take}
use Rattle.step_sim.proofs.AllRecorded.{LeadRecords}
use Rattle.step_sim.proofs.AllThreads.{LeadAll}
use Rattle.step_sim.proofs.replay.play.Given as goal

abbrev pub invariant-loop-turns : goal.invariant-loop-turns
invariant-loop-turns l =
    LeadAll (take l.turns-index l.lines) l.initial.patcher l.initial.cpus.items l.patcher l.cpus.items
    × LeadRecords (take l.turns-index l.lines) l.initial.patcher l.initial.cpus.items l.initial.pool l.patcher l.cpus.items l.pool
