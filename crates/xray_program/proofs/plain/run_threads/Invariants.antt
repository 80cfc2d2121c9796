use Rattle.xray_program.specs.private.Ends.{AreEnds}
use Rattle.xray_program.proofs.plain.run_threads.Given as goal

abbrev pub invariant-loop-thread : goal.invariant-loop-thread
invariant-loop-thread l = AreEnds l.image l.bounds l.thread l.ends.items
