use Rattle.thread_run.proofs.PassingLoads.{thread_same}
use Rattle.thread_run.proofs.WorkerLoads.{made_then}
use Rattle.thread_run.proofs.worker.Worker.take_all.Goals as goal

pub returns-in-More-clause-made : goal.returns-in-More-clause-made
returns-in-More-clause-made g c =
    let old = c.args.self.now in
    let mid = c.load-head.new.self in
    let read = c.load-head.ensures.read in
    made_then old mid c.take_patched.new.self (thread_same old mid read.same) read.made c.take_patched.ensures.made
