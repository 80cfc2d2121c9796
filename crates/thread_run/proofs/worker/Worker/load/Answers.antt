use Rattle.thread_run.proofs.PassingLoads.{read_none}
use Rattle.thread_run.proofs.worker.Worker.load.Goals as goal

pub returns-in-Last-clause-read : goal.returns-in-Last-clause-read
returns-in-Last-clause-read g c = read_none c.args.found c.args.self.now
