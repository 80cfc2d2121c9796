use Rattle.step_sim.specs.private.Recording.{come_to}
use Rattle.step_sim.proofs.PassingTurns.{leads_nowhere}
use Rattle.step_sim.proofs.thread.load_next.Goals as goal

pub returns-in-Last-clause-leads : goal.returns-in-Last-clause-leads
returns-in-Last-clause-leads c = leads_nowhere c.args.patcher.now (come_to c.args.cpu.now c.args.found) c.args.pool.now
