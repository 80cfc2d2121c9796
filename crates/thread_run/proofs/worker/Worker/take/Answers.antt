use Rattle.thread_run.proofs.PassingLoads.{taken_all, taken_one}
use Rattle.thread_run.proofs.worker.Worker.take.Goals as goal

pub returns-in-Some-clause-taken : goal.returns-in-Some-clause-taken
returns-in-Some-clause-taken g c =
    let said = c.take_all.ensures in
    taken_all c.args.word c.args.self.now c.take_all.new.self said.same.thread c.requires.wants said.come said.made said.nearer

pub returns-in-None-clause-taken : goal.returns-in-None-clause-taken
returns-in-None-clause-taken g c =
    let said = c.take_one-event.ensures in
    taken_one c.args.word c.args.self.now c.take_one-event.new.self said.taken said.same.thread c.requires.wants
