use Rattle.std.proofs.Common.{subst}
use Rattle.thread_run.specs.declared.worker.Found.{Found}
use Rattle.thread_run.specs.private.Steps.{HasFetched, IsFound}
use Rattle.thread_run.specs.Workers.{IsGoing}
use Rattle.thread_run.proofs.PassingLoads.{came, came_more, came_same, going_lacks}
use Rattle.thread_run.proofs.worker.Worker.end.Goals as goal

pub returns-in-More-clause-same : goal.returns-in-More-clause-same
returns-in-More-clause-same g c =
    came_same g.R.Recorder.follows g.met.R.Recorder.follows_itself c.args.self.now c.in-More.underway _ c.come_to.ensures

pub returns-in-More-clause-come : goal.returns-in-More-clause-come
returns-in-More-clause-come g c =
    let worker = c.args.self.now in
    let is = subst (λ (f : Found). IsFound g.R.Recorder.stands f worker) c.in-More.is c.requires.found in
    came_more g.R.Recorder.stands worker c.in-More.underway _ c.come_to.ensures is.1

pub returns-in-More-clause-lacks : goal.returns-in-More-clause-lacks
returns-in-More-clause-lacks g c =
    let worker = c.args.self.now in
    let is = subst (λ (f : Found). IsFound g.R.Recorder.stands f worker) c.in-More.is c.requires.found in
    going_lacks g.R.Recorder.stands _ (subst (IsGoing g.R.Recorder.stands) (came worker c.in-More.underway _ c.come_to.ensures) is.1)

pub give-requires : goal.give-requires
give-requires g c =
    let worker = c.args.self.now in
    let is = subst (λ (f : Found). IsFound g.R.Recorder.stands f worker) c.in-Last.is c.requires.found in
    record { fetched = subst (HasFetched g.R.Recorder.stands c.in-Last.value) (came worker c.in-Last.underway _ c.come_to-in-Last.ensures) is.1 }
