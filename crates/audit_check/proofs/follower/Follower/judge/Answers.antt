use Rattle.std.proofs.Common.{◌<◌, length, subst, sym}
use Rattle.audit_check.specs.declared.follower.Follower.{Follower}
use Rattle.audit_check.proofs.FollowerSteps.{judged_step, step_passing, step_ready, step_same, waited_ready}
use Rattle.audit_check.proofs.follower.Follower.judge.Goals as goal

pub next_found-requires-clause-ready : goal.next_found-requires-clause-ready
next_found-requires-clause-ready c = waited_ready c.args.self.now c.bound-bound.new.self c.bound-bound.ensures.same c.requires.ready

pub next_found-requires-clause-sled : goal.next_found-requires-clause-sled
next_found-requires-clause-sled c =
    subst (λ (x : Follower). c.args.sled < length x.image.now.sleds) (sym c.bound-bound.ensures.same) c.requires.sled

pub returns-clause-ready : goal.returns-clause-ready
returns-clause-ready c =
    step_ready c.args.self.now c.bound-bound.new.self c.next_found.new.self c.end_of-self.result c.bound-bound.ensures.same c.next_found.ensures.same
    c.requires.ready

pub returns-clause-passing : goal.returns-clause-passing
returns-clause-passing c =
    step_passing c.args.self.now c.bound-bound.new.self c.next_found.new.self c.bound-bound.ensures.same c.next_found.ensures.same

pub returns-clause-image : goal.returns-clause-image
returns-clause-image c =
    (step_same c.args.self.now c.bound-bound.new.self c.next_found.new.self c.end_of-self.result c.bound-bound.ensures.same c.next_found.ensures.same).image

pub returns-clause-thread : goal.returns-clause-thread
returns-clause-thread c =
    (step_same c.args.self.now c.bound-bound.new.self c.next_found.new.self c.end_of-self.result c.bound-bound.ensures.same c.next_found.ensures.same).thread

pub returns-clause-judged : goal.returns-clause-judged
returns-clause-judged c =
    judged_step c.args.self.now c.bound-bound.new.self c.next_found.new.self c.bound-bound.result c.args.sled c.args.mark c.next_found.result
    c.end_of-self.result c.end_of-self.ensures c.bound-bound.ensures.same c.next_found.ensures.same c.bound-bound.ensures.bound c.bound-bound.ensures.passed
    c.next_found.ensures.found c.requires.sled
