use Rattle.std.proofs.Common.{◌<◌, length, subst, sym}
use Rattle.audit_check.specs.declared.follower.Follower.{Follower}
use Rattle.audit_check.proofs.NextSearches.{placed_again}
use Rattle.audit_check.proofs.FollowerGuesses.{ready_again, same_then}
use Rattle.audit_check.proofs.FollowerSteps.{judged_step, step_passing, step_ready, step_same, waited_ready}
use Rattle.audit_check.proofs.follower.Follower.judge_and_add.Goals as goal

pub next_found-found-requires-clause-ready : goal.next_found-found-requires-clause-ready
next_found-found-requires-clause-ready c = waited_ready c.args.self.now c.bound-bound.new.self c.bound-bound.ensures.same c.requires.ready

pub next_found-found-requires-clause-sled : goal.next_found-found-requires-clause-sled
next_found-found-requires-clause-sled c =
    subst (λ (x : Follower). c.args.sled < length x.image.now.sleds) (sym c.bound-bound.ensures.same) c.requires.sled

pub add_loads-requires-clause-ready : goal.add_loads-requires-clause-ready
add_loads-requires-clause-ready c =
    ready_again c.bound-bound.new.self c.next_found-found.new.self c.next_found-found.ensures.same
    (waited_ready c.args.self.now c.bound-bound.new.self c.bound-bound.ensures.same c.requires.ready)

pub add_loads-requires-clause-sled : goal.add_loads-requires-clause-sled
add_loads-requires-clause-sled c =
    subst (λ (x : Follower). c.args.sled < length x.image.now.sleds) (sym c.next_found-found.ensures.same.same)
    (subst (λ (x : Follower). c.args.sled < length x.image.now.sleds) (sym c.bound-bound.ensures.same) c.requires.sled)

pub returns-clause-ready : goal.returns-clause-ready
returns-clause-ready c =
    let g = c.bound-bound.new.self in
    let k = c.add_loads.new.self in
    let same = same_then g c.next_found-found.new.self k c.next_found-found.ensures.same c.in_ok-add_loads.ensures.same in
    step_ready c.args.self.now g k c.end_of-self.result c.bound-bound.ensures.same same c.requires.ready

pub returns-clause-passing : goal.returns-clause-passing
returns-clause-passing c =
    let g = c.bound-bound.new.self in
    let k = c.add_loads.new.self in
    let same = same_then g c.next_found-found.new.self k c.next_found-found.ensures.same c.in_ok-add_loads.ensures.same in
    step_passing c.args.self.now g k c.bound-bound.ensures.same same

pub returns-clause-image : goal.returns-clause-image
returns-clause-image c =
    let g = c.bound-bound.new.self in
    let k = c.add_loads.new.self in
    let same = same_then g c.next_found-found.new.self k c.next_found-found.ensures.same c.in_ok-add_loads.ensures.same in
    (step_same c.args.self.now g k c.end_of-self.result c.bound-bound.ensures.same same).image

pub returns-clause-thread : goal.returns-clause-thread
returns-clause-thread c =
    let g = c.bound-bound.new.self in
    let k = c.add_loads.new.self in
    let same = same_then g c.next_found-found.new.self k c.next_found-found.ensures.same c.in_ok-add_loads.ensures.same in
    (step_same c.args.self.now g k c.end_of-self.result c.bound-bound.ensures.same same).thread

pub returns-clause-judged : goal.returns-clause-judged
returns-clause-judged c =
    let g = c.bound-bound.new.self in
    let k = c.add_loads.new.self in
    let same = same_then g c.next_found-found.new.self k c.next_found-found.ensures.same c.in_ok-add_loads.ensures.same in
    judged_step c.args.self.now g k c.bound-bound.result c.args.sled c.args.mark c.next_found-found.result c.end_of-self.result c.end_of-self.ensures
    c.bound-bound.ensures.same same c.bound-bound.ensures.bound c.bound-bound.ensures.passed c.next_found-found.ensures.found c.requires.sled

pub returns-clause-placed : goal.returns-clause-placed
returns-clause-placed c =
    placed_again c.args.self.now c.bound-bound.new.self c.next_found-found.new.self c.add_loads.new.self c.bound-bound.result c.args.sled c.args.mark
    c.next_found-found.result c.end_of-self.result c.args.loads.now c.add_loads.new.loads c.end_of-self.ensures c.bound-bound.ensures.same
    c.next_found-found.ensures.same c.in_ok-add_loads.ensures.same c.bound-bound.ensures.bound c.next_found-found.ensures.found c.in_ok-add_loads.ensures.added
