use Rattle.std.proofs.Common.{arith}
use Rattle.machine_step.specs.private.Machine.{state_at}
use Rattle.machine_step.proofs.Accepted.{are_in_order}
use Rattle.machine_step.proofs.MachineRuns.{StandsAgain, stands_within, goes_on, goes_back, ends_there, comes_nearer}
use Rattle.machine_step.proofs.running.run.Goals as goal

pub at-step-requires : goal.at-step-requires
at-step-requires c =
    let within = stands_within c.args.steps.now c.args.limits _ c.steps.place c.steps.machine c.steps.invariant.stands in
    omega arith

pub step-requires-clause-place : goal.step-requires-clause-place
step-requires-clause-place c =
    let within = stands_within c.args.steps.now c.args.limits _ c.steps.place c.steps.machine c.steps.invariant.stands in
    omega (arith, c.at-step.ensures.small)

-- the machine stands on the run again
on : (c : goal.In-To) → StandsAgain c.args.steps.now c.args.limits (state_at c.args.steps.now.entry c.args.machine.now) c.steps.place c.steps.machine c.in-To.next c.step.new.self
on c =
    goes_on c.args.steps.now (are_in_order c.start-place.ensures.accepted.0 c.args.steps.now c.start-place.ensures.accepted.1) c.args.limits _
    c.steps.place c.steps.machine c.at-step.result.now c.steps.invariant.stands c.at-step.ensures.step
    c.steps.invariant.within c.in-To.next c.step.new.self c.in-To.ensures.way c.in-To.ensures.left

back : (c : goal.After-place_of-place) → StandsAgain c.args.steps.now c.args.limits (state_at c.args.steps.now.entry c.args.machine.now) c.steps.place c.steps.machine c.place_of-place.result c.step.new.self
back c =
    goes_back c.args.steps.now (are_in_order c.start-place.ensures.accepted.0 c.args.steps.now c.start-place.ensures.accepted.1) c.args.limits _
    c.steps.place c.steps.machine c.at-step.result.now c.steps.invariant.stands c.at-step.ensures.step
    c.steps.invariant.within c.in-Back.address c.place_of-place.result c.step.new.self c.in-Back.ensures.way c.in-Back.ensures.left
    c.place_of-place.ensures

pub steps-smaller-in-To : goal.steps-smaller-in-To
steps-smaller-in-To c = comes_nearer c.args.steps.now c.args.limits _ c.steps.place c.in-To.next c.steps.machine c.step.new.self c.steps.invariant.stands (on c)

pub steps-preserved-in-To : goal.steps-preserved-in-To
steps-preserved-in-To c = record { stands = (on c).stands; within = c.in-To.ensures.within }

pub steps-smaller : goal.steps-smaller
steps-smaller c = comes_nearer c.args.steps.now c.args.limits _ c.steps.place c.place_of-place.result c.steps.machine c.step.new.self c.steps.invariant.stands (back c)

pub steps-preserved : goal.steps-preserved
steps-preserved c = record { stands = (back c).stands; within = c.in-Back.ensures.within }

pub returns-in-Ends : goal.returns-in-Ends
returns-in-Ends c =
    let accepted = c.start-place.ensures.accepted in
    ends_there c.args.steps.now (are_in_order accepted.0 c.args.steps.now accepted.1) c.args.limits _
    c.steps.place c.steps.machine c.at-step.result.now c.steps.invariant.stands c.at-step.ensures.step
    c.steps.invariant.within c.in-Ends.end c.step.new.self c.in-Ends.ensures.way c.in-Ends.ensures.left
