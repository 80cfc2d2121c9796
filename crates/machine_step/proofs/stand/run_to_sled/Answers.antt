use Rattle.std.proofs.Common.{sym, ◌∙◌, arith}
use Rattle.machine_step.proofs.Accepted.{are_in_order}
use Rattle.machine_step.proofs.WayToSled.{begins, way_within, way_to, way_back, way_ends, falls_to, falls_back}
use Rattle.machine_step.proofs.stand.run_to_sled.Goals as goal

pub steps-init : goal.steps-init
steps-init c = record {
  way = begins c.args.steps.now c.args.limits c.args.start c.args.machine.now;
  within = c.requires.within;
}

pub at-step-requires : goal.at-step-requires
at-step-requires c =
    let within = way_within c.args.steps.now c.args.limits c.args.start c.args.machine.now c.steps.place c.steps.machine c.steps.invariant.way
    c.requires.placed.0 c.requires.placed.1 in
    omega arith

pub returns-in-Some-clause-runs : goal.returns-in-Some-clause-runs
returns-in-Some-clause-runs c =
    λ address placed thread.
    let here = c.steps.invariant.way.on address placed in (
      here.0,
      record {
        placed = here.1;
        step = c.at-step.result.now;
        is_step = c.at-step.ensures.step;
        due = sym c.in-Some.ensures;
      },
      here.2 thread,
    )

pub step-requires-clause-place : goal.step-requires-clause-place
step-requires-clause-place c =
    let within = way_within c.args.steps.now c.args.limits c.args.start c.args.machine.now c.steps.place c.steps.machine c.steps.invariant.way
    c.requires.placed.0 c.requires.placed.1 in
    omega (arith, c.at-step.ensures.small)

pub steps-smaller-in-To : goal.steps-smaller-in-To
steps-smaller-in-To c =
    let accepted = c.requires.accepted in
    falls_to c.args.steps.now (are_in_order accepted.0 c.args.steps.now accepted.1) c.args.limits c.args.start c.args.machine.now
    c.steps.place c.steps.machine c.at-step.result.now c.steps.invariant.way c.requires.placed.0 c.requires.placed.1
    c.at-step.ensures.step c.steps.invariant.within
    c.in-To.next c.step.new.self c.in-To.ensures.way c.in-To.ensures.left

pub steps-preserved-in-To : goal.steps-preserved-in-To
steps-preserved-in-To c =
    let accepted = c.requires.accepted in
    record {
      way = way_to c.args.steps.now (are_in_order accepted.0 c.args.steps.now accepted.1) c.args.limits c.args.start c.args.machine.now
          c.steps.place c.steps.machine c.at-step.result.now c.steps.invariant.way
          c.at-step.ensures.step c.steps.invariant.within
          (sym c.due_sled.ensures ∙ c.in_default.is) c.in-To.next c.step.new.self c.in-To.ensures.way c.in-To.ensures.left;
      within = c.in-To.ensures.within;
    }

pub steps-smaller : goal.steps-smaller
steps-smaller c =
    let accepted = c.requires.accepted in
    falls_back c.args.steps.now (are_in_order accepted.0 c.args.steps.now accepted.1) c.args.limits c.args.start c.args.machine.now
    c.steps.place c.steps.machine c.at-step.result.now c.steps.invariant.way c.requires.placed.0 c.requires.placed.1
    c.at-step.ensures.step c.steps.invariant.within
    c.in-Back.address c.place_of-place.result c.step.new.self c.in-Back.ensures.way c.in-Back.ensures.left

pub steps-preserved : goal.steps-preserved
steps-preserved c =
    let accepted = c.requires.accepted in
    record {
      way = way_back c.args.steps.now (are_in_order accepted.0 c.args.steps.now accepted.1) c.args.limits c.args.start c.args.machine.now
          c.steps.place c.steps.machine c.at-step.result.now c.steps.invariant.way
          c.at-step.ensures.step c.steps.invariant.within
          (sym c.due_sled.ensures ∙ c.in_default.is) c.in-Back.address c.place_of-place.result c.step.new.self
          c.in-Back.ensures.way c.in-Back.ensures.left c.place_of-place.ensures;
      within = c.in-Back.ensures.within;
    }

pub returns-in-Ends-clause-runs : goal.returns-in-Ends-clause-runs
returns-in-Ends-clause-runs c =
    let accepted = c.requires.accepted in
    λ address placed thread.
    way_ends c.args.steps.now (are_in_order accepted.0 c.args.steps.now accepted.1) c.args.limits c.args.start c.args.machine.now
    c.steps.place c.steps.machine c.at-step.result.now c.steps.invariant.way
    c.at-step.ensures.step c.steps.invariant.within
    (sym c.due_sled.ensures ∙ c.in_default.is) c.in-Ends.end c.step.new.self c.in-Ends.ensures.way c.in-Ends.ensures.left
    address placed thread
