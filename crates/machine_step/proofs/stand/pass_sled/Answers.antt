use Rattle.std.proofs.Common.{arith}
use Rattle.machine_step.proofs.PassedSled.{passes_by, some_sled, on_to, on_back, on_end}
use Rattle.machine_step.proofs.Places.{place_within}
use Rattle.machine_step.proofs.stand.pass_sled.Goals as goal

pub at-requires : goal.at-requires
at-requires c =
    let at = c.requires.at.2 in
    let within = place_within c.args.steps.now.units c.requires.at.1 c.args.place at.placed in
    omega arith

pub step_over-requires-clause-place : goal.step_over-requires-clause-place
step_over-requires-clause-place c =
    let at = c.requires.at.2 in
    let within = place_within c.args.steps.now.units c.requires.at.1 c.args.place at.placed in
    omega (arith, c.at.ensures.small)

pub step_over-requires-clause-sled : goal.step_over-requires-clause-sled
step_over-requires-clause-sled c =
    some_sled c.args.steps.now c.args.limits c.requires.at.1 c.args.place c.requires.at.0 c.args.machine.now c.at.result.now c.at.ensures.step c.requires.at.2

pub run_to_sled-requires-clause-placed : goal.run_to_sled-requires-clause-placed
run_to_sled-requires-clause-placed c =
    let by = passes_by c.args.steps.now c.requires.accepted c.args.limits 0 c.requires.at.1 c.args.place c.requires.at.0 c.args.machine.now c.at.result.now
    c.requires.within c.at.ensures.step c.requires.at.2 _ c.step_over.new.self c.in-To.ensures.way c.in-To.ensures.left in
    (by.leads.0, by.leads.1)

pub returns-in-To-clause-passes : goal.returns-in-To-clause-passes
returns-in-To-clause-passes c address sled at thread =
    on_to c.args.steps.now c.requires.accepted c.args.limits thread address c.args.place sled c.args.machine.now c.at.result.now c.requires.within c.at.ensures.step at
    c.in-To.next c.step_over.new.self c.run_to_sled.new.machine c.run_to_sled.result c.in-To.ensures.way c.in-To.ensures.left
    (λ there placed. c.run_to_sled.ensures.runs there placed thread)

pub returns-in-Back-clause-passes : goal.returns-in-Back-clause-passes
returns-in-Back-clause-passes c address sled at thread =
    on_back c.args.steps.now c.requires.accepted c.args.limits thread address c.args.place sled c.args.machine.now c.at.result.now c.requires.within c.at.ensures.step at
    c.in-Back.address c.place_of-next.result c.step_over.new.self c.run_to_sled-in-Back.new.machine c.run_to_sled-in-Back.result
    c.in-Back.ensures.way c.in-Back.ensures.left c.place_of-next.ensures (λ there placed. c.run_to_sled-in-Back.ensures.runs there placed thread)

pub returns-in-Ends-clause-passes : goal.returns-in-Ends-clause-passes
returns-in-Ends-clause-passes c address sled at thread =
    on_end c.args.steps.now c.requires.accepted c.args.limits thread address c.args.place sled c.args.machine.now c.at.result.now c.requires.within c.at.ensures.step at
    c.in-Ends.end c.step_over.new.self c.in-Ends.ensures.way c.in-Ends.ensures.left
