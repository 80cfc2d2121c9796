use Rattle.std.proofs.Common.{◌≡◌, ◌<◌, ◌∷◌, ◌++◌, List, [], Some, length, sym, subst, arith}
use Rattle.std.specs.Prelude.{slice_get}
use Rattle.xray_image.specs.Program.{Program}
use Rattle.machine_step.specs.declared.end.End.{End}
use Rattle.machine_step.specs.Events.{events_in, recorded}
use Rattle.machine_step.specs.private.Inside.{traced}
use Rattle.machine_step.specs.PlainStep.{Passing, PlainRun, State}
use Rattle.machine_step.specs.Traced.{Traced, loads_left}
use Rattle.machine_step.proofs.GivenThread.{between_of, clause_events, ending_of}
use Rattle.machine_step.proofs.ThreadAfterLoad.{passed_on, sound_after}
use Rattle.machine_step.proofs.OpenedPassing.{gate_at, sled_within}
use Rattle.machine_step.proofs.LoadlessPassing.{nearer_passed, wants_no_load}
use Rattle.machine_step.proofs.ThreadOnPlainRun.{before_of}
use Rattle.machine_step.proofs.cpu.Cpu.pass.Goals as goal

pub event_at-event-requires-clause-sled : goal.event_at-event-requires-clause-sled
event_at-event-requires-clause-sled c =
    let a = c.self.inside in
    let at = gate_at a c.self.invariant c.in-Gate.place c.in-Gate.sled c.in-Gate.is in
    subst (λ (program : Program). c.in-Gate.sled < length program.sleds) (sym c.image-image.ensures.program)
    (sled_within a c.self.invariant c.in-Gate.place c.in-Gate.sled at)

pub add-requires : goal.add-requires
add-requires c =
    let a = c.self.inside in
    let at = gate_at a c.self.invariant c.in-Gate.place c.in-Gate.sled c.in-Gate.is in
    let before = before_of a c.self.invariant c.in-Gate.place c.in-Gate.sled at in
    omega (arith, before.left, c.self.invariant.room, c.self.invariant.made)

pub invariant_of-self : goal.invariant_of-self
invariant_of-self c =
    let a = c.self.inside in
    let at = gate_at a c.self.invariant c.in-Gate.place c.in-Gate.sled c.in-Gate.is in
    let ending = ending_of a c.in-Gate.place c.in-Gate.sled at c.pass_sled-self-inside.new.machine c.add.new.self c.pass_sled-self-inside.result c.args.mark
    c.pass_sled-self-inside.ensures.within c.add.ensures.items c.add.ensures.room c.pass_sled-self-inside.ensures.passes in
    sound_after a c.self.invariant c.in-Gate.place c.in-Gate.sled at c.pass_sled-self-inside.new.machine c.add.new.self c.pass_sled-self-inside.result c.args.mark ending

pub returns-clause-mark : goal.returns-clause-mark
returns-clause-mark c = subst (λ (t : Traced). c.add.new.self.items ≡ t.marks ++ c.args.mark ∷ []) c.self.view_is c.add.ensures.items

pub returns-clause-between : goal.returns-clause-between
returns-clause-between c =
    let a = c.self.inside in
    let at = gate_at a c.self.invariant c.in-Gate.place c.in-Gate.sled c.in-Gate.is in
    let ending = ending_of a c.in-Gate.place c.in-Gate.sled at c.pass_sled-self-inside.new.machine c.add.new.self c.pass_sled-self-inside.result c.args.mark
    c.pass_sled-self-inside.ensures.within c.add.ensures.items c.add.ensures.room c.pass_sled-self-inside.ensures.passes in
    wants_no_load a.steps.now a.threads a.thread c.pass_sled-self-inside.new.machine.passings c.pass_sled-self-inside.result
    (between_of a c.in-Gate.place c.in-Gate.sled at c.pass_sled-self-inside.new.machine c.add.new.self c.pass_sled-self-inside.result c.args.mark ending)

pub returns-clause-event : goal.returns-clause-event
returns-clause-event c =
    let a = c.self.inside in
    let at = gate_at a c.self.invariant c.in-Gate.place c.in-Gate.sled c.in-Gate.is in
    let before = before_of a c.self.invariant c.in-Gate.place c.in-Gate.sled at in
    let found = subst (λ (program : Program). slice_get program.sleds c.in-Gate.sled ≡ Some before.sled) (sym c.image-image.ensures.program) before.found in
    subst (λ (t : Traced). (passed : List Passing) (end : End) (last : State) → PlainRun t.program t.limits t.thread passed end last
    → recorded passed c.add.new.self.items ≡ recorded passed t.marks ++ events_in c.event_at-event.result) c.self.view_is
    (clause_events a c.self.invariant c.in-Gate.place c.in-Gate.sled at c.add.new.self.items c.args.mark c.event_at-event.result before.sled
    c.add.ensures.items before.found (λ address j. c.event_at-event.ensures address j before.sled found))

pub returns-clause-nearer : goal.returns-clause-nearer
returns-clause-nearer c =
    let a = c.self.inside in
    let at = gate_at a c.self.invariant c.in-Gate.place c.in-Gate.sled c.in-Gate.is in
    let ending = ending_of a c.in-Gate.place c.in-Gate.sled at c.pass_sled-self-inside.new.machine c.add.new.self c.pass_sled-self-inside.result c.args.mark
    c.pass_sled-self-inside.ensures.within c.add.ensures.items c.add.ensures.room c.pass_sled-self-inside.ensures.passes in
    subst (λ (t : Traced). loads_left (traced (passed_on a c.pass_sled-self-inside.new.machine c.add.new.self c.pass_sled-self-inside.result)) < loads_left t) c.self.view_is
    (nearer_passed a c.self.invariant c.in-Gate.place c.in-Gate.sled c.in-Gate.is c.pass_sled-self-inside.new.machine c.add.new.self c.pass_sled-self-inside.result
    c.args.mark c.add.ensures.items
    (between_of a c.in-Gate.place c.in-Gate.sled at c.pass_sled-self-inside.new.machine c.add.new.self c.pass_sled-self-inside.result c.args.mark ending))
