use Rattle.std.proofs.Common.{◌≡◌, sym, subst}
use Rattle.machine_step.specs.declared.stage.Stage.{Stage}
use Rattle.machine_step.specs.declared.stand.Stand.TheVariants.{Loading}
use Rattle.machine_step.specs.private.Inside.{traced, IsStageOf}
use Rattle.machine_step.specs.Traced.{HasLoaded, Traced}
use Rattle.machine_step.proofs.OpenedPassing.{first_of_hold, gate_at, opened_loads, opened_same, sound_loading, standing}
use Rattle.machine_step.proofs.cpu.Cpu.opened.Goals as goal

pub invariant_of-self : goal.invariant_of-self
invariant_of-self c =
    let a = c.self.inside in
    sound_loading a c.self.invariant c.in-Gate.place c.in-Gate.sled c.first_stage-stage.result
    (gate_at a c.self.invariant c.in-Gate.place c.in-Gate.sled c.in-Gate.is)
    (subst (λ (s : Stage). IsStageOf a.hold a.machine.passings s) (sym c.first_stage-stage.ensures) (first_of_hold a.hold a.machine.passings))

pub returns-clause-loads : goal.returns-clause-loads
returns-clause-loads c =
    λ passed loads has.
    opened_loads c.self.inside c.self.invariant c.in-Gate.place c.in-Gate.sled c.first_stage-stage.result c.in-Gate.is c.first_stage-stage.ensures
    passed loads (subst (λ (t : Traced). HasLoaded t passed loads) (sym c.self.view_is) has)

pub returns-clause-same : goal.returns-clause-same
returns-clause-same c =
    let a = c.self.inside in
    let opened : Traced = traced (standing a (Loading c.in-Gate.place c.in-Gate.sled c.first_stage-stage.result)) in
    subst (λ (t : Traced). opened ≡ record t { want = opened.want }) c.self.view_is
    (opened_same a c.in-Gate.place c.in-Gate.sled c.first_stage-stage.result c.in-Gate.is c.first_stage-stage.ensures)
