use Rattle.std.proofs.Common.{◌≡◌, ◌<◌, List, length, subst, Some, arith}
use Rattle.std.specs.Prelude.{slice_get}
use Rattle.machine_step.specs.declared.end.End.{End}
use Rattle.machine_step.specs.PlainStep.{Passing, PlainRun, State}
use Rattle.machine_step.specs.Traced.{Traced}
use Rattle.machine_step.proofs.OpenedPassing.{gate_at, sled_within}
use Rattle.machine_step.proofs.LoadlessPassing.{passing_here}
use Rattle.machine_step.proofs.ThreadOnPlainRun.{before_of}
use Rattle.machine_step.proofs.cpu.Cpu.sled.Goals as goal

pub returns-clause-within : goal.returns-clause-within
returns-clause-within c =
    subst (λ (t : Traced). c.in-Gate.sled < length t.program.sleds) c.self.view_is
    (sled_within c.self.inside c.self.invariant c.in-Gate.place c.in-Gate.sled
    (gate_at c.self.inside c.self.invariant c.in-Gate.place c.in-Gate.sled c.in-Gate.is))

pub returns-clause-left : goal.returns-clause-left
returns-clause-left c =
    let before = before_of c.self.inside c.self.invariant c.in-Gate.place c.in-Gate.sled
    (gate_at c.self.inside c.self.invariant c.in-Gate.place c.in-Gate.sled c.in-Gate.is) in
    subst (λ (t : Traced). length t.marks < t.limits.passings) c.self.view_is (omega (arith, before.left, c.self.invariant.made))

pub returns-clause-passing : goal.returns-clause-passing
returns-clause-passing c =
    subst (λ (t : Traced). (passed : List Passing) (end : End) (last : State) → PlainRun t.program t.limits t.thread passed end last
    → (p : Passing) × (slice_get passed (length t.marks) ≡ Some p) × (p.sled ≡ c.in-Gate.sled)) c.self.view_is
    (passing_here c.self.inside c.self.invariant c.in-Gate.place c.in-Gate.sled c.in-Gate.is)
