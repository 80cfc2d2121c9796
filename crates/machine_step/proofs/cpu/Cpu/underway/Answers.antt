use Rattle.std.proofs.Common.{refl, subst}
use Rattle.machine_step.specs.declared.underway.Underway.{Underway}
use Rattle.machine_step.specs.private.Inside.{traced}
use Rattle.machine_step.specs.Traced.{Traced}
use Rattle.machine_step.specs.Underway.{IsPassingOf, WantsHead}
use Rattle.machine_step.proofs.UnderwayPassing.{passing_of, wants_head_of}
use Rattle.machine_step.proofs.cpu.Cpu.underway.Goals as goal

pub returns-in-Head-clause-of : goal.returns-in-Head-clause-of
returns-in-Head-clause-of c =
    let u : Underway = record { sled = c.in-Loading.sled; stage = c.in-Loading.stage } in
    subst (λ (t : Traced). IsPassingOf t u) c.self.view_is (passing_of c.self.inside c.self.invariant c.in-Loading.place u c.in-Loading.is c.in-Head.is)

pub returns-in-Head-clause-some : goal.returns-in-Head-clause-some
returns-in-Head-clause-some c =
    let u : Underway = record { sled = c.in-Loading.sled; stage = c.in-Loading.stage } in
    let wants : WantsHead (traced c.self.inside) =
    wants_head_of (traced c.self.inside) u (passing_of c.self.inside c.self.invariant c.in-Loading.place u c.in-Loading.is c.in-Head.is) in
    (λ some. subst (λ (t : Traced). WantsHead t) c.self.view_is wants, λ wanted. refl)
