use Rattle.std.proofs.Common.{◌≡◌, ◌≤◌, List, Some, length, ap, refl, subst, sym, ◌∙◌}
use Rattle.std.specs.Prelude.{slice_get}
use Rattle.std.proofs.lemmas.Bool.{ltb-false, ltb-true}
use Rattle.std.proofs.lemmas.Option.{slice_get_read}
use Rattle.audit_check.specs.declared.switches.Awaited.{Awaited}
use Rattle.audit_check.proofs.PassedWaits.{bound_none, bound_some}
use Rattle.audit_check.proofs.follower.Follower.bound.Goals as goal

pub returns-in-Some-clause-bound : goal.returns-in-Some-clause-bound
returns-in-Some-clause-bound c = λ passed.
    let g = c.pass_awaits.new.self in
    let items = c.deref.result.now in
    let awaited = c.in-Some.awaited.now in
    let look = c.in-Some.ensures.lookup in
    let there : slice_get items g.awaits ≡ Some awaited =
    slice_get_read items (length items) g.awaits awaited refl (ltb-true g.awaits (length items) (sym look.0)) look.1 in
    bound_some c.args.self.now g awaited c.pass_awaits.ensures.same (sym (ap (λ (l : List Awaited). slice_get l g.awaits) c.deref.ensures.value) ∙ there)
    c.pass_awaits.ensures.stops (c.pass_awaits.ensures.passed passed)

pub returns-in-None-clause-bound : goal.returns-in-None-clause-bound
returns-in-None-clause-bound c = λ passed.
    let g = c.pass_awaits.new.self in
    let items = c.deref.result.now in
    bound_none c.args.self.now g c.pass_awaits.ensures.same
    (subst (λ (l : List Awaited). length l ≤ g.awaits) c.deref.ensures.value (ltb-false g.awaits (length items) (sym c.in-None.ensures.lookup.0)))
    (c.pass_awaits.ensures.passed passed)
