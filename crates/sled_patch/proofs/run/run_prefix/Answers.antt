use Rattle.std.proofs.Common.{◌≡◌, ◌∙◌, ap, sym, subst, arith}
use Rattle.patch_script.specs.Plans.{Plan}
use Rattle.sled_rule.specs.declared.views.PatchView.{PatchView}
use Rattle.sled_rule.specs.Plans.{start_in, IsStoreAt}
use Rattle.sled_rule.specs.Seats.{patch_view, script_of}
use Rattle.sled_patch.specs.Runs.{at_place}
use Rattle.sled_patch.proofs.Stores.{start_is, store_before}
use Rattle.sled_patch.proofs.run.run_prefix.Goals as goal

pub store_next-requires-clause-store : goal.store_next-requires-clause-store
store_next-requires-clause-store c =
    subst (λ (p : PatchView). IsStoreAt (script_of c.args.table.now) p.place) (sym c.loop.invariant.1)
    (subst (λ (z : Plan). IsStoreAt z c.loop.counter) c.script.ensures
    (store_before c.script.result.now c.start-end.result c.start-end.ensures.stores c.loop.counter c.loop-test.true))

pub returns-clause-view : goal.returns-clause-view
returns-clause-view c =
    let all : c.loop.counter ≡ c.start-end.result = omega arith in
    let start : c.start-end.result ≡ start_in (script_of c.args.table.now) =
    subst (λ (z : Plan). c.start-end.result ≡ start_in z) c.script.ensures (start_is c.script.result.now c.start-end.result c.start-end.ensures.start) in
    c.loop.invariant.1 ∙ ap (at_place (patch_view c.args.seat.now)) (all ∙ start)
