-- The patcher stays within its script.
use Rattle.std.proofs.Common.{◌≡◌, ℕ, ◌+◌, ◌≤◌, sym, subst, arith}
use Rattle.std.specs.Prelude.{nat_lt, if◌then◌else◌}
use Rattle.std.proofs.lemmas.Bool.Decides.{nat_tests}
use mathlib.Core.Logic.{dite}
use native.Mathlib.Decide.{dec_lt}
use Rattle.patch_script.specs.declared.micro.Micro.TheVariants.{Store, Await}
use Rattle.patch_script.specs.Plans.{Plan}
use Rattle.sled_rule.specs.declared.views.PatchView.{PatchView}
use Rattle.sled_rule.specs.declared.views.View.{View}
use Rattle.sled_rule.specs.declared.views.View.TheVariants.{Patch}
use Rattle.sled_rule.specs.Plans.{micro_in, total_in}
use Rattle.sled_rule.specs.Steps.{patch_of}
use Rattle.sled_rule.specs.Views.{advanced, looked_at}
use Rattle.sled_rule.proofs.Laws.{store_within, await_within}

abbrev IsWithinScript : View → Type 0
IsWithinScript view = (patch_of view).place ≤ total_in (patch_of view).script

pub advanced_within : (plan : Plan) (p : PatchView) (word value : ℕ) (view : View) → view ≡ Patch (advanced p) → p.script ≡ plan
    → micro_in plan p.place ≡ Store word value → IsWithinScript view
advanced_within plan p word value view is same step =
    let within = store_within plan p.place word value step in
    subst IsWithinScript (sym is) (subst (λ (z : Plan). p.place + 1 ≤ total_in z) (sym same) (omega arith))

pub looked_within : (plan : Plan) (p : PatchView) (thread count value : ℕ) (view : View) → view ≡ Patch (looked_at p thread count value) → p.script ≡ plan
    → micro_in plan p.place ≡ Await thread count → IsWithinScript view
looked_within plan p thread count value view is same step =
    let within = await_within plan p.place thread count step in
    let place : (if nat_lt value count then p.place else p.place + 1) ≤ total_in plan = dite (dec_lt value count)
    (λ less. let here : (if nat_lt value count then p.place else p.place + 1) ≡ p.place = grind (arith, nat_tests) in omega arith)
    (λ more. let next : (if nat_lt value count then p.place else p.place + 1) ≡ p.place + 1 = grind (arith, nat_tests) in omega arith) in
    subst IsWithinScript (sym is) (subst (λ (z : Plan). (if nat_lt value count then p.place else p.place + 1) ≤ total_in z) (sym same) place)
