use Rattle.std.proofs.Common.{◌≡◌, ℕ, ◌<◌, ◌≤◌, ◌∙◌, sym, ap, refl, subst, arith}
use Rattle.sled_rule.specs.declared.views.PatchView.{PatchView}
use Rattle.sled_rule.specs.declared.views.WorkView.{WorkView}
use Rattle.sled_rule.specs.Rule.{IsMet}
use Rattle.sled_rule.specs.Seats.{patch_view, work_view, AllMet}
use Rattle.sled_rule.specs.Views.{meeting}
use Rattle.layer_tests.proofs.code_table.finish.Goals as goal

met_one : (old new : PatchView) (v : WorkView) → new ≡ meeting old v → v.thread ≡ 1 → old.given ≡ 1 → AllMet new
met_one old new v is one given thread first le =
    let g : new.given ≡ old.given = ap (λ (z : PatchView). z.given) is in
    subst (λ (z : PatchView). IsMet z.met thread) (sym is) record { index = 0; one = record { thread = v.thread; seen = v.seen }; at = refl; is = omega arith }

pub close-requires-clause-met : goal.close-requires-clause-met
close-requires-clause-met c =
    met_one (patch_view c.args.seat) _ (work_view c.ended.new.seat) c.meet.ensures.view
    (ap (λ (v : WorkView). v.thread) c.ended.ensures.view ∙ c.requires.thread) c.requires.one
