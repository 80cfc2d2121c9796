use Rattle.std.proofs.Common.{◌≡◌, ℕ, ◌≤◌, refl, ap, subst, rules, arith}
use mathlib.Core.Option.{some}
use lib.ListN.{get_elem?}
use Rattle.sled_rule.specs.declared.views.Met.{Met}
use Rattle.sled_rule.specs.declared.views.View.{View}
use Rattle.sled_rule.specs.declared.views.View.TheVariants.{Patch}
use Rattle.sled_rule.specs.Seats.{patch_view, work_view}
use Rattle.sled_rule.specs.Steps.{patch_of}
use Rattle.sled_rule.specs.Views.{meeting}
use Rattle.sled_rule.proofs.SeatChanges.{meets}
use Rattle.sled_rule.proofs.PatcherSteps.{confirms}
use Rattle.sled_rule.proofs.table.CodeTable.meet.Goals as goal

pub join_seat-requires : goal.join_seat-requires
join_seat-requires c =
    let sized = c.args.self.now.sized in (
      search rules,
      search rules,
      search rules,
      omega arith,
      meets _ _ _ (patch_view c.args.seat.now) _ _ (work_view c.args.worker) c.args.seat.now.is.0 c.args.worker.is.0 c.requires.ended,
    )

pub load-requires : goal.load-requires
load-requires c =
    let sized = c.args.self.now.sized in (
      search rules,
      omega arith,
      confirms _ _ _ _ _ (meeting (patch_view c.args.seat.now) (work_view c.args.worker)) (ap (λ m. m.0) c.join_seat.ensures.2),
    )

pub returns-clause-seen : goal.returns-clause-seen
returns-clause-seen c =
    let after : c.join_seat.new.seat.me.0 ≡ Patch (meeting (patch_view c.args.seat.now) (work_view c.args.worker)) = ap (λ m. m.0) c.join_seat.ensures.2 in
    let known = subst (λ (z : View). (i : ℕ) (one : Met) → get_elem? (patch_of z).met i ≡ some one → one.seen ≤ (patch_of z).place) after c.load.ensures.2.2 in
    known 0 _ refl
