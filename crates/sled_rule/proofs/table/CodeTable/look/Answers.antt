use Rattle.std.proofs.Common.{◌≤◌, ℕ, ap, sym, subst, ◌∙◌}
use Rattle.std.specs.Prelude.{slice_index}
use Rattle.sled_rule.specs.declared.views.PatchView.{PatchView}
use Rattle.sled_rule.specs.Plans.{micro_in}
use Rattle.sled_rule.specs.Seats.{patch_view, script_of, IsLooked}
use Rattle.sled_rule.proofs.Laws.{is_await, same_await}
use Rattle.sled_rule.proofs.table.CodeTable.look.Goals as goal

pub look_for-requires-clause-next : goal.look_for-requires-clause-next
look_for-requires-clause-next c =
    ap (λ (p : PatchView). micro_in (script_of c.args.self.now) p.place) c.next_micro.ensures.same ∙ c.in-Await.ensures.micro

pub returns-clause-looked : goal.returns-clause-looked
returns-clause-looked c =
    subst (λ (p : PatchView). IsLooked p c.look_for.result (patch_view c.look_for.new.seat)) c.next_micro.ensures.same c.look_for.ensures.looked

pub returns-clause-known : goal.returns-clause-known
returns-clause-known c thread count step reached =
    let same = same_await c.in-Await.thread c.in-Await.count thread count (sym c.in-Await.ensures.micro ∙ step) in
    c.look_for.ensures.known
    (subst (λ (p : PatchView). c.in-Await.count ≤ slice_index p.known c.in-Await.thread) (sym c.next_micro.ensures.same)
    (subst (λ (n : ℕ). n ≤ slice_index (patch_view c.args.seat.now).known c.in-Await.thread) (sym same.1)
    (subst (λ (t : ℕ). count ≤ slice_index (patch_view c.args.seat.now).known t) (sym same.0) reached)))

pub unreachable-requires : goal.unreachable-requires
unreachable-requires c =
    is_await c.next_micro.result c.requires.waits.0 c.requires.waits.1 (sym c.next_micro.ensures.micro ∙ c.requires.waits.2) c.in-Store.is
