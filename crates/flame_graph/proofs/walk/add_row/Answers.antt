use Rattle.std.proofs.Common.{ℕ, add-one, map, subst, sym}
use Rattle.stack_rebuild.specs.Stacks.{told}
use Rattle.flame_graph.specs.private.Walking.{IsOpen, Stands}
use Rattle.flame_graph.specs.declared.walk.Walk.{Walk}
use Rattle.flame_graph.proofs.DrawnFrames.{on_ok_from}
use Rattle.flame_graph.proofs.OpenFrames.{next_stands}
use Rattle.flame_graph.proofs.walk.add_row.Goals as goal

pub returns-clause-stands : goal.returns-clause-stands
returns-clause-stands g c =
    let rows = map told c.args.picture.now.rows.now in
    let walk : Walk = record c.open_row.new.walk { standing = c.shared_after-walk.result } in
    let now : IsOpen rows c.args.at walk = record { place = c.open_row.ensures.place; kept = c.open_row.ensures.kept } in
    on_ok_from c.add_ended.result (subst (λ (n : ℕ). Stands rows n walk) (sym (add-one c.args.at)) (next_stands rows c.args.at walk now c.shared_after-walk.ensures))
