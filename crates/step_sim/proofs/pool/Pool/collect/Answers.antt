use Rattle.std.proofs.Common.{◌∙◌, ◌+◌, arith}
use Rattle.step_sim.proofs.GatheredBuffers.{gather_step}
use Rattle.step_sim.proofs.pool.Pool.collect.Goals as goal

pub loop-before-preserved : goal.loop-before-preserved
loop-before-preserved c =
    let inv = c.loop-before.invariant in
    let first = c.take_of in
    let then_ = c.take_of-in-loop-before in
    record {
      room = omega (arith, inv.room, first.ensures.len, then_.ensures.len, first.ensures.capacity, then_.ensures.capacity);
      gathered = gather_step c.into_items-rest.result.items c.args.self.hands.items c.loop-before.before c.loop-before.kept.items c.loop-before.rest.items c.loop-before.hands.items
          first.new.kept.items then_.new.kept.items inv.gathered (inv.rest (c.loop-before.before + 1) (omega arith))
          (inv.hands (c.loop-before.before + 1) (omega arith)) first.ensures.kept then_.ensures.kept;
      rest = λ t later. first.ensures.others t (λ e. omega (arith, e, later)) ∙ inv.rest t (omega (arith, later));
      hands = λ t later. then_.ensures.others t (λ e. omega (arith, e, later)) ∙ inv.hands t (omega (arith, later));
    }
