use Rattle.std.proofs.Common.{◌≡◌, ◌<◌, true, arith, ap, sym, ◌∙◌, length, get_or}
use Rattle.fdr_buffer.specs.Filled.{Filled}
use Rattle.step_sim.proofs.GatheredBuffers.{remove_other, same_read, take_step}
use Rattle.step_sim.proofs.pool.take_of.Goals as goal

pub loop-place-preserved-then-thread : goal.loop-place-preserved-then-thread
loop-place-preserved-then-thread c =
    let rest = c.loop-place.rest.items in
    let place = c.loop-place.place in
    let x : Filled = c.remove-buffer.result in
    let within : place < length rest = omega (arith, c.loop-place-test.true, c.len.ensures, c.loop-place.rest.ok.0) in
    let same : x ≡ get_or rest place x = c.remove-buffer.ensures.value in
    let begun : x.begun ≡ true =
    ap (λ (b : Filled). b.begun) (same_read rest place c.index.result.now x within c.index.ensures same) ∙ sym c.begun.ensures ∙ c.if-begun.true in
    let own : x.thread ≡ c.args.thread =
    ap (λ (b : Filled). b.thread) (same_read rest place c.index-then-begun.result.now x within c.index-then-begun.ensures same)
    ∙ sym c.thread.ensures ∙ c.if-thread.true in
    record {
      kept = rw c.remove-buffer.ensures.items (take_step c.args.thread place c.loop-place.kept.items c.push_reserved.new.self.items rest x
          within same begun own c.push_reserved.ensures.items ∙ c.loop-place.invariant.kept);
      others = λ other apart. rw c.remove-buffer.ensures.items (remove_other c.args.thread other place rest x within same own apart
          ∙ c.loop-place.invariant.others other apart);
      len = grind arith;
      capacity = grind arith;
      within = grind arith;
    }
