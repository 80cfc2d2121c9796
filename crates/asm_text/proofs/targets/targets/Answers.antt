use Rattle.std.proofs.Common.{◌≡◌, ◌++◌, ◌∷◌, [], arith}
use Rattle.std.proofs.lemmas.Grind.{common_steps}
use Rattle.asm_text.proofs.TargetLemmas.{next_start, next_step}
use Rattle.asm_text.proofs.targets.targets.Goals as goal

pub loop-i-init : goal.loop-i-init
loop-i-init c = rw c.new-targets.ensures.items (next_start c.args.laid.now)

pub loop-i-preserved : goal.loop-i-preserved
loop-i-preserved c =
    let pushed : c.push.new.self.items ≡ c.loop-i.targets.items ++ c.place_before-next.result ∷ [] = grind (arith, common_steps) in
    rw (pushed, c.place_before-next.ensures)
    (next_step c.args.laid.now c.loop-i.i _ c.loop-i.next c.loop-i.targets.items (omega arith) c.loop-i.auto.i c.loop-i.invariant)
