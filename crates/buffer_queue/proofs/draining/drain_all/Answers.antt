use Rattle.std.proofs.Common.{◌≡◌, ℕ, ◌+◌, ◌∷◌, List, length, sym, subst, arith, ap, ◌∙◌}
use Rattle.crossbeam_queue.specs.Fifo.{Learns}
use Rattle.fdr_buffer.specs.Filled.{Filled}
use Rattle.machine_step.specs.declared.setup.Setup.{Setup}
use Rattle.buffer_queue.specs.declared.view.View.{View}
use Rattle.buffer_queue.specs.Left.{IsLeft}
use Rattle.buffer_queue.specs.private.Steps.{MayDrain}
use Rattle.buffer_queue.specs.Rule.{KeepsPool}
use Rattle.buffer_queue.proofs.PoolEnds.{ends}
use Rattle.buffer_queue.proofs.draining.drain_all.Goals as goal

may_still : (v w : View) (drained : List Filled) → w ≡ record v { drained = drained } → MayDrain v → MayDrain w
may_still v w drained e may = subst MayDrain (sym e) (record { live = may.live; rests = may.rests; first = may.first; has_all = may.has_all })

ends_as : (place : ℕ) (v w : View) (s : Setup) → w ≡ record v { drained = w.drained } → MayDrain v → v.setup ≡ s → v.pushed + s.threads ≡ s.max → length w.drained + s.threads ≡ s.max
    → Learns KeepsPool place w (λ items. IsLeft w.setup (w.sealed ∷ w.returned) w.drained)
ends_as place v w s e may same full gone =
    let t : s ≡ w.setup = sym (ap (λ (y : View). y.setup) e ∙ same) in
    let p : v.pushed ≡ w.pushed = sym (ap (λ (y : View). y.pushed) e) in
    ends place w (may_still v w w.drained e may)
    (subst (λ (y : Setup × ℕ). y.1 + y.0.threads ≡ y.0.max) (λ i. (t i, p i)) full)
    (subst (λ (y : Setup). length w.drained + y.threads ≡ y.max) t gone)

pub learn_as-requires-clause-rule : goal.learn_as-requires-clause-rule
learn_as-requires-clause-rule g c = ends_as _ _ _ c.args.setup.now c.loop-drained.invariant.view_is c.requires.may c.requires.setup c.requires.stocked (omega arith)
