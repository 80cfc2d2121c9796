use Rattle.std.proofs.Common.{◌≡◌, ℕ, ◌+◌, ◌<◌, refl, sym, subst, arith, ap, length}
use Rattle.machine_step.specs.declared.setup.Setup.{Setup}
use Rattle.buffer_queue.specs.declared.view.View.{View}
use Rattle.buffer_queue.specs.private.Changes.{new_view}
use Rattle.buffer_queue.specs.private.Ready.{IsReady}
use Rattle.buffer_queue.proofs.PoolOpens.{gives}
use Rattle.buffer_queue.proofs.stocking.give.Goals as goal

pub another-pass-requires-clause-rule : goal.another-pass-requires-clause-rule
another-pass-requires-clause-rule c = gives _ _ c.requires.may

ready : (v : View) (s : Setup) (n : ℕ) → v ≡ new_view s (n + 1) → 0 < n → IsReady v
ready v s n e some_given = subst IsReady (sym e) (record { live = refl; rests = refl; head = λ (one : n + 1 ≡ 1). absurd (omega arith) })

pub invariant_of-result : goal.invariant_of-result
invariant_of-result c = let e = c.another-pass.ensures.rule.1 in (ready _ _ _ e c.requires.given, c.another-pass.ensures.queue.1.1, sym (ap (λ (v : View). length v.sealed) e))
