use Rattle.std.proofs.Common.{◌≡◌, ℕ, ◌+◌, ◌<◌, refl, sym, subst, arith}
use Rattle.fdr_buffer.specs.Filled.{Filled, empty_buffer}
use Rattle.machine_step.specs.declared.setup.Setup.{Setup}
use Rattle.buffer_queue.specs.declared.view.View.{View}
use Rattle.buffer_queue.specs.private.Changes.{head_view}
use Rattle.buffer_queue.specs.private.Steps.{MayStock}
use Rattle.buffer_queue.proofs.stocking.stock_all.Goals as goal

may : (v : View) (s : Setup) (n : ℕ) (x : Filled) → v ≡ head_view s 1 n → n + s.threads < s.max → x ≡ empty_buffer s.size → MayStock v x
may v s n x e wanted fresh = subst (λ (y : View). MayStock y x) (sym e) (record { live = refl; rests = refl; first = refl; wanted = wanted; fresh = fresh })

pub stock-requires-clause-may : goal.stock-requires-clause-may
stock-requires-clause-may g c = may _ c.args.setup.now c.loop-pushed._pushed _ c.loop-pushed.invariant.view_is (omega arith) c.in_ok-fresh.ensures
