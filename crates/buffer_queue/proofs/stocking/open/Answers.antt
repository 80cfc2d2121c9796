use Rattle.std.proofs.Common.{◌≡◌, ℕ, ◌≤◌, sym, subst}
use Rattle.crossbeam_queue.specs.Fifo.{Forks}
use Rattle.machine_step.specs.declared.setup.Setup.{Setup}
use Rattle.buffer_queue.specs.declared.view.View.{View}
use Rattle.buffer_queue.specs.Views.{opener, spent}
use Rattle.buffer_queue.specs.private.Changes.{head_view}
use Rattle.buffer_queue.specs.Rule.{KeepsPool}
use Rattle.buffer_queue.proofs.PoolOpens.{opens}
use Rattle.buffer_queue.proofs.stocking.open.Goals as goal

opens_as : (place : ℕ) (v : View) (s t : Setup) → v ≡ opener → t ≡ s → 1 ≤ s.threads → s.threads ≤ s.max → Forks KeepsPool place v spent (head_view t 1 0)
opens_as place v s t e f some_thread enough = subst (λ (y : View × Setup). Forks KeepsPool place y.0 spent (head_view y.1 1 0)) (λ i. (sym e i, sym f i)) (opens place s some_thread enough)

pub another-requires-clause-rule : goal.another-requires-clause-rule
another-requires-clause-rule g c = opens_as _ _ c.args.setup.now _ c.requires.view c.requires.picked c.requires.setup.some_thread c.requires.setup.enough
