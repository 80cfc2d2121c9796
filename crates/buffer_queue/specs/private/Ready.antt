-- How the view of a pass says which pass it is, and that a thread has it in hand.
use Rattle.std.specs.Prelude.{◌≡◌, ◌+◌, true, false, []}
use Rattle.atomic_table.specs.Seated.{TableId}
use Rattle.crossbeam_queue.specs.Passes.{Pass, view}
use Rattle.fdr_buffer.specs.Filled.{Filled}
use Rattle.machine_step.specs.declared.setup.Setup.{Setup}
use Rattle.buffer_queue.specs.declared.view.View.{View}
use Rattle.buffer_queue.specs.Passes.{PoolIs, PassIs}

abbrev pub pass_is : TableId → View → PassIs
pass_is pool v = record { pool = pool; setup = v.setup; thread = v.thread; sealed = v.sealed }

abbrev pub pool_is : TableId → Setup → PoolIs
pool_is pool setup = record { pool = pool; setup = setup }

-- what the pass knows, by a name that an `impl Model` does not hide
abbrev pub known : Pass Filled View → View
known pass = view pass

-- A pass in a thread's hands. Pass 1 has queued all fresh buffers, made all passes, drained nothing and been handed
-- none back.
pub record IsReady (v : View) : Type 0 where
  pub live : v.live ≡ true
  pub rests : v.between ≡ false
  pub head : v.thread ≡ 1
      → (v.pushed + v.setup.threads ≡ v.setup.max) × (v.drained ≡ []) × (v.returned ≡ []) × (v.given ≡ v.setup.threads)
