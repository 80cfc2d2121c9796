-- When a pass may take each step.
use Rattle.std.specs.Prelude.{◌≡◌, ◌<◌, ◌+◌, true, false, [], length}
use Rattle.fdr_buffer.specs.Filled.{Filled, empty_buffer}
use Rattle.buffer_queue.specs.declared.view.View.{View}

-- If it is pass 1, it has queued all fresh buffers, and drained none. Any other pass learns this from the rule.
abbrev pub IsStocked : View → Type 0
IsStocked v = v.thread ≡ 1 → (v.pushed + v.setup.threads ≡ v.setup.max) × (v.drained ≡ [])

-- a thread may put a full buffer
pub record MayPut (v : View) (buffer : Filled) : Type 0 where
  pub live : v.live ≡ true
  pub rests : v.between ≡ false
  pub stocked : IsStocked v
  pub size : buffer.size ≡ v.setup.size
  pub thread : buffer.thread ≡ v.thread
  pub serial : buffer.serial ≡ length v.sealed
  pub begun : buffer.begun ≡ true

-- pass 1 may queue a fresh buffer
pub record MayStock (v : View) (buffer : Filled) : Type 0 where
  pub live : v.live ≡ true
  pub rests : v.between ≡ false
  pub first : v.thread ≡ 1
  pub wanted : v.pushed + v.setup.threads < v.setup.max
  pub fresh : buffer ≡ empty_buffer v.setup.size

-- pass 1 may make the next pass
pub record MayGive (v : View) : Type 0 where
  pub live : v.live ≡ true
  pub first : v.thread ≡ 1
  pub stocked : IsStocked v
  pub wanted : v.given < v.setup.threads

-- pass 1 may be handed this pass back
pub record MayTakeIn (v w : View) : Type 0 where
  pub live : v.live ≡ true
  pub first : v.thread ≡ 1
  pub other_live : w.live ≡ true
  pub other_rests : w.between ≡ false
  pub next : w.thread ≡ length v.returned + 2

-- pass 1 has all other passes
pub record MayDrain (v : View) : Type 0 where
  pub live : v.live ≡ true
  pub rests : v.between ≡ false
  pub first : v.thread ≡ 1
  pub has_all : length v.returned + 1 ≡ v.given
