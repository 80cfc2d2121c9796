-- What a new pass knows, and how each step changes what it knows.
use Rattle.std.specs.Prelude.{ℕ, ◌+◌, true, false, List, [], ◌∷◌, ◌++◌}
use Rattle.fdr_buffer.specs.Filled.{Filled}
use Rattle.machine_step.specs.declared.setup.Setup.{Setup}
use Rattle.buffer_queue.specs.declared.view.View.{View}
use Rattle.buffer_queue.specs.Views.{spent}

-- the pass of a thread, as it is made
abbrev pub new_view : Setup → ℕ → View
new_view setup thread = record spent { live = true; thread = thread; setup = setup }

-- pass 1, with `given` passes made and `pushed` fresh buffers queued
abbrev pub head_view : Setup → ℕ → ℕ → View
head_view setup given pushed = record (new_view setup 1) { given = given; pushed = pushed }

-- one more pass was made
abbrev pub giving : View → View
giving v = record v { given = v.given + 1 }

-- one more fresh buffer was queued
abbrev pub stocking : View → View
stocking v = record v { pushed = v.pushed + 1 }

-- a full buffer was put
abbrev pub putting : View → Filled → View
putting v buffer = record v { sealed = v.sealed ++ buffer ∷ []; between = true }

-- a buffer was taken
abbrev pub taking : View → View
taking v = record v { between = false }

-- a pass was handed back, whose thread has sealed these buffers
abbrev pub taking_in : View → List Filled → View
taking_in v sealed = record v { returned = v.returned ++ sealed ∷ [] }

-- a buffer was drained
abbrev pub draining : View → Filled → View
draining v buffer = record v { drained = v.drained ++ buffer ∷ [] }
