-- The loads of a thread of a replay, each at a place of its script.
use Rattle.std.specs.Prelude.{◌≡◌, ℕ, List, None, Some, length, slice_get}
use Rattle.machine_step.specs.Follows.{Rise}
use Rattle.machine_step.specs.Loads.{AreWanted, Load, next_load}
use Rattle.patch_script.specs.CodeAt.{code_at}
use Rattle.patch_script.specs.Micros.{hold_of, start_of, total_of}
use Rattle.step_sim.specs.Replay.{Cast, of_thread, thread_count}

-- These are all loads of a thread, and each is made at its place: it is of the word that the thread wants next, with the
-- word's value at the place. The places never fall.
pub record ArePlaced (cast : Cast) (thread : ℕ) (places : List ℕ) (loads : List Load) : Type 0 where
  pub count : length places ≡ length loads
  pub rise : Rise (start_of cast.program (thread_count cast) cast.script) (total_of cast.program (thread_count cast) cast.script) places
  pub wanted : AreWanted cast.program (thread_count cast) thread (hold_of thread cast.script) (of_thread cast.passings thread) loads
  pub values : (i place : ℕ) (load : Load) → slice_get places i ≡ Some place → slice_get loads i ≡ Some load
      → load.value ≡ code_at cast.program (thread_count cast) cast.script place load.word
  pub ended : next_load cast.program (thread_count cast) thread (hold_of thread cast.script) (of_thread cast.passings thread) loads ≡ None
