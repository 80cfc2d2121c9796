-- The loads of a replay's threads, as they follow its script.
use Rattle.std.specs.Prelude.{◌<◌, ◌≤◌, ℕ, ⊤}
use Rattle.patch_script.specs.CodeAt.{code_at}
use Rattle.patch_script.specs.Micros.{hold_of, start_of, total_of}
use Rattle.machine_step.specs.Follows.{Follows}
use Rattle.machine_step.specs.Loads.{AreWanted}
use Rattle.machine_step.specs.Whole.{AreWhole}
use Rattle.step_sim.specs.declared.turns.Turns.{Turns}
use Rattle.step_sim.specs.declared.turns.Turns.TheVariants.{Thread, Patcher}
use Rattle.step_sim.specs.Replay.{Cast, Moment, of_thread, thread_count}

-- a line names no thread, or one from 1 on
abbrev pub NamesThread : Turns → Type 0
NamesThread (Thread thread count) = 0 < thread
NamesThread (Patcher count) = ⊤

-- At a moment, the loads of each thread, from 1 on, follow the script up to the moment's place. A replay waits for no
-- thread: the bound of each passing is the script's end.
abbrev pub AllFollow : Cast → Moment → Type 0
AllFollow cast moment =
    (thread : ℕ) → 0 < thread
    → Follows cast.program (thread_count cast) (code_at cast.program (thread_count cast) cast.script)
    (start_of cast.program (thread_count cast) cast.script) (λ _. total_of cast.program (thread_count cast) cast.script)
    thread (hold_of thread cast.script) (of_thread cast.passings thread) (of_thread moment.loads thread) moment.place

-- what each moment of a replay keeps: all loads follow the script, and the patcher is within it
pub record IsAlong (cast : Cast) (moment : Moment) : Type 0 where
  pub along : AllFollow cast moment
  pub within : moment.place ≤ total_of cast.program (thread_count cast) cast.script

-- at a moment each load of each thread, from 1 on, is of the word that the thread wanted next
abbrev pub LoadsAreWanted : Cast → Moment → Type 0
LoadsAreWanted cast moment =
    (thread : ℕ) → 0 < thread
    → AreWanted cast.program (thread_count cast) thread (hold_of thread cast.script) (of_thread cast.passings thread) (of_thread moment.loads thread)

-- at a moment no thread, from 1 on, has torn a sled: each passing that has its mark decoded its sled whole
abbrev pub TearsNoSled : Cast → Moment → Type 0
TearsNoSled cast moment =
    (thread : ℕ) → 0 < thread
    → AreWhole cast.program (thread_count cast) thread (hold_of thread cast.script) (of_thread cast.passings thread) (of_thread moment.loads thread)
