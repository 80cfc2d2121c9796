-- The replay of a schedule: turns that change a place of the script and a list of loads for each thread.
use Rattle.std.specs.Prelude.{◌≡◌, ℕ, ◌+◌, ◌-◌, min, List, [], ◌∷◌, ◌++◌, length, Option, Some, None, map, unwrap_or, slice_get, slice_set}
use Rattle.std.specs.List.{enumerate_from}
use Rattle.xray_image.specs.Program.{Program}
use Rattle.patch_script.specs.declared.command.PatchCommand.{PatchCommand}
use Rattle.patch_script.specs.Micros.{start_of, total_of, hold_of}
use Rattle.patch_script.specs.CodeAt.{code_at}
use Rattle.handler_word.specs.declared.mark.Mark.{Mark}
use Rattle.machine_step.specs.Loads.{Load, next_load, marks_of}
use Rattle.step_sim.specs.declared.turns.Turns.{Turns}
use Rattle.step_sim.specs.Plays.{Plays, Rules}

-- what a replay knows of the threads and the script: the sleds that each thread passes, in the order of the threads
pub record Cast : Type 0 where
  pub program : Program
  pub script : List PatchCommand
  pub passings : List (List ℕ)

-- how many threads there are
abbrev pub thread_count : Cast → ℕ
thread_count cast = length cast.passings

-- where a replay is: how many micro steps were made, and the loads of each thread
pub record Moment : Type 0 where
  pub place : ℕ
  pub loads : List (List Load)

-- at first: the micro steps before `go`, and no loads
abbrev pub first_moment : Cast → Moment
first_moment cast = record {
  place = start_of cast.program (thread_count cast) cast.script;
  loads = map (λ _. []) cast.passings;
}

-- the item of a thread in a list with one item per thread
abbrev pub of_thread : {X : Type 0} → List (List X) → ℕ → List X
of_thread lists thread = unwrap_or (slice_get lists (thread - 1)) []

-- the word that a thread loads next, or none if it has ended
abbrev pub wanted_by : Cast → ℕ → Moment → Option ℕ
wanted_by cast thread moment =
    next_load cast.program (thread_count cast) thread (hold_of thread cast.script) (of_thread cast.passings thread) (of_thread moment.loads thread)

-- A thread's turn is its next load, with the word's value at the place. The turn of a thread that has ended does
-- nothing.
abbrev pub thread_turn : Cast → ℕ → Moment → Moment
thread_turn cast thread moment = loaded (wanted_by cast thread moment)
  where
    loaded : Option ℕ → Moment
    loaded None = moment
    loaded (Some word) = record moment {
      loads = slice_set moment.loads (thread - 1)
          (of_thread moment.loads thread
          ++ record {
            word = word;
            value = code_at cast.program (thread_count cast) cast.script moment.place word;
          } ∷ []);
    }

-- The patcher's turn is a micro step. At the script's end it does nothing.
abbrev pub patcher_turn : Cast → Moment → Moment
patcher_turn cast moment = record moment { place = min (moment.place + 1) (total_of cast.program (thread_count cast) cast.script) }

-- what a replay plays with its moments
abbrev pub moment_rules : Cast → Rules Moment
moment_rules cast = record { thread = thread_turn cast; patcher = patcher_turn cast; wanted = wanted_by cast }

-- the marks of each thread
abbrev pub marks_at : Cast → Moment → List (List Mark)
marks_at cast moment = map marks_of_thread (enumerate_from 1 cast.passings)
  where
    marks_of_thread : ℕ × List ℕ → List Mark
    marks_of_thread (thread, sleds) =
        marks_of cast.program (thread_count cast) thread (hold_of thread cast.script) sleds (of_thread moment.loads thread)

-- The marks of the threads that a schedule leaves. The micro steps that are left change no mark.
abbrev pub Replay : Cast → List Turns → List (List Mark) → Type 0
Replay cast schedule marks =
    (last : Moment) × Plays (moment_rules cast) (length cast.passings) (first_moment cast) schedule last × (marks ≡ marks_at cast last)
