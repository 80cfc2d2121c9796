-- The places of an order keep the waits of a script: its holds and its awaits.
use Rattle.std.specs.Prelude.{◌≡◌, ◌≢◌, ◌==◌, ◌<◌, ◌≤◌, ◌-◌, ℕ, Bool, not, List, Some, filter, length, map, slice_get, take}
use Rattle.handler_word.specs.declared.mark.Mark.{Mark}
use Rattle.machine_step.specs.Follows.{MarksFollow, Rise}
use Rattle.machine_step.specs.Loads.{Load, marks_of, next_load}
use Rattle.patch_script.specs.declared.command.PatchCommand.{PatchCommand}
use Rattle.patch_script.specs.Bounds.{bound_of}
use Rattle.patch_script.specs.CodeAt.{code_at}
use Rattle.machine_step.specs.Traced.{sleds_passed}
use Rattle.patch_script.specs.Micros.{hold_of, start_of, total_of}
use Rattle.sled_words.specs.Words.{release_word}
use Rattle.traced_run.specs.Runs.{EachThread, ThreadRun}
use Rattle.xray_image.specs.Program.{Program}
use Rattle.run_order.specs.FreeScripts.{free_place}

-- a load, with the place of the script at which it is made
pub record LoadAtPlace : Type 0 where
  pub place : ℕ
  pub load : Load

abbrev pub their_loads : List LoadAtPlace → List Load
their_loads made = map (λ one. one.load) made

abbrev pub their_places : List LoadAtPlace → List ℕ
their_places made = map (λ one. one.place) made

-- what is no load of the release word of a thread
abbrev pub is_passing_load : Program → (thread : ℕ) → LoadAtPlace → Bool
is_passing_load program thread one = not (one.load.word == release_word program thread)

module _ (program : Program) (threads : ℕ) (script : List PatchCommand) (thread : ℕ) (sleds : List ℕ) where
  -- A thread that passes these sleds makes a load after those before it: of the word that it wants next, with the word's
  -- value at its place. The place isn't after the first await of the passing. The load doesn't find that the script still
  -- holds the thread.
  pub record IsMadeAfter (before : List Load) (one : LoadAtPlace) : Type 0 where
    pub wanted : next_load program threads thread (hold_of thread script) sleds before ≡ Some one.load.word
    pub value : one.load.value ≡ code_at program threads script one.place one.load.word
    pub bounded : one.place ≤ bound_of program threads script thread (length (marks_of program threads thread (hold_of thread script) sleds before))
    pub released : one.load.word ≡ release_word program thread → one.load.value ≢ 0

  -- The loads of a thread beside a script, each at its place. The places never fall, from that of `go` to the script's end.
  pub record AreMade (made : List LoadAtPlace) : Type 0 where
    pub rise : Rise (start_of program threads script) (total_of program threads script) (their_places made)
    pub each : (i : ℕ) (one : LoadAtPlace) → slice_get made i ≡ Some one → IsMadeAfter (their_loads (take i made)) one

  -- the marks of the first passings, as many as `count` says, follow the script up to a place
  abbrev pub FirstFollow : List Mark → (count place : ℕ) → Type 0
  FirstFollow marks count place =
      MarksFollow program threads (code_at program threads script) (start_of program threads script) (bound_of program threads script thread) thread
      (hold_of thread script) (take count sleds) (take count marks) place

  -- Places keep the script: they are those of the loads of a thread beside it, which has these marks, except that of its
  -- release word. Each load is at the least place up to which the marks of its passing can follow the script, or before it.
  pub record KeepScript (marks : List Mark) (places : List ℕ) : Type 0 where
    pub made : List LoadAtPlace
    pub are : AreMade made
    pub marks_are : marks_of program threads thread (hold_of thread script) sleds (their_loads made) ≡ marks
    pub each : length marks ≡ length sleds
    pub places_are : their_places (filter (is_passing_load program thread) made) ≡ places
    pub least : (count place i : ℕ) (one : LoadAtPlace) → FirstFollow marks count place → slice_get made i ≡ Some one
        → length (marks_of program threads thread (hold_of thread script) sleds (their_loads (take i made))) < count → one.place ≤ place

-- the places of the loads of each thread of a run keep the script, and these are the same places in the script without waits
abbrev pub KeepScriptOf : Program → (threads : ℕ) → List PatchCommand → List ThreadRun → List (List ℕ) → Type 0
KeepScriptOf program threads script runs free =
    EachThread runs (λ number run.
    (places : List ℕ) × KeepScript program threads script number (sleds_passed run.passed) run.marks places
    × (slice_get free (number - 1) ≡ Some (map (free_place program threads script) places)))
