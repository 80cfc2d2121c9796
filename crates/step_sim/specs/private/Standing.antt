-- Where the threads and the patcher of a replay are, for the contracts of private functions.
use Rattle.std.specs.Prelude.{◌≡◌, ◌<◌, ◌≤◌, ◌+◌, ◌^◌, ℕ, List, [], length, slice_get, vec_len, Some, None}
use Rattle.xray_image.specs.Program.{Program}
use Rattle.sled_words.specs.Words.{word_count}
use Rattle.patch_script.specs.declared.command.PatchCommand.{PatchCommand}
use Rattle.patch_script.specs.Micros.{hold_of, total_of}
use Rattle.patch_script.specs.Refusals.{commands_of}
use Rattle.patch_script.specs.StoredWords.{AreCodeAt}
use Rattle.machine_step.specs.declared.end.End.{End}
use Rattle.machine_step.specs.declared.limits.Limits.{Limits}
use Rattle.machine_step.specs.declared.want.Want.TheVariants.{Done}
use Rattle.machine_step.specs.PlainStep.{Passing}
use Rattle.machine_step.specs.Traced.{HasLoaded, IsThreadOf, StandsAs, Traced, sleds_passed}
use Rattle.step_sim.specs.declared.patcher.Patcher.{Patcher}
use Rattle.step_sim.specs.Along.{IsAlong}
use Rattle.step_sim.specs.Replay.{Cast, Moment, of_thread, thread_count}

-- ---- one patcher, one thread

-- the patcher has made the first micro steps of a script for this many threads, up to a place, and no others
pub record IsPatcherAt (program : Program) (threads : ℕ) (script : List PatchCommand) (place : ℕ) (p : Patcher) : Type 0 where
  pub program_is : p.script.now.program ≡ program
  pub threads_are : p.script.now.threads ≡ threads
  pub script_is : commands_of p.script.now.lines ≡ script
  pub place_is : p.place ≡ place
  pub within : place ≤ total_of program threads script
  pub words : AreCodeAt program threads script place p.words.items

-- a thread that no hold stops was given the loads that it has at a moment
pub record IsThreadAt (cast : Cast) (moment : Moment) (t : Traced) : Type 0 where
  pub program_is : t.program ≡ cast.program
  pub threads_are : t.threads ≡ thread_count cast
  pub first : 0 < t.thread
  pub last : t.thread ≤ t.threads
  pub room : t.thread ≤ length moment.loads
  pub no_hold : hold_of t.thread cast.script ≡ None
  pub free : t.hold ≡ None
  pub passed : List Passing
  pub sleds : of_thread cast.passings t.thread ≡ sleds_passed passed
  pub loaded : HasLoaded t passed (of_thread moment.loads t.thread)

-- the patcher and the thread are at a moment, and the thread's words exist
pub record StandAt (cast : Cast) (moment : Moment) (p : Patcher) (t : Traced) : Type 0 where
  pub along : IsAlong cast moment
  pub patcher : IsPatcherAt cast.program (thread_count cast) cast.script moment.place p
  pub words : word_count cast.program t.threads ≤ vec_len p.words
  pub thread : IsThreadAt cast moment t

-- they are at some moment of some replay
abbrev pub Play : Patcher → Traced → Type 0
Play p t = (cast : Cast) × (moment : Moment) × StandAt cast moment p t

-- the thread has ended, and is where it says it is
pub record Rests (t : Traced) : Type 0 where
  pub end : End
  pub wants : t.want ≡ Done end
  pub stands : StandsAs t t.want
  pub few : length t.marks < 2 ^ 32

-- ---- all threads

-- the patcher and all threads, in order, are at a moment
pub record AllStandAt (cast : Cast) (threads : ℕ) (limits : Limits) (moment : Moment) (p : Patcher) (ts : List Traced) : Type 0 where
  pub count : length ts ≡ threads
  pub passings : length cast.passings ≡ threads
  pub loads : length moment.loads ≡ threads
  pub along : IsAlong cast moment
  pub patcher : IsPatcherAt cast.program (thread_count cast) cast.script moment.place p
  pub words : word_count cast.program threads ≤ vec_len p.words
  pub thread : (i : ℕ) (t : Traced) → slice_get ts i ≡ Some t → IsThreadOf cast.program (i + 1) threads None limits t
  pub no_hold : (number : ℕ) → hold_of number cast.script ≡ None
  pub each : (i : ℕ) (t : Traced) → slice_get ts i ≡ Some t → IsThreadAt cast moment t

-- they are at some moment of some replay
abbrev pub AllPlay : Patcher → List Traced → Type 0
AllPlay p ts = (cast : Cast) × (threads : ℕ) × (limits : Limits) × (moment : Moment) × AllStandAt cast threads limits moment p ts

-- a thread that has loaded nothing yet
pub record HasBegun (program : Program) (script : List PatchCommand) (threads : ℕ) (limits : Limits) (number : ℕ) (t : Traced) : Type 0 where
  pub thread_is : IsThreadOf program number threads (hold_of number script) limits t
  pub passed : List Passing
  pub loaded : HasLoaded t passed []

-- all threads, in order, have loaded nothing yet
abbrev pub AllHaveBegun : Program → List PatchCommand → ℕ → Limits → List Traced → Type 0
AllHaveBegun program script threads limits ts = (i : ℕ) (t : Traced) → slice_get ts i ≡ Some t → HasBegun program script threads limits (i + 1) t
