-- The loads of threads that run beside a script, in one list of all threads.
use Rattle.std.proofs.Common.{◌≡◌, ◌≢◌, ◌+◌, ◌-◌, ℕ, zero, suc, List, [], ◌∷◌, Option, Some, refl, arith, length, subst}
use Rattle.std.specs.Prelude.{All, slice_get}
use Rattle.xray_image.specs.Program.{Program}
use Rattle.sled_words.specs.Words.{release_word}
use Rattle.patch_script.specs.declared.command.PatchCommand.{PatchCommand}
use Rattle.patch_script.specs.Micros.{hold_of, total_of}
use Rattle.machine_step.specs.Loads.{Load, marks_of}
use Rattle.machine_step.specs.Traced.{sleds_passed}
use Rattle.traced_run.specs.Runs.{ThreadRun}
use Rattle.traced_run.specs.Following.{LoadsFollow, MarksFollowScript}

-- ---- one list

-- loads of each run, by the run's place, of which this holds
record Chosen (P : ℕ → ThreadRun → List Load → Type 0) (runs : List ThreadRun) : Type 0 where
  loads : ℕ → List Load
  are : (i : ℕ) (run : ThreadRun) → slice_get runs i ≡ Some run → P i run (loads i)

-- some loads, and then others
abbrev one_then : List Load → (ℕ → List Load) → ℕ → List Load
one_then own others zero = own
one_then own others (suc i) = others i

none_there : (i : ℕ) (run : ThreadRun) → slice_get [] i ≡ Some run → ⊥
none_there zero run e = cc
none_there (suc i) run e = cc

some_alike : (a b : ThreadRun) → ◌≡◌ {A = Option ThreadRun} (Some a) (Some b) → a ≡ b
some_alike a b e = cc

chosen : (P : ℕ → ThreadRun → List Load → Type 0) (runs : List ThreadRun)
    → ((i : ℕ) (run : ThreadRun) → slice_get runs i ≡ Some run → (loads : List Load) × P i run loads) → Chosen P runs
chosen P [] each = record { loads = λ i. []; are = λ i run found. absurd (none_there i run found) }
chosen P (first ∷ runs) each =
    let own = each zero first refl in
    let rest = chosen (λ i. P (suc i)) runs (λ i. each (suc i)) in
    record { loads = one_then own.0 rest.loads; are = by_place own.0 own.1 rest.loads rest.are }
  where
    by_place : (own : List Load) → P zero first own → (others : ℕ → List Load)
        → ((i : ℕ) (run : ThreadRun) → slice_get runs i ≡ Some run → P (suc i) run (others i))
        → (i : ℕ) (run : ThreadRun) → slice_get (first ∷ runs) i ≡ Some run → P i run (one_then own others i)
    by_place own is others are zero run found = subst (λ (r : ThreadRun). P zero r own) (some_alike first run found) is
    by_place own is others are (suc i) run found = are i run found

-- ---- loads that follow a script

-- the loads of the thread of a run follow a script to its end, leave a mark for each of its passings, and no release word
-- among them held it
pub record LeavesMarks (program : Program) (threads : ℕ) (script : List PatchCommand) (i : ℕ) (run : ThreadRun) (loads : List Load) : Type 0 where
  pub follow : LoadsFollow program threads script (i + 1) (sleds_passed run.passed) loads (total_of program threads script)
  pub each : length run.marks ≡ length (sleds_passed run.passed)
  pub leave : run.marks ≡ marks_of program threads (i + 1) (hold_of (i + 1) script) (sleds_passed run.passed) loads
  pub released : All (λ load. load.word ≡ release_word program (i + 1) → load.value ≢ 0) loads

-- the loads of all threads, by their numbers
pub record LeaveAll (program : Program) (threads : ℕ) (script : List PatchCommand) (runs : List ThreadRun) : Type 0 where
  pub loads : ℕ → List Load
  pub are : (i : ℕ) (run : ThreadRun) → slice_get runs i ≡ Some run → LeavesMarks program threads script i run (loads (i + 1))

pub leave_all : (program : Program) (threads : ℕ) (script : List PatchCommand) (runs : List ThreadRun)
    → ((i : ℕ) (run : ThreadRun) → slice_get runs i ≡ Some run → MarksFollowScript program threads script (i + 1) (sleds_passed run.passed) run.marks)
    → LeaveAll program threads script runs
leave_all program threads script runs follow = record {
  loads = λ number. all.loads (number - 1);
  are = λ i run found.
      let place : i ≡ i + 1 - 1 = omega arith in
      subst (λ (k : ℕ). LeavesMarks program threads script i run (all.loads k)) place (all.are i run found);
}
  where
    one : (i : ℕ) (run : ThreadRun) → slice_get runs i ≡ Some run → (loads : List Load) × LeavesMarks program threads script i run loads
    one i run found =
        let made = follow i run found in
        (made.loads, record { follow = made.follow; each = made.each; leave = made.leave; released = made.released })

    all : Chosen (LeavesMarks program threads script) runs
    all = chosen (LeavesMarks program threads script) runs one
