-- Threads that have run beside a script, whatever recorded their events.
use Rattle.std.specs.Prelude.{◌≡◌, ◌+◌, ℕ, List, [], Some, length, slice_get}
use Rattle.fdr_record.specs.declared.event.Event.{Event}
use Rattle.machine_step.specs.declared.limits.Limits.{Limits}
use Rattle.machine_step.specs.PlainStep.{PlainRun}
use Rattle.machine_step.specs.Traced.{Traced}
use Rattle.patch_script.specs.Plans.{Plan}
use Rattle.patch_script.specs.Refusals.{commands_of}
use Rattle.sled_rule.specs.declared.views.PatchView.{PatchView}
use Rattle.sled_rule.specs.declared.views.WorkView.{WorkView}
use Rattle.sled_rule.specs.Plans.{start_in}
use Rattle.traced_run.specs.Following.{AllMarksFollow}
use Rattle.traced_run.specs.Left.{HasRun}
use Rattle.traced_run.specs.Runs.{EachThread, ThreadRun, events_of}
use Rattle.thread_run.specs.Each.{HaveChanged}
use Rattle.thread_run.specs.Runs.{HasRunAlong}

-- the patcher is where threads start, and no thread has a seat yet
pub record IsAtStart (plan : Plan) (p : PatchView) : Type 0 where
  pub place : p.place ≡ start_in plan
  pub given : p.given ≡ 0
  pub none_met : p.met ≡ []

-- Threads have run beside a script, each with its recorder, and this is what they have at their ends, thread 1 first.
-- Each has run as its plain run does. Its marks follow the script, and it has run by the loads of its seat. Its recorder
-- stands for exactly the events of the passings that its marks record.
pub record HaveRecorded {R : Type 0} (stands : R → List Event → Type 0) (follows : R → R → Type 0) (plan : Plan) (limits : Limits)
    (old : List R) (cpus : List Traced) (seats : List WorkView) (new : List R) : Type 0 where
  pub runs : List ThreadRun
  pub count : length runs ≡ length old
  pub plain : EachThread runs (λ number run. PlainRun plan.program limits number run.passed run.end run.last)
  pub follow : AllMarksFollow plan.program plan.threads (commands_of plan.lines) runs
  pub cpus_count : length cpus ≡ length runs
  pub cpus_are : (i : ℕ) (run : ThreadRun) (t : Traced) → slice_get runs i ≡ Some run → slice_get cpus i ≡ Some t → HasRun (i + 1) run t
  pub seats_count : length seats ≡ length runs
  pub along : (i : ℕ) (run : ThreadRun) (t : Traced) (seat : WorkView) → slice_get runs i ≡ Some run → slice_get cpus i ≡ Some t
      → slice_get seats i ≡ Some seat → HasRunAlong plan.program plan.threads (commands_of plan.lines) (i + 1) run t seat
  pub recorded : (i : ℕ) (run : ThreadRun) (recorder : R) → slice_get runs i ≡ Some run → slice_get new i ≡ Some recorder
      → stands recorder (events_of run)
  pub followed : HaveChanged follows old new
