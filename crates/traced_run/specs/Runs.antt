-- The threads of a run, whatever the order of their loads and the patcher's stores.
use Rattle.std.specs.Prelude.{◌≡◌, ◌+◌, ℕ, List, length, slice_get, Some}
use Rattle.xray_image.specs.Program.{Program}
use Rattle.handler_word.specs.declared.mark.Mark.{Mark}
use Rattle.fdr_record.specs.declared.event.Event.{Event}
use Rattle.machine_step.specs.declared.end.End.{End}
use Rattle.machine_step.specs.declared.setup.Setup.{Setup}
use Rattle.machine_step.specs.Events.{recorded}
use Rattle.machine_step.specs.PlainStep.{Passing, PlainRun, State}

-- How one thread of a run goes: the passings of its plain run, its end and its last state; the marks of its passings;
-- and how many segments of its events were lost because their buffers were taken again. These are its oldest segments.
pub record ThreadRun : Type 0 where
  pub passed : List Passing
  pub end : End
  pub last : State
  pub marks : List Mark
  pub lost : ℕ

-- this holds for each thread of a run, with the thread's number, from 1
abbrev pub EachThread : List ThreadRun → (ℕ → ThreadRun → Type 0) → Type 0
EachThread runs Holds = (i : ℕ) (run : ThreadRun) → slice_get runs i ≡ Some run → Holds (i + 1) run

-- The threads of a run, thread 1 first. There are as many as the setup says, and each runs as its plain run does.
pub record IsRun (program : Program) (setup : Setup) (runs : List ThreadRun) : Type 0 where
  pub count : length runs ≡ setup.threads
  pub plain : EachThread runs (λ number run. PlainRun program setup.limits number run.passed run.end run.last)

-- the events of a thread: those of the passings that were marked as recorded
abbrev pub events_of : ThreadRun → List Event
events_of run = recorded run.passed run.marks
