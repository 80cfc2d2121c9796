-- What the fields of `Steps` and of a `Cpu` say, and what is true of them.
use Rattle.std.specs.Prelude.{◌≡◌, ◌<◌, ◌≤◌, ℕ, List, length, Option, Some}
use Rattle.xray_image.specs.Program.{Program, IsAccepted}
use Rattle.handler_word.specs.declared.mark.Mark.{Mark}
use Rattle.handler_word.specs.declared.mark.Mark.TheVariants as marks
use Rattle.machine_step.specs.declared.cpu.Cpu.TheInside.{Inside}
use Rattle.machine_step.specs.declared.end.End.{End}
use Rattle.machine_step.specs.declared.limits.Limits.{Limits}
use Rattle.machine_step.specs.declared.stage.Stage.{Stage}
use Rattle.machine_step.specs.declared.stage.Stage.TheVariants as stages
use Rattle.machine_step.specs.declared.stand.Stand.{Stand}
use Rattle.machine_step.specs.declared.stand.Stand.TheVariants.{Gate, Loading, Ended}
use Rattle.machine_step.specs.declared.steps.Steps.TheInside as table
use Rattle.machine_step.specs.declared.want.Want.{Want}
use Rattle.machine_step.specs.declared.want.Want.TheVariants as wants
use Rattle.machine_step.specs.PlainStep.{Passing, PlainRun}
use Rattle.machine_step.specs.Course.{ComesTo}
use Rattle.machine_step.specs.Setups.{AreLimits}
use Rattle.machine_step.specs.private.Machine.{state_at, IsWithin}
use Rattle.machine_step.specs.private.Stages.{recording_at, word_at}
use Rattle.machine_step.specs.private.Standing.{IsAtSled}
use Rattle.machine_step.specs.private.Steps.{AreStepsOf}
use Rattle.machine_step.specs.Traced.{Traced}

-- the program that a table of steps belongs to
abbrev pub program_run : table.Inside → Program
program_run s = s.image.now

-- some accepted file holds the image, and these are its steps
pub record IsTable (s : table.Inside) : Type 0 where
  pub accepted : (bytes : List ℕ) × IsAccepted bytes s.image.now
  pub steps : AreStepsOf s.image.now s.all.items

-- what a thread wants that is here and has made this many passings
abbrev pub want_at : Program → ℕ → ℕ → ℕ → Stand → Want
want_at program threads thread made (Gate place sled) = wants.Gate made
want_at program threads thread made (Loading place sled stage) = wants.Load (word_at program threads thread sled stage)
want_at program threads thread made (Ended end) = wants.Done end

-- the mark that its next passing gets if the log records
abbrev pub recording_in : Stand → Mark
recording_in (Gate place sled) = marks.Recorded
recording_in (Loading place sled stage) = recording_at stage
recording_in (Ended end) = marks.Recorded

-- the traced thread that the fields say
abbrev pub traced : Inside → Traced
traced a = record {
  program = a.steps.now;
  thread = a.thread;
  threads = a.threads;
  hold = a.hold;
  limits = a.limits;
  registers = a.machine.registers;
  zero_flag = a.machine.zero_flag;
  stack = a.machine.stack;
  output = a.machine.output;
  instructions = a.machine.instructions;
  marks = a.marks.items;
  recording = recording_in a.stand;
  want = want_at a.steps.now a.threads a.thread a.machine.passings a.stand;
}

-- the machine is where the plain run comes to a passing of this sled
pub record IsAtPassing (a : Inside) (place sled : ℕ) : Type 0 where
  pub address : ℕ
  pub at : IsAtSled a.steps.now a.limits address place sled a.machine
  pub passed : List Passing
  pub next : Passing
  pub count : length passed ≡ a.machine.passings
  pub comes : ComesTo a.steps.now a.limits a.thread passed (state_at address a.machine) next

-- the machine is where the plain run ends
pub record IsPastEnd (a : Inside) (end : End) : Type 0 where
  pub address : ℕ
  pub passed : List Passing
  pub count : length passed ≡ a.machine.passings
  pub run : PlainRun a.steps.now a.limits a.thread passed end (state_at address a.machine)

-- a release word is loaded only if the script holds the thread
abbrev pub IsStageOf : Option ℕ → ℕ → Stage → Type 0
IsStageOf hold passing stage = stage ≡ stages.Release → hold ≡ Some passing

-- where the thread is
abbrev pub StandsSo : Inside → Stand → Type 0
StandsSo a (Gate place sled) = IsAtPassing a place sled
StandsSo a (Loading place sled stage) = IsAtPassing a place sled × IsStageOf a.hold a.machine.passings stage
StandsSo a (Ended end) = IsPastEnd a end

-- What stays the same in a thread: some accepted file holds the image, and its limits and its number are in their
-- ranges.
pub record IsOfThread (program : Program) (limits : Limits) (thread threads : ℕ) : Type 0 where
  pub bytes : List ℕ
  pub accepted : IsAccepted bytes program
  pub limits_are : AreLimits limits
  pub some_thread : 0 < thread
  pub no_more : thread ≤ threads
  pub few : threads ≤ 16

-- the counts are within their limits, there is room for all marks, and the thread is on its plain run
pub record IsSound (a : Inside) : Type 0 where
  pub setup : IsOfThread a.steps.now a.limits a.thread a.threads
  pub within : IsWithin a.limits a.machine
  pub room : a.marks.room ≡ a.limits.passings
  pub made : length a.marks.items ≡ a.machine.passings
  pub stands : StandsSo a a.stand
