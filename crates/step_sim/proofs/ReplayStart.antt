-- A replay before its first turn.
use Rattle.std.proofs.Common.{◌≡◌, ℕ, List, sym, ap, subst, ◌∙◌, length, fold}
use Rattle.xray_image.specs.Program.{Program}
use Rattle.patch_script.specs.declared.command.PatchCommand.{PatchCommand}
use Rattle.patch_script.specs.Micros.{start_of}
use Rattle.patch_script.specs.Refusals.{commands_of}
use Rattle.machine_step.specs.declared.setup.Setup.{Setup}
use Rattle.machine_step.specs.PlainStep.{Passing}
use Rattle.machine_step.specs.Traced.{Traced}
use Rattle.step_sim.specs.declared.patcher.Patcher.{Patcher}
use Rattle.step_sim.specs.declared.pool.Pool.{Pool}
use Rattle.step_sim.specs.declared.start.SimStart.TheInside.{Inside}
use Rattle.step_sim.specs.declared.turns.Turns.{Turns}
use Rattle.step_sim.specs.Pool.{Pooled}
use Rattle.step_sim.specs.private.Recording.{AllRecord, AllRecordAt, Recording, line_in, pooling_in}
use Rattle.step_sim.specs.private.Standing.{IsPatcherAt}
use Rattle.step_sim.specs.private.Starting.{HoldsStart, IsAtStart, start_in}
use Rattle.step_sim.specs.Starts.{Start}
use Rattle.step_sim.specs.private.Turns.{AllPooledRunOut}
use Rattle.step_sim.proofs.RecordedReplay.{Begun, Ended, SmallIds, begins_recording, ended, first_of, recording}

-- what is started
abbrev pub start_of_all : Program → List PatchCommand → Setup → Start
start_of_all program script setup = record { program = program; script = script; setup = setup }

pub start_is : (program : Program) (threads : ℕ) (script : List PatchCommand) (place : ℕ) (s : Inside) → IsPatcherAt program threads script place s.patcher
    → start_in s ≡ start_of_all program script s.setup
start_is program threads script place s at =
    ap (λ (x : Program). start_of_all x (commands_of s.patcher.script.now.lines) s.setup) at.program_is
    ∙ ap (λ (x : List PatchCommand). start_of_all program x s.setup) at.script_is

pub at_start : (program : Program) (script : List PatchCommand) (s : Inside) → HoldsStart (start_of_all program script s.setup) s → IsAtStart s
at_start program script s holds =
    subst (λ (x : Start). HoldsStart x s) (sym (start_is program s.setup.threads script (start_of program s.setup.threads script) s holds.patcher)) holds

-- ---- what `play` asks for

pub holds_start : (start : Start) (s : Inside) → start_in s ≡ start → IsAtStart s → HoldsStart start s
holds_start start s is at = subst (λ (x : Start). HoldsStart x s) is at

started : SmallIds → (start : Start) (s : Inside) → start_in s ≡ start → IsAtStart s
    → Begun start.program start.script start.setup s.patcher s.cpus.items s.pool
started small start s is at =
    let holds = holds_start start s is at in
    begins_recording start.program start.script start.setup s.patcher s.cpus.items s.pool holds.count holds.begun holds.free holds.patcher
    holds.words holds.accepted small holds.pool

pub records : SmallIds → (start : Start) (s : Inside) → start_in s ≡ start → IsAtStart s → AllRecord s.patcher s.cpus.items s.pool
records small start s is at =
    let begun = started small start s is at in
    let r = recording start.program start.script start.setup begun.passed in
    (r, first_of r, begun.at)

-- ---- what it gives

-- the passings that a replay was played with, and where it has ended
pub record Played (start : Start) (lines : List Turns) (count : ℕ) (p : Patcher) (ts : List Traced) (pool : Pool) : Type 0 where
  pub passed : List (List Passing)
  pub each : length passed ≡ start.setup.threads
  pub end : Ended (recording start.program start.script start.setup passed) lines count p ts pool

pub played : SmallIds → (start : Start) (s : Inside) → start_in s ≡ start → IsAtStart s
    → (lines : List Turns) (p : Patcher) (ts : List Traced) (pool : Pool)
    → ((r : Recording) (pooled : Pooled) → AllRecordAt r pooled s.patcher s.cpus.items s.pool
    → (last : Pooled) × AllPooledRunOut r.cast (pooling_in r) (length s.cpus.items) 1 (fold (line_in r) pooled lines) last
    × AllRecordAt r last p ts pool)
    → Played start lines (length s.cpus.items) p ts pool
played small start s is at lines p ts pool plays =
    let begun = started small start s is at in
    let r = recording start.program start.script start.setup begun.passed in
    record {
      passed = begun.passed;
      each = begun.count;
      end = ended r lines (length s.cpus.items) p ts pool (plays r (first_of r) begun.at);
    }
