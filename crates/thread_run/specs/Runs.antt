-- Whole runs of threads beside a script.
use Rattle.std.specs.Prelude.{◌≡◌, ◌+◌, ℕ, List, [], Some, length, slice_get}
use Rattle.xray_image.specs.Program.{Program}
use Rattle.patch_script.specs.declared.command.PatchCommand.{PatchCommand}
use Rattle.patch_script.specs.Micros.{total_of}
use Rattle.patch_script.specs.Plans.{Plan}
use Rattle.machine_step.specs.Buffers.{spare_of}
use Rattle.fdr_buffer.specs.Filled.{Filled}
use Rattle.machine_step.specs.declared.setup.Setup.{Setup}
use Rattle.machine_step.specs.Ended.{EndsAsPlain}
use Rattle.machine_step.specs.Traced.{Traced, sleds_passed}
use Rattle.sled_rule.specs.declared.views.PatchView.{PatchView}
use Rattle.sled_rule.specs.declared.views.WorkView.{WorkView}
use Rattle.sled_rule.specs.Plans.{total_in}
use Rattle.sled_rule.specs.Views.{ended_count}
use Rattle.traced_run.specs.Following.{AllMarksFollow, LoadsFollow}
use Rattle.traced_run.specs.Left.{AreThreadsOf, LeavesInAnyOrder}
use Rattle.traced_run.specs.Losses.{AreLost}
use Rattle.traced_run.specs.Runs.{IsRun, ThreadRun}
use Rattle.thread_run.specs.Following.{given}

-- the patcher has come to the end of its script; each thread was given a seat, and none was met yet
pub record HasPatched (plan : Plan) (p : PatchView) : Type 0 where
  pub place : p.place ≡ total_in plan
  pub given : p.given ≡ plan.threads
  pub none_met : p.met ≡ []

-- A thread, of this many, has run beside a script, with this seat. The seat says that the thread has ended. Its loads
-- follow the whole script. By exactly these loads the thread has ended as its plain run does, and has decoded no torn
-- sled.
pub record HasRunAlong (program : Program) (threads : ℕ) (script : List PatchCommand) (number : ℕ) (run : ThreadRun) (t : Traced) (seat : WorkView)
    : Type 0 where
  pub owner : seat.thread ≡ number
  pub ended : seat.count ≡ ended_count
  pub follow : LoadsFollow program threads script number (sleds_passed run.passed) (given seat.loads) (total_of program threads script)
  pub ends : EndsAsPlain t run.passed run.end run.last (given seat.loads)

-- The threads of a setup have run beside a script, and these are what their runs leave: the threads, and the seat of
-- each, by whose loads it has run; and their segments and buffers. The marks of each thread follow the script. As
-- many segments are lost as the pool of all threads had no spare buffers for. Whose they are isn't fixed, but each thread
-- keeps its last one. The buffers that hold events are those of the segments that are left, in any order.
pub record HaveRunBeside (program : Program) (script : List PatchCommand) (setup : Setup) (cpus : List Traced) (seats : List WorkView)
    (segments first : List ℕ) (buffers : List Filled) : Type 0 where
  pub runs : List ThreadRun
  pub run : IsRun program setup runs
  pub follow : AllMarksFollow program setup.threads script runs
  pub losses : AreLost setup.size (spare_of setup) runs
  pub threads : AreThreadsOf program script setup cpus
  pub each : length seats ≡ length cpus
  pub along : (i : ℕ) (run : ThreadRun) (t : Traced) (seat : WorkView) → slice_get runs i ≡ Some run → slice_get cpus i ≡ Some t
      → slice_get seats i ≡ Some seat → HasRunAlong program setup.threads script (i + 1) run t seat
  pub leaves : LeavesInAnyOrder setup runs cpus segments first buffers
