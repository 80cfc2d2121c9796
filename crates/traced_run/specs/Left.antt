-- What a run leaves.
use Rattle.std.specs.Prelude.{◌≡◌, ◌+◌, ℕ, List, IsPermutation, filter, length, map, slice_get, Some}
use Rattle.xray_image.specs.Program.{Program}
use Rattle.patch_script.specs.declared.command.PatchCommand.{PatchCommand}
use Rattle.patch_script.specs.Micros.{hold_of}
use Rattle.fdr_buffer.specs.Filled.{Filled, has_event}
use Rattle.machine_step.specs.declared.setup.Setup.{Setup}
use Rattle.machine_step.specs.Ended.{EndsAsPlain}
use Rattle.machine_step.specs.Loads.{Load}
use Rattle.machine_step.specs.Traced.{IsThreadOf, Traced}
use Rattle.traced_run.specs.Runs.{ThreadRun}
use Rattle.traced_run.specs.Kept.{kept_buffers, segment_count}

-- The threads of a run beside a script, thread 1 first. Each runs the program as one of the setup's threads, and the
-- script holds it where its commands say.
abbrev pub AreThreadsOf : Program → List PatchCommand → Setup → List Traced → Type 0
AreThreadsOf program script setup cpus =
    (i : ℕ) (t : Traced) → slice_get cpus i ≡ Some t
    → IsThreadOf program (i + 1) setup.threads (hold_of (i + 1) script) setup.limits t

-- there are loads by which a traced thread has ended as its plain run does, with the run's marks
pub record HasRun (number : ℕ) (run : ThreadRun) (t : Traced) : Type 0 where
  pub thread : t.thread ≡ number
  pub loads : List Load
  pub ends : EndsAsPlain t run.passed run.end run.last loads
  pub marks : t.marks ≡ run.marks

-- What a run leaves. Its threads are at their ends, thread 1 first. It says how many segments the events of each thread
-- were cut into, and how many of these are lost. The buffers are those of the segments that are left.
pub record Leaves (setup : Setup) (runs : List ThreadRun) (cpus : List Traced) (segments first : List ℕ) (buffers : List Filled) : Type 0 where
  pub count : length cpus ≡ length runs
  pub cpus_are : (i : ℕ) (run : ThreadRun) (t : Traced) → slice_get runs i ≡ Some run → slice_get cpus i ≡ Some t → HasRun (i + 1) run t
  pub segments_are : segments ≡ map (segment_count setup.size) runs
  pub first_are : first ≡ map (λ run. run.lost) runs
  pub buffers_are : buffers ≡ kept_buffers setup runs

-- What a run leaves whose buffers aren't put in order. Those that hold an event are those of the segments that are left,
-- in any order.
pub record LeavesInAnyOrder (setup : Setup) (runs : List ThreadRun) (cpus : List Traced) (segments first : List ℕ) (buffers : List Filled) : Type 0 where
  pub leaves : Leaves setup runs cpus segments first (kept_buffers setup runs)
  pub buffers_are : IsPermutation (filter has_event buffers) (kept_buffers setup runs)
