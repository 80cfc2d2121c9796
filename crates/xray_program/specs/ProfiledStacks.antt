-- A profile beside a run with the same marks: the law that they have the same stacks.
use Rattle.std.specs.Prelude.{◌≡◌, ℕ, List, Ok, map}
use Rattle.command_words.specs.declared.profile_options.ProfileOptions.{ProfileOptions}
use Rattle.fdr_file.specs.Traces.{trace_of}
use Rattle.fdr_file.specs.declared.trace.Trace.{Trace}
use Rattle.machine_step.specs.Buffers.{spare_of}
use Rattle.machine_step.specs.Setups.{IsSetup}
use Rattle.machine_step.specs.declared.setup.Setup.{Setup}
use Rattle.patch_script.specs.declared.command.PatchCommand.{PatchCommand}
use Rattle.trace_flush.specs.Flush.{trace_bytes}
use Rattle.traced_run.specs.Losses.{AreLost, recycled_of}
use Rattle.traced_run.specs.Runs.{IsRun, ThreadRun}
use Rattle.xray_image.specs.Program.{IsAccepted, Program}
use Rattle.xray_program.specs.Profile.{AreProfiled}
use Rattle.xray_program.specs.Setups.{limits_of}

-- The threads of a profile make the marks of a run. Both are of one accepted image, with as many threads and the same
-- limits and stamps, and each thread has the same marks. The profile may be beside any script. No segment of the run was
-- lost, and the bytes of its trace read as this trace.
pub record MakeMarksOf (program : Program) (setup : Setup) (runs : List ThreadRun) (trace : Trace) (options : ProfileOptions)
    (profiled : List ThreadRun) : Type 0 where
  pub image : List ℕ
  pub accepted : IsAccepted image program
  pub setup_is : IsSetup setup
  pub run : IsRun program setup runs
  pub losses : AreLost setup.size (spare_of setup) runs
  pub none_lost : recycled_of runs ≡ 0
  pub reads : trace_of (trace_bytes setup runs) ≡ Ok trace
  pub script : List PatchCommand
  pub were_profiled : AreProfiled options program script profiled
  pub threads : options.bounds.threads ≡ setup.threads
  pub limits : limits_of options.bounds options.stamps ≡ setup.limits
  pub marks : map (λ run. run.marks) profiled ≡ map (λ run. run.marks) runs
