-- `run` and `profile`: there are threads that run beside each script.
use Rattle.std.proofs.Common.{◌≡◌, ℕ, List, Ok, refl}
use Rattle.command_words.specs.declared.profile_options.ProfileOptions.{ProfileOptions}
use Rattle.machine_step.specs.declared.setup.Setup.{Setup}
use Rattle.patch_script.specs.Plans.{Plan, plan_of}
use Rattle.patch_script.specs.Refusals.{commands_of}
use Rattle.traced_run.specs.Runs.{ThreadRun}
use Rattle.xray_image.specs.Program.{IsAccepted, Program}
use Rattle.xray_program.specs.Profile.{AreProfiled}
use Rattle.xray_program.specs.Run.{RanBeside}
use Rattle.xray_program.specs.Setups.{limits_of}
use Rattle.xray_program.specs.Traced.{IsTraced, state_texts, written_of}
use Rattle.xray_program.specs.private.CallLaws.{CallLaws}
use Rattle.xray_program.proofs.LawfulRuns.{ran_beside}
use Rattle.xray_program.proofs.RunExists.{SomeRuns}
use Rattle.xray_program.proofs.SimLaws.{Written}

pub some_beside : CallLaws → SomeRuns → (bytes text : List ℕ) (program : Program) (plan : Plan) (setup : Setup) (trace audit : List ℕ)
    → IsAccepted bytes program → plan_of program setup.threads text ≡ Ok plan
    → (written : Written) × IsTraced (RanBeside program (commands_of plan.lines) setup.threads setup.limits) setup trace audit written.0 written.1
some_beside laws some bytes text program plan setup trace audit accepted said =
    let runs = some bytes text program plan setup accepted said in (
      (written_of trace audit setup runs.0, state_texts 1 runs.0),
      record {
        runs = runs.0;
        ran = ran_beside laws bytes program (commands_of plan.lines) setup.threads setup.limits runs.0 accepted runs.1.count runs.1.plain runs.2;
        losses = runs.3;
        outputs_are = refl;
        text_is = refl;
      },
    )

-- a setup of the threads of a profile
abbrev setup_for : ProfileOptions → Setup
setup_for options = record {
  threads = options.bounds.threads;
  size = 0;
  max = 0;
  limits = limits_of options.bounds options.stamps;
  pid = 0;
  wall = record { secs = 0; micros = 0 };
  frequency = 0;
}

pub some_profiled : CallLaws → SomeRuns → (bytes text : List ℕ) (program : Program) (plan : Plan) (options : ProfileOptions) → IsAccepted bytes program
    → plan_of program options.bounds.threads text ≡ Ok plan → (runs : List ThreadRun) × AreProfiled options program (commands_of plan.lines) runs
some_profiled laws some bytes text program plan options accepted said =
    let runs = some bytes text program plan (setup_for options) accepted said in
    let limits = limits_of options.bounds options.stamps in
    (runs.0, ran_beside laws bytes program (commands_of plan.lines) options.bounds.threads limits runs.0 accepted runs.1.count runs.1.plain runs.2)
