-- Options that change nothing of what is printed.
use Rattle.std.specs.Prelude.{◌≡◌, ℕ, List, map}
use Rattle.machine_step.specs.declared.setup.Setup.{Setup}
use Rattle.trace_flush.specs.Lines.{audits_of}
use Rattle.traced_run.specs.Runs.{ThreadRun}
use Rattle.xray_program.specs.OrderReplays.{stated_of}
use Rattle.xray_program.specs.Outcomes.{Outcome, Done}
use Rattle.xray_program.specs.Traced.{state_texts, written_of}

-- What is left and printed with one setup is that of some runs. With another setup other runs may be left, with the same
-- text. Both audits state the same end, passings and marks of each thread.
pub record LeavesAlike (setup other : Setup) (trace audit other_trace other_audit : List ℕ) (outputs : List (List ℕ × List ℕ)) (text : List ℕ)
    (OtherMeans : Outcome → Type 0) : Type 0 where
  pub runs : List ThreadRun
  pub outputs_are : outputs ≡ written_of trace audit setup runs
  pub text_is : text ≡ state_texts 1 runs
  pub others : List ThreadRun
  pub also : OtherMeans (Done (written_of other_trace other_audit other others) text)
  pub stated : map stated_of (audits_of other others) ≡ map stated_of (audits_of setup runs)
