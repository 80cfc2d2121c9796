-- `soak`: a replay over large inputs that are drawn from a number, and a summary of it.
use Rattle.std.specs.Prelude.{◌≡◌, ℕ, false, List, ◌++◌, length, None, Ok, codes, decimal, sum_by}
use Rattle.account_report.specs.Account.{account_of}
use Rattle.account_report.specs.declared.row.AccountRow.{AccountRow}
use Rattle.asm_text.specs.Assembling.{assembled}
use Rattle.fdr_file.specs.declared.trace.Trace.{Trace}
use Rattle.fdr_file.specs.Traces.{trace_of}
use Rattle.machine_step.specs.declared.setup.Setup.{Setup}
use Rattle.machine_step.specs.Texts.{line_feed}
use Rattle.patch_script.specs.Plans.{Plan, plan_of, waiting_line}
use Rattle.soak_inputs.specs.Inputs.{soak_schedule, soak_script, soak_text}
use Rattle.step_sim.specs.declared.turns.Turns.{Turns}
use Rattle.step_sim.specs.Schedules.{schedule_of}
use Rattle.trace_flush.specs.Flush.{trace_bytes}
use Rattle.trace_flush.specs.Lines.{audits_of}
use Rattle.trace_flush.specs.Summary.{summary_text}
use Rattle.traced_run.specs.Losses.{recycled_of}
use Rattle.traced_run.specs.Runs.{ThreadRun}
use Rattle.xray_image.specs.Program.{Program, IsAccepted}
use Rattle.xray_program.specs.Sim.{Replayed}

-- what each replay is made with
abbrev pub soak_setup : Setup
soak_setup = record {
  threads = 4;
  size = 4096;
  max = 64;
  limits = record { fuel = 10000000; passings = 65536; tick = 1; tsc = 0; cpus = 4; migrate = 1000 };
  pid = 1;
  wall = record { secs = 0; micros = 0 };
  frequency = 0;
}

-- The inputs of a number as they are read; none of them is refused. The text is assembled, with absolute addresses in
-- its map, and a function of one instruction line gets sleds. Its image is accepted. Nobody waits in the script.
pub record AreInputs (number : ℕ) (program : Program) (plan : Plan) (turns : List Turns) : Type 0 where
  pub image : List ℕ
  pub assembles : assembled (soak_text number) 1 false ≡ Ok image
  pub accepted : IsAccepted image program
  pub script_reads : plan_of program soak_setup.threads (soak_script number) ≡ Ok plan
  pub nobody_waits : waiting_line plan.lines ≡ None
  pub schedule_reads : schedule_of soak_setup.threads (soak_schedule number) ≡ Ok turns

-- the length of a trace in bytes; and of the rows of its account, how many pairs of an entry and an exit there are, and
-- how many entries and exits that aren't in a pair
abbrev pub trace_lines : (bytes : ℕ) → List AccountRow → List ℕ
trace_lines bytes rows =
    codes "trace " ++ decimal bytes ++ line_feed
    ++ codes "pairs " ++ decimal (sum_by (λ row. row.count) rows) ++ codes " entries " ++ decimal (sum_by (λ row. row.entries) rows)
    ++ codes " exits " ++ decimal (sum_by (λ row. row.exits) rows) ++ line_feed

-- the summary of runs, and of the trace that their file is read as
abbrev pub soak_summary : (number : ℕ) → List ThreadRun → Trace → List ℕ
soak_summary number runs trace =
    codes "soak " ++ decimal number ++ line_feed ++ summary_text (audits_of soak_setup runs) (recycled_of runs)
    ++ trace_lines (length (trace_bytes soak_setup runs)) (account_of trace.blocks)

-- The inputs of a number are replayed, and the trace of the runs is read back from the bytes of its file. The text is
-- their summary.
pub record IsSummary (number : ℕ) (text : List ℕ) : Type 0 where
  pub program : Program
  pub plan : Plan
  pub turns : List Turns
  pub inputs : AreInputs number program plan turns
  pub runs : List ThreadRun
  pub replayed : Replayed program plan turns soak_setup runs
  pub trace : Trace
  pub reads_back : trace_of (trace_bytes soak_setup runs) ≡ Ok trace
  pub is : text ≡ soak_summary number runs trace
