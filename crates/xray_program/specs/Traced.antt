-- Threads that have run over an image beside a script, and what is left of them, whatever makes their runs lawful.
use Rattle.std.specs.Prelude.{◌≡◌, ◌≤◌, ◌+◌, ℕ, List, [], ◌∷◌, ◌++◌, Ok, length}
use Rattle.command_words.specs.Limits.{trace_limit}
use Rattle.fdr_file.specs.Traces.{trace_of}
use Rattle.xray_image.specs.Program.{Program}
use Rattle.patch_script.specs.Micros.{hold_of}
use Rattle.patch_script.specs.declared.command.PatchCommand.{PatchCommand}
use Rattle.machine_step.specs.Buffers.{spare_of}
use Rattle.machine_step.specs.declared.limits.Limits.{Limits}
use Rattle.machine_step.specs.declared.setup.Setup.{Setup}
use Rattle.machine_step.specs.Loads.{Load}
use Rattle.machine_step.specs.PlainStep.{PlainRun}
use Rattle.machine_step.specs.Texts.{state_text}
use Rattle.traced_run.specs.Decoded.{DecodesWhole}
use Rattle.traced_run.specs.Executed.{Executes}
use Rattle.traced_run.specs.Losses.{AreLost}
use Rattle.traced_run.specs.Runs.{EachThread, ThreadRun}
use Rattle.trace_flush.specs.Flush.{IsTraceOf, trace_bytes}
use Rattle.trace_flush.specs.Lines.{audit_of_run}

-- the state texts of threads, one after another, numbered from a number on
abbrev pub state_texts : ℕ → List ThreadRun → List ℕ
state_texts number [] = []
state_texts number (run ∷ runs) = state_text number run.end run.last run.marks ++ state_texts (number + 1) runs

-- the outputs of a run, each a name and its bytes: the trace, and then the audit
abbrev pub written_of : (trace audit : List ℕ) → Setup → List ThreadRun → List (List ℕ × List ℕ)
written_of trace audit setup runs = (trace, trace_bytes setup runs) ∷ (audit, audit_of_run setup runs) ∷ []

-- Threads have run by this law, so many of them, with these limits, over a program, beside the commands of a script. There
-- are loads of each thread by its number, such that:
-- - each thread goes as its plain run does;
-- - the runs and the loads are lawful;
-- - each load of a thread is of the word that it wanted next, by its loads no passing decodes a torn sled, and its marks
--   are those of its loads;
-- - a thread that executes the code, each sled with the bytes that it loaded there, always comes to the same end as the
--   plain run, with the same registers except r10, zero flag, stack, output and counts.
pub record RanLawfully (Lawful : List ThreadRun → (ℕ → List Load) → Type 0) (program : Program) (script : List PatchCommand) (threads : ℕ)
    (limits : Limits) (runs : List ThreadRun) : Type 0 where
  pub count : length runs ≡ threads
  pub plain : EachThread runs (λ number run. PlainRun program limits number run.passed run.end run.last)
  pub loads : ℕ → List Load
  pub lawful : Lawful runs loads
  pub whole : EachThread runs (λ number run. DecodesWhole program threads number (hold_of number script) run (loads number))
  pub executes : EachThread runs (λ number run. Executes program limits threads number (hold_of number script) run (loads number))

-- All that is left of runs of which this holds: two outputs, and a text on out. The trace holds exactly the bytes of the
-- trace of these runs. The audit holds how they ended: each thread's end, segments, lost segments and marks. The text is
-- their state texts, thread 1 first. Each thread that has segments of events keeps its last one; if there are more other
-- segments than spare buffers, exactly the excess is lost, and otherwise none is. If the setup is one that a run may have,
-- the trace reads back: for each thread it has the last whole segments of exactly the entries and exits that its marks
-- record (the law `reports_take_a_run`).
pub record IsTraced (Ran : List ThreadRun → Type 0) (setup : Setup) (trace audit : List ℕ) (outputs : List (List ℕ × List ℕ)) (text : List ℕ)
    : Type 0 where
  pub runs : List ThreadRun
  pub ran : Ran runs
  pub losses : AreLost setup.size (spare_of setup) runs
  pub outputs_are : outputs ≡ written_of trace audit setup runs
  pub text_is : text ≡ state_texts 1 runs

-- ---- what the reports read of it

-- The bytes of the trace of these runs are its trace, are at most as many as a report reads, and read as this trace.
pub record IsReported (setup : Setup) (runs : List ThreadRun) : Type 0 where
  pub traced : IsTraceOf setup runs (trace_bytes setup runs)
  pub short : length (trace_bytes setup runs) ≤ trace_limit
  pub reads_back : trace_of (trace_bytes setup runs) ≡ Ok traced.trace
