-- The inputs of `soak`, and its summary.
use Rattle.std.specs.Prelude.{◌≡◌, ◌≤◌, ℕ, Bool, List, ◌++◌, length, None, Ok, codes, decimal}
use Rattle.std.specs.List.{enumerate_from}
use Rattle.account_report.specs.Account.{account_of}
use Rattle.account_report.specs.declared.row.AccountRow.{AccountRow}
use Rattle.asm_text.specs.Assembling.{image_of, statements_said}
use Rattle.asm_text.specs.Layout.{StatementLines}
use Rattle.asm_text.specs.Programs.{program_said}
use Rattle.asm_text.specs.Writing.{image_bytes}
use Rattle.fdr_file.specs.Traces.{trace_of}
use Rattle.fdr_file.specs.declared.trace.Trace.{Trace}
use Rattle.machine_step.specs.Texts.{line_feed}
use Rattle.patch_script.specs.Plans.{plan_of, waiting_line}
use Rattle.patch_script.specs.WrittenScripts.{written_plan}
use Rattle.soak_inputs.specs.Inputs.{soak_commands, soak_schedule, soak_script, soak_text, soak_turns}
use Rattle.soak_inputs.specs.Said.{soak_said}
use Rattle.step_sim.specs.Schedules.{schedule_of}
use Rattle.trace_flush.specs.Audit.{ThreadAudit}
use Rattle.trace_flush.specs.Summary.{summary_text}
use Rattle.xray_image.specs.Ids.{id_count}
use Rattle.xray_image.specs.Program.{IsAccepted, Program}
use Rattle.xray_program.specs.Soak.{trace_lines}

-- what is assembled of a text is the image of the program that the text says
abbrev pub Assembles : Type 0
Assembles = (text : List ℕ) (threshold : ℕ) (relative : Bool) (said : StatementLines) → statements_said text ≡ Ok said
    → IsAccepted (image_bytes (image_of threshold relative said)) (program_said threshold said)

-- each input of a number is read as what was drawn of the number
pub record InputLaws : Type 0 where
  pub said : (number : ℕ) → statements_said (soak_text number) ≡ Ok (soak_said number)
  pub ids : (number threshold : ℕ) → id_count (program_said threshold (soak_said number)) ≡ 64
  pub plan : (number : ℕ) (program : Program) → 64 ≤ id_count program
      → plan_of program 4 (soak_script number) ≡ Ok (written_plan program 4 (soak_commands number))
  pub waits : (number : ℕ) (program : Program) → 64 ≤ id_count program → waiting_line (enumerate_from 1 (soak_commands number)) ≡ None
  pub schedule : (number : ℕ) → schedule_of 4 (soak_schedule number) ≡ Ok (soak_turns number)
  pub assembles : Assembles

-- a file has this many bytes, and the trace that it is read as has this account
pub record IsReadBack (file : List ℕ) (bytes : ℕ) (rows : List AccountRow) : Type 0 where
  pub trace : Trace
  pub reads : trace_of file ≡ Ok trace
  pub bytes_are : bytes ≡ length file
  pub rows_are : rows ≡ account_of trace.blocks

-- a summary of what threads, a file and an account say
abbrev pub summary_with : (number : ℕ) → List ThreadAudit → (recycled bytes : ℕ) → List AccountRow → List ℕ
summary_with number threads recycled bytes rows =
    codes "soak " ++ decimal number ++ line_feed ++ summary_text threads recycled ++ trace_lines bytes rows
