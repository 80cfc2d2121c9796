-- What the replay of an order means to leave, and that a run can be replayed.
use Rattle.std.specs.Prelude.{◌≡◌, ◌⊎◌, ◌∷◌, ℕ, List, [], Some, codes, map}
use Rattle.audit_check.specs.Rows.{AreRunsOf}
use Rattle.audit_check.specs.Statements.{AuditStatement}
use Rattle.command_words.specs.Ranges.{AreRunOptions}
use Rattle.command_words.specs.Words.{Order, Run}
use Rattle.command_words.specs.declared.run_options.RunOptions.{RunOptions}
use Rattle.handler_word.specs.declared.mark.Mark.{Mark}
use Rattle.machine_step.specs.Buffers.{spare_of}
use Rattle.machine_step.specs.declared.end.End.{End}
use Rattle.machine_step.specs.declared.setup.Setup.{Setup}
use Rattle.trace_flush.specs.Audit.{ThreadAudit}
use Rattle.trace_flush.specs.Lines.{audits_of}
use Rattle.traced_run.specs.Losses.{AreLost, recycled_of, without_losses}
use Rattle.traced_run.specs.Runs.{ThreadRun}
use Rattle.xray_image.specs.Program.{IsAccepted, Program}
use Rattle.xray_io.specs.Desk.{Entry, Holds}
use Rattle.xray_program.specs.Commands.{Means}
use Rattle.xray_program.specs.Outcomes.{Outcome, Done, Refused}
use Rattle.xray_program.specs.Traced.{state_texts, written_of}

-- The threads of two setups have the same plain runs: there are as many, and each has the same limits. The buffers, the
-- process, the wall time and the frequency may differ.
pub record HaveSameThreads (one other : Setup) : Type 0 where
  pub threads : one.threads ≡ other.threads
  pub limits : one.limits ≡ other.limits

-- what an audit states of a thread whatever its buffers are: its end, its passings and its marks
abbrev pub stated_of : ThreadAudit → End × ℕ × List Mark
stated_of said = (said.end, said.passings, said.marks)

-- A replay with a setup means to leave the runs of which a statement speaks, over the program of an image. It prints their
-- state texts, and its audit states the same end, passings and marks of each thread. Only which segments are lost may
-- differ. If the setup is that of the statement, and the runs have the losses of some order of their threads, which are
-- none, then the very runs are left, with their trace.
pub record LeavesRunsOf (Means : Outcome → Type 0) (image trace audit : List ℕ) (setup : Setup) (statement : AuditStatement) : Type 0 where
  pub program : Program
  pub accepted : IsAccepted image program
  pub runs : List ThreadRun
  pub are : AreRunsOf program statement runs
  pub replayed : List ThreadRun
  pub same : without_losses replayed ≡ without_losses runs
  pub left : Means (Done (written_of trace audit setup replayed) (state_texts 1 runs))
  pub stated : map stated_of (audits_of setup replayed) ≡ map stated_of statement.threads
  pub whole : setup ≡ statement.setup → AreLost setup.size (spare_of setup) runs → recycled_of runs ≡ 0 → replayed ≡ runs

-- ---- the order of a run

-- `run` means to leave these files and to print this text, over an image that is held. Another desk holds the same image,
-- the same script, and the audit.
pub record IsLeftByRun (held after : List ℕ → Entry) (i s t a : List ℕ) (options : RunOptions) (image trace audit text : List ℕ) : Type 0 where
  pub ranges : AreRunOptions options
  pub image_held : held i ≡ Holds image
  pub meant : Means (Some (Run i s t a options)) held (Done ((t, trace) ∷ (a, audit) ∷ []) text)
  pub image_stays : after i ≡ held i
  pub script_stays : after s ≡ held s
  pub audit_held : after a ≡ Holds audit

-- `order` means to write a script and a schedule, or the audit is refused since the schedule has too many lines
abbrev pub IsOrderedOrLong : (Outcome → Type 0) → (audit free schedule : List ℕ) → Type 0
IsOrderedOrLong Means audit free schedule =
    ((script turns : List ℕ) × Means (Done ((free, script) ∷ (schedule, turns) ∷ []) []))
    ⊎ Means (Refused audit (codes "audit") (codes "Long"))

-- `order` means to write this script and this schedule. Another desk holds them, and the same image.
pub record IsLeftByOrder (held after : List ℕ → Entry) (i s a f o free schedule : List ℕ) : Type 0 where
  pub meant : Means (Some (Order i s a f o)) held (Done ((f, free) ∷ (o, schedule) ∷ []) [])
  pub image_stays : after i ≡ held i
  pub free_held : after f ≡ Holds free
  pub schedule_held : after o ≡ Holds schedule
