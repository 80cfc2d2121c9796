-- The verdict on an audit and a trace: the first row that doesn't agree, and the least thread of which it doesn't.
use Rattle.std.specs.Prelude.{◌≡◌, ◌<◌, ◌≤◌, ◌-◌, ℕ, List, Some, slice_get}
use Rattle.xray_image.specs.Program.{Program}
use Rattle.patch_script.specs.declared.command.PatchCommand.{PatchCommand}
use Rattle.traced_run.specs.Runs.{ThreadRun}
use Rattle.trace_flush.specs.Audit.{ThreadAudit}
use Rattle.trace_flush.specs.Flush.{trace_bytes}
use Rattle.audit_check.specs.declared.verdict.Verdict.{Verdict}
use Rattle.audit_check.specs.declared.verdict.Verdict.TheVariants.{Yes, Ends, Marks, Counts, Recycled, Trace}
use Rattle.audit_check.specs.Rows.{AreRunsOf, CountsAgree, EndsAgree, MarksAgree, RecycledAgrees}
use Rattle.audit_check.specs.Statements.{AuditStatement}

-- what is stated of the thread of this number, from 1, agrees with its run
abbrev pub AtThread : AuditStatement → List ThreadRun → (ThreadAudit → ThreadRun → Type 0) → ℕ → Type 0
AtThread statement runs Agree number =
    (said : ThreadAudit) (run : ThreadRun) → slice_get statement.threads (number - 1) ≡ Some said → slice_get runs (number - 1) ≡ Some run
    → Agree said run

-- a row agrees of each thread
abbrev pub AllAgree : (threads : ℕ) → (ℕ → Type 0) → Type 0
AllAgree threads Row = (number : ℕ) → 0 < number → number ≤ threads → Row number

-- this thread is the first of which a row doesn't agree
pub record FirstToDiffer (threads : ℕ) (Row : ℕ → Type 0) (number : ℕ) : Type 0 where
  pub some : 0 < number
  pub within : number ≤ threads
  pub differs : Row number → ⊥
  pub earlier : (other : ℕ) → 0 < other → other < number → Row other

module _ (program : Program) (script : List PatchCommand) (statement : AuditStatement) (trace : List ℕ) (runs : List ThreadRun) where
  -- ---- the rows, in their order

  abbrev pub EndsRow : ℕ → Type 0
  EndsRow number = AtThread statement runs EndsAgree number

  abbrev pub MarksRow : ℕ → Type 0
  MarksRow number = AtThread statement runs (MarksAgree program statement.setup.threads script number) number

  abbrev pub CountsRow : ℕ → Type 0
  CountsRow number = AtThread statement runs (CountsAgree statement.setup.size) number

  abbrev pub RecycledRow : Type 0
  RecycledRow = RecycledAgrees statement

  -- the trace is that of the runs: its header, and the blocks of the segments that are left
  abbrev pub TraceRow : Type 0
  TraceRow = trace ≡ trace_bytes statement.setup runs

  -- ---- the verdict

  abbrev pub IsVerdict : Verdict → Type 0
  IsVerdict (Ends thread) = FirstToDiffer statement.setup.threads EndsRow thread
  IsVerdict (Marks thread) = AllAgree statement.setup.threads EndsRow × FirstToDiffer statement.setup.threads MarksRow thread
  IsVerdict (Counts thread) =
      AllAgree statement.setup.threads EndsRow × AllAgree statement.setup.threads MarksRow × FirstToDiffer statement.setup.threads CountsRow thread
  IsVerdict Recycled =
      AllAgree statement.setup.threads EndsRow × AllAgree statement.setup.threads MarksRow × AllAgree statement.setup.threads CountsRow × (RecycledRow → ⊥)
  IsVerdict Trace =
      AllAgree statement.setup.threads EndsRow × AllAgree statement.setup.threads MarksRow × AllAgree statement.setup.threads CountsRow × RecycledRow
      × (TraceRow → ⊥)
  IsVerdict Yes =
      AllAgree statement.setup.threads EndsRow × AllAgree statement.setup.threads MarksRow × AllAgree statement.setup.threads CountsRow × RecycledRow
      × TraceRow

-- The verdict on an audit that states this and on a trace, for an image's program and a script: that over the runs of which
-- the audit speaks. An accepted image has exactly one list of them.
pub record IsJudged (program : Program) (script : List PatchCommand) (statement : AuditStatement) (trace : List ℕ) (verdict : Verdict) : Type 0 where
  pub runs : List ThreadRun
  pub are : AreRunsOf program statement runs
  pub verdict_is : IsVerdict program script statement trace runs verdict
