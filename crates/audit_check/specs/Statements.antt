-- What an audit states, and the text that states it.
use Rattle.std.specs.Prelude.{◌≡◌, ◌<◌, ◌≤◌, ◌+◌, ◌^◌, ℕ, List, All, Some, length, map, slice_get}
use Rattle.machine_step.specs.declared.setup.Setup.{Setup}
use Rattle.machine_step.specs.Setups.{IsSetup}
use Rattle.traced_run.specs.Losses.{recycled_of}
use Rattle.traced_run.specs.Runs.{ThreadRun}
use Rattle.trace_flush.specs.Audit.{ThreadAudit, audit_text}
use Rattle.trace_flush.specs.Lines.{audits_of}
use Rattle.audit_check.specs.declared.audit.Audit.{Audit}
use Rattle.audit_check.specs.declared.audit.AuditEntry.{AuditEntry}

-- what an audit states: what the run was made with, the numbers and the marks of each thread, and how many segments were
-- recycled
pub record AuditStatement : Type 0 where
  pub setup : Setup
  pub threads : List ThreadAudit
  pub recycled : ℕ

-- the text that states it
abbrev pub text_of : AuditStatement → List ℕ
text_of statement = audit_text statement.setup statement.threads statement.recycled

-- ---- which statements audits make

-- A run may have the setup. There is one entry for each of its threads, thread 1 first.
pub record NamesThreads (statement : AuditStatement) : Type 0 where
  pub setup_is : IsSetup statement.setup
  pub count : length statement.threads ≡ statement.setup.threads
  pub numbered : (i : ℕ) (said : ThreadAudit) → slice_get statement.threads i ≡ Some said → said.thread ≡ i + 1

-- the most marks of a thread
abbrev pub most_marks : ℕ
most_marks = 1048576

-- the four counts of a thread have 32 bits, and it has no more marks than a thread may make passings
pub record HasCounts (said : ThreadAudit) : Type 0 where
  pub passings : said.passings < 2 ^ 32
  pub recorded : said.recorded < 2 ^ 32
  pub segments : said.segments < 2 ^ 32
  pub first : said.first < 2 ^ 32
  pub marks : length said.marks ≤ most_marks

-- an audit may state this, whether or not it is true of any run
pub record MayState (statement : AuditStatement) : Type 0 where
  pub names : NamesThreads statement
  pub counts : All HasCounts statement.threads
  pub recycled : statement.recycled < 2 ^ 64

-- ---- what is stated by an `Audit`, and of a run

abbrev pub said_by : AuditEntry → ThreadAudit
said_by entry = record {
  thread = entry.thread;
  end = entry.end;
  passings = entry.passings;
  recorded = entry.recorded;
  segments = entry.segments;
  first = entry.first;
  marks = entry.marks.items;
}

abbrev pub statement_of : Audit → AuditStatement
statement_of audit = record { setup = audit.setup; threads = map said_by audit.entries.items; recycled = audit.recycled }

-- what the audit of a run states
abbrev pub run_statement : Setup → List ThreadRun → AuditStatement
run_statement setup runs = record { setup = setup; threads = audits_of setup runs; recycled = recycled_of runs }
