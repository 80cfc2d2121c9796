-- The rows of an audit, and how far a reader has come in them.
use Rattle.std.specs.Prelude.{◌≡◌, ◌+◌, ℕ, List, [], ◌∷◌, ◌++◌, codes, decimal, All, Some, length, slice_get}
use Rattle.std.specs.List.{flat_map}
use Rattle.machine_step.specs.declared.setup.Setup.{Setup}
use Rattle.machine_step.specs.Setups.{IsSetup}
use Rattle.machine_step.specs.Texts.{end_text, line_feed, marks_line}
use Rattle.trace_flush.specs.Audit.{ThreadAudit, recycled_line, thread_line}
use Rattle.audit_check.specs.declared.fault.AuditFault.{AuditFault}
use Rattle.audit_check.specs.declared.fault.AuditFault.TheVariants.{Form, NoMemory}
use Rattle.audit_check.specs.declared.reading.Rows.{Rows}
use Rattle.audit_check.specs.declared.thread_rows.Counts.{Counts}
use Rattle.audit_check.specs.private.Parts.{format_row, setup_row}
use Rattle.audit_check.specs.Reading.{IsRefused, whole_lines}
use Rattle.audit_check.specs.Statements.{HasCounts, AuditStatement}

-- ---- rows

-- the counts of a thread
abbrev pub counts_row : ℕ → Counts → List ℕ
counts_row thread counts =
    codes "thread " ++ decimal thread ++ codes " " ++ end_text counts.end ++ codes " passings " ++ decimal counts.passings
    ++ codes " recorded " ++ decimal counts.recorded ++ codes " segments " ++ decimal counts.segments
    ++ codes " first " ++ decimal counts.first ++ line_feed

-- what is said of a thread besides its marks
abbrev pub counts_of : ThreadAudit → Counts
counts_of said = record { end = said.end; passings = said.passings; recorded = said.recorded; segments = said.segments; first = said.first }

-- the two rows of a thread
abbrev pub rows_of : ThreadAudit → List (List ℕ)
rows_of said = thread_line said ∷ marks_line said.marks ∷ []

-- the first rows: the format, the setup, and those of the first threads
abbrev pub first_rows : Setup → List ThreadAudit → List (List ℕ)
first_rows setup threads = format_row ∷ setup_row setup ∷ flat_map rows_of threads

-- all rows
abbrev pub all_rows : AuditStatement → List (List ℕ)
all_rows statement = first_rows statement.setup statement.threads ++ recycled_line statement.recycled ∷ []

-- ---- a reader

-- it has taken these rows
pub record HasTaken (bytes : List ℕ) (rows : Rows) (taken : List (List ℕ)) : Type 0 where
  pub left : whole_lines bytes ≡ taken ++ whole_lines rows.left.now
  pub number : rows.number ≡ length taken

-- these are the first threads of an audit
pub record AreFirst (setup : Setup) (threads : List ThreadAudit) : Type 0 where
  pub setup_is : IsSetup setup
  pub numbered : (i : ℕ) (said : ThreadAudit) → slice_get threads i ≡ Some said → said.thread ≡ i + 1
  pub counts : All HasCounts threads

-- bytes are refused for this fault
abbrev pub Refuses : List ℕ → AuditFault → Type 0
Refuses bytes (Form line) = IsRefused bytes line
Refuses bytes NoMemory = Unit {0}
