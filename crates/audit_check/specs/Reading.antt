-- What bytes read as: the statement of an audit, or the first line that no audit goes on with.
use Rattle.std.specs.Prelude.{◌≡◌, ◌<◌, ◌==◌, ℕ, List, [], ◌∷◌, Result, Ok, Err, if◌then◌else◌, take}
use Rattle.audit_check.specs.declared.fault.AuditFault.{AuditFault}
use Rattle.audit_check.specs.declared.fault.AuditFault.TheVariants.{Form, NoMemory}
use Rattle.audit_check.specs.Statements.{MayState, AuditStatement, text_of}

-- lines whose first one begins with one more byte
abbrev pub with_byte : ℕ → List (List ℕ) → List (List ℕ)
with_byte byte [] = (byte ∷ []) ∷ []
with_byte byte (line ∷ lines) = (byte ∷ line) ∷ lines

-- the lines of bytes, each with the line feed (10) at its end; bytes after the last line feed are a line too
abbrev pub whole_lines : List ℕ → List (List ℕ)
whole_lines [] = []
whole_lines (byte ∷ bytes) = if byte == 10 then (byte ∷ []) ∷ whole_lines bytes else with_byte byte (whole_lines bytes)

-- The first `count` lines of the bytes are the first `count` lines of some audit. If the bytes have fewer lines, this audit
-- has no more than they have.
pub record BeginsAudit (bytes : List ℕ) (count : ℕ) : Type 0 where
  pub statement : AuditStatement
  pub may : MayState statement
  pub same : take count (whole_lines (text_of statement)) ≡ take count (whole_lines bytes)

-- The bytes are refused at this line, counted from 1. The lines before it begin an audit, and with it they don't. If it is
-- missing, it is the line after the last.
pub record IsRefused (bytes : List ℕ) (line : ℕ) : Type 0 where
  pub fails : BeginsAudit bytes line → ⊥
  pub before : (count : ℕ) → count < line → BeginsAudit bytes count

-- the bytes are the text of this statement, or they are refused at this line; memory says nothing of them
abbrev pub ReadsAsAudit : List ℕ → Result AuditStatement AuditFault → Type 0
ReadsAsAudit bytes (Ok statement) = MayState statement × (bytes ≡ text_of statement)
ReadsAsAudit bytes (Err (Form line)) = IsRefused bytes line
ReadsAsAudit bytes (Err NoMemory) = ⊥
