-- Runs that lose nothing.
use Rattle.std.specs.Prelude.{◌≡◌, ◌∷◌, ℕ, List, [], Some, Ok}
use Rattle.audit_check.specs.Reading.{ReadsAsAudit}
use Rattle.audit_check.specs.Statements.{AuditStatement}
use Rattle.command_words.specs.Words.{Run}
use Rattle.command_words.specs.declared.run_options.RunOptions.{RunOptions}
use Rattle.xray_io.specs.Desk.{Entry}
use Rattle.xray_program.specs.Commands.{Means}
use Rattle.xray_program.specs.Outcomes.{Done}

-- `run` means to leave this trace and this audit, and to print this text. The audit states that no segment was recycled.
pub record MayLeaveWhole (held : List ℕ → Entry) (i s t a : List ℕ) (options : RunOptions) (trace audit text : List ℕ) : Type 0 where
  pub meant : Means (Some (Run i s t a options)) held (Done ((t, trace) ∷ (a, audit) ∷ []) text)
  pub statement : AuditStatement
  pub reads : ReadsAsAudit audit (Ok statement)
  pub none : statement.recycled ≡ 0
