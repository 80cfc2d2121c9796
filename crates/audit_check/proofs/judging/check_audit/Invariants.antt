use Rattle.std.proofs.Common.{List}
use Rattle.patch_script.specs.Refusals.{commands_of}
use Rattle.traced_run.specs.Runs.{ThreadRun}
use Rattle.audit_check.specs.Rows.{AreRunsOf}
use Rattle.audit_check.specs.Statements.{statement_of}
use Rattle.audit_check.proofs.SameRows.{Judged}
use Rattle.audit_check.proofs.judging.check_audit.Given as goal

-- the threads so far were judged
abbrev pub invariant-loop-entry : goal.invariant-loop-entry
invariant-loop-entry l =
    (runs : List ThreadRun) → AreRunsOf l.image (statement_of l.audit) runs
    → Judged l.image (commands_of l.script.lines) (statement_of l.audit) l.trace runs l.entry-index l.first l.left
