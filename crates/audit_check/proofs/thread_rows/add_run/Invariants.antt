use Rattle.std.proofs.Common.{◌≡◌, ◌++◌}
use Rattle.std.specs.Prelude.{replicate}
use Rattle.audit_check.proofs.thread_rows.add_run.Given as goal

abbrev pub invariant-loop-mark : goal.invariant-loop-mark
invariant-loop-mark l = (l.marks.items ≡ l.initial.marks.items ++ replicate l._mark l.mark) × (l.marks.room ≡ l.initial.marks.room)
