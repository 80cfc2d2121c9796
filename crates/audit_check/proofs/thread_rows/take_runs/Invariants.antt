use Rattle.std.proofs.Common.{◌≡◌, ◌≢◌, ◌≤◌, ℕ, List, [], ◌∷◌, ◌++◌, None, length}
use Rattle.handler_word.specs.declared.mark.Mark.{Mark}
use Rattle.audit_check.specs.private.Marks.{AreRuns, GoesOn, HasRuns, marks_of_runs, spaced}
use Rattle.audit_check.specs.Statements.{most_marks}
use Rattle.audit_check.proofs.thread_rows.take_runs.Given as goal

-- the runs that were taken, and how those of a row go on
abbrev pub invariant-runs : goal.invariant-runs
invariant-runs l = record {
  room : l.marks.room ≡ most_marks;
  few : length l.marks.items ≤ most_marks;
  taken : HasRuns l.initial.left l.left l.marks.items l.before;
  printed : (runs : List (Mark × ℕ)) (rest : List ℕ) → AreRuns None runs → runs ≢ [] → length (marks_of_runs runs) ≤ most_marks
      → l.initial.left ≡ spaced runs ++ 10 ∷ rest → GoesOn l.left l.marks.items l.before runs rest;
}

abbrev pub decreases-runs : goal.decreases-runs
decreases-runs l = length l.left
