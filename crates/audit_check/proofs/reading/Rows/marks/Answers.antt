use Rattle.std.proofs.Common.{◌≡◌, true, false, [], ◌∷◌, ◌++◌, subst, append_assoc}
use Rattle.std.proofs.lemmas.Result.{err_from_is_err_and}
use Rattle.audit_check.specs.private.Lines.{HasTaken, counts_row, first_rows}
use Rattle.audit_check.proofs.ReadRows.{setup_tells}
use Rattle.audit_check.proofs.ReadAudits.{marks_refused, row_another, row_missing, unread_marks}
use Rattle.audit_check.proofs.Refusals.{IsMarksRow, counted_rows}
use Rattle.audit_check.proofs.reading.Rows.marks.Goals as goal

pub returns-in_err-marks-clause-rows : goal.returns-in_err-marks-clause-rows
returns-in_err-marks-clause-rows c = λ bytes setup threads thread counts has are short number within.
    let p = err_from_is_err_and c.from_residual.result c.from_residual.ensures.1 in rw (p.1, p.2) tt

pub returns-in_err-row-clause-rows : goal.returns-in_err-row-clause-rows
returns-in_err-row-clause-rows c = λ bytes setup threads thread counts has are short number within.
    let tells = setup_tells c.a_written_number_is_itself.ensures in
    let p = err_from_is_err_and c.from_residual-in_err-row.result c.from_residual-in_err-row.ensures.1 in
    rw (p.1, p.2)
    (row_missing bytes c.args.self.now (counted_rows setup threads thread counts) IsMarksRow
    (marks_refused tells bytes setup threads are thread number within counts short) _ has c.in_err-row.ensures.none)

pub returns-in-Some-clause-rows : goal.returns-in-Some-clause-rows
returns-in-Some-clause-rows c = λ bytes setup threads thread counts has are short number within.
    let taken = c.in_ok-row.ensures.row bytes (counted_rows setup threads thread counts) has in (
      c.in-Some.ensures.few,
      subst (λ row. HasTaken bytes c.take.new.self (first_rows setup threads ++ counts_row thread counts ∷ row ∷ [])) c.in-Some.ensures.found
          (subst (HasTaken bytes c.take.new.self) (append_assoc (first_rows setup threads) (counts_row thread counts ∷ []) (c.in_ok-row.row.now ∷ [])) taken),
    )

pub returns-in-None-clause-rows : goal.returns-in-None-clause-rows
returns-in-None-clause-rows c = λ bytes setup threads thread counts has are short number within.
    let tells = setup_tells c.a_written_number_is_itself.ensures in
    row_another bytes c.take.new.self (counted_rows setup threads thread counts) IsMarksRow
    (marks_refused tells bytes setup threads are thread number within counts short) c.fault.result c.in_ok-row.row.now c.fault.ensures
    (c.in_ok-row.ensures.row bytes (counted_rows setup threads thread counts) has)
    (unread_marks c.in_ok-row.row.now (λ all few is. let some : false ≡ true = (c.in-None.ensures.only all few is).0 in cc))
