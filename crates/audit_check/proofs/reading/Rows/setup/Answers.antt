use Rattle.std.proofs.Common.{[], ◌∷◌, subst}
use Rattle.std.proofs.lemmas.Result.{err_from_is_err_and}
use Rattle.audit_check.specs.private.Lines.{HasTaken}
use Rattle.audit_check.specs.private.Parts.{format_row}
use Rattle.audit_check.proofs.ReadAudits.{row_another, row_missing, setup_refused, unread_setup}
use Rattle.audit_check.proofs.Refusals.{IsSetupRow}
use Rattle.audit_check.proofs.reading.Rows.setup.Goals as goal

pub returns-in_err-row-clause-rows : goal.returns-in_err-row-clause-rows
returns-in_err-row-clause-rows c = λ bytes has.
    let p = err_from_is_err_and c.from_residual.result c.from_residual.ensures.1 in
    rw (p.1, p.2) (row_missing bytes c.args.self.now (format_row ∷ []) IsSetupRow (setup_refused bytes) _ has c.in_err-row.ensures.none)

pub returns-in-Some-clause-rows : goal.returns-in-Some-clause-rows
returns-in-Some-clause-rows c = λ bytes has. (
  c.in-Some.ensures.found.0,
  subst (λ row. HasTaken bytes c.take.new.self (format_row ∷ row ∷ [])) c.in-Some.ensures.found.1 (c.in_ok-row.ensures.row bytes (format_row ∷ []) has),
)

pub returns-in-None-clause-rows : goal.returns-in-None-clause-rows
returns-in-None-clause-rows c = λ bytes has.
    row_another bytes c.take.new.self (format_row ∷ []) IsSetupRow (setup_refused bytes) c.fault.result c.in_ok-row.row.now c.fault.ensures
    (c.in_ok-row.ensures.row bytes (format_row ∷ []) has) (unread_setup c.in_ok-row.row.now c.in-None.ensures.only)
