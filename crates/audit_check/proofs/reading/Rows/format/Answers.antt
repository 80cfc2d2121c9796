use Rattle.std.proofs.Common.{◌≡◌, [], ◌∷◌, List, ℕ, true, false, sym, subst, ◌∙◌}
use Rattle.std.proofs.lemmas.Result.{err_from_is_err_and}
use Rattle.std.proofs.lemmas.Slice.Eq.{bytes_eq-Decides}
use Rattle.audit_check.specs.private.Lines.{HasTaken}
use Rattle.audit_check.specs.private.Parts.{format_row}
use Rattle.audit_check.proofs.ReadAudits.{format_refused, row_another, row_missing}
use Rattle.audit_check.proofs.Refusals.{IsFormatRow}
use Rattle.audit_check.proofs.reading.Rows.format.Goals as goal

pub returns-in_err-row-clause-rows : goal.returns-in_err-row-clause-rows
returns-in_err-row-clause-rows c = λ bytes has.
    let p = err_from_is_err_and c.from_residual.result c.from_residual.ensures.1 in
    rw (p.1, p.2) (row_missing bytes c.args.self.now [] IsFormatRow (format_refused bytes) _ has c.in_err-row.ensures.none)

pub returns-then-eq-clause-rows : goal.returns-then-eq-clause-rows
returns-then-eq-clause-rows c = λ bytes has.
    subst (λ (row : List ℕ). HasTaken bytes c.take.new.self (row ∷ [])) ((bytes_eq-Decides c.in_ok-row.row.now format_row).0 (sym c.eq.ensures ∙ c.if-eq.true))
    (c.in_ok-row.ensures.row bytes [] has)

pub returns-else-eq-clause-rows : goal.returns-else-eq-clause-rows
returns-else-eq-clause-rows c = λ bytes has.
    row_another bytes c.take.new.self [] IsFormatRow (format_refused bytes) c.fault.result c.in_ok-row.row.now c.fault.ensures
    (c.in_ok-row.ensures.row bytes [] has)
    (λ is. let both : true ≡ false = sym ((bytes_eq-Decides c.in_ok-row.row.now format_row).1 is) ∙ (sym c.eq.ensures ∙ c.if-eq.false) in cc)
