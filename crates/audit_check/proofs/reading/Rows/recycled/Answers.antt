use Rattle.std.proofs.Common.{[], ◌∷◌, ◌++◌, sym, subst}
use Rattle.std.proofs.lemmas.Result.{err_from_is_err_and}
use Rattle.audit_check.specs.private.Lines.{HasTaken, first_rows}
use Rattle.audit_check.proofs.ReadRows.{recycled_found, setup_tells}
use Rattle.audit_check.proofs.ReadAudits.{recycled_refused, row_another, row_missing, unread_recycled}
use Rattle.audit_check.proofs.Refusals.{IsRecycledRow}
use Rattle.audit_check.proofs.reading.Rows.recycled.Goals as goal

pub returns-in_err-row-clause-rows : goal.returns-in_err-row-clause-rows
returns-in_err-row-clause-rows c = λ bytes setup threads has are all.
    let tells = setup_tells c.a_written_number_is_itself.ensures in
    let p = err_from_is_err_and c.from_residual.result c.from_residual.ensures.1 in
    rw (p.1, p.2)
    (row_missing bytes c.args.self.now (first_rows setup threads) IsRecycledRow (recycled_refused tells bytes setup threads are all) _ has
    c.in_err-row.ensures.none)

pub returns-in-Some-clause-rows : goal.returns-in-Some-clause-rows
returns-in-Some-clause-rows c = λ bytes setup threads has are all.
    let found = recycled_found c.in_ok-row.row.now c.in-Some.recycled (sym c.in-Some.ensures) in (
      found.1,
      subst (λ row. HasTaken bytes c.take.new.self (first_rows setup threads ++ row ∷ [])) found.0
          (c.in_ok-row.ensures.row bytes (first_rows setup threads) has),
    )

pub returns-in-None-clause-rows : goal.returns-in-None-clause-rows
returns-in-None-clause-rows c = λ bytes setup threads has are all.
    let reads = c.a_written_number_is_itself.ensures in
    row_another bytes c.take.new.self (first_rows setup threads) IsRecycledRow (recycled_refused (setup_tells reads) bytes setup threads are all)
    c.fault.result c.in_ok-row.row.now c.fault.ensures (c.in_ok-row.ensures.row bytes (first_rows setup threads) has)
    (unread_recycled reads c.in_ok-row.row.now c.in-None.ensures)
