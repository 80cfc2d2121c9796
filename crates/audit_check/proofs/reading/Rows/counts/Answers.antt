use Rattle.std.proofs.Common.{[], ◌∷◌, ◌++◌, sym, subst, arith}
use Rattle.std.proofs.lemmas.Result.{err_from_is_err_and}
use Rattle.audit_check.specs.private.Lines.{HasTaken, first_rows}
use Rattle.audit_check.proofs.ReadRows.{counts_found, setup_tells}
use Rattle.audit_check.proofs.ReadAudits.{counts_refused, row_another, row_missing, unread_counts}
use Rattle.audit_check.proofs.Refusals.{IsCountsRow}
use Rattle.audit_check.proofs.reading.Rows.counts.Goals as goal

pub returns-in_err-row-clause-rows : goal.returns-in_err-row-clause-rows
returns-in_err-row-clause-rows c = λ bytes setup threads has are number within.
    let tells = setup_tells c.a_written_number_is_itself.ensures in
    let p = err_from_is_err_and c.from_residual.result c.from_residual.ensures.1 in
    rw (p.1, p.2)
    (row_missing bytes c.args.self.now (first_rows setup threads) (IsCountsRow c.args.thread)
    (counts_refused tells bytes setup threads are c.args.thread number within) _ has c.in_err-row.ensures.none)

pub returns-in-Some-clause-rows : goal.returns-in-Some-clause-rows
returns-in-Some-clause-rows c = λ bytes setup threads has are number within.
    let found = counts_found c.args.thread c.in_ok-row.row.now c.in-Some.counts (sym c.in-Some.ensures) in (
      found.short,
      subst (λ row. HasTaken bytes c.take.new.self (first_rows setup threads ++ row ∷ [])) found.text
          (c.in_ok-row.ensures.row bytes (first_rows setup threads) has),
    )

pub returns-in-None-clause-rows : goal.returns-in-None-clause-rows
returns-in-None-clause-rows c = λ bytes setup threads has are number within.
    let reads = c.a_written_number_is_itself.ensures in
    let few = are.setup_is.few_threads in
    row_another bytes c.take.new.self (first_rows setup threads) (IsCountsRow c.args.thread)
    (counts_refused (setup_tells reads) bytes setup threads are c.args.thread number within) c.fault.result c.in_ok-row.row.now c.fault.ensures
    (c.in_ok-row.ensures.row bytes (first_rows setup threads) has)
    (unread_counts reads c.args.thread c.in_ok-row.row.now (omega (arith, few, within)) c.in-None.ensures)
