use Rattle.std.proofs.lemmas.Result.{err_from_is_err_and}
use Rattle.audit_check.proofs.ReadAudits.{entry_taken}
use Rattle.audit_check.proofs.reading.Rows.entry.Goals as goal

pub returns-in_err-counts-clause-rows : goal.returns-in_err-counts-clause-rows
returns-in_err-counts-clause-rows c = λ bytes setup threads has are number within.
    let p = err_from_is_err_and c.from_residual.result c.from_residual.ensures.1 in
    rw (p.1, p.2) (c.in_err-counts.ensures.rows bytes setup threads has are number within)

pub returns-in_err-marks-clause-rows : goal.returns-in_err-marks-clause-rows
returns-in_err-marks-clause-rows c = λ bytes setup threads has are number within.
    let p = err_from_is_err_and c.from_residual-in_err-marks.result c.from_residual-in_err-marks.ensures.1 in
    let k = c.in_ok-counts.ensures.rows bytes setup threads has are number within in
    rw (p.1, p.2) (c.in_err-marks.ensures.rows bytes setup threads c.args.thread c.in_ok-counts.counts k.1 are k.0 number within)

pub returns-clause-rows : goal.returns-clause-rows
returns-clause-rows c = λ bytes setup threads has are number within.
    let k = c.in_ok-counts.ensures.rows bytes setup threads has are number within in
    let m = c.in_ok-marks.ensures.rows bytes setup threads c.args.thread c.in_ok-counts.counts k.1 are k.0 number within in
    entry_taken bytes setup threads c.args.thread c.in_ok-counts.counts c.in_ok-marks.marks.items c.marks.new.self m.1 are k.0 m.0 number
