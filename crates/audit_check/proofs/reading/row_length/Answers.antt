use Rattle.audit_check.proofs.RowLines.{row_to, row_whole}
use Rattle.audit_check.proofs.reading.row_length.Goals as goal

pub returns-in-Some-clause-row : goal.returns-in-Some-clause-row
returns-in-Some-clause-row c = λ some. row_to c.args.bytes.now c.in-Some.end c.in-Some.ensures

pub returns-in-None-clause-row : goal.returns-in-None-clause-row
returns-in-None-clause-row c = row_whole c.args.bytes.now c.in-None.ensures
