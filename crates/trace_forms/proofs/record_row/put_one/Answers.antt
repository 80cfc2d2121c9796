use Rattle.trace_forms.proofs.Rows.{one_row}
use Rattle.trace_forms.proofs.record_row.put_one.Goals as goal

pub returns-clause-text : goal.returns-clause-text
returns-clause-text c = one_row c.args.name.now c.args.number _ _ _ c.put_number.ensures.text c.put.ensures
