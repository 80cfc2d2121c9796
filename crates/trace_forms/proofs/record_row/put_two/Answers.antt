use Rattle.trace_forms.proofs.Rows.{two_row}
use Rattle.trace_forms.proofs.record_row.put_two.Goals as goal

pub returns-clause-text : goal.returns-clause-text
returns-clause-text c =
    two_row c.args.name.now c.args.between.now c.args.first c.args.second _ _ _ _ _ c.put_number.ensures.text c.put.ensures c.put_number-2.ensures.text c.put-2.ensures
