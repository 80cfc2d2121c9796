use Rattle.trace_forms.proofs.Rows.{function_row}
use Rattle.trace_forms.proofs.record_row.put_function.Goals as goal

pub returns-clause-text : goal.returns-clause-text
returns-clause-text c =
    function_row c.args.kind _ c.args.func _ c.args.delta _ _ _ _ _ c.from-2.ensures c.from.ensures c.put_number.ensures.text c.put.ensures
    c.put_number-2.ensures.text c.put_kind.ensures.text
