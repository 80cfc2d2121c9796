use Rattle.std.proofs.Common.{refl}
use Rattle.trace_forms.proofs.Rows.{line_row}
use Rattle.trace_forms.proofs.record_row.put_line.Goals as goal

pub returns : goal.returns
returns c =
    line_row c.args.at _ c.args.rec.now _ _ _ _ _ refl c.requires c.put.ensures c.put_record.ensures.text c.put-2.ensures c.put_number.ensures.text
