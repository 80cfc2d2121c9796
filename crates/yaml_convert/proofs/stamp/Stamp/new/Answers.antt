use Rattle.yaml_convert.proofs.YamlLines.{stamp_row}
use Rattle.yaml_convert.proofs.stamp.Stamp.new.Goals as goal

pub invariant_of-result : goal.invariant_of-result
invariant_of-result c =
    stamp_row c.args.cpu c.args.thread c.args.pid _ _ _ _ _ _ _ _ _ _ _ c.from-3.ensures c.from-2.ensures c.from.ensures c.new-row.ensures c.put.ensures
    c.put_number.ensures.text c.put-2.ensures c.put_number-2.ensures.text c.put-3.ensures c.put_number-3.ensures.text c.put-4.ensures

pub returns : goal.returns
returns c =
    stamp_row c.args.cpu c.args.thread c.args.pid _ _ _ _ _ _ _ _ _ _ _ c.from-3.ensures c.from-2.ensures c.from.ensures c.new-row.ensures c.put.ensures
    c.put_number.ensures.text c.put-2.ensures c.put_number-2.ensures.text c.put-3.ensures c.put_number-3.ensures.text c.put-4.ensures
