use Rattle.yaml_convert.proofs.YamlLines.{start_row}
use Rattle.yaml_convert.proofs.line.put_start.Goals as goal

pub returns : goal.returns
returns c = start_row c.args.event.now _ _ _ _ _ c.from.ensures c.requires c.put.ensures c.put_number.ensures.text c.put-2.ensures
