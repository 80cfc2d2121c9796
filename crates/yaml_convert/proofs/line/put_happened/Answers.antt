use Rattle.yaml_convert.proofs.YamlLines.{happened_row}
use Rattle.yaml_convert.proofs.line.put_happened.Goals as goal

pub returns : goal.returns
returns c =
    happened_row c.args.event.now _ _ _ _ _ _ c.requires c.put.ensures c.put_number.ensures.text c.put-2.ensures c.put_arg.ensures.text c.put_kind.ensures
