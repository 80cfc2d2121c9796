use Rattle.xray_image.proofs.FunctionRows.{found_is}
use Rattle.xray_image.proofs.functions.is_unit.Goals as goal

pub returns : goal.returns
returns c = λ all index. found_is all c.args.address c.find.result c.is_some.result c.is_some.ensures (c.find.ensures all index)
