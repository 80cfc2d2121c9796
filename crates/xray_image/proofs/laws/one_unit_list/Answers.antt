use Rattle.xray_image.proofs.Pieces.{one_list}
use Rattle.xray_image.proofs.laws.one_unit_list.Goals as goal

pub returns : goal.returns
returns c = one_list c.one_instruction.ensures
