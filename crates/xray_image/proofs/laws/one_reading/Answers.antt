use Rattle.xray_image.proofs.Acceptance.{one_reading}
use Rattle.xray_image.proofs.laws.one_reading.Goals as goal

pub returns : goal.returns
returns c = one_reading c.one_instruction.ensures
