use Rattle.xray_image.proofs.SomeVerdict.{some_verdict}
use Rattle.xray_image.proofs.laws.some_verdict.Goals as goal

pub returns : goal.returns
returns c = some_verdict c.one_answer.ensures.some c.one_answer.ensures.unique
