use Rattle.xray_image.proofs.AcceptedFiles.{one_verdict, accepted}
use Rattle.xray_image.proofs.laws.one_verdict.Goals as goal

pub returns-clause-one : goal.returns-clause-one
returns-clause-one c = one_verdict c.one_instruction.ensures c.one_answer.ensures.unique

pub returns-clause-accepted : goal.returns-clause-accepted
returns-clause-accepted c = accepted
