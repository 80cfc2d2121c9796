use Rattle.machine_step.proofs.SomeMarks.{some_marks}
use Rattle.machine_step.proofs.laws.some_marks_follow.Goals as goal

pub returns : goal.returns
returns c = some_marks
