use Rattle.std.proofs.Common.{refl}
use Rattle.run_order.proofs.MadeLines.{steps_joined}
use Rattle.run_order.proofs.lines.ScheduleLines.micro_steps.Goals as goal

pub returns-clause-joined : goal.returns-clause-joined
returns-clause-joined c turns are = steps_joined c.args.count turns c.args.self.now _ refl refl are
