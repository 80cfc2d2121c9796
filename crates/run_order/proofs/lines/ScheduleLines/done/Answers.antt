use Rattle.std.proofs.Common.{◌∙◌}
use Rattle.run_order.proofs.MadeLines.{all_joined}
use Rattle.run_order.proofs.lines.ScheduleLines.done.Goals as goal

pub returns : goal.returns
returns c turns are = c.in_ok-write_steps.ensures.lines ∙ all_joined turns c.args.self are
