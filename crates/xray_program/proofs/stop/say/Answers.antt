use Rattle.xray_program.proofs.ErrLines.{line_said}
use Rattle.xray_program.proofs.stop.say.Goals as goal

pub returns : goal.returns
returns g c = line_said c.write_text.result c.write_text.ensures.writes
