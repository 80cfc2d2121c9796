use Rattle.xray_program.proofs.CommandLaws.{some_means}
use Rattle.xray_program.proofs.laws.some_meaning.Goals as goal

pub returns : goal.returns
returns c = some_means c.each_command_is_lawful.ensures
