use Rattle.xray_program.proofs.CommandLaws.{one_means}
use Rattle.xray_program.proofs.laws.one_meaning.Goals as goal

pub returns : goal.returns
returns c = one_means c.each_command_is_lawful.ensures
