use Rattle.xray_program.proofs.CommandLaws.{refusal_means}
use Rattle.xray_program.proofs.laws.refusal_is_the_only_meaning.Goals as goal

pub returns : goal.returns
returns c = refusal_means c.each_command_is_lawful.ensures
