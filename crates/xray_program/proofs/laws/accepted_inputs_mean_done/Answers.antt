use Rattle.xray_program.proofs.CommandLaws.{done_or_memory}
use Rattle.xray_program.proofs.laws.accepted_inputs_mean_done.Goals as goal

pub returns : goal.returns
returns c = done_or_memory c.each_command_is_lawful.ensures
