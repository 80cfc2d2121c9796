use Rattle.xray_program.proofs.RunSetups.{options_make_a_setup}
use Rattle.xray_program.proofs.setups.setup_of.Goals as goal

pub returns-clause-is_setup : goal.returns-clause-is_setup
returns-clause-is_setup c = rw c.limits_of.ensures (options_make_a_setup c.args.options c.requires)
