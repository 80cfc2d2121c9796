use Rattle.xray_program.proofs.RunSetups.{options_make_limits}
use Rattle.xray_program.proofs.setups.profile_limits.Goals as goal

pub returns-clause-are_limits : goal.returns-clause-are_limits
returns-clause-are_limits c =
    rw c.limits_of.ensures (options_make_limits c.args.options.bounds c.args.options.stamps c.requires.bounds c.requires.stamps)
