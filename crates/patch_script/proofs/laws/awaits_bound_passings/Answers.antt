use Rattle.patch_script.proofs.PassingBounds.{bound_awaited, bound_reached, bound_within}
use Rattle.patch_script.proofs.laws.awaits_bound_passings.Goals as goal

pub returns : goal.returns
returns c = record { within = bound_within; awaited = bound_awaited; reached = bound_reached }
