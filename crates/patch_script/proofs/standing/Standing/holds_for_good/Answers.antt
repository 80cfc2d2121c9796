use Rattle.std.proofs.Common.{◌∙◌}
use Rattle.patch_script.proofs.CommandsSoFar.{any_held-is}
use Rattle.patch_script.proofs.standing.Standing.holds_for_good.Goals as goal

pub returns : goal.returns
returns c = λ script is. c.any_held.ensures ∙ any_held-is script c.args.self.now is
