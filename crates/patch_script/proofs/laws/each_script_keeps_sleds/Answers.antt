use Rattle.patch_script.proofs.AllowedCode.{keeps_sleds}
use Rattle.patch_script.proofs.laws.each_script_keeps_sleds.Goals as goal

pub returns : goal.returns
returns c = keeps_sleds
