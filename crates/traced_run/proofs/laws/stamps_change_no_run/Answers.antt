use Rattle.traced_run.proofs.OtherStamps.{runs_alike}
use Rattle.traced_run.proofs.laws.stamps_change_no_run.Goals as goal

pub returns : goal.returns
returns c = runs_alike
