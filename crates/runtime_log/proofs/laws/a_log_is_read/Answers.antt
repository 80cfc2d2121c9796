use Rattle.runtime_log.proofs.LogAgain.{log_is_logged}
use Rattle.runtime_log.proofs.laws.a_log_is_read.Goals as goal

pub returns : goal.returns
returns c = log_is_logged
