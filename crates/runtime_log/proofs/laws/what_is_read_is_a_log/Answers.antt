use Rattle.runtime_log.proofs.LogDescribed.{logged_is_log}
use Rattle.runtime_log.proofs.laws.what_is_read_is_a_log.Goals as goal

pub returns : goal.returns
returns c = logged_is_log c.a_place_is_decoded.ensures
