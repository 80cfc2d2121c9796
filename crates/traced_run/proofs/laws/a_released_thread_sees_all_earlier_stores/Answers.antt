use Rattle.traced_run.proofs.ReleasedThreads.{loads_after_release}
use Rattle.traced_run.proofs.laws.a_released_thread_sees_all_earlier_stores.Goals as goal

pub returns : goal.returns
returns c = loads_after_release
