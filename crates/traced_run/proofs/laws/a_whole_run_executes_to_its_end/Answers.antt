use Rattle.traced_run.proofs.ExecutedRuns.{whole_executes}
use Rattle.traced_run.proofs.laws.a_whole_run_executes_to_its_end.Goals as goal

pub returns : goal.returns
returns c = whole_executes c.wanted_loads_have_one_value.ensures
