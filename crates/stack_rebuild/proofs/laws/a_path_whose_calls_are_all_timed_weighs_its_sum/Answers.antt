use Rattle.stack_rebuild.proofs.Weights.{weighs_no_more}
use Rattle.stack_rebuild.proofs.laws.a_path_whose_calls_are_all_timed_weighs_its_sum.Goals as goal

pub returns : goal.returns
returns c = weighs_no_more
