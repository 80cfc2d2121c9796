use Rattle.stack_rebuild.proofs.Weights.{weighs_sum}
use Rattle.stack_rebuild.proofs.laws.a_path_weighs_its_sum_and_what_is_in_no_sum.Goals as goal

pub returns : goal.returns
returns c = weighs_sum
