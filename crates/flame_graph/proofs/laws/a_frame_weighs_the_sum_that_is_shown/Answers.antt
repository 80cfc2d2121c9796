use Rattle.flame_graph.proofs.FrameSums.{weighs_calls, weighs_shown}
use Rattle.flame_graph.proofs.laws.a_frame_weighs_the_sum_that_is_shown.Goals as goal

pub returns-clause-exactly : goal.returns-clause-exactly
returns-clause-exactly c = weighs_calls

pub returns-clause-timed : goal.returns-clause-timed
returns-clause-timed c = weighs_shown
