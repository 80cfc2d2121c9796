use Rattle.call_rows.proofs.EndsRise.{in_order_of_ends}
use Rattle.call_rows.proofs.laws.rows_stand_in_the_order_of_ends.Goals as goal

pub returns : goal.returns
returns c = in_order_of_ends c.a_thread_goes_on.ensures c.each_pair_is_a_whole_call.ensures
