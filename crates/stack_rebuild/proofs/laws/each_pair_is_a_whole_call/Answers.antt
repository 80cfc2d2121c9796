use Rattle.stack_rebuild.proofs.PairFacts.{pairs_are_whole}
use Rattle.stack_rebuild.proofs.laws.each_pair_is_a_whole_call.Goals as goal

pub returns : goal.returns
returns c = pairs_are_whole
