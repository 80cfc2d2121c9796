use Rattle.call_trie.proofs.FirstExcess.{first_decides, stays_live}
use Rattle.call_trie.proofs.laws.the_first_excess_decides_the_state.Goals as goal

pub returns-clause-decides : goal.returns-clause-decides
returns-clause-decides c = first_decides

pub returns-clause-live : goal.returns-clause-live
returns-clause-live c = stays_live
