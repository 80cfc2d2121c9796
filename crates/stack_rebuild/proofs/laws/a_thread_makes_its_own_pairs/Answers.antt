use Rattle.stack_rebuild.proofs.Views.{thread_makes}
use Rattle.stack_rebuild.proofs.laws.a_thread_makes_its_own_pairs.Goals as goal

pub returns : goal.returns
returns c = λ blocks thread. thread_makes thread blocks
