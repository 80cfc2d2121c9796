use Rattle.stack_rebuild.specs.Histories.{history_of}
use Rattle.call_rows.proofs.Parents.{parents}
use Rattle.call_rows.proofs.laws.each_parent_encloses_its_call.Goals as goal

pub returns : goal.returns
returns c = λ blocks. parents c.each_pair_is_a_whole_call.ensures (history_of blocks)
