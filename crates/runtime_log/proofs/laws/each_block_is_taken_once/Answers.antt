use Rattle.runtime_log.proofs.WhichBlocks.{blocks_taken}
use Rattle.runtime_log.proofs.laws.each_block_is_taken_once.Goals as goal

pub returns : goal.returns
returns c = blocks_taken c.what_is_read_is_a_log.ensures
