use Rattle.runtime_log.proofs.ThreadsKept.{threads_keep}
use Rattle.runtime_log.proofs.laws.the_threads_of_a_basic_log_keep_their_order.Goals as goal

pub returns : goal.returns
returns c = threads_keep c.an_import_reads_back.ensures c.segments_hold_all.ensures.all
