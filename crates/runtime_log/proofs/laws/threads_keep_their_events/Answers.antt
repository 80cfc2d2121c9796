use Rattle.runtime_log.proofs.KeptEvents.{threads_kept}
use Rattle.runtime_log.proofs.laws.threads_keep_their_events.Goals as goal

pub returns : goal.returns
returns c = threads_kept c.an_import_reads_back.ensures c.segments_hold_all.ensures.all
