use Rattle.runtime_log.proofs.KeptEvents.{numbers_meant}
use Rattle.runtime_log.proofs.laws.printed_numbers_are_meant.Goals as goal

pub returns : goal.returns
returns c = numbers_meant c.an_import_reads_back.ensures c.segments_hold_all.ensures.all
