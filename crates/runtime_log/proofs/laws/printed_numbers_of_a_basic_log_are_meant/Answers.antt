use Rattle.runtime_log.proofs.BasicNumbers.{basic_numbers_meant}
use Rattle.runtime_log.proofs.laws.printed_numbers_of_a_basic_log_are_meant.Goals as goal

pub returns : goal.returns
returns c = basic_numbers_meant c.an_import_reads_back.ensures c.segments_hold_all.ensures.all
