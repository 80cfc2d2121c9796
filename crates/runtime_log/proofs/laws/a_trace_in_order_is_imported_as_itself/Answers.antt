use Rattle.runtime_log.proofs.ItselfImported.{imports_itself}
use Rattle.runtime_log.proofs.laws.a_trace_in_order_is_imported_as_itself.Goals as goal

pub returns : goal.returns
returns c = imports_itself c.a_file_is_read_by_records.ensures.ends c.a_file_reads_back.ensures.read
