use Rattle.xray_program.proofs.ImportedRuns.{run_imported}
use Rattle.xray_program.proofs.laws.a_run_is_imported_as_itself.Goals as goal

pub returns : goal.returns
returns c = run_imported c.a_trace_in_order_is_imported_as_itself.ensures c.segments_hold_all.ensures.all c.segments_hold_all.ensures.some c.a_run_fits_its_buffers.ensures c.a_file_reads_back.ensures.read
