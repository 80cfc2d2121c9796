use Rattle.runtime_log.proofs.ReadingBack.{imports_read}
use Rattle.runtime_log.proofs.laws.an_import_reads_back.Goals as goal

pub returns : goal.returns
returns c = imports_read c.a_body_has_room.ensures c.segments_hold_all.ensures.all c.segments_hold_all.ensures.room c.a_file_reads_back.ensures.read
