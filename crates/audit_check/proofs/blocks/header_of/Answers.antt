use Rattle.std.proofs.Common.{◌∙◌, [], ap, append-nil}
use Rattle.fdr_file.specs.Files.{file_bytes, header_bytes}
use Rattle.xray_io.specs.Memory.{sink_bytes}
use Rattle.xray_io.specs.Writes.{text_of_writes}
use Rattle.audit_check.proofs.ComparedTrace.{all_written}
use Rattle.audit_check.proofs.blocks.header_of.Goals as goal

pub returns-in-Ok : goal.returns-in-Ok
returns-in-Ok c =
    all_written (sink_bytes c.new-sink.result) (sink_bytes c.write_file.new.sink) (file_bytes c.trace_header-header.result []) c.new-sink.ensures.empty
    (text_of_writes c.in-Ok.ensures.writes) ∙ append-nil (header_bytes c.trace_header-header.result) ∙ ap header_bytes c.trace_header-header.ensures
