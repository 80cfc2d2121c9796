use Rattle.std.proofs.Common.{◌∙◌, ap}
use Rattle.fdr_file.specs.Files.{file_bytes, trace_told}
use Rattle.fdr_file.specs.Traces.{trace_of}
use Rattle.xray_io.specs.Memory.{sink_bytes}
use Rattle.xray_io.specs.Writes.{text_of_writes}
use Rattle.xray_program.proofs.SoakTexts.{all_written}
use Rattle.xray_program.proofs.summary.read_back.Goals as goal

pub accounted-requires : goal.accounted-requires
accounted-requires c =
    let header = c.trace_header-header.result in
    let buffers = c.args.buffers.now in
    let file = c.bytes.ensures ∙ all_written (sink_bytes c.new-file.result) (sink_bytes c.write_file.new.sink) (file_bytes header buffers)
    c.new-file.ensures.empty (text_of_writes c.in-Ok.ensures.writes) in
    (trace_told header buffers, ap trace_of file ∙ c.a_trace_is_read.ensures.read (file_bytes header buffers) (trace_told header buffers) c.in-Ok.ensures.trace)
