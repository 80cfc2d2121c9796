use Rattle.std.specs.List.{flat_map}
use Rattle.xray_io.specs.Text.{adds_failed, adds_more, adds_stop}
use Rattle.trace_forms.specs.BasicLogs.{event_bytes}
use Rattle.trace_forms.proofs.basic_text.add_log.Goals as goal

pub returns-in_err-add_header : goal.returns-in_err-add_header
returns-in_err-add_header g c =
    adds_failed (adds_stop (flat_map event_bytes (g.E.EventSource.left c.args.events.now)) c.in_err-add_header.ensures)
    c.from_residual.result c.from_residual.ensures.1

pub returns : goal.returns
returns g c = adds_more g.met.S.Sink.along_both c.in_ok-add_header.ensures c.add_records.ensures
