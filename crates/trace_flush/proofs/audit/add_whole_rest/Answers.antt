use Rattle.xray_io.specs.Text.{adds_more, adds_stop, adds_failed}
use Rattle.machine_step.specs.Texts.{marks_line}
use Rattle.trace_flush.proofs.audit.add_whole_rest.Goals as goal

pub returns-in_err-add_segments : goal.returns-in_err-add_segments
returns-in_err-add_segments g c = adds_failed (adds_stop (marks_line c.args.marks.now.items) c.in_err-add_segments.ensures) c.from_residual.result c.from_residual.ensures.1

pub returns : goal.returns
returns g c = adds_more g.met.S.Sink.along_both c.in_ok-add_segments.ensures c.add_marks.ensures
