use Rattle.xray_io.specs.Text.{adds_more, adds_stop, adds_failed}
use Rattle.trace_flush.specs.Audit.{recycled_by, recycled_line}
use Rattle.trace_flush.proofs.summary.add_summary.Goals as goal

pub returns-in_err-add_threads : goal.returns-in_err-add_threads
returns-in_err-add_threads g c =
    let recycled = recycled_line (recycled_by c.args.lines.now) in
    adds_failed (adds_stop recycled c.in_err-add_threads.ensures) c.from_residual.result c.from_residual.ensures.1

pub returns : goal.returns
returns g c =
    adds_more g.met.S.Sink.along_both c.in_ok-add_threads.ensures c.add_recycled.ensures
