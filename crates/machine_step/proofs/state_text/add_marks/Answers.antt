use Rattle.std.proofs.Common.{◌++◌, append_assoc}
use Rattle.std.specs.Prelude.{codes}
use Rattle.handler_word.specs.Runs.{runs_text}
use Rattle.xray_io.specs.Text.{adds_more, adds_stop, adds_within, adds_failed}
use Rattle.machine_step.specs.Texts.{line_feed}
use Rattle.machine_step.proofs.state_text.add_marks.Goals as goal

pub returns-in_err-bytes : goal.returns-in_err-bytes
returns-in_err-bytes g c = adds_failed (adds_stop (runs_text c.args.marks.now.items ++ line_feed) c.in_err-bytes.ensures.adds) c.from_residual.result c.from_residual.ensures.1

pub returns-in_err-add_to : goal.returns-in_err-add_to
returns-in_err-add_to g c =
    adds_failed (adds_within g.met.S.Sink.along_both line_feed c.in_ok-bytes.ensures.adds c.in_err-add_to.ensures.adds (append_assoc (codes "marks ") (runs_text c.args.marks.now.items) line_feed))
    c.from_residual-in_err-add_to.result c.from_residual-in_err-add_to.ensures.1

pub returns : goal.returns
returns g c = adds_more g.met.S.Sink.along_both c.in_ok-bytes.ensures.adds (adds_more g.met.S.Sink.along_both c.in_ok-add_to.ensures.adds c.bytes-2.ensures.adds)
