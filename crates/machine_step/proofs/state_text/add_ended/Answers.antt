use Rattle.xray_io.specs.Text.{adds_more, adds_stop, adds_failed}
use Rattle.machine_step.specs.Texts.{marks_line}
use Rattle.machine_step.proofs.state_text.add_ended.Goals as goal

pub returns-in_err-add_plain : goal.returns-in_err-add_plain
returns-in_err-add_plain g c = adds_failed (adds_stop (marks_line c.args.cpu.now.marks) c.in_err-add_plain.ensures) c.from_residual.result c.from_residual.ensures.1

pub returns : goal.returns
returns g c = adds_more g.met.S.Sink.along_both c.in_ok-add_plain.ensures (rw c.marks.ensures at c.add_marks.ensures)
