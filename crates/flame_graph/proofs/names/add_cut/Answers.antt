use Rattle.std.specs.Prelude.{codes}
use Rattle.xray_io.specs.Text.{adds_failed, adds_more, adds_stop}
use Rattle.flame_graph.proofs.names.add_cut.Goals as goal

pub returns-in_err-add_first : goal.returns-in_err-add_first
returns-in_err-add_first g c = adds_failed (adds_stop (codes "..") c.in_err-add_first.ensures) c.from_residual.result c.from_residual.ensures.1

pub returns : goal.returns
returns g c = adds_more g.met.S.Sink.along_both c.in_ok-add_first.ensures c.bytes.ensures.adds
