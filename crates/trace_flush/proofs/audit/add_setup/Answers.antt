use Rattle.std.proofs.Common.{◌++◌, sym, refl, append_assoc}
use Rattle.xray_io.specs.Text.{adds_more, adds_stop, adds_within, adds_failed}
use Rattle.trace_flush.specs.Audit.{buffers_text, limits_text, stamps_text}
use Rattle.trace_flush.proofs.audit.add_setup.Goals as goal

pub returns-in_err-add_buffers : goal.returns-in_err-add_buffers
returns-in_err-add_buffers g c =
    let setup = c.args.setup.now in
    let broken = adds_stop (limits_text setup.limits ++ stamps_text setup) c.in_err-add_buffers.ensures in
    adds_failed (rw (sym (append_assoc (buffers_text setup) (limits_text setup.limits) (stamps_text setup))) at broken) c.from_residual.result c.from_residual.ensures.1

pub returns-in_err-add_limits : goal.returns-in_err-add_limits
returns-in_err-add_limits g c =
    adds_failed (adds_within g.met.S.Sink.along_both (stamps_text c.args.setup.now) c.in_ok-add_buffers.ensures c.in_err-add_limits.ensures refl)
    c.from_residual-in_err-add_limits.result c.from_residual-in_err-add_limits.ensures.1

pub returns : goal.returns
returns g c =
    adds_more g.met.S.Sink.along_both (adds_more g.met.S.Sink.along_both c.in_ok-add_buffers.ensures c.in_ok-add_limits.ensures) c.add_stamps.ensures
