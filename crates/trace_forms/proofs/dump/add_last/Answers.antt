use Rattle.std.proofs.Common.{[], refl}
use Rattle.std.specs.Prelude.{codes}
use Rattle.std.specs.Option.{unwrap_or}
use Rattle.trace_words.specs.TraceWords.{trace_words}
use Rattle.xray_io.specs.Text.{adds_failed, adds_more, adds_stop, adds_within}
use Rattle.trace_forms.proofs.dump.add_last.Goals as goal

pub returns-in_err-pieces-in-Some : goal.returns-in_err-pieces-in-Some
returns-in_err-pieces-in-Some g c =
    rw c.in-Some.is (adds_failed (adds_stop (codes "\n") (adds_stop (unwrap_or (trace_words c.in-Some.fault) []) c.in_err-pieces-in-Some.ensures.adds))
    c.from_residual.result c.from_residual.ensures.1)

pub returns-in_err-add_fault-in-Some : goal.returns-in_err-add_fault-in-Some
returns-in_err-add_fault-in-Some g c =
    rw c.in-Some.is (adds_failed (adds_within g.met.S.Sink.along_both (codes "\n") c.in_ok-pieces-in-Some.ensures.adds c.in_err-add_fault-in-Some.ensures refl)
    c.from_residual-in_err-add_fault-in-Some.result c.from_residual-in_err-add_fault-in-Some.ensures.1)

pub returns-in_ok-add_fault-in-Some : goal.returns-in_ok-add_fault-in-Some
returns-in_ok-add_fault-in-Some g c =
    rw c.in-Some.is (adds_more g.met.S.Sink.along_both (adds_more g.met.S.Sink.along_both c.in_ok-pieces-in-Some.ensures.adds c.in_ok-add_fault-in-Some.ensures) c.bytes.ensures.adds)
