use Rattle.std.proofs.Common.{ℕ, List, subst}
use Rattle.xray_io.specs.Text.{AddsText}
use Rattle.trace_forms.proofs.Escapes.{lettered}
use Rattle.trace_forms.proofs.escaped.add_byte.Goals as goal

pub returns-in-Some : goal.returns-in-Some
returns-in-Some g c =
    subst (λ (t : List ℕ). AddsText g.S.Sink.written g.S.Sink.faults g.S.Sink.along c.args.text.now c.bytes.new.self t c.bytes.result)
    (lettered c.args.byte c.in-Some.letter c.in-Some.ensures.letter c.in-Some.ensures.some) c.bytes.ensures.adds
