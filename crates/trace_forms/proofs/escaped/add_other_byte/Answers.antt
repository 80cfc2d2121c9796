use Rattle.std.proofs.Common.{ℕ, List, subst}
use Rattle.xray_io.specs.Text.{AddsText}
use Rattle.trace_forms.proofs.Escapes.{control_byte, other_byte}
use Rattle.trace_forms.proofs.escaped.add_other_byte.Goals as goal

pub returns-then-byte-lt-SPACE : goal.returns-then-byte-lt-SPACE
returns-then-byte-lt-SPACE g c =
    subst (λ (t : List ℕ). AddsText g.S.Sink.written g.S.Sink.faults g.S.Sink.along c.args.text.now c.pieces.new.self t c.pieces.result)
    (control_byte c.args.byte c.from.result c.from.ensures c.requires c.if-byte-lt-SPACE.true) c.pieces.ensures.adds

pub returns-else-byte-lt-SPACE : goal.returns-else-byte-lt-SPACE
returns-else-byte-lt-SPACE g c =
    subst (λ (t : List ℕ). AddsText g.S.Sink.written g.S.Sink.faults g.S.Sink.along c.args.text.now c.bytes.new.self t c.bytes.result)
    (other_byte c.args.byte c.requires c.if-byte-lt-SPACE.false) c.bytes.ensures.adds
