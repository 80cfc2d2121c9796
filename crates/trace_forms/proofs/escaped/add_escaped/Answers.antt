use Rattle.std.proofs.Common.{ℕ, List, sym, subst}
use Rattle.xray_io.specs.Text.{AddsText}
use Rattle.trace_forms.proofs.Escapes.{plain_bytes}
use Rattle.trace_forms.proofs.escaped.add_escaped.Goals as goal

pub returns-then-are_plain : goal.returns-then-are_plain
returns-then-are_plain g c =
    subst (λ (t : List ℕ). AddsText g.S.Sink.written g.S.Sink.faults g.S.Sink.along c.args.text.now c.bytes.new.self t c.bytes.result)
    (sym (plain_bytes c.args.bytes.now (sym c.if-are_plain.ensures))) c.bytes.ensures.adds
