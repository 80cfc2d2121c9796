use Rattle.std.proofs.Common.{ℕ, List, arith, sym, subst}
use Rattle.xray_io.specs.Text.{AddsText}
use Rattle.trace_forms.proofs.Escapes.{plain_number}
use Rattle.trace_forms.proofs.escaped.add_number.Goals as goal

pub returns : goal.returns
returns g c =
    subst (λ (t : List ℕ). AddsText g.S.Sink.written g.S.Sink.faults g.S.Sink.along c.args.text.now c.add_name.new.text t c.add_name.result)
    (sym (plain_number c.args.id (omega (arith, c.ranges.id)))) c.add_name.ensures
