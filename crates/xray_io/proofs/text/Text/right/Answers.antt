use Rattle.std.proofs.Common.{◌≡◌, ◌-◌, ℕ, List, length, subst, ap, ◌∙◌, arith}
use Rattle.std.specs.Fmt.{decimal}
use Rattle.xray_io.specs.Text.{AddsText, adds_more, adds_stop, adds_failed}
use Rattle.xray_io.proofs.text.Text.right.Goals as goal

pub returns-in_err-fill : goal.returns-in_err-fill
returns-in_err-fill g c =
    let shown : c.as_bytes-digits.result.now ≡ decimal c.args.n = c.as_bytes-digits.ensures.value ∙ c.format.ensures.text in
    let count : c.saturating_sub.result ≡ c.args.width - length (decimal c.args.n) = omega (arith, ap length shown) in
    record { adds = adds_failed (adds_stop (decimal c.args.n) (rw count at c.in_err-fill.ensures.adds)) c.from_residual.result c.from_residual.ensures.1 }

pub returns : goal.returns
returns g c =
    let shown : c.as_bytes-digits.result.now ≡ decimal c.args.n = c.as_bytes-digits.ensures.value ∙ c.format.ensures.text in
    let count : c.saturating_sub.result ≡ c.args.width - length (decimal c.args.n) = omega (arith, ap length shown) in
    let P : List ℕ → Type 0 = λ t. AddsText g.S.Sink.written g.S.Sink.faults g.S.Sink.along c.fill.new.self c.bytes.new.self t c.bytes.result in
    record { adds = adds_more g.met.S.Sink.along_both (rw count at c.in_ok-fill.ensures.adds) (subst P shown c.bytes.ensures.adds) }
