use Rattle.std.proofs.Common.{◌≡◌, ◌-◌, ℕ, List, length, take, drop, false, subst, ◌∙◌, arith, rules}
use Rattle.std.proofs.lemmas.List.{take_all}
use Rattle.std.specs.Fmt.{digits}
use Rattle.xray_io.specs.Text.{AddsText, adds_more, adds_stop, adds_failed}
use Rattle.xray_io.proofs.text.Text.hex.Goals as goal

pub returns-in_err-fill : goal.returns-in_err-fill
returns-in_err-fill g c =
    let shown = digits 16 false c.args.n in
    let count : c.saturating_sub.result ≡ c.args.digits - length shown = omega (arith, c.put_digits-start.ensures.start) in
    record { adds = adds_failed (adds_stop shown (rw count at c.in_err-fill.ensures.adds)) c.from_residual.result c.from_residual.ensures.1 }

pub returns : goal.returns
returns g c =
    let shown = digits 16 false c.args.n in
    let count : c.saturating_sub.result ≡ c.args.digits - length shown = omega (arith, c.put_digits-start.ensures.start) in
    let start = c.put_digits-start.result in
    let buffer = c.put_digits-start.new.buffer in
    let tail : take (16 - start) (drop start buffer) ≡ shown = take_all (16 - start) (drop start buffer) (search rules) ∙ c.put_digits-start.ensures.digits in
    let P : List ℕ → Type 0 = λ t. AddsText g.S.Sink.written g.S.Sink.faults g.S.Sink.along c.fill.new.self c.bytes.new.self t c.bytes.result in
    record { adds = adds_more g.met.S.Sink.along_both (rw count at c.in_ok-fill.ensures.adds) (subst P tail c.bytes.ensures.adds) }
