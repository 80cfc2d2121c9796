use Rattle.std.proofs.Common.{◌≡◌, ◌-◌, ◌++◌, ℕ, List, Ok, sym, subst, ap, ◌∙◌, arith}
use Rattle.xray_io.specs.Text.{AddsText, adds_nothing, adds_more, adds_within, adds_failed}
use Rattle.xray_io.proofs.Copies.{copies, copies_more, copies_split}
use Rattle.xray_io.proofs.text.Text.fill.Goals as goal

pub filling-init : goal.filling-init
filling-init g c =
    let none : c.args.count - c.args.count ≡ 0 = omega arith in
    let P : ℕ → Type 0 = λ n. AddsText g.S.Sink.written g.S.Sink.faults g.S.Sink.along c.args.self.now c.args.self.now (copies n c.args.byte) (Ok tt) in
    record {
      within = omega arith;
      adds = subst P (sym none) (adds_nothing g.met.S.Sink.along_none c.args.self.now);
    }

pub returns-in_err-bytes : goal.returns-in_err-bytes
returns-in_err-bytes g c =
    let kept = c.filling.invariant in
    let left = c.filling.left - c.min-some.result in
    let more = copies_more c.args.count c.filling.left c.min-some.result c.args.byte kept.within (omega (arith, c.min-some.ensures)) (omega (arith, c.min-some.ensures)) in
    let whole = ap (λ (t : List ℕ). t ++ copies left c.args.byte) more ∙ copies_split c.args.count left c.args.byte (omega (arith, kept.within)) in
    record { adds = adds_failed (adds_within g.met.S.Sink.along_both (copies left c.args.byte) kept.adds c.in_err-bytes.ensures.adds whole) c.from_residual.result c.from_residual.ensures.1 }

pub filling-preserved : goal.filling-preserved
filling-preserved g c =
    let kept = c.filling.invariant in
    let more = copies_more c.args.count c.filling.left c.min-some.result c.args.byte kept.within (omega (arith, c.min-some.ensures)) (omega (arith, c.min-some.ensures)) in
    let P : List ℕ → Type 0 = λ t. AddsText g.S.Sink.written g.S.Sink.faults g.S.Sink.along c.args.self.now c.bytes.new.self t (Ok tt) in
    record {
      within = omega (arith, kept.within);
      adds = subst P more (adds_more g.met.S.Sink.along_both {answer = Ok tt} kept.adds c.in_ok-bytes.ensures.adds);
    }

pub returns : goal.returns
returns g c =
    let all : c.args.count - c.filling.left ≡ c.args.count = omega arith in
    let P : ℕ → Type 0 = λ n. AddsText g.S.Sink.written g.S.Sink.faults g.S.Sink.along c.args.self.now c.filling.self (copies n c.args.byte) (Ok tt) in
    record { adds = subst P all c.filling.invariant.adds }
