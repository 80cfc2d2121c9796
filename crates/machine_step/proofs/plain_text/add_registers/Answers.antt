use Rattle.std.proofs.Common.{◌≡◌, ◌+◌, ◌++◌, ℕ, suc, List, Ok, take, drop, subst, sym, ap, ◌∙◌, arith, add-one}
use Rattle.std.specs.List.{flat_map}
use Rattle.machine_step.specs.Texts.{register_text, printed_registers, flag_text, line_feed}
use Rattle.xray_io.specs.Text.{AddsText, adds_nothing, adds_more, adds_within, adds_failed}
use Rattle.machine_step.proofs.PlainText.{registers_more, registers_split, registers_all}
use Rattle.machine_step.proofs.plain_text.add_registers.Goals as goal

pub loop-place-init : goal.loop-place-init
loop-place-init g c = adds_nothing g.met.S.Sink.along_none c.args.text.now

pub returns-in_err-pieces : goal.returns-in_err-pieces
returns-in_err-pieces g c =
    let r = c.args.registers.now in
    let i = c.loop-place.place in
    let rest = flat_map (register_text r) (drop (suc i) printed_registers) ++ (flag_text c.args.zero_flag ++ line_feed) in
    let more = registers_more r printed_registers i _ _ c.printed_register-number.ensures.row in
    adds_failed (adds_within g.met.S.Sink.along_both rest c.loop-place.invariant c.in_err-pieces.ensures.adds
    (ap (λ (t : List ℕ). t ++ rest) more ∙ registers_split r c.args.zero_flag (suc i)))
    c.from_residual.result c.from_residual.ensures.1

pub loop-place-preserved : goal.loop-place-preserved
loop-place-preserved g c =
    let r = c.args.registers.now in
    let i = c.loop-place.place in
    let more = registers_more r printed_registers i _ _ c.printed_register-number.ensures.row in
    let next : flat_map (register_text r) (take (suc i) printed_registers) ≡ flat_map (register_text r) (take (i + 1) printed_registers) =
    ap (λ n. flat_map (register_text r) (take n printed_registers)) (sym (add-one i)) in
    subst (λ t. AddsText g.S.Sink.written g.S.Sink.faults g.S.Sink.along c.args.text.now c.pieces.new.self t (Ok tt)) (more ∙ next)
    (adds_more g.met.S.Sink.along_both c.loop-place.invariant c.in_ok-pieces.ensures.adds)

pub returns : goal.returns
returns g c =
    let all = registers_all c.args.registers.now c.args.zero_flag c.loop-place.place c.flag_line.result.now (omega arith) c.flag_line.ensures in
    subst (λ t. AddsText g.S.Sink.written g.S.Sink.faults g.S.Sink.along c.args.text.now c.bytes.new.self t c.bytes.result) all
    (adds_more g.met.S.Sink.along_both c.loop-place.invariant c.bytes.ensures.adds)
