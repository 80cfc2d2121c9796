use Rattle.std.proofs.Common.{◌≡◌, ◌++◌, ◌+◌, [], ℕ, List, Ok, length, take, drop, subst, sym, ap, ◌∙◌, arith}
use Rattle.std.specs.Prelude.{codes}
use Rattle.std.specs.List.{flat_map}
use Rattle.std.proofs.Math.ListN.{drop_of_length-le}
use Rattle.std.proofs.lemmas.Bool.{eqb-false}
use Rattle.machine_step.specs.Texts.{hex_byte, output_text, line_feed}
use Rattle.xray_io.specs.Text.{AddsText, adds_more, adds_stop, adds_within, adds_failed}
use Rattle.machine_step.proofs.OutputText.{output_more, output_split}
use Rattle.machine_step.proofs.plain_text.add_output.Goals as goal

pub returns-in_err-bytes : goal.returns-in_err-bytes
returns-in_err-bytes g c = adds_failed (adds_stop (output_text c.args.output.now ++ line_feed) c.in_err-bytes.ensures.adds) c.from_residual.result c.from_residual.ensures.1

pub returns-in_err-hex : goal.returns-in_err-hex
returns-in_err-hex g c =
    let output = c.args.output.now in
    let i = c.loop-byte.byte-index in
    let rest = flat_map hex_byte (drop (i + 1) output) ++ line_feed in
    let more = output_more output i c.from.result (omega arith) c.from.ensures (omega (arith, c.type_inv.output i)) in
    let all = ap (λ (t : List ℕ). t ++ rest) more ∙ output_split output (i + 1) (omega arith) in
    adds_failed (adds_within g.met.S.Sink.along_both rest c.loop-byte.invariant c.in_err-hex.ensures.adds all)
    c.from_residual-in_err-hex.result c.from_residual-in_err-hex.ensures.1

pub loop-byte-preserved : goal.loop-byte-preserved
loop-byte-preserved g c =
    let output = c.args.output.now in
    let i = c.loop-byte.byte-index in
    let more = output_more output i c.from.result (omega arith) c.from.ensures (omega (arith, c.type_inv.output i)) in
    subst (λ t. AddsText g.S.Sink.written g.S.Sink.faults g.S.Sink.along c.args.text.now c.hex.new.self t (Ok tt)) more
    (adds_more g.met.S.Sink.along_both c.loop-byte.invariant c.in_ok-hex.ensures.adds)

pub returns : goal.returns
returns g c =
    let output = c.args.output.now in
    let i = c.loop-byte.byte-index in
    let end : drop i output ≡ [] = drop_of_length-le output (omega arith) in
    let all = ap (λ (t : List ℕ). (codes "output " ++ flat_map hex_byte (take i output)) ++ (flat_map hex_byte t ++ line_feed)) (sym end)
    ∙ output_split output i (omega (arith, eqb-false (length output) 0 (sym c.is_empty.ensures ∙ c.if-is_empty.false))) in
    subst (λ t. AddsText g.S.Sink.written g.S.Sink.faults g.S.Sink.along c.args.text.now c.bytes-3.new.self t c.bytes-3.result) all
    (adds_more g.met.S.Sink.along_both c.loop-byte.invariant c.bytes-3.ensures.adds)
