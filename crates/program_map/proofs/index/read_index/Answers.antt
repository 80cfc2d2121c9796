use Rattle.std.proofs.Common.{◌≡◌, ◌∙◌, ◌/◌, ◌++◌, ◌+◌, ◌-◌, ◌≤◌, List, length, length-append, map, sym, ap, inr, arith, rules}
use Rattle.std.specs.Prelude.{option_map}
use Rattle.std.specs.List.{range_with_len}
use Rattle.std.proofs.lemmas.List.{length-map}
use Rattle.xray_io.specs.Rows.{InTurn}
use Rattle.program_map.specs.declared.numbering.NumberedSled.{NumberedSled}
use Rattle.program_map.specs.Numbering.{index_rows, with_id}
use Rattle.program_map.specs.private.Views.{parts_held}
use Rattle.program_map.proofs.SledSteps.{entry_next, entry_refused, entry_same}
use Rattle.program_map.proofs.index.read_index.Goals as goal

pub returns-in_default-clause-said : goal.returns-in_default-clause-said
returns-in_default-clause-said c =
    inr (c.loop-number.invariant.1
    ∙ entry_refused (parts_held c.args.parts.now) c.args.index.now c.args.table.now c.args.sleds.now c.loop-number.numbered.items c.loop-number.number
    (length c.args.table.now / 16) c.loop-number-test.true
    (entry_same (parts_held c.args.parts.now) c.args.index.now c.args.table.now c.args.sleds.now c.loop-number.numbered.items c.loop-number.number _ _ _
    c.span_in-span.ensures c.form_of-form.ensures (search rules) ∙ sym c.entry_sleds.ensures.said ∙ ap (option_map (λ own. own.now)) c.in_default.is))

pub loop-number-preserved : goal.loop-number-preserved
loop-number-preserved c =
    let put : c.add_sleds.new.numbered.items ≡ c.loop-number.numbered.items ++ map (with_id (c.loop-number.number + 1)) c.in-Some.own.now = c.in_ok-add_sleds.ensures in
    let count : c.len.result ≡ length c.loop-number.numbered.items = search rules in
    let few : length c.in-Some.own.now ≤ length c.args.sleds.now - c.len.result = c.in-Some.ensures.few in
    let size : length c.add_sleds.new.numbered.items ≡ length c.loop-number.numbered.items + length c.in-Some.own.now =
    ap length put ∙ length-append c.loop-number.numbered.items (map (with_id (c.loop-number.number + 1)) c.in-Some.own.now)
    ∙ ap (λ n. length c.loop-number.numbered.items + n) (length-map c.in-Some.own.now (with_id (c.loop-number.number + 1))) in
    let kept : length c.loop-number.numbered.items ≤ length c.args.sleds.now = c.loop-number.invariant.0 in (
      omega arith,
      c.loop-number.invariant.1
          ∙ entry_next (parts_held c.args.parts.now) c.args.index.now c.args.table.now c.args.sleds.now c.loop-number.numbered.items c.in-Some.own.now c.loop-number.number
          (length c.args.table.now / 16) c.loop-number-test.true
          (entry_same (parts_held c.args.parts.now) c.args.index.now c.args.table.now c.args.sleds.now c.loop-number.numbered.items c.loop-number.number _ _ _
          c.span_in-span.ensures c.form_of-form.ensures (search rules) ∙ sym c.entry_sleds.ensures.said ∙ ap (option_map (λ own. own.now)) c.in-Some.is)
          ∙ ap (λ (before : List NumberedSled). InTurn (index_rows (parts_held c.args.parts.now) c.args.index.now c.args.table.now c.args.sleds.now) before
          (range_with_len (c.loop-number.number + 1) (length c.args.table.now / 16 - (c.loop-number.number + 1)))) (sym put),
    )
