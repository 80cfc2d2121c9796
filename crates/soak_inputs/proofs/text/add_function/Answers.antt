use Rattle.std.proofs.Common.{◌≡◌, ◌+◌, ◌-◌, ◌++◌, ◌∙◌, ap, arith}
use Rattle.soak_inputs.specs.Texts.{after_rounds}
use Rattle.soak_inputs.proofs.TextLemmas.{rounds_text, round_more, after_round_more, rounds_done, after_rounds_done, function_whole, after_function_whole}
use Rattle.soak_inputs.proofs.text.add_function.Goals as goal

pub loop-preserved : goal.loop-preserved
loop-preserved c = record {
  text =
      ap (λ x. c.add_round.new.text.items ++ rounds_text c.args.function (1 + c.draw-rounds.result - (c.loop.counter + 1)) x) c.in_ok-add_round.ensures.after
      ∙ round_more c.args.function (1 + c.draw-rounds.result) c.loop.counter c.loop.draws c.loop.text.items c.add_round.new.text.items _ c.loop-test.true c.loop.invariant.text c.in_ok-add_round.ensures.text;
  after =
      ap (λ x. after_rounds c.args.function (1 + c.draw-rounds.result - (c.loop.counter + 1)) x) c.in_ok-add_round.ensures.after
      ∙ after_round_more c.args.function (1 + c.draw-rounds.result) c.loop.counter c.loop.draws _ c.loop-test.true c.loop.invariant.after;
}

pub returns-clause-text : goal.returns-clause-text
returns-clause-text c =
    let n = 1 + c.draw-rounds.result in
    let at : c.loop.counter ≡ n = omega (arith, c.loop-test.false, c.loop.auto.counter-end) in
    let looped = rounds_done c.args.function n c.loop.counter c.loop.draws c.loop.text.items _ at c.loop.invariant.text in
    function_whole c.args.function c.args.draws.now n c.draw-rounds.new.self c.args.text.now.items c.add_number.new.text.items c.loop.text.items c.extend_from_slice.new.self.items
    (ap (λ r. 1 + r) c.draw-rounds.ensures.value) c.draw-rounds.ensures.next c.in_ok-add_number.ensures looped c.in_ok-extend_from_slice.ensures.items

pub returns-clause-after : goal.returns-clause-after
returns-clause-after c =
    let n = 1 + c.draw-rounds.result in
    let at : c.loop.counter ≡ n = omega (arith, c.loop-test.false, c.loop.auto.counter-end) in
    after_function_whole c.args.function c.args.draws.now n c.draw-rounds.new.self c.loop.draws
    (ap (λ r. 1 + r) c.draw-rounds.ensures.value) c.draw-rounds.ensures.next
    (after_rounds_done c.args.function n c.loop.counter c.loop.draws _ at c.loop.invariant.after)
