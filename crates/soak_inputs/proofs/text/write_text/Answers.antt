use Rattle.std.proofs.Common.{◌≡◌, ◌+◌, ◌-◌, ◌++◌, ◌∙◌, ap, arith}
use Rattle.soak_inputs.specs.Texts.{after_functions}
use Rattle.soak_inputs.proofs.TextLemmas.{functions_text, function_more, after_function_more, functions_done, after_functions_done}
use Rattle.soak_inputs.proofs.text.write_text.Goals as goal

pub loop-function-preserved : goal.loop-function-preserved
loop-function-preserved c = record {
  text =
      ap (λ x. c.add_function.new.text.items ++ functions_text (c.loop-function.function + 1) (64 - (c.loop-function.function + 1)) x) c.in_ok-add_function.ensures.after
      ∙ function_more 64 c.loop-function.function c.loop-function.draws c.loop-function.text.items c.add_function.new.text.items _ c.loop-function-test.true c.loop-function.invariant.text c.in_ok-add_function.ensures.text;
  after =
      ap (λ x. after_functions (c.loop-function.function + 1) (64 - (c.loop-function.function + 1)) x) c.in_ok-add_function.ensures.after
      ∙ after_function_more 64 c.loop-function.function c.loop-function.draws _ c.loop-function-test.true c.loop-function.invariant.after;
}

pub returns-clause-text : goal.returns-clause-text
returns-clause-text c =
    let at : c.loop-function.function ≡ 64 = omega (arith, c.loop-function-test.false, c.loop-function.auto.function-end) in
    functions_done 64 c.loop-function.function c.loop-function.draws c.loop-function.text.items _ at c.loop-function.invariant.text
    ∙ ap (λ t. t ++ functions_text 0 64 c.args.draws.now) c.in_ok-text.ensures.items

pub returns-clause-after : goal.returns-clause-after
returns-clause-after c =
    let at : c.loop-function.function ≡ 64 = omega (arith, c.loop-function-test.false, c.loop-function.auto.function-end) in
    after_functions_done 64 c.loop-function.function c.loop-function.draws _ at c.loop-function.invariant.after
