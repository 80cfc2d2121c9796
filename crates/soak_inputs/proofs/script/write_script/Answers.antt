use Rattle.std.proofs.Common.{◌≡◌, ◌+◌, ◌-◌, ◌++◌, ◌∙◌, ap, arith}
use Rattle.patch_script.specs.WrittenScripts.{script_text}
use Rattle.soak_inputs.specs.Scripts.{after_changes, changes}
use Rattle.soak_inputs.proofs.LoopLemmas.{change_more, after_change_more, changes_done, after_changes_done}
use Rattle.soak_inputs.proofs.script.write_script.Goals as goal

pub loop-preserved : goal.loop-preserved
loop-preserved c = record {
  text =
      ap (λ x. c.add_change.new.text.items ++ script_text (changes (100 - (c.loop.counter + 1)) x)) c.in_ok-add_change.ensures.after
      ∙ change_more 100 c.loop.counter c.loop.draws c.loop.text.items c.add_change.new.text.items _ c.loop-test.true c.loop.invariant.text c.in_ok-add_change.ensures.text;
  after =
      ap (λ x. after_changes (100 - (c.loop.counter + 1)) x) c.in_ok-add_change.ensures.after
      ∙ after_change_more 100 c.loop.counter c.loop.draws _ c.loop-test.true c.loop.invariant.after;
}

pub returns-clause-text : goal.returns-clause-text
returns-clause-text c =
    let at : c.loop.counter ≡ 100 = omega (arith, c.loop-test.false, c.loop.auto.counter-end) in
    changes_done 100 c.loop.counter c.loop.draws c.loop.text.items _ at c.loop.invariant.text
    ∙ ap (λ t. t ++ script_text (changes 100 c.args.draws.now)) c.in_ok-text.ensures.items

pub returns-clause-after : goal.returns-clause-after
returns-clause-after c =
    let at : c.loop.counter ≡ 100 = omega (arith, c.loop-test.false, c.loop.auto.counter-end) in
    after_changes_done 100 c.loop.counter c.loop.draws _ at c.loop.invariant.after
