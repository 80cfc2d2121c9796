use Rattle.std.proofs.Common.{◌≡◌, ◌+◌, ◌-◌, ◌++◌, ◌∙◌, ap, arith}
use Rattle.step_sim.specs.WrittenSchedules.{schedule_text}
use Rattle.soak_inputs.specs.Schedules.{all_turns}
use Rattle.soak_inputs.proofs.LoopLemmas.{turns_more, turns_done}
use Rattle.soak_inputs.proofs.schedule.write_schedule.Goals as goal

pub loop-preserved : goal.loop-preserved
loop-preserved c =
    ap (λ x. c.add_turns.new.text.items ++ schedule_text (all_turns (4000 - (c.loop.counter + 1)) x)) c.in_ok-add_turns.ensures.after
    ∙ turns_more 4000 c.loop.counter c.loop.draws c.loop.text.items c.add_turns.new.text.items _ c.loop-test.true c.loop.invariant c.in_ok-add_turns.ensures.text

pub returns : goal.returns
returns c =
    let at : c.loop.counter ≡ 4000 = omega (arith, c.loop-test.false, c.loop.auto.counter-end) in
    turns_done 4000 c.loop.counter c.loop.draws c.loop.text.items _ at c.loop.invariant
    ∙ ap (λ t. t ++ schedule_text (all_turns 4000 c.args.draws.now)) c.new-text.ensures.items
