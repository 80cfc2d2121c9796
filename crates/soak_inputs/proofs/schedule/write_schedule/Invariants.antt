use Rattle.std.proofs.Common.{◌≡◌, ◌++◌, ◌-◌}
use Rattle.step_sim.specs.WrittenSchedules.{schedule_text}
use Rattle.soak_inputs.specs.Schedules.{all_turns}
use Rattle.soak_inputs.proofs.schedule.write_schedule.Given as goal

-- what is left to write makes the text whole
abbrev pub invariant-loop : goal.invariant-loop
invariant-loop l =
    l.text.items ++ schedule_text (all_turns (4000 - l.counter) l.draws) ≡ l.initial.text.items ++ schedule_text (all_turns 4000 l.initial.draws)
