use Rattle.std.proofs.Common.{◌≡◌, ◌++◌, ◌-◌}
use Rattle.soak_inputs.specs.Texts.{after_rounds}
use Rattle.soak_inputs.proofs.TextLemmas.{rounds_text}
use Rattle.soak_inputs.proofs.text.add_function.Given as goal

-- what is left to write makes the text whole
abbrev pub invariant-loop : goal.invariant-loop
invariant-loop l = record {
  text : l.text.items ++ rounds_text l.function (l.rounds - l.counter) l.draws ≡ l.initial.text.items ++ rounds_text l.function l.rounds l.initial.draws;
  after : after_rounds l.function (l.rounds - l.counter) l.draws ≡ after_rounds l.function l.rounds l.initial.draws;
}
