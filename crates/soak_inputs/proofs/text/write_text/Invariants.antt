use Rattle.std.proofs.Common.{◌≡◌, ◌++◌, ◌-◌}
use Rattle.soak_inputs.specs.Texts.{after_functions}
use Rattle.soak_inputs.proofs.TextLemmas.{functions_text}
use Rattle.soak_inputs.proofs.text.write_text.Given as goal

-- what is left to write makes the text whole
abbrev pub invariant-loop-function : goal.invariant-loop-function
invariant-loop-function l = record {
  text : l.text.items ++ functions_text l.function (64 - l.function) l.draws ≡ l.initial.text.items ++ functions_text 0 64 l.initial.draws;
  after : after_functions l.function (64 - l.function) l.draws ≡ after_functions 0 64 l.initial.draws;
}
