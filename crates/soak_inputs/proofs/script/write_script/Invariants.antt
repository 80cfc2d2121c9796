use Rattle.std.proofs.Common.{◌≡◌, ◌++◌, ◌-◌}
use Rattle.patch_script.specs.WrittenScripts.{script_text}
use Rattle.soak_inputs.specs.Scripts.{after_changes, changes}
use Rattle.soak_inputs.proofs.script.write_script.Given as goal

-- what is left to write makes the text whole
abbrev pub invariant-loop : goal.invariant-loop
invariant-loop l = record {
  text : l.text.items ++ script_text (changes (100 - l.counter) l.draws) ≡ l.initial.text.items ++ script_text (changes 100 l.initial.draws);
  after : after_changes (100 - l.counter) l.draws ≡ after_changes 100 l.initial.draws;
}
