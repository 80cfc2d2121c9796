use Rattle.std.proofs.Common.{◌≡◌, ◌++◌, ◌∷◌, [], ◌∙◌, sym, subst, arith}
use Rattle.std.specs.Prelude.{OnOk}
use Rattle.patch_script.specs.declared.command.PatchCommand.{PatchCommand}
use Rattle.patch_script.specs.WrittenScripts.{script_text}
use Rattle.soak_inputs.proofs.LoopLemmas.{change_removes, change_sets}
use Rattle.soak_inputs.proofs.script.add_change.Goals as goal

pub returns-in-2-clause-text : goal.returns-in-2-clause-text
returns-in-2-clause-text c =
    subst (λ (command : PatchCommand). OnOk c.add_bytes.result (c.add_bytes.new.text.items ≡ c.args.text.now.items ++ script_text (command ∷ [])))
    (sym (change_removes c.args.draws.now (sym c.draw.ensures.value ∙ c.in-2.is))) c.add_bytes.ensures

pub returns-in_default-clause-text : goal.returns-in_default-clause-text
returns-in_default-clause-text c =
    let last : c.draw.result ≡ 3 = omega (arith, c.draw.ensures.below) in
    subst (λ (command : PatchCommand). OnOk c.add_bytes-in_default.result (c.add_bytes-in_default.new.text.items ≡ c.args.text.now.items ++ script_text (command ∷ [])))
    (sym (change_sets c.args.draws.now (sym c.draw.ensures.value ∙ last))) c.add_bytes-in_default.ensures
