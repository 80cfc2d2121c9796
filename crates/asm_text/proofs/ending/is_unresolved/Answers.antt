use Rattle.std.proofs.Common.{◌≡◌, ap, ◌∙◌, None, Some, refl, rules, not}
use Rattle.std.specs.Prelude.{is_some}
use Rattle.asm_text.specs.Layout.{own_place}
use Rattle.asm_text.specs.Refusals.{target_name, is_missing, is_defined}
use Rattle.asm_text.specs.private.Views.{operation_checked}
use Rattle.asm_text.specs.private.Laying.{line_placed, placed_in, lines_of}
use Rattle.asm_text.proofs.EndingLemmas.{label_unresolved, missing_name, other_way}
use Rattle.asm_text.proofs.ending.is_unresolved.Goals as goal

pub returns-in-Label : goal.returns-in-Label
returns-in-Label c = λ following names next.
    let none : own_place (line_placed c.args.line.now) ≡ None = rw c.in-Label.is refl in
    let answer = other_way c.is_none.result (is_some c.args.target) c.is_none.ensures ∙ ap (λ o. not (is_some o)) next ∙ label_unresolved (line_placed c.args.line.now) following none in
    rw c.in-Label.is answer

pub returns-in-Some : goal.returns-in-Some
returns-in-Some c = λ following names next.
    let lines = lines_of (placed_in c.args.laid.now) in
    let name : Some c.in-Some.name.now ≡ target_name (operation_checked c.in-Does.operation) = search rules in
    let found : c.is_none-in-Some.result ≡ not (is_defined c.in-Some.name.now lines) =
    other_way c.is_none-in-Some.result (is_some c.line_of.result) c.is_none-in-Some.ensures ∙ ap (λ o. not (is_some o)) c.line_of.ensures ∙ missing_name lines c.args.names.now c.in-Some.name.now names in
    rw c.in-Does.is (found ∙ ap (is_missing lines) name)
