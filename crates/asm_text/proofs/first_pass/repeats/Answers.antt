use Rattle.std.proofs.Common.{sym, ◌∙◌, rules, ◌≡◌, Some}
use Rattle.asm_text.specs.private.FirstPass.{name_defined}
use Rattle.asm_text.specs.private.NameTables.{line_named}
use Rattle.asm_text.specs.private.Views.{statement_said}
use Rattle.std.specs.Prelude.{is_some}
use Rattle.asm_text.proofs.NameTableLemmas.{repeats_some}
use Rattle.asm_text.proofs.first_pass.repeats.Goals as goal

pub returns-in-Some : goal.returns-in-Some
returns-in-Some c = λ before is.
    let same : Some c.in-Some.name.now ≡ name_defined (statement_said c.args.statement.now) = search rules in
    let found : c.is_some.result ≡ is_some (line_named c.args.names.now c.in-Some.name.now) = search rules in
    found ∙ sym (repeats_some before (statement_said c.args.statement.now) c.args.names.now is c.in-Some.name.now same)
