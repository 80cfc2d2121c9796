use Rattle.std.proofs.Common.{◌∙◌, ap, rules, arith, cond, ℕ, ◌≡◌, List, Some, length, ◌++◌, ◌∷◌, []}
use Rattle.std.proofs.lemmas.List.{length-map}
use Rattle.std.proofs.lemmas.Grind.{common_steps}
use Rattle.asm_text.specs.private.NameTables.{line_named}
use Rattle.asm_text.specs.private.Views.{statement_said}
use Rattle.asm_text.specs.private.FirstPass.{lines_in, name_defined, is_named}
use Rattle.asm_text.proofs.NameTableLemmas.{names_more}
use Rattle.asm_text.proofs.first_pass.FirstPass.push.Goals as goal

pub returns-clause-sound : goal.returns-clause-sound
returns-clause-sound c =
    let entries = c.args.self.now.entries.items in
    let lines = lines_in entries in
    let statement = statement_said c.args.statement in
    let added : lines_in c.push.new.self.items ≡ lines ++ (c.args.line, statement) ∷ [] = grind (arith, common_steps) in
    let place : c.len-place.result ≡ length lines = simp length-map (search rules) in
    let names : (q : List ℕ) → line_named c.define_name.new.names q ≡ cond (is_named (name_defined statement) q) (Some (length lines)) (line_named c.args.self.now.names q) = λ q.
    c.in_ok-define_name.ensures q
    ∙ ap (λ o. cond (is_named o q) (Some c.len-place.result) (line_named c.args.self.now.names q)) c.defined_name-name.ensures
    ∙ ap (λ n. cond (is_named (name_defined statement) q) (Some n) (line_named c.args.self.now.names q)) place in
    record {
      totals = rw added c.requires.admitted.2;
      within = c.requires.admitted.3;
      names = rw added (names_more lines c.args.line statement c.args.self.now.names c.define_name.new.names c.requires.pass.names c.requires.admitted.1 names);
    }
