use Rattle.std.proofs.Common.{◌≡◌, subst, [], rules}
use Rattle.std.specs.Prelude.{Ok}
use Rattle.text_lines.specs.Lines.{numbered_lines}
use Rattle.asm_text.specs.Refusals.{read_statements}
use Rattle.asm_text.specs.private.FirstPass.{lines_in}
use Rattle.asm_text.proofs.ReadStatements.{Good, read_good}
use Rattle.asm_text.proofs.first_pass.read_text.Goals as goal

pub returns-clause-fit : goal.returns-clause-fit
returns-clause-fit c =
    let read : read_statements [] (numbered_lines c.args.text.now) ≡ Ok (lines_in c.loop-line.pass.entries.items) = search rules in
    subst Good read (read_good [] (numbered_lines c.args.text.now) tt)
