use Rattle.std.proofs.Common.{◌≡◌, ◌∙◌, ◌<◌, false, true, sym, ap, Some, arith}
use Rattle.asm_text.specs.private.RegisterNames.{number_of_name}
use Rattle.asm_text.proofs.NameLemmas.{number_if}
use Rattle.asm_text.proofs.registers.number_in.Goals as goal

pub returns-then-eq-clause-place : goal.returns-then-eq-clause-place
returns-then-eq-clause-place c =
    let place : c.from.result ≡ number_of_name c.args.word.now = cc in
    let few : c.from.result < 16 = omega arith in
    ap Some (sym c.from.ensures) ∙ number_if c.args.names.now c.args.word.now c.from.result _ true c.requires c.told-names few place (sym c.if-eq.true ∙ c.eq.ensures)

pub returns-else-eq-clause-place : goal.returns-else-eq-clause-place
returns-else-eq-clause-place c =
    let place : c.from.result ≡ number_of_name c.args.word.now = cc in
    let few : c.from.result < 16 = omega arith in
    number_if c.args.names.now c.args.word.now c.from.result _ false c.requires c.told-names few place (sym c.if-eq.false ∙ c.eq.ensures)
