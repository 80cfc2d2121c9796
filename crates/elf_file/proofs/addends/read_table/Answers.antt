use Rattle.elf_file.proofs.addends.read_table.Goals as goal
use Rattle.std.proofs.Common.{◌∙◌, sym, ap, None, cond, Some}
use Rattle.std.specs.Option.{option_or}
use Rattle.elf_file.specs.Addends.{addend_of, sets_word}
use Rattle.elf_file.proofs.Relocations.{addend_more}

pub loop-number-preserved : goal.loop-number-preserved
loop-number-preserved c address =
    (c.in_ok-take_relocation.ensures.took).each address
    ∙ ap (λ o. option_or o (cond (sets_word c.args.table.now address c.loop-number.number) (Some (addend_of c.args.table.now c.loop-number.number)) None))
    (c.loop-number.invariant address)
    ∙ sym (addend_more c.args.table.now c.loop-number.number address)
