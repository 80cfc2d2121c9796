use Rattle.std.proofs.Common.{◌≡◌, ◌<◌, ◌≤◌, length, false, get_or, arith, rules}
use Rattle.asm_text.specs.Names.{is_decimal}
use Rattle.asm_text.proofs.NameLemmas.{name_by_parts}
use Rattle.asm_text.proofs.names.is_name.Goals as goal

pub returns : goal.returns
returns c =
    let some : 0 < length c.args.word.now = search rules in
    let few : length c.args.word.now ≤ 255 = omega arith in
    let first : is_decimal (get_or c.args.word.now 0 0) ≡ false = search rules in
    name_by_parts c.args.word.now c.all_may_name.result some few first c.all_may_name.ensures
