use Rattle.std.proofs.Common.{◌≡◌, ◌∙◌, sym, ap}
use Rattle.patch_script.specs.declared.micro.Micro.TheVariants.{End}
use Rattle.sled_rule.specs.Plans.{micro_in}
use Rattle.sled_rule.specs.Seats.{patch_view}
use Rattle.sled_rule.proofs.Laws.{micro_is, end_is}
use Rattle.sled_rule.proofs.table.CodeTable.next_micro.Goals as goal

pub returns-clause-micro : goal.returns-clause-micro
returns-clause-micro c =
    let table = c.args.self.now in let seat = c.args.seat.now in
    ap (micro_in table.script) (sym seat.at.0) ∙ micro_is table.script seat.place c.micro_near.result c.micro_near.ensures.micro

pub returns-clause-end : goal.returns-clause-end
returns-clause-end c =
    let table = c.args.self.now in let seat = c.args.seat.now in
    end_is table.script (patch_view seat).script seat.place (patch_view seat).place (c.micro_near.result ≡ End) c.requires.own.1 seat.at.0 seat.within c.micro_near.ensures.end
