use Rattle.std.proofs.Common.{◌∙◌, sym}
use Rattle.std.proofs.lemmas.Bool.{eqb-true}
use Rattle.std.proofs.Common.{eq-eqb}
use Rattle.sled_rule.proofs.Laws.{start_is}
use Rattle.sled_rule.proofs.table.CodeTable.is_at_start.Goals as goal

pub returns : goal.returns
returns c =
    let table = c.args.self.now in let seat = c.args.seat.now in
    let start = start_is table.script c.start.result c.start.ensures.start in (
      λ test. sym seat.at.0 ∙ (eqb-true seat.place c.start.result test ∙ sym start),
      λ is. eq-eqb seat.place c.start.result (seat.at.0 ∙ (is ∙ start)),
    )
