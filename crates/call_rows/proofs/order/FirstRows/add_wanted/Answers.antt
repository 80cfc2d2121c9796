use Rattle.std.proofs.Common.{sym}
use Rattle.std.proofs.lemmas.Result.{on_ok_weaker}
use Rattle.call_rows.proofs.Collecting.{none_ended, unwanted_ended, wanted_ended}
use Rattle.call_rows.proofs.order.FirstRows.add_wanted.Goals as goal

pub returns-then-wants-clause-added : goal.returns-then-wants-clause-added
returns-then-wants-clause-added c =
    on_ok_weaker c.add.result
    (λ added history e keeps is ends.
    wanted_ended c.args.self.now c.add.new.self c.args.wanted.now history e c.args.row.now c.in-Some.row c.in-Some.is (sym c.if-wants.ensures) is ends added keeps)
    c.add.ensures.added

pub returns-else-wants-clause-added : goal.returns-else-wants-clause-added
returns-else-wants-clause-added c = λ history e keeps is ends.
    unwanted_ended c.args.self.now c.args.wanted.now history e c.args.row.now c.in-Some.row c.in-Some.is (sym c.if-wants.ensures) is keeps

pub returns-in_default-clause-added : goal.returns-in_default-clause-added
returns-in_default-clause-added c = λ history e keeps is ends. none_ended c.args.self.now c.args.wanted.now history e c.args.row.now c.in_default.is is keeps
