use Rattle.std.proofs.Common.{arith}
use Rattle.account_report.proofs.SelectedItem.{row_alike}
use Rattle.account_report.proofs.tally.row.Goals as goal

pub returns : goal.returns
returns c =
    row_alike c.args.func c.args.durations.now c.args.entries c.args.exits _ _ _ _ c.ranks_in-ranks.ensures c.total-sum.ensures
    (omega (arith, c.saturating_sub.ensures)) (omega (arith, c.saturating_sub-2.ensures))
