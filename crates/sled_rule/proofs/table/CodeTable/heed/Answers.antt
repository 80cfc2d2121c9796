use Rattle.std.proofs.Common.{rules, arith}
use Rattle.sled_rule.specs.Seats.{patch_view, tally_view}
use Rattle.sled_rule.proofs.SeatChanges.{heeds}
use Rattle.sled_rule.proofs.table.CodeTable.heed.Goals as goal

pub join_seat-requires : goal.join_seat-requires
join_seat-requires c =
    let sized = c.args.self.now.sized in
    (search rules, search rules, search rules, omega arith, heeds _ _ _ (patch_view c.args.seat.now) _ _ (tally_view c.args.tally) c.args.seat.now.is.0 c.args.tally.is.0)
