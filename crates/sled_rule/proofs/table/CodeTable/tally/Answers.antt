use Rattle.std.proofs.Common.{rules, arith}
use Rattle.sled_rule.specs.Seats.{work_view}
use Rattle.sled_rule.proofs.SeatChanges.{tallies}
use Rattle.sled_rule.proofs.table.CodeTable.tally.Goals as goal

pub split_seat-seat-requires : goal.split_seat-seat-requires
split_seat-seat-requires c =
    let sized = c.args.self.now.sized in
    (search rules, omega arith, tallies _ _ _ (work_view c.args.seat.now) c.args.seat.now.is.0)
