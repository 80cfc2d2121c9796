use Rattle.std.proofs.Common.{rules, arith}
use Rattle.sled_rule.specs.Seats.{patch_view}
use Rattle.sled_rule.proofs.SeatChanges.{notes}
use Rattle.sled_rule.proofs.table.CodeTable.note.Goals as goal

pub split_seat-seat-requires : goal.split_seat-seat-requires
split_seat-seat-requires c =
    let sized = c.args.self.now.sized in
    (search rules, omega arith, notes _ _ _ (patch_view c.args.seat.now) c.args.seat.now.is.0)
