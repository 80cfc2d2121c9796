use Rattle.std.proofs.Common.{ap, rules, arith}
use Rattle.sled_rule.specs.Seats.{work_view, note_view}
use Rattle.sled_rule.proofs.SeatChanges.{hears}
use Rattle.sled_rule.proofs.LoadsOf.{heard_follows}
use Rattle.sled_rule.proofs.table.CodeTable.hear.Goals as goal

pub join_seat-requires : goal.join_seat-requires
join_seat-requires c =
    let sized = c.args.self.now.sized in
    (search rules, search rules, search rules, omega arith, hears _ _ _ (work_view c.args.seat.now) _ _ (note_view c.args.note) c.args.seat.now.is.0 c.args.note.is.0)

pub invariant_of-seat-clause-follows : goal.invariant_of-seat-clause-follows
invariant_of-seat-clause-follows c = heard_follows (work_view c.args.seat.now) (note_view c.args.note) _ (ap (λ m. m.0) c.join_seat.ensures.2) c.args.seat.now.follows
