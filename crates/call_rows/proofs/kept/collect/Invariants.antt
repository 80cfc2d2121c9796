use Rattle.std.proofs.Common.{◌≡◌, List, [], length, reverse}
use Rattle.fdr_file.specs.ThreadEvents.{ThreadEvent}
use Rattle.fdr_file.specs.EventsLeft.{events_left}
use Rattle.call_rows.specs.private.FirstRows.{Collects}
use Rattle.call_rows.specs.private.Folding.{Follows}
use Rattle.call_rows.proofs.CallLines.{Given}
use Rattle.call_rows.proofs.kept.collect.Given as goal

abbrev pub invariant-calls : goal.invariant-calls
invariant-calls l = (given : List ThreadEvent) × Given (events_left l.fn.cursor) given (events_left l.cursor) × Follows l.fold (reverse given)
    × (Collects l.fn.first l.wanted [] → Collects l.first l.wanted (reverse given)) × (l.first.order ≡ l.fn.first.order)

abbrev pub decreases-calls : goal.decreases-calls
decreases-calls l = length (events_left l.cursor)
