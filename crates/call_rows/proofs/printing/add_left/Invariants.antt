use Rattle.std.proofs.Common.{List, Ok, length, reverse}
use Rattle.xray_io.specs.Text.{AddsText}
use Rattle.fdr_file.specs.ThreadEvents.{ThreadEvent}
use Rattle.fdr_file.specs.EventsLeft.{events_left}
use Rattle.function_names.specs.Name.{naming}
use Rattle.call_rows.specs.CallRows.{rows_after}
use Rattle.call_rows.specs.private.Folding.{Follows}
use Rattle.call_rows.proofs.CallLines.{Given, lines_of}
use Rattle.call_rows.proofs.printing.add_left.Given as goal

abbrev pub invariant-calls : goal.invariant-calls
invariant-calls g l = (given : List ThreadEvent) × Given (events_left l.fn.cursor) given (events_left l.cursor) × Follows l.fold (reverse given)
    × AddsText g.S.Sink.written g.S.Sink.faults g.S.Sink.along l.fn.to l.to (lines_of l.format (naming l.names) l.wanted (rows_after (reverse given))) (Ok tt)

abbrev pub decreases-calls : goal.decreases-calls
decreases-calls g l = length (events_left l.cursor)
