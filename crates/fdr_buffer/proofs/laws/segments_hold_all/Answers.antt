use Rattle.std.proofs.Common.{◌≡◌, ◌≢◌, true, []}
use Rattle.std.proofs.lemmas.List.Elements.{All-from_recursion}
use Rattle.fdr_buffer.specs.Segments.{has_room, segments}
use Rattle.fdr_buffer.proofs.SegmentCuts.{hold_all, hold_some, hold_room}
use Rattle.fdr_buffer.proofs.laws.segments_hold_all.Goals as goal

pub returns-clause-all : goal.returns-clause-all
returns-clause-all c size events = hold_all size events

pub returns-clause-some : goal.returns-clause-some
returns-clause-some c size events =
    All-from_recursion (λ s. s ≢ []) (segments size events) (hold_some size events)

pub returns-clause-room : goal.returns-clause-room
returns-clause-room c size events least =
    All-from_recursion (λ s. has_room size s ≡ true) (segments size events) (hold_room size events least)
