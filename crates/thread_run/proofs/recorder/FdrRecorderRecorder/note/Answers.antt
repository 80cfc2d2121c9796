use Rattle.std.proofs.Common.{sym, subst, ◌++◌, ◌∷◌, []}
use Rattle.thread_run.specs.Recordings.{Recording, StandsFor}
use Rattle.thread_run.proofs.NotedEvents.{cuts_anew, put_stands}
use Rattle.thread_run.proofs.recorder.FdrRecorderRecorder.note.Goals as goal

pub turn-requires-clause-anew : goal.turn-requires-clause-anew
turn-requires-clause-anew g c events at = cuts_anew c.args.self.now events c.args.event at (c.has_room.ensures.full c.if-has_room.false)

pub returns-then-has_room-clause-noted : goal.returns-then-has_room-clause-noted
returns-then-has_room-clause-noted g c events at =
    let there = c.has_room.ensures.room c.if-has_room.true in
    subst (λ (r : Recording). StandsFor r (events ++ c.args.event ∷ [])) (sym c.put.ensures) (put_stands c.args.self.now events c.args.event at there.0 there.1)
