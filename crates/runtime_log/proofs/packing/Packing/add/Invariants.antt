use Rattle.std.proofs.Common.{◌≡◌, ◌+◌, length}
use Rattle.std.specs.Prelude.{All, IsTrue}
use Rattle.fdr_buffer.specs.declared.buffer.TheConstants.{LARGEST_SIZE}
use Rattle.fdr_record.specs.Recordable.{IsRecordable}
use Rattle.runtime_log.specs.private.Coming.{MayGive, events_to_come}
use Rattle.runtime_log.specs.private.Notes.{AreFew}
use Rattle.runtime_log.specs.private.Packings.{Adds}
use Rattle.runtime_log.proofs.packing.Packing.add.Given as goal

-- the events so far are in the file and in the buffer, and were noted
abbrev pub invariant-events : goal.invariant-events
invariant-events l = record {
  may : MayGive l.events;
  recordable : All IsRecordable (events_to_come l.events);
  few : AreFew l.self.notes.facts;
  begun : IsTrue l.self.buffer.begun × (l.self.buffer.size ≡ LARGEST_SIZE);
  adds : Adds l.head l.fn.self l.fn.events l.events l.self;
  room : l.self.notes.facts.events + length (events_to_come l.events) ≡ l.fn.self.notes.facts.events + length (events_to_come l.fn.events);
}

abbrev pub decreases-events : goal.decreases-events
decreases-events l = length (events_to_come l.events)
