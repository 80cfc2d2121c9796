use Rattle.std.proofs.Common.{◌≡◌, ◌-◌, length, None}
use Rattle.fdr_file.specs.EventsLeft.{cursor_header, events_left}
use Rattle.fdr_file.proofs.cursor.EventCursor.read_on.Given as goal

-- no event has come so far
abbrev pub invariant-going : goal.invariant-going
invariant-going l = record {
  left : events_left l.fn.self ≡ events_left l.self;
  header : cursor_header l.self ≡ cursor_header l.fn.self;
  bytes : l.self.bytes.now ≡ l.fn.self.bytes.now;
  pending : l.self.pending ≡ None;
}

abbrev pub decreases-going : goal.decreases-going
decreases-going l = length l.fn.self.bytes.now - l.self.at
