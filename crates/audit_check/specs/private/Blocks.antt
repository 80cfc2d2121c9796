-- A trace that is compared with the segments of runs.
use Rattle.std.specs.Prelude.{◌≡◌, ◌≢◌, ◌≤◌, ◌-◌, ℕ, true, false, List, [], ◌∷◌, ◌++◌, IsTrue, MatchBool, length, take}
use Rattle.std.specs.List.{flat_map}
use Rattle.fdr_record.specs.declared.event.Event.{Event}
use Rattle.fdr_buffer.specs.declared.buffer.TheConstants.{LEAST_SIZE}
use Rattle.fdr_buffer.specs.Segments.{segments}
use Rattle.fdr_file.specs.Files.{block_bytes}
use Rattle.machine_step.specs.declared.setup.Setup.{Setup}
use Rattle.traced_run.specs.Kept.{buffer_of, buffers_after, stamp_of}
use Rattle.audit_check.specs.declared.blocks.Recording.{Recording}
use Rattle.audit_check.specs.declared.blocks.TraceLeft.{TraceLeft}

-- a trace was compared with these bytes: it begins with them, or it doesn't
pub record HasCompared (trace bytes : List ℕ) (t : TraceLeft) : Type 0 where
  pub same : IsTrue t.same → trace ≡ bytes ++ t.left.now
  pub other : t.same ≡ false → (rest : List ℕ) → trace ≢ bytes ++ rest

-- the bytes of the first segments of a thread, as many as `count` says, but for the lost ones
abbrev pub kept_bytes : Setup → (lost thread : ℕ) → List (List Event) → List ℕ
kept_bytes setup lost thread segs = flat_map block_bytes (buffers_after (stamp_of setup) lost thread segs)

-- the segments of events that are whole: all but the last one
abbrev pub whole_of : ℕ → List Event → List (List Event)
whole_of size events = take (length (segments size events) - 1) (segments size events)

-- the segment that is open, after these
pub record IsOpen (setup : Setup) (thread : ℕ) (events : List Event) (r : Recording) : Type 0 where
  pub segments_are : segments setup.size events ≡ whole_of setup.size events ++ r.buffer.events ∷ []
  pub whole : r.whole ≡ length (whole_of setup.size events)
  pub buffer : r.buffer ≡ buffer_of (stamp_of setup) thread (r.whole, r.buffer.events)

-- the next segment is begun, and has this event
abbrev pub begun_with : Recording → Event → Recording
begun_with r event = record r {
  buffer = record {
    size = r.buffer.size;
    begun = true;
    thread = r.thread;
    serial = r.whole;
    wall = r.wall;
    pid = r.pid;
    events = event ∷ [];
  };
}

-- no segment is open, since there are no events
pub record IsUnopened (events : List Event) (r : Recording) : Type 0 where
  pub none : events ≡ []
  pub whole : r.whole ≡ 0

-- the events of a thread were noted
pub record HasNoted (setup : Setup) (thread lost : ℕ) (events : List Event) (r : Recording) : Type 0 where
  pub least : LEAST_SIZE ≤ setup.size
  pub thread_is : r.thread ≡ thread
  pub lost_is : r.lost ≡ lost
  pub size : r.buffer.size ≡ setup.size
  pub wall : r.wall ≡ setup.wall
  pub pid : r.pid ≡ setup.pid
  pub opened : MatchBool r.buffer.begun (IsOpen setup thread events r) (IsUnopened events r)
