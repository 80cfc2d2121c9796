-- The segments of a run's events, and the buffers of those that are left.
use Rattle.std.specs.Prelude.{ℕ, List, length, drop, map, true}
use Rattle.std.specs.List.{enumerate_from, flat_map}
use Rattle.xray_io.specs.declared.wall.Wall.{Wall}
use Rattle.fdr_record.specs.declared.event.Event.{Event}
use Rattle.fdr_buffer.specs.Filled.{Filled}
use Rattle.fdr_buffer.specs.Segments.{segments}
use Rattle.machine_step.specs.declared.setup.Setup.{Setup}
use Rattle.traced_run.specs.Runs.{ThreadRun, events_of}

-- the segments of a thread's events in buffers of a size, and how many there are
abbrev pub segments_of : ℕ → ThreadRun → List (List Event)
segments_of size run = segments size (events_of run)

abbrev pub segment_count : ℕ → ThreadRun → ℕ
segment_count size run = length (segments_of size run)

-- the segments that are left, which are the last ones
abbrev pub kept_of : ℕ → ThreadRun → List (List Event)
kept_of size run = drop run.lost (segments_of size run)

-- ---- buffers

-- what all buffers of a run have in common
pub record Stamp : Type 0 where
  pub size : ℕ
  pub wall : Wall
  pub pid : ℕ

abbrev pub stamp_of : Setup → Stamp
stamp_of setup = record { size = setup.size; wall = setup.wall; pid = setup.pid }

-- the buffer of a segment of a thread, with the segment's number, from 0
abbrev pub buffer_of : Stamp → ℕ → ℕ × List Event → Filled
buffer_of stamp thread (serial, events) = record {
  size = stamp.size;
  begun = true;
  thread = thread;
  serial = serial;
  wall = stamp.wall;
  pid = stamp.pid;
  events = events;
}

-- the buffers of a thread's segments, without those of its first ones
abbrev pub buffers_after : Stamp → ℕ → ℕ → List (List Event) → List Filled
buffers_after stamp first thread segs = map (buffer_of stamp thread) (drop first (enumerate_from 0 segs))

-- the buffers of the segments of a thread that are left
abbrev pub thread_buffers : Setup → ℕ × ThreadRun → List Filled
thread_buffers setup (thread, run) = buffers_after (stamp_of setup) run.lost thread (segments_of setup.size run)

-- The buffers of a run, thread by thread. Those of a thread are in the order of its segments.
abbrev pub kept_buffers : Setup → List ThreadRun → List Filled
kept_buffers setup runs = flat_map (thread_buffers setup) (enumerate_from 1 runs)
