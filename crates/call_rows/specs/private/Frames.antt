-- What is kept of the open calls of a thread, and how one more event changes it. Frames are listed from the outermost to
-- the innermost.
use Rattle.std.specs.Prelude.{◌-◌, ◌+◌, Bool, ℕ, List, [], ◌∷◌, ◌++◌, length, map, reverse, take, slice_get, if◌then◌else◌, Option, Some, None, option_map}
use Rattle.fdr_record.specs.declared.event.Event.{Event}
use Rattle.fdr_file.specs.ThreadEvents.{ThreadEvent}
use Rattle.stack_rebuild.specs.declared.call.Call.{Call}
use Rattle.stack_rebuild.specs.declared.call.Pair.{Pair}
use Rattle.stack_rebuild.specs.Calls.{Standing, enters, next_standing, open_calls, pair_at, standing_after}
use Rattle.stack_rebuild.specs.Histories.{history_of_thread}
use Rattle.stack_rebuild.specs.Stacks.{spent_in}
use Rattle.call_rows.specs.declared.row.CallRow.{CallRow}
use Rattle.call_rows.specs.declared.frames.Frame.{Frame}
use Rattle.call_rows.specs.CallRows.{NumberedEvent, logged_arg, numbered_at}

-- a thread after some events: its open calls, and a frame for each of them
pub record Framed : Type 0 where
  pub standing : Standing
  pub frames : List Frame

-- the frame of an open call: its entry, and the durations of the pairs that were made directly in it
abbrev pub frame_by : NumberedEvent → ℕ → Frame
frame_by entry spent = record { event = entry.event; number = entry.number; pid = entry.pid; spent = spent }

abbrev pub frame_at : List ThreadEvent → ℕ → Call → Frame
frame_at history thread call = frame_by (numbered_at history thread call.entry) (spent_in (reverse (history_of_thread thread history)) call.entry)

-- a thread after a history
abbrev pub framed_after : List ThreadEvent → ℕ → Framed
framed_after history thread =
    let own = history_of_thread thread history in
    record { standing = standing_after own; frames = reverse (map (frame_at history thread) (open_calls own)) }

-- ---- one more event

-- the frame that an entry opens
abbrev pub opened_frame : ℕ → ℕ → Event → Frame
opened_frame number pid e = record { event = e; number = number; pid = pid; spent = 0 }

-- more was spent in the first of some frames
abbrev pub more_spent : ℕ → List Frame → List Frame
more_spent duration [] = []
more_spent duration (frame ∷ frames) = record frame { spent = frame.spent + duration } ∷ frames

-- more was spent in the innermost frame
abbrev pub with_spent : ℕ → List Frame → List Frame
with_spent duration frames = reverse (more_spent duration (reverse frames))

-- what is left of frames, if the one at a depth ends; nothing ends if there is none
abbrev pub left_of : Pair → ℕ → Option Frame → List Frame → List Frame
left_of pair depth None frames = frames
left_of pair depth (Some ended) frames = with_spent pair.duration (take depth frames)

-- the frames after an event: whether it is an entry, the pair that it makes, and how many calls are open after it
abbrev pub next_frames : ℕ → ℕ → Event → Bool → Option Pair → ℕ → List Frame → List Frame
next_frames number pid e entered None depth frames = if entered then frames ++ opened_frame number pid e ∷ [] else frames
next_frames number pid e entered (Some pair) depth frames = left_of pair depth (slice_get frames depth) frames

-- the number of the first of some frames
abbrev pub first_number : List Frame → Option ℕ
first_number [] = None
first_number (frame ∷ frames) = Some frame.number

-- the row of a pair, by the number of its exit, the frame of its call and those outside it
abbrev pub row_by : ℕ → ℕ → Pair → List Frame → Frame → CallRow
row_by thread number pair outer frame = record {
  call = frame.number;
  parent = first_number (reverse outer);
  thread = thread;
  process = frame.pid;
  cpu = frame.event.cpu;
  start = frame.event.tsc;
  duration = pair.duration;
  own = pair.duration - frame.spent;
  depth = length outer;
  arg = logged_arg frame.event;
  func = pair.func;
  end = number;
}

-- the row of the call that an event ends, by the pair that it makes and by how many calls are open after it
abbrev pub next_row : ℕ → ℕ → Option Pair → ℕ → List Frame → Option CallRow
next_row thread number None depth frames = None
next_row thread number (Some pair) depth frames = option_map (row_by thread number pair (take depth frames)) (slice_get frames depth)

-- the pair that an event makes, and how many calls are open after it
abbrev pub pair_on : Event → Framed → Option Pair
pair_on e before = pair_at e before.standing.events before.standing.calls

abbrev pub depth_on : Event → Framed → ℕ
depth_on e before = length (next_standing e before.standing).calls

abbrev pub next_framed : ℕ → ℕ → Event → Framed → Framed
next_framed number pid e before = record {
  standing = next_standing e before.standing;
  frames = next_frames number pid e (enters e.kind) (pair_on e before) (depth_on e before) before.frames;
}

abbrev pub row_on : ℕ → ℕ → Event → Framed → Option CallRow
row_on thread number e before = next_row thread number (pair_on e before) (depth_on e before) before.frames
