-- The calls of blocks: a row for each pair of an entry and an exit. A history is the events of all threads, listed from
-- the last one to the first.
use Rattle.std.specs.Prelude.{◌≡◌, ◌-◌, ◌==◌, ◌&&◌, Bool, true, ℕ, List, [], ◌∷◌, length, map, filter, reverse, nat_le, slice_index_or, if◌then◌else◌, Option, Some, None, option_map}
use Rattle.fdr_record.specs.declared.event.Event.{Event}
use Rattle.fdr_file.specs.declared.trace.Block.{Block}
use Rattle.fdr_file.specs.ThreadEvents.{ThreadEvent}
use Rattle.fdr_file.specs.Traces.{logs_arg}
use Rattle.stack_rebuild.specs.Histories.{ThreadPair, history_of, history_of_thread, pairs_after}
use Rattle.stack_rebuild.specs.PairLaws.{innermost_entry, no_event}
use Rattle.stack_rebuild.specs.Stacks.{open_before, spent_in}
use Rattle.call_rows.specs.declared.row.CallRow.{CallRow}
use Rattle.call_rows.specs.declared.filter.CallFilter.{CallFilter}

-- an event of a thread: its number among the events of all threads, in the order of the file and from 0, and its process
pub record NumberedEvent : Type 0 where
  pub number : ℕ
  pub pid : ℕ
  pub event : Event

-- the events of a thread, each with its number, from the last one to the first; the number of an event is how many events
-- there are before it
abbrev pub numbered_of_thread : ℕ → List ThreadEvent → List NumberedEvent
numbered_of_thread thread [] = []
numbered_of_thread thread (e ∷ before) =
    if e.thread == thread then record { number = length before; pid = e.pid; event = e.event } ∷ numbered_of_thread thread before else numbered_of_thread thread before

-- what stands for an event that isn't there
abbrev pub no_numbered : NumberedEvent
no_numbered = record { number = 0; pid = 0; event = no_event }

-- the event at a position among those of a thread, counted from 0
abbrev pub numbered_at : List ThreadEvent → ℕ → ℕ → NumberedEvent
numbered_at history thread at = slice_index_or (reverse (numbered_of_thread thread history)) at no_numbered

-- its number
abbrev pub event_number_at : List ThreadEvent → ℕ → ℕ → ℕ
event_number_at history thread at = (numbered_at history thread at).number

-- the argument of an event, if events of its kind log one
abbrev pub logged_arg : Event → Option ℕ
logged_arg e = if logs_arg e.kind then Some e.arg else None

-- The row of a pair. What is said of its entry is that of the event itself. The parent is the innermost entry of the
-- thread that was open just before, and the depth is how many were open then. Its own time is the duration less those of
-- the pairs whose parent it is, at least 0.
abbrev pub call_row : List ThreadEvent → ThreadPair → CallRow
call_row history made =
    let entry = numbered_at history made.thread made.pair.entry in
    let own = reverse (history_of_thread made.thread history) in
    let outer = open_before own made.pair.entry in
    record {
      call = entry.number;
      parent = option_map (event_number_at history made.thread) (innermost_entry outer);
      thread = made.thread;
      process = entry.pid;
      cpu = entry.event.cpu;
      start = entry.event.tsc;
      duration = made.pair.duration;
      own = made.pair.duration - spent_in own made.pair.entry;
      depth = length outer;
      arg = logged_arg entry.event;
      func = made.pair.func;
      end = event_number_at history made.thread made.pair.exit;
    }

-- a row for each pair, in the order of their exits
abbrev pub rows_after : List ThreadEvent → List CallRow
rows_after history = map (call_row history) (pairs_after history)

abbrev pub call_rows_of : List Block → List CallRow
call_rows_of blocks = rows_after (history_of blocks)

-- the row of the call that the event with a number ends, if it ends one
abbrev pub EndsAt : ℕ → Option CallRow → Type 0
EndsAt number None = Unit {0}
EndsAt number (Some row) = row.end ≡ number

-- ---- the rows that are wanted

-- whether a number is the wanted one, if there is one
abbrev pub is_wanted : Option ℕ → ℕ → Bool
is_wanted None n = true
is_wanted (Some wanted) n = n == wanted

-- whether a call is of the wanted function and of the wanted thread, and took as long as is wanted or longer
abbrev pub passes : CallFilter → CallRow → Bool
passes wanted row = is_wanted wanted.function row.func && (is_wanted wanted.thread row.thread && nat_le wanted.least row.duration)

abbrev pub wanted_rows : CallFilter → List CallRow → List CallRow
wanted_rows wanted rows = filter (passes wanted) rows
