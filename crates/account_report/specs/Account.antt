-- The account of blocks: how often their functions were called, and for how long.
use Rattle.std.specs.Prelude.{◌-◌, ◌*◌, ◌/◌, ◌==◌, ◌&&◌, Bool, not, ℕ, List, length, map, filter, reverse, sum, sum_by, count_by, slice_index}
use Rattle.std.specs.List.{list_any, range_with_len}
use Rattle.std.specs.Ordering.{nat_cmp}
use Rattle.fdr_record.specs.declared.event.Event.{Event}
use Rattle.fdr_file.specs.declared.trace.Block.{Block}
use Rattle.fdr_file.specs.ThreadEvents.{ThreadEvent}
use Rattle.stack_rebuild.specs.Ascending.{each_once}
use Rattle.stack_rebuild.specs.Calls.{enters, leaves, pairs_of}
use Rattle.stack_rebuild.specs.Histories.{history_of, history_of_thread, pairs_after}
use Rattle.stack_rebuild.specs.PairLaws.{ends_pair, event_at}
use Rattle.account_report.specs.declared.row.AccountRow.{AccountRow}
use Rattle.account_report.specs.Ascending.{ascending}

-- whether an event is an entry into a function
abbrev pub enters_into : ℕ → Event → Bool
enters_into func e = (e.func == func) && enters e.kind

-- whether it is an exit or a tail exit of the function
abbrev pub leaves_from : ℕ → Event → Bool
leaves_from func e = (e.func == func) && leaves e.kind

-- the same of an event of a thread
abbrev pub is_entry_of : ℕ → ThreadEvent → Bool
is_entry_of func e = enters_into func e.event

abbrev pub is_exit_of : ℕ → ThreadEvent → Bool
is_exit_of func e = leaves_from func e.event

-- the durations of a function's pairs, over all threads
abbrev pub durations_of : ℕ → List ThreadEvent → List ℕ
durations_of func history = map (λ made. made.pair.duration) (filter (λ made. made.pair.func == func) (pairs_after history))

-- ---- entries and exits that aren't in a pair

-- whether the event of a thread at a position is the entry of a pair; the events are listed from the first one to the last
abbrev pub begins_pair : List Event → ℕ → Bool
begins_pair events at = list_any (λ pair. pair.entry == at) (pairs_of events)

-- how many entries of a function in one thread are in no pair of the thread
abbrev pub lone_entries_in : ℕ → List Event → ℕ
lone_entries_in func events = count_by (λ at. enters_into func (event_at events at) && not (begins_pair events at)) (range_with_len 0 (length events))

-- how many exits and tail exits of a function in one thread are in no pair of the thread
abbrev pub lone_exits_in : ℕ → List Event → ℕ
lone_exits_in func events = count_by (λ at. leaves_from func (event_at events at) && not (ends_pair events at)) (range_with_len 0 (length events))

-- the threads of a history, in ascending order
abbrev pub threads_in : List ThreadEvent → List ℕ
threads_in history = each_once nat_cmp (map (λ e. e.thread) history)

-- how many entries of a function are in no pair: the sum over the threads
abbrev pub lone_entries : List ThreadEvent → ℕ → ℕ
lone_entries history func = sum_by (λ thread. lone_entries_in func (reverse (history_of_thread thread history))) (threads_in history)

-- how many exits and tail exits of a function are in no pair: the sum over the threads
abbrev pub lone_exits : List ThreadEvent → ℕ → ℕ
lone_exits history func = sum_by (λ thread. lone_exits_in func (reverse (history_of_thread thread history))) (threads_in history)

-- ---- rows

-- the row of a function with these durations, in ascending order, and with this many entries and exits that aren't in a
-- pair
abbrev pub row_from : ℕ → List ℕ → ℕ → ℕ → AccountRow
row_from func durations entries exits = let n = length durations in record {
  func = func;
  count = n;
  min = slice_index durations 0;
  med = slice_index durations (n / 2);
  p90 = slice_index durations (9 * n / 10);
  p99 = slice_index durations (99 * n / 100);
  max = slice_index durations (n - 1);
  sum = sum durations;
  entries = entries;
  exits = exits;
}

abbrev pub function_row : List ThreadEvent → ℕ → AccountRow
function_row history func = row_from func (ascending (durations_of func history)) (lone_entries history func) (lone_exits history func)

-- the functions that have an event, in ascending order
abbrev pub functions_in : List ThreadEvent → List ℕ
functions_in history = each_once nat_cmp (map (λ e. e.event.func) history)

-- a row for each function that has an event, in ascending order
abbrev pub account_rows : List ThreadEvent → List AccountRow
account_rows history = map (function_row history) (functions_in history)

abbrev pub account_of : List Block → List AccountRow
account_of blocks = account_rows (history_of blocks)
