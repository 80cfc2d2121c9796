-- The open calls of a thread with their paths and times, and how one more event changes them. The events of a thread are
-- listed from the first one to the last.
use Rattle.std.specs.Prelude.{◌-◌, ◌+◌, ◌==◌, ℕ, List, [], ◌∷◌, ◌++◌, reverse, if◌then◌else◌}
use Rattle.fdr_record.specs.declared.event.Event.{Event}
use Rattle.fdr_record.specs.declared.event.Kind.{Kind}
use Rattle.fdr_record.specs.declared.event.Kind.TheVariants.{Entry, Exit, TailExit, EntryArgs}
use Rattle.stack_rebuild.specs.declared.call.Call.{Call}
use Rattle.stack_rebuild.specs.Calls.{cycles_between, open_calls}
use Rattle.stack_rebuild.specs.Stacks.{Timed, path_of, spent_in, timed_pairs}

-- an open call: its function, its path, the counter at its entry, and the durations of the pairs that were made directly
-- in it so far
pub record OpenPath : Type 0 where
  pub func : ℕ
  pub path : List ℕ
  pub tsc : ℕ
  pub spent : ℕ

-- those of calls, listed from the innermost to the outermost
abbrev pub open_paths : List Event → List Call → List OpenPath
open_paths events [] = []
open_paths events (call ∷ outer) =
    record { func = call.func; path = path_of (call ∷ outer); tsc = call.tsc; spent = spent_in events call.entry } ∷ open_paths events outer

-- the calls that are open after events, from the innermost to the outermost
abbrev pub open_of : List Event → List OpenPath
open_of events = open_paths events (open_calls (reverse events))

-- ---- event by event

-- a thread after some events: its open calls, from the innermost to the outermost, and its pairs, in the order of their
-- exits
pub record Stacked : Type 0 where
  pub calls : List OpenPath
  pub pairs : List Timed

abbrev pub stacked_after : List Event → Stacked
stacked_after events = record { calls = open_of events; pairs = timed_pairs events }

-- the path of the innermost call, or the empty path if no call is open
abbrev pub innermost_path : List OpenPath → List ℕ
innermost_path [] = []
innermost_path (call ∷ outer) = call.path

-- the call that an entry opens
abbrev pub opened_by : Event → List OpenPath → OpenPath
opened_by e calls = record { func = e.func; path = innermost_path calls ++ e.func ∷ []; tsc = e.tsc; spent = 0 }

-- the calls from the innermost one of a function outwards, or none if no call of the function is open
abbrev pub open_from : ℕ → List OpenPath → List OpenPath
open_from func [] = []
open_from func (call ∷ outer) = if call.func == func then call ∷ outer else open_from func outer

-- more was spent in the innermost call
abbrev pub with_spent : ℕ → List OpenPath → List OpenPath
with_spent duration [] = []
with_spent duration (call ∷ outer) = record call { spent = call.spent + duration } ∷ outer

-- the pair of a call that an exit ends
abbrev pub pair_of_open : Event → OpenPath → Timed
pair_of_open e call = let duration = cycles_between call.tsc e.tsc in record { path = call.path; duration = duration; own = duration - call.spent }

-- what an exit leaves, by the call that it ends and those outside it
abbrev pub stacked_closing : Event → Stacked → List OpenPath → Stacked
stacked_closing e before [] = before
stacked_closing e before (call ∷ outer) = record { calls = with_spent (cycles_between call.tsc e.tsc) outer; pairs = before.pairs ++ pair_of_open e call ∷ [] }

-- the thread after one more event
abbrev pub next_by_kind : Kind → Event → Stacked → Stacked
next_by_kind Entry e before = record { calls = opened_by e before.calls ∷ before.calls; pairs = before.pairs }
next_by_kind EntryArgs e before = record { calls = opened_by e before.calls ∷ before.calls; pairs = before.pairs }
next_by_kind Exit e before = stacked_closing e before (open_from e.func before.calls)
next_by_kind TailExit e before = stacked_closing e before (open_from e.func before.calls)

abbrev pub next_stacked : Event → Stacked → Stacked
next_stacked e before = next_by_kind e.kind e before
