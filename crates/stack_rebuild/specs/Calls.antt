-- The calls of one thread: which are open, and which pairs of an entry and an exit its events make. A history is the
-- events of a thread so far, listed from the last one to the first. A position counts a thread's events from 0.
use Rattle.std.specs.Prelude.{◌+◌, ◌-◌, ◌%◌, ◌^◌, ◌==◌, Bool, true, false, ℕ, suc, List, [], ◌∷◌, ◌++◌, length, reverse, Option, Some, None, if◌then◌else◌}
use Rattle.std.specs.Option.{option_to_list}
use Rattle.fdr_record.specs.declared.event.Event.{Event}
use Rattle.fdr_record.specs.declared.event.Kind.{Kind}
use Rattle.fdr_record.specs.declared.event.Kind.TheVariants.{Entry, Exit, TailExit, EntryArgs}
use Rattle.stack_rebuild.specs.declared.call.Call.{Call}
use Rattle.stack_rebuild.specs.declared.call.Pair.{Pair}

-- whether a kind of events is that of entries, which may log an argument, or that of exits and tail exits
abbrev pub enters : Kind → Bool
enters Entry = true
enters Exit = false
enters TailExit = false
enters EntryArgs = true

abbrev pub leaves : Kind → Bool
leaves Entry = false
leaves Exit = true
leaves TailExit = true
leaves EntryArgs = false

-- how far a counter advances from one value to another, in 64 bits
abbrev pub cycles_between : ℕ → ℕ → ℕ
cycles_between from to = (to + (2 ^ 64 - from)) % 2 ^ 64

-- Open calls are listed from the innermost to the outermost.

-- the calls from the innermost one of a function outwards, or none if no call of the function is open
abbrev pub from_innermost : ℕ → List Call → List Call
from_innermost func [] = []
from_innermost func (call ∷ outer) = if call.func == func then call ∷ outer else from_innermost func outer

-- what an exit leaves open: the calls outside the one that it ends, or all if it ends none
abbrev pub left_open : List Call → List Call → List Call
left_open calls [] = calls
left_open calls (ended ∷ outer) = outer

-- the calls that are open after an event at a position, by those before it
abbrev pub open_after_kind : Kind → Event → ℕ → List Call → List Call
open_after_kind Entry e at calls = record { entry = at; func = e.func; tsc = e.tsc } ∷ calls
open_after_kind EntryArgs e at calls = record { entry = at; func = e.func; tsc = e.tsc } ∷ calls
open_after_kind Exit e at calls = left_open calls (from_innermost e.func calls)
open_after_kind TailExit e at calls = left_open calls (from_innermost e.func calls)

abbrev pub open_after : Event → ℕ → List Call → List Call
open_after e at calls = open_after_kind e.kind e at calls

-- the calls that are open after a history
abbrev pub open_calls : List Event → List Call
open_calls [] = []
open_calls (e ∷ before) = open_after e (length before) (open_calls before)

-- the pair that an exit at a position makes with the call that it ends
abbrev pub pair_of_call : Event → ℕ → List Call → Option Pair
pair_of_call e at [] = None
pair_of_call e at (ended ∷ outer) = Some (record { func = e.func; entry = ended.entry; exit = at; duration = cycles_between ended.tsc e.tsc })

-- the pair that an event at a position makes, by the calls that are open before it
abbrev pub pair_at_kind : Kind → Event → ℕ → List Call → Option Pair
pair_at_kind Entry e at calls = None
pair_at_kind EntryArgs e at calls = None
pair_at_kind Exit e at calls = pair_of_call e at (from_innermost e.func calls)
pair_at_kind TailExit e at calls = pair_of_call e at (from_innermost e.func calls)

abbrev pub pair_at : Event → ℕ → List Call → Option Pair
pair_at e at calls = pair_at_kind e.kind e at calls

-- the pairs that a history makes, in the order of their exits
abbrev pub pairs_in : List Event → List Pair
pairs_in [] = []
pairs_in (e ∷ before) = pairs_in before ++ option_to_list (pair_at e (length before) (open_calls before))

-- the pairs that the events of a thread make
abbrev pub pairs_of : List Event → List Pair
pairs_of events = pairs_in (reverse events)

-- a thread after some events: how many there were, and its open calls
pub record Standing : Type 0 where
  pub events : ℕ
  pub calls : List Call

abbrev pub standing_after : List Event → Standing
standing_after history = record { events = length history; calls = open_calls history }

-- the thread after one more event
abbrev pub next_standing : Event → Standing → Standing
next_standing e before = record { events = suc before.events; calls = open_after e before.events before.calls }
