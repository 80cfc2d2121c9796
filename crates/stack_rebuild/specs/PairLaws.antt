-- What a caller may rely on of the pairs of a thread's events. The events are listed from the first one to the last.
use Rattle.std.specs.Prelude.{◌≡◌, ◌<◌, ◌==◌, Bool, IsTrue, ℕ, List, [], ◌∷◌, length, Option, Some, None, slice_index_or}
use Rattle.std.specs.List.{list_any}
use Rattle.fdr_record.specs.declared.event.Event.{Event}
use Rattle.fdr_record.specs.declared.event.Kind.TheVariants.{Entry}
use Rattle.stack_rebuild.specs.declared.call.Call.{Call}
use Rattle.stack_rebuild.specs.declared.call.Pair.{Pair}
use Rattle.stack_rebuild.specs.Calls.{cycles_between, enters, from_innermost, leaves, pairs_of}
use Rattle.stack_rebuild.specs.Stacks.{open_before}

-- what stands for an event that isn't there
abbrev pub no_event : Event
no_event = record { cpu = 0; func = 0; kind = Entry; tsc = 0; arg = 0 }

-- the event at a position
abbrev pub event_at : List Event → ℕ → Event
event_at events at = slice_index_or events at no_event

-- the position of the innermost call's entry
abbrev pub innermost_entry : List Call → Option ℕ
innermost_entry [] = None
innermost_entry (call ∷ outer) = Some call.entry

-- A pair is an entry into its function and a later exit or tail exit out of it. Just before the exit, the call is the
-- innermost open one of the function. The duration is how far the counter advanced between the two, in 64 bits.
pub record IsWholeCall (events : List Event) (pair : Pair) : Type 0 where
  pub rises : pair.entry < pair.exit
  pub within : pair.exit < length events
  pub begins : IsTrue (enters (event_at events pair.entry).kind)
  pub entered : (event_at events pair.entry).func ≡ pair.func
  pub closes : IsTrue (leaves (event_at events pair.exit).kind)
  pub left : (event_at events pair.exit).func ≡ pair.func
  pub ends : innermost_entry (from_innermost pair.func (open_before events pair.exit)) ≡ Some pair.entry
  pub duration : pair.duration ≡ cycles_between (event_at events pair.entry).tsc (event_at events pair.exit).tsc

-- whether the event at a position is the exit of a pair
abbrev pub ends_pair : List Event → ℕ → Bool
ends_pair events at = list_any (λ pair. pair.exit == at) (pairs_of events)

-- whether a call of a function is open
abbrev pub has_open : ℕ → List Call → Bool
has_open func calls = list_any (λ call. call.func == func) calls

-- An exit or tail exit is in a pair exactly if a call of its function is open just before it.
abbrev pub EndsAnOpenCall : List Event → ℕ → Type 0
EndsAnOpenCall events at =
    at < length events → IsTrue (leaves (event_at events at).kind)
    → ends_pair events at ≡ has_open (event_at events at).func (open_before events at)

-- one pair is inside another: it begins later, and ends before
abbrev pub IsInside : Pair → Pair → Type 0
IsInside pair outer = (outer.entry < pair.entry) × (pair.exit < outer.exit)

-- one pair ends before another begins
abbrev pub EndsBefore : Pair → Pair → Type 0
EndsBefore pair later = pair.exit < later.entry
