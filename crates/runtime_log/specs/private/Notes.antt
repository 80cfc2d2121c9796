-- What the events that are taken say, as they come.
use Rattle.std.specs.Prelude.{◌≡◌, ◌≤◌, ℕ, ◌+◌, ◌==◌, ◌&&◌, Bool, false, List, [], ◌∷◌, length, map, count_by, min, max, nat_lt, Option, Some, None, if◌then◌else◌}
use Rattle.std.specs.Option.{option_map_or}
use Rattle.fdr_file.specs.ThreadEvents.{ThreadEvent}
use Rattle.fdr_file.specs.Traces.{logs_arg}
use Rattle.runtime_log.specs.declared.facts.Facts.{Facts}
use Rattle.runtime_log.specs.declared.notes.LastEvent.{LastEvent}
use Rattle.runtime_log.specs.declared.notes.Notes.{Notes}
use Rattle.runtime_log.specs.Facts.{different, falls, greatest_of, least_of}

-- the last event is of this thread
abbrev pub is_of : Option LastEvent → ℕ → Bool
is_of last thread = option_map_or (λ l. l.thread == thread) last false

-- the counter is lower than that of the last event, which is of this thread
abbrev pub does_fall : Option LastEvent → ℕ → ℕ → Bool
does_fall last thread tsc = option_map_or (λ l. (l.thread == thread) && nat_lt tsc l.tsc) last false

abbrev pub is_number : Option ℕ → ℕ → Bool
is_number o n = option_map_or (λ m. m == n) o false

-- the last of numbers
abbrev pub last_number : List ℕ → Option ℕ
last_number [] = None
last_number (n ∷ []) = Some n
last_number (n ∷ next ∷ ns) = last_number (next ∷ ns)

-- the last of events
abbrev pub last_event : List ThreadEvent → Option LastEvent
last_event [] = None
last_event (e ∷ []) = Some (record { thread = e.thread; tsc = e.event.tsc })
last_event (e ∷ next ∷ events) = last_event (next ∷ events)

-- no more of these than there are events
pub record AreFew (facts : Facts) : Type 0 where
  pub arguments : facts.arguments ≤ facts.events
  pub threads : facts.threads ≤ facts.events
  pub back : facts.back ≤ facts.events

-- what is said of the blocks of the log, and of how many were taken, stays
pub record SameLog (old new : Facts) : Type 0 where
  pub blocks : new.blocks ≡ old.blocks
  pub custom : new.custom ≡ old.custom
  pub typed : new.typed ≡ old.typed
  pub doubled : new.doubled ≡ old.doubled
  pub empty : new.empty ≡ old.empty
  pub lost : new.lost ≡ old.lost
  pub cut : new.cut ≡ old.cut
  pub frequency : new.frequency ≡ old.frequency

-- one more event of this thread, with this counter
pub record NotesCounter (old : Notes) (thread tsc : ℕ) (new : Notes) : Type 0 where
  pub threads : new.facts.threads ≡ old.facts.threads + (if is_of old.last thread then 0 else 1)
  pub back : new.facts.back ≡ old.facts.back + (if does_fall old.last thread tsc then (if is_number old.fallen thread then 0 else 1) else 0)
  pub fallen : new.fallen ≡ (if does_fall old.last thread tsc then Some thread else old.fallen)
  pub first : new.facts.first ≡ Some (option_map_or (λ n. min n tsc) old.facts.first tsc)
  pub last : new.facts.last ≡ Some (option_map_or (λ n. max n tsc) old.facts.last tsc)
  pub ends : new.last ≡ Some (record { thread = thread; tsc = tsc })
  pub events : new.facts.events ≡ old.facts.events
  pub arguments : new.facts.arguments ≡ old.facts.arguments
  pub log : SameLog old.facts new.facts

-- the last event is of this thread, with this counter
abbrev pub EndsWith : Notes → ℕ → ℕ → Type 0
EndsWith notes thread tsc = notes.last ≡ Some (record { thread = thread; tsc = tsc })

-- so many more events of the last event's thread, whose counters rise to this one; none logs an argument
abbrev pub noted_to : Notes → ℕ → ℕ → ℕ → Notes
noted_to old thread count tsc = record old {
  facts = record old.facts { events = old.facts.events + count; last = Some (option_map_or (λ n. max n tsc) old.facts.last tsc) };
  last = Some (record { thread = thread; tsc = tsc });
}

-- the notes of these events
pub record HasNoted (events : List ThreadEvent) (notes : Notes) : Type 0 where
  pub count : notes.facts.events ≡ length events
  pub arguments : notes.facts.arguments ≡ count_by (λ e. logs_arg e.event.kind) events
  pub threads : notes.facts.threads ≡ different (map (λ e. e.thread) events)
  pub first : notes.facts.first ≡ least_of (map (λ e. e.event.tsc) events)
  pub last : notes.facts.last ≡ greatest_of (map (λ e. e.event.tsc) events)
  pub back : notes.facts.back ≡ different (falls events)
  pub ends : notes.last ≡ last_event events
  pub fallen : notes.fallen ≡ last_number (falls events)
