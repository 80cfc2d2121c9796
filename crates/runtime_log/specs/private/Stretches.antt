-- Stretches of function records, and the events that they say.
use Rattle.std.specs.Prelude.{◌≡◌, ◌≤◌, ◌<◌, ℕ, zero, suc, ◌+◌, ◌-◌, ◌*◌, ◌/◌, ◌%◌, ◌^◌, ◌==◌, ⊤, All, List, [], ◌∷◌, ◌++◌, drop, length, slice_index, take, if◌then◌else◌}
use Rattle.byteorder.specs.Endian.{little_number}
use Rattle.fdr_record.specs.declared.event.Event.{Event}
use Rattle.fdr_record.specs.declared.event.Kind.{Kind}
use Rattle.fdr_record.specs.declared.event.Kind.TheVariants.{Entry, Exit, TailExit}
use Rattle.fdr_file.specs.Traces.{record_in}
use Rattle.runtime_log.specs.declared.stretch.Stretch.{Stretch}
use Rattle.runtime_log.specs.Arguments.{traced_in}

-- the number of the action in a function record
abbrev pub action_in : List ℕ → ℕ
action_in bytes = slice_index bytes 0 / 2 % 8

-- the counter at a function record, by the counter before it
abbrev pub counter_in : ℕ → List ℕ → ℕ
counter_in tsc bytes = tsc + little_number 4 (drop 4 bytes)

-- the kind of a record whose action is one of the first three
abbrev pub kind_in : List ℕ → Kind
kind_in bytes = if action_in bytes == 0 then Entry else if action_in bytes == 1 then Exit else TailExit

abbrev pub event_in : ℕ → ℕ → List ℕ → Event
event_in cpu tsc bytes = record { tsc = tsc; arg = 0; func = little_number 4 bytes / 16; cpu = cpu; kind = kind_in bytes }

-- bytes begin with a function record that may be in a stretch after this counter
pub record IsPlain (tsc : ℕ) (bytes : List ℕ) : Type 0 where
  pub whole : 8 ≤ length bytes
  pub function : slice_index bytes 0 % 2 ≡ 0
  pub action : action_in bytes ≤ 2
  pub counter : counter_in tsc bytes < 2 ^ 64
  pub alone : traced_in bytes ≡ record_in bytes

-- the counter at the last of so many function records
abbrev pub last_counter : ℕ → ℕ → List ℕ → ℕ
last_counter zero tsc bytes = tsc
last_counter (suc n) tsc bytes = counter_in (last_counter n tsc bytes) (drop (n * 8) bytes)

-- bytes begin with so many records of a stretch
abbrev pub AreStretch : ℕ → ℕ → List ℕ → Type 0
AreStretch zero tsc bytes = ⊤
AreStretch (suc n) tsc bytes = AreStretch n tsc bytes × IsPlain (last_counter n tsc bytes) (drop (n * 8) bytes)

-- their events
abbrev pub stretch_events : ℕ → ℕ → ℕ → List ℕ → List Event
stretch_events zero cpu tsc bytes = []
stretch_events (suc n) cpu tsc bytes = stretch_events n cpu tsc bytes ++ event_in cpu (last_counter (suc n) tsc bytes) (drop (n * 8) bytes) ∷ []

-- bytes begin with this stretch, after a record on a CPU and at a counter
pub record IsStretch (cpu tsc : ℕ) (bytes : List ℕ) (stretch : Stretch) : Type 0 where
  pub are : AreStretch stretch.count tsc bytes
  pub some : 0 < stretch.count
  pub within : stretch.count * 8 ≤ length bytes
  pub records : stretch.records.now ≡ take (stretch.count * 8) bytes
  pub last : stretch.last ≡ event_in cpu (last_counter stretch.count tsc bytes) (drop ((stretch.count - 1) * 8) bytes)

-- Events go on with those of a stretch, after this event. The stretch is at the beginning of bytes.
pub record SaysStretch (after : Event) (stretch : Stretch) (bytes : List ℕ) (events left : List Event) : Type 0 where
  pub fit : All (λ b. b < 256) bytes × (after.cpu < 2 ^ 16)
  pub is : IsStretch after.cpu after.tsc bytes stretch
  pub parts : events ≡ stretch_events stretch.count after.cpu after.tsc bytes ++ left
