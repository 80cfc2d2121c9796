-- Reading a trace from its first byte to its last, for the contracts of the reader's private functions.
use Rattle.std.specs.Prelude.{◌≡◌, ◌⊎◌, ◌≤◌, ◌<◌, ℕ, ◌+◌, List, [], ◌∷◌, ◌++◌, length, drop, map, Option, Some, None, Result, Ok, Err, option_to_list, Bool, true, false, nat_lt, if◌then◌else◌}
use Rattle.std.specs.List.{flat_map}
use Rattle.xray_io.specs.Rows.{◌>>=◌}
use Rattle.xray_io.specs.declared.wall.Wall.{Wall}
use Rattle.fdr_record.specs.declared.event.Event.{Event}
use Rattle.fdr_record.specs.declared.rec.Rec.{Rec}
use Rattle.fdr_record.specs.declared.fault.RecFault.{RecFault}
use Rattle.fdr_record.specs.Records.{length_of}
use Rattle.fdr_file.specs.declared.events.Base.{Base}
use Rattle.fdr_file.specs.declared.fault.TraceFault.{TraceFault}
use Rattle.fdr_file.specs.declared.fault.TraceFault.TheVariants as faults
use Rattle.fdr_file.specs.declared.header.Header.{Header}
use Rattle.fdr_file.specs.declared.trace.Block.{Block}
use Rattle.fdr_file.specs.declared.trace.Trace.{Trace}
use Rattle.fdr_file.specs.declared.version.Version.{Version}
use Rattle.fdr_file.specs.declared.version.Version.TheVariants.{Two, Three}
use Rattle.fdr_file.specs.Scanning.{step_on}
use Rattle.fdr_file.specs.Traces.{Standing, block_in, fault_at, preamble_bytes, record_in, record_length, pid_named, size_named, standings, thread_named, wall_named}
use Rattle.fdr_file.specs.private.Faults.{block_faults, decided}

-- what a function answered, as a view of it, is what reading gives
abbrev pub Reads : {A B : Type 0} → (A → B) → Result A TraceFault → Result B TraceFault → Type 0
Reads view (Ok x) read = read ≡ Ok (view x)
Reads view (Err e) read = read ≡ Err e

-- the same, unless memory ran out
abbrev pub Gives : {A B : Type 0} → (A → B) → Result A TraceFault → Result B TraceFault → Type 0
Gives view (Ok x) read = read ≡ Ok (view x)
Gives view (Err e) read = (e ≡ faults.NoMemory) ⊎ (read ≡ Err e)

-- the rest of some bytes, with the place where it begins
abbrev pub Left : Type 0
Left = ℕ × List ℕ

-- the rest of bytes from a place on
abbrev pub left_at : List ℕ → ℕ → Left
left_at bytes at = (at, drop at bytes)

-- ---- a record

-- the answer of the decoder at a place of bytes, and the place after the record
abbrev pub TakenAt : List ℕ → ℕ → Result (Rec × ℕ) RecFault → Type 0
TakenAt bytes at (Ok (r, next)) = (record_in (drop at bytes) ≡ Ok r) × (next ≡ at + record_length (drop at bytes)) × (next ≡ at + length_of r) × (next ≤ length bytes) × (at < next)
TakenAt bytes at (Err fault) = record_in (drop at bytes) ≡ Err fault

-- the first record of the rest of a block, and the rest after it
abbrev pub read_first : Left → Result Rec RecFault → Result (Rec × Left) TraceFault
read_first (at, bytes) (Ok r) = Ok (r, (at + record_length bytes, drop (record_length bytes) bytes))
read_first (at, bytes) (Err fault) = Err (fault_at at fault)

unfoldable pub record_on : Left → Result (Rec × Left) TraceFault
record_on (at, bytes) = read_first (at, bytes) (record_in bytes)

-- ---- a preamble

-- what the first record names; it has to name something of that kind
abbrev pub named_or : {A : Type 0} → ℕ → Option A → Left → Result (A × Left) TraceFault
named_or at (Some x) following = Ok (x, following)
named_or at None following = Err (faults.Order at)

abbrev pub named_on : {A : Type 0} → (Rec → Option A) → Left → Result (A × Left) TraceFault
named_on named left = do
  first ← record_on left
  named_or left.0 (named first.0) first.1

-- the process that a block of this version names after its thread and wall time, or 0 if it names none
unfoldable pub pid_on : Version → Left → Result (ℕ × Left) TraceFault
pid_on Two left = Ok (0, left)
pid_on Three left = named_on pid_named left

unfoldable pub preamble_on : Version → Left → Result (ℕ × Wall × ℕ × Left) TraceFault
preamble_on version left = do
  thread ← named_on thread_named left
  wall ← named_on wall_named thread.1
  pid ← pid_on version wall.1
  Ok (thread.0, wall.0, pid.0, pid.1)

-- ---- events

-- no record is left
abbrev pub is_end : List Standing → Bool
is_end [] = true
is_end (first ∷ following) = false

-- the events of what comes after a CPU and counter
unfoldable pub events_on : Option Base → List Standing → Result (List Event) TraceFault
events_on base [] = Ok []
events_on base ((at, Ok r) ∷ following) = do
  step ← step_on (is_end following) at r base
  events ← events_on (Some step.0) following
  Ok ((option_to_list step.1 ++ option_to_list step.2) ++ events)
events_on base ((at, Err fault) ∷ following) = Err (fault_at at fault)

-- these events, and those that are read after them
abbrev pub with_front : List Event → Result (List Event) TraceFault → Result (List Event) TraceFault
with_front front (Ok events) = Ok (front ++ events)
with_front front (Err fault) = Err fault

-- ---- a block

-- the place after the block, by the number of bytes that its extents name
abbrev pub end_sized : Version → Left → Option ℕ → Result ℕ TraceFault
end_sized version (at, bytes) (Some size) =
    if nat_lt size (preamble_bytes version) then Err (faults.Extents at)
    else if nat_lt (length bytes) (16 + size) then Err (faults.Short at) else Ok (at + (16 + size))
end_sized version (at, bytes) None = Err (faults.Order at)

abbrev pub end_named : Version → Left → Result Rec RecFault → Result ℕ TraceFault
end_named version left (Ok r) = end_sized version left (size_named r)
end_named version left (Err fault) = Err (faults.Bad left.0 fault)

unfoldable pub end_on : Version → Left → Result ℕ TraceFault
end_on version (at, bytes) =
    if nat_lt (length bytes) 16 then Err (faults.Short at) else end_named version (at, bytes) (record_in bytes)

-- the block of a rest that begins with its preamble
unfoldable pub body_on : Version → Left → Result Block TraceFault
body_on version left = do
  preamble ← preamble_on version left
  events ← events_on None (standings preamble.3.0 preamble.3.1)
  Ok (record { thread = preamble.0; wall = preamble.1; pid = preamble.2; events = events })

-- ---- a file

-- the trace of these blocks, and of those that begin at places after them
abbrev pub blocks_read : Version → Header → List Block → List Left → Result Trace TraceFault
blocks_read version header blocks left =
    decided (flat_map (block_faults version) left) (record { header = header; blocks = blocks ++ map block_in left })
