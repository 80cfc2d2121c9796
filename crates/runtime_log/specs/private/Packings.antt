-- The file of a trace, as it grows by the blocks that are taken.
use Rattle.std.specs.Prelude.{◌≡◌, ℕ, ◌+◌, ◌-◌, ◌==◌, true, List, [], ◌∷◌, ◌++◌, map, length, sum, count_by, None}
use Rattle.std.specs.List.{flat_map}
use Rattle.fdr_buffer.specs.declared.buffer.TheConstants.{LARGEST_SIZE}
use Rattle.fdr_buffer.specs.Filled.{Filled}
use Rattle.fdr_buffer.specs.Segments.{segments}
use Rattle.fdr_file.specs.Files.{block_bytes}
use Rattle.fdr_record.specs.declared.event.Event.{Event}
use Rattle.fdr_file.specs.ThreadEvents.{ThreadEvent, thread_events}
use Rattle.runtime_log.specs.declared.blocks.BlockEvents.{BlockEvents}
use Rattle.runtime_log.specs.declared.blocks.Head.{Head}
use Rattle.fdr_file.specs.declared.trace.Block.{Block}
use Rattle.runtime_log.specs.declared.facts.Facts.{Facts}
use Rattle.runtime_log.specs.declared.packing.Packing.{Packing}
use Rattle.runtime_log.specs.declared.facts.Counts.{Counts}
use Rattle.runtime_log.specs.Imports.{trace_file, trace_taken}
use Rattle.runtime_log.specs.Logs.{Log}
use Rattle.runtime_log.specs.Taken.{undoubled}
use Rattle.runtime_log.specs.private.Coming.{events_to_come}
use Rattle.runtime_log.specs.private.Notes.{AreFew, HasNoted}

-- no event was noted
pub record NoEvents (facts : Facts) : Type 0 where
  pub blocks : facts.blocks ≡ 0
  pub threads : facts.threads ≡ 0
  pub events : facts.events ≡ 0
  pub arguments : facts.arguments ≡ 0
  pub first : facts.first ≡ None
  pub last : facts.last ≡ None
  pub back : facts.back ≡ 0

-- what is said of the log
pub record SaysOfLog (log : Log) (facts : Facts) : Type 0 where
  pub custom : facts.custom ≡ sum (map (λ b. b.custom) log.blocks)
  pub typed : facts.typed ≡ sum (map (λ b. b.typed) log.blocks)
  pub doubled : facts.doubled ≡ length log.blocks - length (undoubled log.blocks)
  pub empty : facts.empty ≡ count_by (λ b. length b.block.events == 0) (undoubled log.blocks)
  pub lost : facts.lost ≡ log.lost
  pub cut : facts.cut ≡ sum (map (λ b. b.cut) log.blocks)
  pub frequency : facts.frequency ≡ log.header.frequency

-- these are the numbers of what a log has
pub record AreOfLog (log : Log) (counts : Counts) : Type 0 where
  pub custom : counts.custom ≡ sum (map (λ b. b.custom) log.blocks)
  pub typed : counts.typed ≡ sum (map (λ b. b.typed) log.blocks)
  pub lost : counts.lost ≡ log.lost
  pub cut : counts.cut ≡ sum (map (λ b. b.cut) log.blocks)
  pub frequency : counts.frequency ≡ log.header.frequency

-- what is known of a block without its events is what it says
pub record Heads (head : Head) (block : Block) : Type 0 where
  pub thread : head.thread ≡ block.thread
  pub pid : head.pid ≡ block.pid
  pub wall : head.wall ≡ block.wall

-- a buffer that was begun for a block, with these events
abbrev pub filled_for : Head → List Event → Filled
filled_for head events = record {
  size = LARGEST_SIZE;
  begun = true;
  thread = head.thread;
  serial = 0;
  wall = head.wall;
  pid = head.pid;
  events = events;
}

-- this is the last event of a buffer
abbrev pub EndsIn : Filled → Event → Type 0
EndsIn buffer event = (earlier : List Event) × (buffer.events ≡ earlier ++ event ∷ [])

-- These events of a block are in the file behind what was there before, and in the buffer.
pub record Fills (head : Head) (file : List ℕ) (events : List Event) (packing : Packing) : Type 0 where
  pub whole : List (List Event)
  pub opened : List Event
  pub cut : segments LARGEST_SIZE events ≡ whole ++ opened ∷ []
  pub written : packing.file.items ≡ file ++ flat_map (λ s. block_bytes (filled_for head s)) whole
  pub buffer : packing.buffer ≡ filled_for head opened

-- it is the file of these blocks, which are taken of a log
pub record HasPacked (log : Log) (taken : List Block) (packing : Packing) : Type 0 where
  pub file : packing.file.items ≡ trace_file (trace_taken log.header taken)
  pub size : packing.buffer.size ≡ LARGEST_SIZE
  pub notes : HasNoted (thread_events taken) packing.notes
  pub few : AreFew packing.notes.facts
  pub count : packing.notes.facts.blocks ≡ length taken
  pub says : SaysOfLog log packing.notes.facts

-- The first events of a block were added to a packing: they are filled in, and noted.
pub record Adds (head : Head) (old : Packing) (all left : BlockEvents) (new : Packing) : Type 0 where
  pub done : List Event
  pub parts : events_to_come all ≡ done ++ events_to_come left
  pub fills : Fills head old.file.items done new
  pub notes : (before : List ThreadEvent) (pid : ℕ) → HasNoted before old.notes
      → HasNoted (before ++ map (λ event. record { thread = head.thread; pid = pid; event = event }) done) new.notes
  pub count : new.notes.facts.blocks ≡ old.notes.facts.blocks + 1
  pub log : (log : Log) → SaysOfLog log old.notes.facts → SaysOfLog log new.notes.facts
