-- A block that is added to the file of a trace, event by event.
use Rattle.std.proofs.Common.{◌≡◌, ℕ, ◌+◌, List, [], ◌∷◌, ◌++◌, map, refl, sym, ap, subst, ◌∙◌, append_assoc, append-nil, arith}
use Rattle.std.proofs.lemmas.List.{length-append, map-append}
use Rattle.fdr_record.specs.declared.event.Event.{Event}
use Rattle.fdr_buffer.specs.declared.buffer.TheConstants.{LARGEST_SIZE}
use Rattle.fdr_buffer.specs.Segments.{segments}
use Rattle.fdr_file.specs.Files.{block_bytes}
use Rattle.fdr_file.specs.ThreadEvents.{ThreadEvent, thread_events}
use Rattle.runtime_log.specs.declared.blocks.BlockEvents.{BlockEvents}
use Rattle.runtime_log.specs.declared.blocks.Head.{Head}
use Rattle.runtime_log.specs.declared.facts.Facts.{Facts}
use Rattle.runtime_log.specs.declared.notes.Notes.{Notes}
use Rattle.runtime_log.specs.declared.packing.Packing.{Packing}
use Rattle.fdr_file.specs.declared.trace.Block.{Block}
use Rattle.runtime_log.specs.Logs.{Log}
use Rattle.runtime_log.specs.private.Coming.{events_to_come}
use Rattle.runtime_log.specs.private.Notes.{AreFew, HasNoted, SameLog}
use Rattle.runtime_log.specs.private.Packings.{Adds, Fills, HasPacked, Heads, SaysOfLog}
use Rattle.runtime_log.proofs.PackedFile.{events_more, file_more, fills_all, segments_written}

-- an event of a thread and a process
abbrev pub event_of : ℕ → ℕ → Event → ThreadEvent
event_of thread pid event = record { thread = thread; pid = pid; event = event }

-- one more event of a thread is noted
abbrev pub NotesEvent : ℕ → Event → (old new : Notes) → Type 0
NotesEvent thread event old new =
    (events : List ThreadEvent) (e : ThreadEvent) → HasNoted events old → e.thread ≡ thread → e.event ≡ event → HasNoted (events ++ e ∷ []) new

-- how many blocks were taken is no matter of their events
abbrev pub counted : Notes → ℕ → Notes
counted old n = record old { facts = record old.facts { blocks = n } }

noted_again : (events : List ThreadEvent) (old : Notes) (n : ℕ) → HasNoted events old → HasNoted events (counted old n)
noted_again events old n has = record {
  count = has.count;
  arguments = has.arguments;
  threads = has.threads;
  first = has.first;
  last = has.last;
  back = has.back;
  ends = has.ends;
  fallen = has.fallen;
}

pub said_again : (log : Log) (old new : Facts) → SameLog old new → SaysOfLog log old → SaysOfLog log new
said_again log old new same says = record {
  custom = same.custom ∙ says.custom;
  typed = same.typed ∙ says.typed;
  doubled = same.doubled ∙ says.doubled;
  empty = same.empty ∙ says.empty;
  lost = same.lost ∙ says.lost;
  cut = same.cut ∙ says.cut;
  frequency = same.frequency ∙ says.frequency;
}

-- the first event of a block was added
pub adds_first : (head : Head) (old new : Packing) (all left : BlockEvents) (event : Event) (n : ℕ) → n ≡ old.notes.facts.blocks + 1
    → events_to_come all ≡ event ∷ events_to_come left → Fills head old.file.items (event ∷ []) new
    → NotesEvent head.thread event (counted old.notes n) new.notes → SameLog (counted old.notes n).facts new.notes.facts → Adds head old all left new
adds_first head old new all left event n more parts fills notes same = record {
  done = event ∷ [];
  parts = parts;
  fills = fills;
  notes = λ before pid has. notes before (event_of head.thread pid event) (noted_again before old.notes n has) refl refl;
  count = same.blocks ∙ more;
  log = λ log says. said_again log (counted old.notes n).facts new.notes.facts same
      (record { custom = says.custom; typed = says.typed; doubled = says.doubled; empty = says.empty; lost = says.lost; cut = says.cut; frequency = says.frequency });
}

-- an event that was noted changes neither the file nor the buffer
pub fills_again : (head : Head) (file : List ℕ) (events : List Event) (old new : Packing) → new.file ≡ old.file → new.buffer ≡ old.buffer
    → Fills head file events old → Fills head file events new
fills_again head file events old new same kept fills = record {
  whole = fills.whole;
  opened = fills.opened;
  cut = fills.cut;
  written = ap (λ f. f.items) same ∙ fills.written;
  buffer = kept ∙ fills.buffer;
}

-- one more event was added
pub adds_more : (head : Head) (old mid new : Packing) (all left rest : BlockEvents) (event : Event) → Adds head old all left mid
    → events_to_come left ≡ event ∷ events_to_come rest
    → ((events : List Event) → Fills head old.file.items events mid → Fills head old.file.items (events ++ event ∷ []) new)
    → NotesEvent head.thread event mid.notes new.notes → SameLog mid.notes.facts new.notes.facts → Adds head old all rest new
adds_more head old mid new all left rest event adds next fills notes same =
    let done = adds.done in record {
      done = done ++ event ∷ [];
      parts = adds.parts ∙ ap (λ (es : List Event). done ++ es) next ∙ sym (append_assoc done (event ∷ []) (events_to_come rest));
      fills = fills done adds.fills;
      notes = λ before pid has.
          let one = event_of head.thread pid in
          let split : (before ++ map one done) ++ one event ∷ [] ≡ before ++ map one (done ++ event ∷ []) =
          append_assoc before (map one done) (one event ∷ []) ∙ ap (λ (es : List ThreadEvent). before ++ es) (sym (map-append one done (event ∷ []))) in
          subst (λ (es : List ThreadEvent). HasNoted es new.notes) split (notes (before ++ map one done) (one event) (adds.notes before pid has) refl refl);
      count = same.blocks ∙ adds.count;
      log = λ log says. said_again log mid.notes.facts new.notes.facts same (adds.log log says);
    }

-- all events were added, and the last segment is written
pub packed_more : (log : Log) (taken : List Block) (b : Block) (head : Head) (old mid new : Packing) (all left : BlockEvents)
    → HasPacked log taken old → Heads head b → events_to_come all ≡ b.events → Adds head old all left mid → events_to_come left ≡ []
    → AreFew mid.notes.facts → mid.buffer.size ≡ LARGEST_SIZE
    → new.buffer ≡ mid.buffer → new.notes ≡ mid.notes → new.file.items ≡ mid.file.items ++ block_bytes mid.buffer → HasPacked log (taken ++ b ∷ []) new
packed_more log taken b head old mid new all left packed shows is adds none few size buffer notes file =
    let done_is : adds.done ≡ b.events = sym (append-nil adds.done) ∙ ap (λ (es : List Event). adds.done ++ es) (sym none) ∙ sym adds.parts ∙ is in
    let written = fills_all head old.file.items adds.done mid new.file.items adds.fills file in
    let noted = adds.notes (thread_events taken) b.pid packed.notes in
    let events_are : thread_events taken ++ map (event_of head.thread b.pid) adds.done ≡ thread_events (taken ++ b ∷ []) =
    ap (λ (es : List Event). thread_events taken ++ map (event_of head.thread b.pid) es) done_is
    ∙ ap (λ (thread : ℕ). thread_events taken ++ map (event_of thread b.pid) b.events) shows.thread
    ∙ sym (events_more taken b) in
    record {
      file =
          written ∙ ap (λ (es : List Event). old.file.items ++ segments_written head (segments LARGEST_SIZE es)) done_is
          ∙ ap (λ (xs : List ℕ). xs ++ segments_written head (segments LARGEST_SIZE b.events)) packed.file
          ∙ sym (file_more log.header taken b head shows);
      size = ap (λ x. x.size) buffer ∙ size;
      notes = subst (λ (n : Notes). HasNoted (thread_events (taken ++ b ∷ [])) n) (sym notes) (subst (λ (es : List ThreadEvent). HasNoted es mid.notes) events_are noted);
      few = subst (λ (n : Notes). AreFew n.facts) (sym notes) few;
      count = ap (λ (n : Notes). n.facts.blocks) notes ∙ omega (arith, adds.count, packed.count, length-append taken (b ∷ []));
      says = subst (λ (n : Notes). SaysOfLog log n.facts) (sym notes) (adds.log log packed.says);
    }
