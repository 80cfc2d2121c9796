-- From one record of a file to the next.
use Rattle.std.proofs.Common.{◌≡◌, ℕ, ◌+◌, ◌<◌, List, [], ◌∷◌, ◌++◌, length, drop, Option, Some, None, append-nil, refl, sym, ap, ◌∙◌}
use Rattle.std.specs.Prelude.{option_to_list}
use Rattle.fdr_record.specs.declared.event.Event.{Event}
use Rattle.fdr_file.specs.declared.stage.Stage.{Stage}
use Rattle.fdr_file.specs.declared.stage.Stage.TheVariants.{Faulty}
use Rattle.fdr_file.specs.declared.stage.Span.{Span}
use Rattle.fdr_file.specs.declared.stage.Told.{Told}
use Rattle.fdr_file.specs.declared.fault.TraceFault.{TraceFault}
use Rattle.fdr_file.specs.declared.trace.Block.{Block}
use Rattle.fdr_file.specs.declared.version.Version.{Version}
use Rattle.fdr_file.specs.Places.{starts}
use Rattle.fdr_file.specs.Traces.{record_in, record_length}
use Rattle.fdr_file.specs.Scanning.{Scanned, last_longer, longer_block, scanned_next, scanned_on, scanned_over, stage_judged, with_event, with_told}
use Rattle.fdr_file.proofs.NextParts.{length_some, starts_first}

abbrev pub at_stage : Stage → List Block → Scanned
at_stage stage blocks = record { stage = stage; blocks = blocks }

-- one more event of the last block
pub longer_last : (event : Event) (front : List Block) (last : Block) → last_longer event (front ++ last ∷ []) ≡ front ++ longer_block last event ∷ []
longer_last event [] last = refl
longer_last event (block ∷ []) last = refl
longer_last event (block ∷ other ∷ front) last = ap (λ (bs : List Block). block ∷ bs) (longer_last event (other ∷ front) last)

-- a block with these events
abbrev pub with_events : Block → List Event → Block
with_events block events = record block { events = events }

-- the same, if there is one more event
pub event_last : (event : Option Event) (front : List Block) (last : Block) → with_event event (front ++ last ∷ []) ≡ front ++ with_events last (last.events ++ option_to_list event) ∷ []
event_last None front last = ap (λ (es : List Event). front ++ with_events last es ∷ []) (sym (append-nil last.events))
event_last (Some event) front last = longer_last event front last

-- nothing is read after a fault
pub stays_faulty : (version : Version) (span : Span) (fault : TraceFault) (blocks : List Block) (places : List (ℕ × List ℕ))
    → scanned_over version (at_stage (Faulty span fault) blocks) places ≡ at_stage (Faulty span fault) blocks
unfolding scanned_over
stays_faulty version span fault blocks [] = refl
stays_faulty version span fault blocks ((at, bytes) ∷ places) = stays_faulty version span fault blocks places

pub reads_none : (version : Version) (s : Scanned) (at : ℕ) → scanned_on version s at [] ≡ s
unfolding scanned_over starts
reads_none version s at = refl

pub reads_first : (version : Version) (s : Scanned) (at : ℕ) (bytes : List ℕ) → 0 < length bytes
    → scanned_on version s at bytes ≡ scanned_on version (scanned_next version s at bytes) (at + record_length bytes) (drop (record_length bytes) bytes)
unfolding scanned_over
reads_first version s at bytes some = ap (scanned_over version s) (starts_first record_length at bytes some (length_some bytes))

-- the same, by what it says
pub reads_next : (version : Version) (stage after : Stage) (told : Told) (blocks : List Block) (at : ℕ) (bytes : List ℕ) → 0 < length bytes
    → stage_judged version stage at (record_length bytes) (record_in bytes) ≡ (after, told)
    → scanned_on version (at_stage stage blocks) at bytes ≡ scanned_on version (at_stage after (with_told told blocks)) (at + record_length bytes) (drop (record_length bytes) bytes)
reads_next version stage after told blocks at bytes some is =
    reads_first version (at_stage stage blocks) at bytes some
    ∙ ap (λ (x : Stage × Told). scanned_on version (at_stage x.0 (with_told x.1 blocks)) (at + record_length bytes) (drop (record_length bytes) bytes)) is
