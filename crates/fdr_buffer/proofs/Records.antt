-- Records of events, one after the other.
use Rattle.std.proofs.Common.{◌≡◌, ℕ, List, [], ◌∷◌, ◌++◌, Option, Some, None, refl, sym, ap, ◌∙◌, append_assoc}
use Rattle.std.proofs.lemmas.List.{append-nil}
use Rattle.std.proofs.lemmas.List.Concat.{flat_map-append}
use Rattle.fdr_record.specs.declared.event.Event.{Event}
use Rattle.fdr_record.specs.declared.rec.Rec.{Rec}
use Rattle.fdr_record.specs.Records.{record_bytes}
use Rattle.fdr_buffer.specs.Segments.{bytes_of, records_of, records_after, segment_bytes}
use Rattle.fdr_buffer.specs.private.Last.{last_after, last_of}

-- a record after a prefix, and more records after it
pub more_records : (front mid all : List ℕ) (r : Rec) (records : List Rec) → mid ≡ front ++ record_bytes r → all ≡ mid ++ bytes_of records → all ≡ front ++ bytes_of (r ∷ records)
more_records front mid all r records first rest =
    rest ∙ ap (λ (x : List ℕ). x ++ bytes_of records) first ∙ append_assoc front (record_bytes r) (bytes_of records)

-- the last of some events, with more
pub last_after-append : (before : Option Event) (events more : List Event) → last_after before (events ++ more) ≡ last_after (last_after before events) more
last_after-append before [] more = refl
last_after-append before (next ∷ events) more = last_after-append (Some next) events more

pub last_after-push : (before : Option Event) (events : List Event) (event : Event) → last_after before (events ++ event ∷ []) ≡ Some event
last_after-push before [] event = refl
last_after-push before (next ∷ events) event = last_after-push (Some next) events event

-- the records of some events, with one more
records_after-push : (before : Option Event) (events : List Event) (event : Event) → records_after before (events ++ event ∷ []) ≡ records_after before events ++ records_of (last_after before events) event
records_after-push before [] event = append-nil (records_of before event)
records_after-push before (next ∷ events) event =
    ap (λ (rs : List Rec). records_of before next ++ rs) (records_after-push (Some next) events event)
    ∙ sym (append_assoc (records_of before next) (records_after (Some next) events) (records_of (last_after (Some next) events) event))

pub segment_bytes-push : (events : List Event) (event : Event) → segment_bytes (events ++ event ∷ []) ≡ segment_bytes events ++ bytes_of (records_of (last_of events) event)
segment_bytes-push events event =
    ap bytes_of (records_after-push None events event) ∙ flat_map-append record_bytes (records_after None events) (records_of (last_of events) event)
