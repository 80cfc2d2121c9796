-- A scan after more bytes of its stream, and at the end of it.
use Rattle.std.proofs.Common.{◌≡◌, ℕ, ◌+◌, ◌%◌, ◌<◌, ◌≤◌, Bool, true, false, cond, eqb, leb, ltb, List, [], ◌∷◌, ◌++◌, length, take, drop, slice_index, Option, Some, None, Result, Ok, Err, lit≤, inl, inr, refl, sym, ap, subst, ◌∙◌, append_assoc, append-nil, length-append, arith}
use Rattle.std.specs.Prelude.{◌&&◌}
use Rattle.std.proofs.lemmas.Bool.{cases_Bool, eqb-false, eqb-true, leb-true, le-ltb, lt-ltb, ltb-false, ltb-true, ne_eqb}
use Rattle.std.proofs.lemmas.List.{drop_at, length-take-le, take_more, take-append-drop}
use Rattle.std.proofs.Math.ListN.{drop_of_length-le}
use Rattle.xray_io.specs.Rows.{◌>>=◌, NeedsPart}
use Rattle.xray_io.specs.declared.wall.Wall.{Wall}
use Rattle.fdr_record.specs.declared.event.Event.{Event}
use Rattle.fdr_record.specs.declared.rec.Rec.{Rec}
use Rattle.fdr_record.specs.declared.fault.RecFault.{RecFault}
use Rattle.fdr_record.specs.declared.fault.RecFault.TheVariants as decoder_faults
use Rattle.fdr_file.specs.declared.events.Base.{Base}
use Rattle.fdr_file.specs.declared.fault.TraceFault.{TraceFault}
use Rattle.fdr_file.specs.declared.fault.TraceFault.TheVariants as faults
use Rattle.fdr_file.specs.declared.header.Header.{Header}
use Rattle.fdr_file.specs.declared.scan.Head.{Head}
use Rattle.fdr_file.specs.declared.scan.Head.TheVariants as heads
use Rattle.fdr_file.specs.declared.scan.TraceScan.{TraceScan}
use Rattle.fdr_file.specs.declared.stage.Inside.{Inside}
use Rattle.fdr_file.specs.declared.stage.Inside.TheVariants as insides
use Rattle.fdr_file.specs.declared.stage.Span.{Span}
use Rattle.fdr_file.specs.declared.stage.Stage.{Stage}
use Rattle.fdr_file.specs.declared.stage.Stage.TheVariants.{Due, Within, Faulty}
use Rattle.fdr_file.specs.declared.stage.Told.{Told}
use Rattle.fdr_file.specs.declared.stage.Told.TheVariants.{Nothing, Begun, Noted}
use Rattle.fdr_file.specs.declared.trace.Block.{Block}
use Rattle.fdr_file.specs.declared.version.Version.{Version}
use Rattle.fdr_file.specs.declared.version.Version.TheVariants.{Two, Three}
use Rattle.fdr_file.specs.Traces.{header_in, pid_named, preamble_bytes, record_in, record_length, size_named, thread_named, trace_of, wall_named}
use Rattle.fdr_file.specs.Streams.{HasLast, IsBegun, IsOpen, ReadsHeader, ReadsNothing, ReadsOn, Scans, ScansBy}
use Rattle.fdr_file.specs.private.Scan.{Advances, CanTell, answered_by, header_longer, header_taken, last_stage, record_advanced, record_longer, record_passed, stage_answers}
use Rattle.fdr_file.specs.Scanning.{after_wall, blocks_given, empty_block, header_on, inside_next, last_longer, longer_block, record_within, scan_start, Scanned, scanned, scanned_ends, scanned_from, scanned_next, scanned_on, stage_after, stage_ends, stage_judged, stage_within, step_on, version_read, with_blocks, with_event, with_told}
use Rattle.fdr_file.proofs.ReadingAndRecords.{run_agrees}
use Rattle.fdr_file.proofs.PlacesDecide.{versioned}
use Rattle.fdr_file.proofs.PartFaults.{never_memory}
use Rattle.fdr_file.proofs.RecordSteps.{at_stage, longer_last, reads_first, reads_none}
use Rattle.fdr_file.proofs.TraceRows.{header_first}
use Rattle.fdr_file.proofs.NextParts.{length_some}
use Rattle.fdr_file.proofs.WholeRecords.{cut_is_short, field_again, length_again, number_again, whole_again}

-- ---- headers

-- a whole header is the same, whatever follows it
pub header_again : (bytes rest : List ℕ) → length bytes ≡ 32 → header_on (bytes ++ rest) ≡ header_on bytes
header_again bytes rest whole =
    rw (
      le-ltb (length (bytes ++ rest)) 32 (omega (arith, length-append bytes rest, whole)),
      le-ltb (length bytes) 32 (omega (arith, whole)),
      number_again 2 bytes rest (omega arith),
      field_again 2 2 bytes rest (omega arith),
      field_again 4 4 bytes rest (omega arith),
      field_again 8 8 bytes rest (omega arith),
      field_again 16 8 bytes rest (omega arith),
    ) refl

-- the version and the header
pub record Headed (bytes : List ℕ) (version : Version) (header : Header) : Type 0 where
  pub version_is : version_read bytes ≡ Ok version
  pub header_is : header_in bytes ≡ header

pub headed : (bytes : List ℕ) (version : Version) (header : Header) → header_on bytes ≡ Ok (version, header) → Headed bytes version header
headed bytes version header is = by_version (version_read bytes) refl (sym (header_first bytes (versioned bytes)) ∙ is)
  where
    by_version : (o : Result Version TraceFault) → version_read bytes ≡ o → (o >>= versioned bytes) ≡ Ok (version, header) → Headed bytes version header
    by_version (Ok v) e h =
        let found : Version × Header = (v, header_in bytes) in
        let wanted : Version × Header = (version, header) in
        let both : found ≡ wanted = cc in
        record { version_is = e ∙ ap (λ (x : Version × Header). let y : Result Version TraceFault = Ok x.0 in y) both; header_is = ap (λ (x : Version × Header). x.1) both }
    by_version (Err f) e h = absurd cc

pub unheaded : (bytes : List ℕ) (fault : TraceFault) → header_on bytes ≡ Err fault → version_read bytes ≡ Err fault
unheaded bytes fault is = by_version (version_read bytes) refl (sym (header_first bytes (versioned bytes)) ∙ is)
  where
    by_version : (o : Result Version TraceFault) → version_read bytes ≡ o → (o >>= versioned bytes) ≡ Err fault → version_read bytes ≡ Err fault
    by_version (Ok v) e h = absurd cc
    by_version (Err f) e h = e ∙ cc

-- no header
pub short_given : (bytes : List ℕ) → length bytes < 32 → version_read bytes ≡ Err (faults.Short 0)
short_given bytes few = rw (lt-ltb (length bytes) 32 few) refl

no_blocks : (bytes : List ℕ) (fault : TraceFault) → version_read bytes ≡ Err fault → blocks_given bytes ≡ []
no_blocks bytes fault is = ap (λ (o : Result Version TraceFault). (scanned_from o bytes).blocks) is

-- ---- what a record says

-- what is told is told after a block, if it is an event
abbrev pub Leads : Stage → Stage × Told → Type 0
Leads stage said = (blocks : List Block) → IsOpen stage blocks → CanTell said.1 blocks × IsOpen said.0 (with_told said.1 blocks)

after_open : (span : Span) (at : ℕ) (inside : Inside) (blocks : List Block) → IsBegun inside blocks → IsOpen (stage_after span at inside) blocks
after_open span at inside blocks begun = elim (cases_Bool (eqb at span.end)) [ inl b ↦ rw b tt | inr b ↦ rw b begun ]

extents_lead : (version : Version) (at len : ℕ) (a : Result Rec RecFault) → Leads Due (stage_judged version Due at len a)
extents_lead version at len (Err f) = λ blocks begun. (tt, tt)
extents_lead version at len (Ok r) = by_size (size_named r) refl
  where
    by_size : (o : Option ℕ) → size_named r ≡ o → Leads Due (stage_judged version Due at len (Ok r))
    by_size None e = rw e (λ blocks begun. (tt, tt))
    by_size (Some size) e = elim (cases_Bool (ltb size (preamble_bytes version))) [ inl b ↦ rw (e, b) (λ blocks begun. (tt, tt)) | inr b ↦ rw (e, b) (λ blocks begun. (tt, tt)) ]

-- what a record within a block leads to
abbrev LeadsIn : Span → ℕ → Inside → Result (Inside × Told) TraceFault → Type 0
LeadsIn span at inside said = Leads (Within span inside) (stage_within span at said)

refused_leads : (span : Span) (at : ℕ) (inside : Inside) (f : TraceFault) → LeadsIn span at inside (Err f)
refused_leads span at inside f = λ blocks begun. (tt, tt)

thread_leads : (span : Span) (at place : ℕ) (o : Option ℕ) → LeadsIn span at insides.Opened (NeedsPart o (Err (faults.Order place)) λ thread. Ok (insides.Thread thread, Nothing))
thread_leads span at place None = refused_leads span at insides.Opened (faults.Order place)
thread_leads span at place (Some thread) = λ blocks begun. (tt, after_open span at (insides.Thread thread) blocks tt)

wall_leads : (version : Version) (span : Span) (at place thread : ℕ) (o : Option Wall) → LeadsIn span at (insides.Thread thread) (NeedsPart o (Err (faults.Order place)) λ wall. Ok (after_wall version thread wall))
wall_leads version span at place thread None = refused_leads span at (insides.Thread thread) (faults.Order place)
wall_leads Two span at place thread (Some wall) = λ blocks begun.
    (tt, after_open span at (insides.Events None) (with_told (Begun thread wall 0) blocks) (record { front = blocks; last = empty_block thread wall 0; is = refl }))
wall_leads Three span at place thread (Some wall) = λ blocks begun. (tt, after_open span at (insides.Wall thread wall) blocks tt)

pid_leads : (span : Span) (at place thread : ℕ) (wall : Wall) (o : Option ℕ)
    → LeadsIn span at (insides.Wall thread wall) (NeedsPart o (Err (faults.Order place)) λ pid. Ok (insides.Events None, Begun thread wall pid))
pid_leads span at place thread wall None = refused_leads span at (insides.Wall thread wall) (faults.Order place)
pid_leads span at place thread wall (Some pid) = λ blocks begun.
    (tt, after_open span at (insides.Events None) (with_told (Begun thread wall pid) blocks) (record { front = blocks; last = empty_block thread wall pid; is = refl }))

-- a last block stays one
pub one_has : (event : Option Event) (blocks : List Block) → HasLast blocks → HasLast (with_event event blocks)
one_has None blocks has = has
one_has (Some event) blocks has =
    record { front = has.front; last = longer_block has.last event; is = ap (last_longer event) has.is ∙ longer_last event has.front has.last }

event_leads : (span : Span) (at : ℕ) (base : Option Base) (step : Result (Base × Option Event × Option Event) TraceFault)
    → LeadsIn span at (insides.Events base) (step >>= λ x. Ok (insides.Events (Some x.0), Noted x.1 x.2))
event_leads span at base (Err f) = refused_leads span at (insides.Events base) f
event_leads span at base (Ok (next, entry, event)) = λ blocks has.
    (has, after_open span at (insides.Events (Some next)) (with_told (Noted entry event) blocks) (one_has event (with_event entry blocks) (one_has entry blocks has)))

record_leads : (version : Version) (span : Span) (at place : ℕ) (inside : Inside) (ends : Bool) (r : Rec) → LeadsIn span at inside (inside_next version inside ends place r)
record_leads version span at place insides.Opened ends r = thread_leads span at place (thread_named r)
record_leads version span at place (insides.Thread thread) ends r = wall_leads version span at place thread (wall_named r)
record_leads version span at place (insides.Wall thread wall) ends r = pid_leads span at place thread wall (pid_named r)
record_leads version span at place (insides.Events base) ends r = event_leads span at base (step_on ends place r base)

pub leads : (version : Version) (stage : Stage) (at len : ℕ) (a : Result Rec RecFault) → Leads stage (stage_judged version stage at len a)
leads version Due at len a = extents_lead version at len a
leads version (Faulty span fault) at len a = λ blocks begun. (tt, tt)
leads version (Within span inside) at len a = by_found (record_within span at len a) refl
  where
    by_found : (x : Result Rec TraceFault) → record_within span at len a ≡ x → Leads (Within span inside) (stage_judged version (Within span inside) at len a)
    by_found (Ok r) e = rw e (record_leads version span (at + len) at inside (eqb (at + len) span.end) r)
    by_found (Err f) e = rw e (refused_leads span (at + len) inside f)

-- a record that is cut off says nothing
cut_says : (version : Version) (stage : Stage) (at len : ℕ) → (stage_judged version stage at len (Err decoder_faults.Short)).1 ≡ Nothing
cut_says version Due at len = refl
cut_says version (Faulty span fault) at len = refl
cut_says version (Within span inside) at len = elim (cases_Bool (ltb span.end (at + len))) [ inl e ↦ rw e refl | inr e ↦ rw e refl ]

-- ---- records

-- a record that is whole
pub step_whole : (version : Version) (s : Scanned) (at : ℕ) (w rest : List ℕ) → 0 < length w → length w ≡ record_length w
    → scanned_on version s at (w ++ rest) ≡ scanned_on version (scanned_next version s at w) (at + length w) rest
step_whole version s at w rest some whole =
    let next : ℕ → Result Rec RecFault → Scanned = λ n a. let said = stage_judged version s.stage at n a in record { stage = said.0; blocks = with_told said.1 s.blocks } in
    let long : record_length (w ++ rest) ≡ length w = length_again w rest some ∙ sym whole in
    reads_first version s at (w ++ rest) (omega (arith, length-append w rest))
    ∙ ap (λ (n : ℕ). scanned_on version (next n (record_in (w ++ rest))) (at + n) (drop n (w ++ rest))) long
    ∙ ap (λ (a : Result Rec RecFault). scanned_on version (next (length w) a) (at + length w) (drop (length w) (w ++ rest))) (whole_again w rest some (omega (arith, whole)))
    ∙ ap (λ (x : List ℕ). scanned_on version (next (length w) (record_in w)) (at + length w) x) (drop_at w rest (length w) refl)
    ∙ ap (λ (n : ℕ). scanned_on version (next n (record_in w)) (at + length w) rest) whole

-- a record that is cut off
pub step_cut : (version : Version) (s : Scanned) (at : ℕ) (w : List ℕ) → 0 < length w → length w < record_length w → scanned_on version s at w ≡ scanned_next version s at w
step_cut version s at w some cut =
    reads_first version s at w some
    ∙ ap (λ (x : List ℕ). scanned_on version (scanned_next version s at w) (at + record_length w) x) (drop_of_length-le w (omega arith))
    ∙ reads_none version (scanned_next version s at w) (at + record_length w)

cut_blocks : (version : Version) (s : Scanned) (at : ℕ) (w : List ℕ) → 0 < length w → length w < record_length w → (scanned_next version s at w).blocks ≡ s.blocks
cut_blocks version s at w some cut =
    ap (λ (a : Result Rec RecFault). with_told (stage_judged version s.stage at (record_length w) a).1 s.blocks) (cut_is_short w cut)
    ∙ ap (λ (t : Told). with_told t s.blocks) (cut_says version s.stage at (record_length w))

-- ---- more bytes of a record

abbrev Reads : Version → Header → TraceScan → List ℕ → Type 0
Reads version header scan stream = ReadsOn version header scan stream (blocks_given stream)

-- the stream with the bytes of a record, and the rest
joined : (stream more rest : List ℕ) → (stream ++ more) ++ rest ≡ stream ++ (more ++ rest)
joined stream more rest = append_assoc stream more rest

on_more : (version : Version) (header : Header) (scan : TraceScan) (stream more w rest : List ℕ) → Reads version header scan stream → scan.prefix ++ more ≡ w
    → scanned ((stream ++ more) ++ rest) ≡ scanned_on version (at_stage scan.stage (blocks_given stream)) scan.at (w ++ rest)
on_more version header scan stream more w rest h is =
    ap scanned (joined stream more rest) ∙ h.on (more ++ rest)
    ∙ ap (scanned_on version (at_stage scan.stage (blocks_given stream)) scan.at) (sym (append_assoc scan.prefix more rest) ∙ ap (λ (x : List ℕ). x ++ rest) is)

-- a record whose bytes are all there
record Passes (version : Version) (header : Header) (new : TraceScan) (stream more : List ℕ) (told : Told) : Type 0 where
  reads : Reads version header new (stream ++ more)
  grows : blocks_given (stream ++ more) ≡ with_told told (blocks_given stream)
  can : CanTell told (blocks_given stream)

passes : (version : Version) (header : Header) (scan : TraceScan) (stream more w : List ℕ) → Reads version header scan stream → scan.prefix ++ more ≡ w → 0 < length w → length w ≡ record_length w
    → Passes version header (record_passed version scan w).0 stream more (record_passed version scan w).1
passes version header scan stream more w h is some whole =
    let said = stage_judged version scan.stage scan.at (record_length w) (record_in w) in
    let after : Scanned = at_stage said.0 (with_told said.1 (blocks_given stream)) in
    let on : (rest : List ℕ) → scanned ((stream ++ more) ++ rest) ≡ scanned_on version after (scan.at + length w) rest = λ rest.
    on_more version header scan stream more w rest h is ∙ step_whole version (at_stage scan.stage (blocks_given stream)) scan.at w rest some whole in
    let now : scanned (stream ++ more) ≡ after = ap scanned (sym (append-nil (stream ++ more))) ∙ on [] ∙ reads_none version after (scan.at + length w) in
    let grows : blocks_given (stream ++ more) ≡ with_told said.1 (blocks_given stream) = ap (λ (s : Scanned). s.blocks) now in
    let led = leads version scan.stage scan.at (record_length w) (record_in w) (blocks_given stream) h.begun in
    let new = (record_passed version scan w).0 in
    let reads : ReadsOn version header new (stream ++ more) (with_told said.1 (blocks_given stream)) = record {
      place = omega (arith, length-append stream more, length-append scan.prefix more, ap length is, h.place, whole);
      cut = λ few. absurd (omega arith);
      opened = λ rest. ap header_on (joined stream more rest) ∙ h.opened (more ++ rest);
      on = λ rest. on rest ∙ ap (λ (n : ℕ). scanned_on version after (scan.at + n) rest) whole;
      begun = led.1;
    } in
    record {
      reads = subst (λ (bs : List Block). ReadsOn version header new (stream ++ more) bs) (sym grows) reads;
      grows = grows;
      can = led.0;
    }

-- a record whose bytes aren't all there
waits : (version : Version) (header : Header) (scan : TraceScan) (stream more w : List ℕ) → Reads version header scan stream → scan.prefix ++ more ≡ w → 0 < length w → length w < record_length w
    → Passes version header (record scan { prefix = w }) stream more Nothing
waits version header scan stream more w h is some cut =
    let s : Scanned = at_stage scan.stage (blocks_given stream) in
    let now : scanned (stream ++ more) ≡ scanned_on version s scan.at w =
    ap scanned (sym (append-nil (stream ++ more))) ∙ on_more version header scan stream more w [] h is ∙ ap (scanned_on version s scan.at) (append-nil w) in
    let grows : blocks_given (stream ++ more) ≡ blocks_given stream = ap (λ (x : Scanned). x.blocks) (now ∙ step_cut version s scan.at w some cut) ∙ cut_blocks version s scan.at w some cut in
    let new : TraceScan = record scan { prefix = w } in
    let reads : ReadsOn version header new (stream ++ more) (blocks_given stream) = record {
      place = omega (arith, length-append stream more, length-append scan.prefix more, ap length is, h.place);
      cut = λ few. cut;
      opened = λ rest. ap header_on (joined stream more rest) ∙ h.opened (more ++ rest);
      on = λ rest. on_more version header scan stream more w rest h is;
      begun = h.begun;
    } in
    record {
      reads = subst (λ (bs : List Block). ReadsOn version header new (stream ++ more) bs) (sym grows) reads;
      grows = grows;
      can = tt;
    }

-- ---- the first bytes of a piece

no_length : (xs : List ℕ) → length xs ≡ 0 → xs ≡ []
no_length [] e = refl
no_length (x ∷ xs) e = absurd (omega arith)

-- a record has at least 8 bytes
length_least : (bytes : List ℕ) → 8 ≤ record_length bytes
length_least bytes = elim (cases_Bool (eqb (slice_index bytes 0 % 2) 0)) [ inl e ↦ rw e (lit≤ tt) | inr e ↦ rw e (lit≤ tt) ]

-- what is left of a piece, if a record that is whole stands at its start
here_same : (version : Version) (scan : TraceScan) (piece : List ℕ) → record_length piece ≤ length piece → 0 < length piece
    → record_passed version scan (take (record_length piece) piece) ≡ record_passed version scan piece
here_same version scan piece whole some =
    let n = record_length piece in
    let w = take n piece in
    let long : length w ≡ n = length-take-le n piece whole in
    let parts : w ++ drop n piece ≡ piece = take-append-drop n piece in
    let same : record_length w ≡ n = sym (length_again w (drop n piece) (omega (arith, long, length_some piece))) ∙ ap record_length parts in
    let alike : record_in w ≡ record_in piece = sym (whole_again w (drop n piece) (omega (arith, long, length_some piece)) (omega (arith, long, same))) ∙ ap record_in parts in
    let made : ℕ → Result Rec RecFault → TraceScan × Told = λ k a. let said = stage_judged version scan.stage scan.at k a in (record scan { stage = said.0; at = scan.at + k; prefix = [] }, said.1) in
    ap (λ (k : ℕ). made k (record_in w)) same ∙ ap (made n) alike

-- a byte that makes a record whole
byte_whole : (prefix : List ℕ) (byte : ℕ) → (0 < length prefix → length prefix < record_length prefix) → record_length (prefix ++ byte ∷ []) ≤ length (prefix ++ byte ∷ []) → length (prefix ++ byte ∷ []) ≡ record_length (prefix ++ byte ∷ [])
byte_whole [] byte cut whole = omega (arith, whole, length_least (byte ∷ []))
byte_whole (b ∷ prefix) byte cut whole =
    omega (arith, whole, cut (omega arith), length_again (b ∷ prefix) (byte ∷ []) (omega arith), length-append (b ∷ prefix) (byte ∷ []))

abbrev PassesTo : Version → Header → TraceScan × (ℕ × Told) → List ℕ → List ℕ → Type 0
PassesTo version header x stream piece = Passes version header x.0 stream (take x.1.0 piece) x.1.1

record_goes : (version : Version) (header : Header) (scan : TraceScan) (stream piece : List ℕ) → Reads version header scan stream → 0 < length piece
    → PassesTo version header (record_advanced version scan piece) stream piece
record_goes version header scan stream piece h some = by_tests (eqb (length scan.prefix) 0) (leb (record_length piece) (length piece)) refl refl
  where
    first : take 1 piece ≡ slice_index piece 0 ∷ []
    first = take_more piece 0 0 some

    by_byte : PassesTo version header (let x = record_longer version scan (slice_index piece 0) in (x.0, (1, x.1))) stream piece
    by_byte =
        let byte = slice_index piece 0 in
        let w = scan.prefix ++ byte ∷ [] in
        let is : scan.prefix ++ take 1 piece ≡ w = ap (λ (x : List ℕ). scan.prefix ++ x) first in
        let more : 0 < length w = omega (arith, length-append scan.prefix (byte ∷ [])) in
        elim (cases_Bool (ltb (length w) (record_length w))) [
          | inl e ↦ rw e (waits version header scan stream (take 1 piece) w h is more (ltb-true (length w) (record_length w) e))
          | inr e ↦ rw e (passes version header scan stream (take 1 piece) w h is more (byte_whole scan.prefix byte h.cut (ltb-false (length w) (record_length w) e)))
        ]

    by_tests : (none whole : Bool) → eqb (length scan.prefix) 0 ≡ none → leb (record_length piece) (length piece) ≡ whole
        → PassesTo version header (cond (none && whole) (let x = record_passed version scan piece in (x.0, (record_length piece, x.1))) (let x = record_longer version scan (slice_index piece 0) in (x.0, (1, x.1)))) stream piece
    by_tests false whole e f = by_byte
    by_tests true false e f = by_byte
    by_tests true true e f =
        let n = record_length piece in
        let w = take n piece in
        let fits : n ≤ length piece = leb-true n (length piece) f in
        let long : length w ≡ n = length-take-le n piece fits in
        let some' : 0 < length w = omega (arith, long, length_some piece) in
        let same : record_length w ≡ n = sym (length_again w (drop n piece) some') ∙ ap record_length (take-append-drop n piece) in
        let is : scan.prefix ++ w ≡ w = ap (λ (x : List ℕ). x ++ w) (no_length scan.prefix (eqb-true (length scan.prefix) 0 e)) in
        subst (λ (x : TraceScan × Told). Passes version header x.0 stream w x.1) (here_same version scan piece fits some) (passes version header scan stream w w h is some' (omega (arith, long, same)))

-- the header stays
head_stays : (version : Version) (scan : TraceScan) (piece : List ℕ) → (record_advanced version scan piece).0.head ≡ scan.head
head_stays version scan piece = by_tests (eqb (length scan.prefix) 0 && leb (record_length piece) (length piece)) (ltb (length (scan.prefix ++ slice_index piece 0 ∷ [])) (record_length (scan.prefix ++ slice_index piece 0 ∷ [])))
  where
    by_tests : (here short : Bool) → (cond here (let x = record_passed version scan piece in let y : TraceScan × (ℕ × Told) = (x.0, (record_length piece, x.1)) in y)
        (let x = cond short (record scan { prefix = scan.prefix ++ slice_index piece 0 ∷ [] }, Nothing) (record_passed version scan (scan.prefix ++ slice_index piece 0 ∷ [])) in (x.0, (1, x.1)))).0.head ≡ scan.head
    by_tests true short = refl
    by_tests false true = refl
    by_tests false false = refl

-- a scan whose header was read
pub record_advances : (scan new : TraceScan) (stream piece : List ℕ) (len : ℕ) (told : Told) (version : Version) (header : Header) → 0 < length piece → scan.head ≡ heads.Read version header
    → (new, (len, told)) ≡ record_advanced version scan piece → Scans scan stream → Advances new stream (take len piece) told
record_advances scan new stream piece len told version header some is moved scans =
    let h : Reads version header scan stream = subst (λ (x : Head). ScansBy x scan stream) is scans in
    let p : PassesTo version header (new, (len, told)) stream piece = subst (λ (x : TraceScan × (ℕ × Told)). PassesTo version header x stream piece) (sym moved) (record_goes version header scan stream piece h some) in
    let same : new.head ≡ heads.Read version header = ap (λ (x : TraceScan × (ℕ × Told)). x.0.head) moved ∙ head_stays version scan piece ∙ is in
    record {
      scans = subst (λ (x : Head). ScansBy x new (stream ++ take len piece)) (sym same) p.reads;
      grows = p.grows;
      can = p.can;
    }

-- ---- the header

-- a byte of the header, which isn't the last one
header_waits : (scan : TraceScan) (stream : List ℕ) (byte : ℕ) → scan.head ≡ heads.Due → ReadsHeader scan stream → length (scan.prefix ++ byte ∷ []) < 32
    → Advances (record scan { prefix = scan.prefix ++ byte ∷ [] }) stream (byte ∷ []) Nothing
header_waits scan stream byte is h few =
    let part : scan.prefix ++ byte ∷ [] ≡ stream ++ byte ∷ [] = ap (λ (x : List ℕ). x ++ byte ∷ []) h.part in
    let more : length (stream ++ byte ∷ []) < 32 = omega (arith, few, ap length part) in
    let new : TraceScan = record scan { prefix = scan.prefix ++ byte ∷ [] } in
    record {
      scans = subst (λ (x : Head). ScansBy x new (stream ++ byte ∷ [])) (sym is) (record { stage = h.stage; part = part; few = more });
      grows = no_blocks (stream ++ byte ∷ []) (faults.Short 0) (short_given (stream ++ byte ∷ []) more) ∙ sym (no_blocks stream (faults.Short 0) (short_given stream h.few));
      can = tt;
    }

-- the last byte of the header
header_done : (scan : TraceScan) (stream : List ℕ) (byte : ℕ) (a : Result (Version × Header) TraceFault) → scan.stage ≡ Due → ReadsHeader scan stream → length (stream ++ byte ∷ []) ≡ 32
    → header_on (stream ++ byte ∷ []) ≡ a → Advances (header_taken (record scan { prefix = scan.prefix ++ byte ∷ [] }) a) stream (byte ∷ []) Nothing
header_done scan stream byte (Err fault) due h whole e =
    let all = stream ++ byte ∷ [] in
    record {
      scans = record { refused = λ rest. header_again all rest whole ∙ e };
      grows = no_blocks all fault (unheaded all fault e) ∙ sym (no_blocks stream (faults.Short 0) (short_given stream h.few));
      can = tt;
    }
header_done scan stream byte (Ok (version, header)) due h whole e =
    let all = stream ++ byte ∷ [] in
    let opened : (rest : List ℕ) → header_on (all ++ rest) ≡ Ok (version, header) = λ rest. header_again all rest whole ∙ e in
    let on : (rest : List ℕ) → scanned (all ++ rest) ≡ scanned_on version scan_start 32 rest = λ rest.
    ap (λ (o : Result Version TraceFault). scanned_from o (all ++ rest)) (headed (all ++ rest) version header (opened rest)).version_is
    ∙ ap (scanned_on version scan_start 32) (drop_at all rest 32 whole) in
    let none : blocks_given all ≡ [] = ap (λ (s : Scanned). s.blocks) (ap scanned (sym (append-nil all)) ∙ on [] ∙ reads_none version scan_start 32) in
    let new : TraceScan = record scan { head = heads.Read version header; at = 32; prefix = [] } in
    let reads : ReadsOn version header new all [] = record {
      place = whole;
      cut = λ few. absurd (omega arith);
      opened = opened;
      on = λ rest. on rest ∙ ap (λ (s : Stage). scanned_on version (at_stage s []) 32 rest) (sym due);
      begun = subst (λ (s : Stage). IsOpen s []) (sym due) tt;
    } in
    record {
      scans = subst (λ (bs : List Block). ReadsOn version header new all bs) (sym none) reads;
      grows = none ∙ sym (no_blocks stream (faults.Short 0) (short_given stream h.few));
      can = tt;
    }

pub header_advances : (scan new : TraceScan) (stream piece : List ℕ) → 0 < length piece → scan.head ≡ heads.Due → new ≡ header_longer scan (slice_index piece 0) → Scans scan stream → Advances new stream (take 1 piece) Nothing
header_advances scan new stream piece some is moved scans =
    subst (λ (x : TraceScan). Advances x stream (take 1 piece) Nothing) (sym moved)
    (subst (λ (x : List ℕ). Advances (header_longer scan (slice_index piece 0)) stream x Nothing) (sym (take_more piece 0 0 some)) (by_length (slice_index piece 0)))
  where
    h : ReadsHeader scan stream
    h = subst (λ (x : Head). ScansBy x scan stream) is scans

    by_length : (byte : ℕ) → Advances (header_longer scan byte) stream (byte ∷ []) Nothing
    by_length byte =
        let w = scan.prefix ++ byte ∷ [] in
        let part : w ≡ stream ++ byte ∷ [] = ap (λ (x : List ℕ). x ++ byte ∷ []) h.part in
        elim (cases_Bool (eqb (length w) 32)) [
          | inl e ↦
              let whole : length (stream ++ byte ∷ []) ≡ 32 = ap length (sym part) ∙ eqb-true (length w) 32 e in
              rw e (header_done scan stream byte (header_on w) h.stage h whole (ap header_on (sym part)))
          | inr e ↦
              let few : length w < 32 = omega (arith, eqb-false (length w) 32 e, ap length h.part, h.few, length-append scan.prefix (byte ∷ [])) in
              rw e (header_waits scan stream byte is h few)
        ]

-- after a fault of the header
pub refused_advances : (scan : TraceScan) (stream piece : List ℕ) (fault : TraceFault) → scan.head ≡ heads.Refused fault → Scans scan stream → Advances scan stream piece Nothing
refused_advances scan stream piece fault is scans =
    let h : ReadsNothing fault stream = subst (λ (x : Head). ScansBy x scan stream) is scans in
    let before : header_on stream ≡ Err fault = ap header_on (sym (append-nil stream)) ∙ h.refused [] in
    record {
      scans = subst (λ (x : Head). ScansBy x scan (stream ++ piece)) (sym is) (record { refused = λ rest. ap header_on (append_assoc stream piece rest) ∙ h.refused (piece ++ rest) });
      grows = no_blocks (stream ++ piece) fault (unheaded (stream ++ piece) fault (h.refused piece)) ∙ sym (no_blocks stream fault (unheaded stream fault before));
      can = tt;
    }

-- ---- the end

-- what a stage ends in
answers_end : (header : Header) (len : ℕ) (blocks : List Block) (stage : Stage) → with_blocks (stage_answers header len stage) blocks ≡ stage_ends len header blocks stage
answers_end header len blocks Due = refl
answers_end header len blocks (Within span inside) = refl
answers_end header len blocks (Faulty span fault) = elim (cases_Bool (ltb len span.end)) [ inl e ↦ rw e refl | inr e ↦ rw e refl ]

-- where the reading of all bytes stands
last_is : (version : Version) (header : Header) (scan : TraceScan) (stream : List ℕ) → Reads version header scan stream → scanned stream ≡ at_stage (last_stage version scan) (blocks_given stream)
last_is version header scan stream h = by_prefix scan.prefix h.cut now
  where
    s : Scanned
    s = at_stage scan.stage (blocks_given stream)

    now : scanned stream ≡ scanned_on version (at_stage scan.stage (blocks_given stream)) scan.at scan.prefix
    now = ap scanned (sym (append-nil stream)) ∙ h.on [] ∙ ap (scanned_on version (at_stage scan.stage (blocks_given stream)) scan.at) (append-nil scan.prefix)

    by_prefix : (prefix : List ℕ) → (0 < length prefix → length prefix < record_length prefix) → scanned stream ≡ scanned_on version (at_stage scan.stage (blocks_given stream)) scan.at prefix
        → scanned stream ≡ at_stage (cond (eqb (length prefix) 0) scan.stage (stage_judged version scan.stage scan.at (record_length prefix) (record_in prefix)).0) (blocks_given stream)
    by_prefix [] cut is = is ∙ reads_none version (at_stage scan.stage (blocks_given stream)) scan.at
    by_prefix (b ∷ prefix) cut is =
        let w : List ℕ = b ∷ prefix in
        let some : 0 < length w = omega arith in
        let more : eqb (length w) 0 ≡ false = ne_eqb (length w) 0 (λ e. omega (arith, e)) in
        rw more (is ∙ step_cut version (at_stage scan.stage (blocks_given stream)) scan.at w some (cut some)
        ∙ ap (at_stage (stage_judged version scan.stage scan.at (record_length w) (record_in w)).0) (cut_blocks version (at_stage scan.stage (blocks_given stream)) scan.at w some (cut some)))

abbrev Ends : Head → TraceScan → List ℕ → Type 0
Ends head scan stream = with_blocks (answered_by head scan) (blocks_given stream) ≡ scanned_ends (length stream) (header_in stream) (scanned stream)

pub refused_ends : (stream : List ℕ) (fault : TraceFault) → version_read stream ≡ Err fault → Err fault ≡ scanned_ends (length stream) (header_in stream) (scanned stream)
refused_ends stream fault is =
    sym (ap (λ (o : Result Version TraceFault). scanned_ends (length stream) (header_in stream) (scanned_from o stream)) is ∙ rw (le-ltb (length stream) 0 (omega arith)) refl)

ends_by : (head : Head) (scan : TraceScan) (stream : List ℕ) → ScansBy head scan stream → Ends head scan stream
ends_by heads.Due scan stream h = refused_ends stream (faults.Short 0) (short_given stream h.few)
ends_by (heads.Refused fault) scan stream h = refused_ends stream fault (unheaded stream fault (ap header_on (sym (append-nil stream)) ∙ h.refused []))
ends_by (heads.Read version header) scan stream h =
    let known : header_in stream ≡ header = (headed stream version header (ap header_on (sym (append-nil stream)) ∙ h.opened [])).header_is in
    answers_end header (scan.at + length scan.prefix) (blocks_given stream) (last_stage version scan)
    ∙ ap (λ (n : ℕ). stage_ends n header (blocks_given stream) (last_stage version scan)) (sym h.place)
    ∙ ap (λ (x : Header). stage_ends (length stream) x (blocks_given stream) (last_stage version scan)) (sym known)
    ∙ ap (scanned_ends (length stream) (header_in stream)) (sym (last_is version header scan stream h))

pub scan_ends : (scan : TraceScan) (stream : List ℕ) → Scans scan stream → with_blocks (answered_by scan.head scan) (blocks_given stream) ≡ trace_of stream
scan_ends scan stream h = ends_by scan.head scan stream h ∙ sym (run_agrees stream)

pub never_refused : (scan : TraceScan) (stream : List ℕ) (answer : Result Header TraceFault) → Scans scan stream → answer ≡ answered_by scan.head scan → answer ≡ Err faults.NoMemory → ⊥
never_refused scan stream answer h is e =
    never_memory stream (sym (scan_ends scan stream h) ∙ ap (λ (a : Result Header TraceFault). with_blocks a (blocks_given stream)) (sym is ∙ e))
