-- A cursor after one record more, and before the first.
use Rattle.std.proofs.Common.{◌≡◌, ℕ, ◌+◌, ◌<◌, ◌≤◌, List, [], ◌∷◌, ◌++◌, length, drop, Option, Some, None, Result, Ok, Err, refl, sym, ap, ◌∙◌, append_assoc, append-nil, arith}
use Rattle.std.specs.Result.{result_unwrap_or}
use Rattle.std.proofs.lemmas.List.{drop-drop, length-drop, map-append}
use Rattle.std.proofs.lemmas.List.Concat.{flat_map-append}
use Rattle.std.proofs.Math.ListN.{drop_of_length-le}
use Rattle.xray_io.specs.declared.wall.Wall.{Wall}
use Rattle.fdr_record.specs.declared.event.Event.{Event}
use Rattle.fdr_file.specs.declared.cursor.EventCursor.{EventCursor}
use Rattle.fdr_file.specs.declared.fault.TraceFault.{TraceFault}
use Rattle.fdr_file.specs.declared.header.Header.{Header}
use Rattle.fdr_file.specs.declared.stage.Stage.{Stage}
use Rattle.fdr_file.specs.declared.stage.Stage.TheVariants.{Due}
use Rattle.fdr_file.specs.declared.stage.Told.{Told}
use Rattle.fdr_file.specs.declared.stage.Told.TheVariants.{Nothing, Begun, Noted}
use Rattle.fdr_file.specs.declared.trace.Block.{Block}
use Rattle.fdr_file.specs.declared.trace.Trace.{Trace}
use Rattle.fdr_file.specs.declared.version.Version.{Version}
use Rattle.fdr_file.specs.Places.{starts}
use Rattle.fdr_file.specs.Scanning.{empty_block, header_on, last_longer, longer_block, scanned_from, scanned_over, stage_judged, with_event, with_told}
use Rattle.fdr_file.specs.ThreadEvents.{ThreadEvent, block_events, event_given, thread_events}
use Rattle.fdr_file.specs.Traces.{record_in, record_length, trace_of}
use Rattle.fdr_file.specs.EventsLeft.{cursor_header, event_of, events_among, events_left, told_over}
use Rattle.fdr_file.specs.private.Cursor.{cursor_passed, cursor_told, event_said}
use Rattle.fdr_file.specs.Streams.{HasLast, IsOpen}
use Rattle.fdr_file.specs.private.Scan.{CanTell}
use Rattle.fdr_file.proofs.ReadingAndRecords.{given_reads, run_agrees}
use Rattle.fdr_file.proofs.ScanSteps.{headed, leads, one_has, refused_ends, unheaded}
use Rattle.fdr_file.proofs.RecordSteps.{at_stage, longer_last}
use Rattle.fdr_file.proofs.NextParts.{length_some, starts_first}

-- ---- one record more

abbrev made : ℕ → ℕ → Event → ThreadEvent
made thread pid event = record { thread = thread; pid = pid; event = event }

-- the events that the records from a cursor's place on say
abbrev events_on : EventCursor → List ThreadEvent
events_on cursor =
    events_among cursor.thread cursor.pid (told_over cursor.version cursor.stage (starts record_length 0 cursor.at (drop cursor.at cursor.bytes.now)))

pub none_pending : (cursor : EventCursor) → cursor.pending ≡ None → events_left cursor ≡ events_on cursor
none_pending cursor none = ap (λ (e : Option Event). event_of cursor.thread cursor.pid e ++ events_on cursor) none

-- what a record says before the events that are left after it
abbrev LeftBy : EventCursor → EventCursor × Told → Type 0
LeftBy cursor (new, Nothing) = events_on cursor ≡ events_on new
LeftBy cursor (new, Begun thread wall pid) = events_on cursor ≡ events_on new
LeftBy cursor (new, Noted entry event) = events_on cursor ≡ event_of new.thread new.pid entry ++ (event_of new.thread new.pid event ++ events_on new)

-- the event that then waits
abbrev PendingBy : EventCursor → EventCursor × Told → Type 0
PendingBy cursor (new, Nothing) = new.pending ≡ cursor.pending
PendingBy cursor (new, Begun thread wall pid) = new.pending ≡ cursor.pending
PendingBy cursor (new, Noted None event) = new.pending ≡ cursor.pending
PendingBy cursor (new, Noted (Some entry) event) = new.pending ≡ event

-- the places of the records that are left
left_places : (at : ℕ) (bytes : List ℕ) → at < length bytes
    → starts record_length 0 at (drop at bytes) ≡ (at, drop at bytes) ∷ starts record_length 0 (at + record_length (drop at bytes)) (drop (at + record_length (drop at bytes)) bytes)
left_places at bytes within =
    let rest = drop at bytes in
    starts_first record_length at rest (omega (arith, length-drop at bytes)) (length_some rest)
    ∙ ap (λ (x : List ℕ). (at, rest) ∷ starts record_length 0 (at + record_length rest) x) (drop-drop (record_length rest) at bytes)

left_step : (cursor : EventCursor) → cursor.at < length cursor.bytes.now → LeftBy cursor (cursor_passed cursor (drop cursor.at cursor.bytes.now))
left_step cursor within = by_told (stage_judged cursor.version cursor.stage cursor.at (record_length (drop cursor.at cursor.bytes.now)) (record_in (drop cursor.at cursor.bytes.now))).1 refl
  where
    first : events_on cursor ≡ events_among cursor.thread cursor.pid (told_over cursor.version cursor.stage ((cursor.at, drop cursor.at cursor.bytes.now)
        ∷ starts record_length 0 (cursor.at + record_length (drop cursor.at cursor.bytes.now)) (drop (cursor.at + record_length (drop cursor.at cursor.bytes.now)) cursor.bytes.now)))
    first = ap (λ (x : List (ℕ × List ℕ)). events_among cursor.thread cursor.pid (told_over cursor.version cursor.stage x)) (left_places cursor.at cursor.bytes.now within)

    by_told : (told : Told) → (stage_judged cursor.version cursor.stage cursor.at (record_length (drop cursor.at cursor.bytes.now)) (record_in (drop cursor.at cursor.bytes.now))).1 ≡ told
        → LeftBy cursor (cursor_passed cursor (drop cursor.at cursor.bytes.now))
    by_told Nothing is = rw is (first ∙ rw is refl)
    by_told (Begun thread wall pid) is = rw is (first ∙ rw is refl)
    by_told (Noted None event) is = rw is (first ∙ rw is refl)
    by_told (Noted (Some entry) event) is = rw is (first ∙ rw is refl)

pending_step : (cursor : EventCursor) → PendingBy cursor (cursor_passed cursor (drop cursor.at cursor.bytes.now))
pending_step cursor = by_told (stage_judged cursor.version cursor.stage cursor.at (record_length (drop cursor.at cursor.bytes.now)) (record_in (drop cursor.at cursor.bytes.now)))
  where
    by_told : (said : Stage × Told) → PendingBy cursor (cursor_told (record cursor { at = cursor.at + record_length (drop cursor.at cursor.bytes.now); stage = said.0 }) said.1, said.1)
    by_told (stage, Nothing) = refl
    by_told (stage, Begun thread wall pid) = refl
    by_told (stage, Noted None event) = refl
    by_told (stage, Noted (Some entry) event) = refl

-- a cursor after an event, and what is left then
given_first : (cursor after new : EventCursor) (other event : Event) (pending : Option Event) → cursor.pending ≡ None → other ≡ event → after.pending ≡ pending → new ≡ after
    → events_on cursor ≡ made after.thread after.pid other ∷ (event_of after.thread after.pid pending ++ events_on after) → events_left cursor ≡ event_given (new.thread, new.pid, event) ∷ events_left new
given_first cursor after new other event pending none same kept moved left =
    none_pending cursor none ∙ left
    ∙ ap (λ (x : Event). made after.thread after.pid x ∷ (event_of after.thread after.pid pending ++ events_on after)) same
    ∙ ap (λ (p : Option Event). made after.thread after.pid event ∷ (event_of after.thread after.pid p ++ events_on after)) (sym kept)
    ∙ ap (λ (c : EventCursor). made c.thread c.pid event ∷ events_left c) (sym moved)

-- a record that says an event, and one that says none
pub pass_some : (cursor new : EventCursor) (event : Event) → cursor.at < length cursor.bytes.now → cursor.pending ≡ None → let x = cursor_passed cursor (drop cursor.at cursor.bytes.now) in (new ≡ x.0) × (Some event ≡ event_said x.1)
    → events_left cursor ≡ event_given (new.thread, new.pid, event) ∷ events_left new
pass_some cursor new event within none (moved, said) = by_told (cursor_passed cursor (drop cursor.at cursor.bytes.now)) (left_step cursor within) (pending_step cursor) moved said
  where
    by_told : (x : EventCursor × Told) → LeftBy cursor x → PendingBy cursor x → new ≡ x.0 → Some event ≡ event_said x.1 → events_left cursor ≡ event_given (new.thread, new.pid, event) ∷ events_left new
    by_told (after, Nothing) left kept same is = absurd cc
    by_told (after, Begun thread wall pid) left kept same is = absurd cc
    by_told (after, Noted None None) left kept same is = absurd cc
    by_told (after, Noted None (Some other)) left kept same is =
        let e : other ≡ event = cc in given_first cursor after new other event None none e (kept ∙ none) same left
    by_told (after, Noted (Some other) more) left kept same is =
        let e : other ≡ event = cc in given_first cursor after new other event more none e kept same left

pub pass_none : (cursor new : EventCursor) (said : Option Event) → cursor.at < length cursor.bytes.now → cursor.pending ≡ None → let x = cursor_passed cursor (drop cursor.at cursor.bytes.now) in (new ≡ x.0) × (said ≡ event_said x.1)
    → said ≡ None → (events_left cursor ≡ events_left new) × (new.pending ≡ None)
pass_none cursor new said within none (moved, is_said) no_event = by_told (cursor_passed cursor (drop cursor.at cursor.bytes.now)) (left_step cursor within) (pending_step cursor) moved (sym no_event ∙ is_said)
  where
    stays : (after : EventCursor) → events_on cursor ≡ events_on after → after.pending ≡ cursor.pending → new ≡ after → (events_left cursor ≡ events_left new) × (new.pending ≡ None)
    stays after left kept same = (
      none_pending cursor none ∙ left ∙ sym (none_pending after (kept ∙ none)) ∙ ap events_left (sym same),
      ap (λ (c : EventCursor). c.pending) same ∙ kept ∙ none,
    )

    by_told : (x : EventCursor × Told) → LeftBy cursor x → PendingBy cursor x → new ≡ x.0 → None ≡ event_said x.1 → (events_left cursor ≡ events_left new) × (new.pending ≡ None)
    by_told (after, Nothing) left kept same is = stays after left kept same
    by_told (after, Begun thread wall pid) left kept same is = stays after left kept same
    by_told (after, Noted None None) left kept same is = stays after left kept same
    by_told (after, Noted None (Some other)) left kept same is = absurd cc
    by_told (after, Noted (Some other) more) left kept same is = absurd cc

-- no record is left
pub left_none : (cursor : EventCursor) → length cursor.bytes.now ≤ cursor.at → cursor.pending ≡ None → events_left cursor ≡ []
unfolding starts
left_none cursor end none =
    none_pending cursor none
    ∙ ap (λ (x : List ℕ). events_among cursor.thread cursor.pid (told_over cursor.version cursor.stage (starts record_length 0 cursor.at x))) (drop_of_length-le cursor.bytes.now end)

-- the header stays
pub pass_header : (cursor new : EventCursor) → new ≡ (cursor_passed cursor (drop cursor.at cursor.bytes.now)).0 → cursor_header new ≡ cursor_header cursor
pass_header cursor new moved =
    ap cursor_header moved ∙ by_told (stage_judged cursor.version cursor.stage cursor.at (record_length (drop cursor.at cursor.bytes.now)) (record_in (drop cursor.at cursor.bytes.now)))
  where
    by_told : (said : Stage × Told) → cursor_header (cursor_told (record cursor { at = cursor.at + record_length (drop cursor.at cursor.bytes.now); stage = said.0 }) said.1) ≡ cursor_header cursor
    by_told (stage, Nothing) = refl
    by_told (stage, Begun thread wall pid) = refl
    by_told (stage, Noted None event) = refl
    by_told (stage, Noted (Some entry) event) = refl

pub pass_bytes : (cursor new : EventCursor) → new ≡ (cursor_passed cursor (drop cursor.at cursor.bytes.now)).0 → new.bytes.now ≡ cursor.bytes.now
pass_bytes cursor new moved =
    ap (λ (x : EventCursor). x.bytes.now) moved ∙ by_told (stage_judged cursor.version cursor.stage cursor.at (record_length (drop cursor.at cursor.bytes.now)) (record_in (drop cursor.at cursor.bytes.now)))
  where
    by_told : (said : Stage × Told) → (cursor_told (record cursor { at = cursor.at + record_length (drop cursor.at cursor.bytes.now); stage = said.0 }) said.1).bytes.now ≡ cursor.bytes.now
    by_told (stage, Nothing) = refl
    by_told (stage, Begun thread wall pid) = refl
    by_told (stage, Noted None event) = refl
    by_told (stage, Noted (Some entry) event) = refl

-- ---- all records

-- the thread and the process of the last block
abbrev last_named : List Block → ℕ × ℕ
last_named [] = (0, 0)
last_named (block ∷ []) = (block.thread, block.pid)
last_named (block ∷ other ∷ blocks) = last_named (other ∷ blocks)

named_last : (blocks : List Block) (last : Block) → last_named (blocks ++ last ∷ []) ≡ (last.thread, last.pid)
named_last [] last = refl
named_last (block ∷ []) last = refl
named_last (block ∷ other ∷ blocks) last = named_last (other ∷ blocks) last

events_last : (blocks : List Block) (last : Block) → thread_events (blocks ++ last ∷ []) ≡ thread_events blocks ++ block_events last
events_last blocks last = flat_map-append block_events blocks (last ∷ []) ∙ ap (λ (xs : List ThreadEvent). thread_events blocks ++ xs) (append-nil (block_events last))

-- what is said after these blocks
abbrev After : List Block → List Told → List ThreadEvent
After blocks told = thread_events blocks ++ events_among (last_named blocks).0 (last_named blocks).1 told

after_begun : (blocks : List Block) (thread : ℕ) (wall : Wall) (pid : ℕ) (told : List Told) → After blocks (Begun thread wall pid ∷ told) ≡ After (blocks ++ empty_block thread wall pid ∷ []) told
after_begun blocks thread wall pid told =
    let block = empty_block thread wall pid in
    ap (λ (xs : List ThreadEvent). xs ++ events_among thread pid told) (sym (events_last blocks block ∙ append-nil (thread_events blocks)))
    ∙ ap (λ (n : ℕ × ℕ). thread_events (blocks ++ block ∷ []) ++ events_among n.0 n.1 told) (sym (named_last blocks block))

-- one event more of the last block, and what comes after it
after_event : (blocks : List Block) (event : Option Event) (later : ℕ → ℕ → List ThreadEvent) → HasLast blocks
    → (let n = last_named blocks in thread_events blocks ++ (event_of n.0 n.1 event ++ later n.0 n.1)) ≡ (let bs = with_event event blocks in let n = last_named bs in thread_events bs ++ later n.0 n.1)
after_event blocks None later has = refl
after_event blocks (Some event) later has =
    let front = has.front in
    let last = has.last in
    let longer = longer_block last event in
    let all : List ThreadEvent = block_events last in
    let one = made last.thread last.pid event in
    let rest = later last.thread last.pid in
    ap (λ (bs : List Block). let n = last_named bs in thread_events bs ++ made n.0 n.1 event ∷ later n.0 n.1) has.is
    ∙ ap (λ (n : ℕ × ℕ). thread_events (front ++ last ∷ []) ++ made n.0 n.1 event ∷ later n.0 n.1) (named_last front last)
    ∙ sym (append_assoc (thread_events (front ++ last ∷ [])) (one ∷ []) rest)
    ∙ ap (λ (xs : List ThreadEvent). (xs ++ one ∷ []) ++ rest) (events_last front last)
    ∙ ap (λ (xs : List ThreadEvent). xs ++ rest) (append_assoc (thread_events front) all (one ∷ [])
    ∙ ap (λ (xs : List ThreadEvent). thread_events front ++ xs) (sym (map-append (made last.thread last.pid) last.events (event ∷ [])))
    ∙ sym (events_last front longer))
    ∙ ap (λ (n : ℕ × ℕ). thread_events (front ++ longer ∷ []) ++ later n.0 n.1) (sym (named_last front longer))
    ∙ ap (λ (bs : List Block). let n = last_named bs in thread_events bs ++ later n.0 n.1) (sym (ap (last_longer event) has.is ∙ longer_last event front last))

after_noted : (blocks : List Block) (entry event : Option Event) (told : List Told) → HasLast blocks → After blocks (Noted entry event ∷ told) ≡ After (with_told (Noted entry event) blocks) told
after_noted blocks entry event told has =
    after_event blocks entry (λ thread pid. event_of thread pid event ++ events_among thread pid told) has
    ∙ after_event (with_event entry blocks) event (λ thread pid. events_among thread pid told) (one_has entry blocks has)

-- one record more
abbrev Told_of : Version → Stage → List Block → List (ℕ × List ℕ) → List ThreadEvent
Told_of version stage blocks places = thread_events (scanned_over version (at_stage stage blocks) places).blocks

after_step : (blocks : List Block) (told : Told) (later : List Told) (all : List ThreadEvent) → CanTell told blocks → all ≡ After (with_told told blocks) later → all ≡ After blocks (told ∷ later)
after_step blocks Nothing later all can is = is
after_step blocks (Begun thread wall pid) later all can is = is ∙ sym (after_begun blocks thread wall pid later)
after_step blocks (Noted entry event) later all can is = is ∙ sym (after_noted blocks entry event later can)

-- the events of the blocks that records say
events_run : (version : Version) (stage : Stage) (blocks : List Block) (places : List (ℕ × List ℕ)) → IsOpen stage blocks → Told_of version stage blocks places ≡ After blocks (told_over version stage places)
unfolding scanned_over
events_run version stage blocks [] begun = sym (append-nil (thread_events blocks))
events_run version stage blocks ((at, bytes) ∷ places) begun =
    let said = stage_judged version stage at (record_length bytes) (record_in bytes) in
    let led = leads version stage at (record_length bytes) (record_in bytes) blocks begun in
    after_step blocks said.1 (told_over version said.0 places) (Told_of version said.0 (with_told said.1 blocks) places) led.0 (events_run version said.0 (with_told said.1 blocks) places led.1)

-- before the first event of a trace
pub new_events : (bytes : List ℕ) (answer : Result (Version × Header) TraceFault) (otherwise found : Version × Header) (trace : Trace) → answer ≡ header_on bytes → found ≡ result_unwrap_or answer otherwise → trace_of bytes ≡ Ok trace
    → events_among 0 0 (told_over found.0 Due (starts record_length 0 32 (drop 32 bytes))) ≡ thread_events trace.blocks
new_events bytes answer otherwise found trace read is reads = by_header (header_on bytes) refl
  where
    by_header : (a : Result (Version × Header) TraceFault) → header_on bytes ≡ a → events_among 0 0 (told_over found.0 Due (starts record_length 0 32 (drop 32 bytes))) ≡ thread_events trace.blocks
    by_header (Err f) e =
        let refused = refused_ends bytes f (unheaded bytes f e) ∙ sym (run_agrees bytes) ∙ reads in
        absurd cc
    by_header (Ok (version, header)) e =
        let same : found ≡ (version, header) = is ∙ ap (λ (a : Result (Version × Header) TraceFault). result_unwrap_or a otherwise) (read ∙ e) in
        ap (λ (x : Version × Header). events_among 0 0 (told_over x.0 Due (starts record_length 0 32 (drop 32 bytes)))) same
        ∙ sym (events_run version Due [] (starts record_length 0 32 (drop 32 bytes)) tt)
        ∙ sym (ap (λ (o : Result Version TraceFault). thread_events (scanned_from o bytes).blocks) (headed bytes version header e).version_is)
        ∙ ap thread_events (given_reads bytes trace reads)
