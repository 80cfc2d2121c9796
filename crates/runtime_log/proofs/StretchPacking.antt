-- A stretch that is added to the file of a trace: the records of its events are those that were read.
use Rattle.std.proofs.Common.{◌≡◌, ℕ, zero, suc, ◌+◌, ◌-◌, ◌*◌, ◌/◌, ◌%◌, ◌^◌, ◌<◌, ◌≤◌, Bool, true, false, cond, eqb, ltb, List, [], ◌∷◌, ◌++◌, length, drop, map, take, slice_index, Option, Some, None, refl, sym, ap, subst, ◌∙◌, append_assoc, append-nil, eq-eqb, le-leb, lit<, arith}
use Rattle.std.specs.Prelude.{All, IsTrue, min, max}
use Rattle.std.specs.Option.{option_map_or}
use Rattle.std.proofs.lemmas.Bool.{leb-true}
use Rattle.std.proofs.lemmas.Bool.Decides.{nat_tests}
use Rattle.std.proofs.lemmas.List.{length-append, length-drop, map-append}
use Rattle.std.proofs.lemmas.List.Concat.{flat_map-append, flat_map-cons}
use Rattle.std.proofs.lemmas.List.Elements.{All-drop, All-from_recursion, All-push, All-tail}
use Rattle.byteorder.specs.Endian.{little_bytes, little_from, little_number}
use Rattle.fdr_record.specs.declared.event.Event.{Event}
use Rattle.fdr_record.specs.declared.event.Kind.{Kind}
use Rattle.fdr_record.specs.declared.event.Kind.TheVariants.{Entry, Exit, TailExit}
use Rattle.fdr_record.specs.declared.rec.Rec.{Rec}
use Rattle.fdr_record.specs.declared.rec.Rec.TheVariants.{Function}
use Rattle.fdr_record.specs.Recordable.{ArgFits}
use Rattle.fdr_record.specs.Records.{action_of, head_of, record_bytes}
use Rattle.fdr_buffer.specs.declared.buffer.TheConstants.{LARGEST_SIZE}
use Rattle.fdr_buffer.specs.Filled.{Filled}
use Rattle.fdr_buffer.specs.Segments.{EventFits, GoesOn, arg_records, bytes_of, has_room, is_out_of_reach, records_after, records_of, segment_bytes, segments}
use Rattle.fdr_file.specs.ThreadEvents.{ThreadEvent}
use Rattle.fdr_file.specs.Traces.{logs_arg}
use Rattle.runtime_log.specs.declared.blocks.BlockEvents.{BlockEvents}
use Rattle.runtime_log.specs.declared.blocks.Head.{Head}
use Rattle.runtime_log.specs.declared.notes.LastEvent.{LastEvent}
use Rattle.runtime_log.specs.declared.notes.Notes.{Notes}
use Rattle.runtime_log.specs.declared.packing.Packing.{Packing}
use Rattle.runtime_log.specs.declared.stretch.Stretch.{Stretch}
use Rattle.runtime_log.specs.Facts.{greatest_of, least_of}
use Rattle.runtime_log.specs.private.Coming.{events_to_come}
use Rattle.runtime_log.specs.private.Notes.{EndsWith, HasNoted, NotesCounter, SameLog, last_event, noted_to}
use Rattle.runtime_log.specs.private.Packings.{Adds, Fills}
use Rattle.runtime_log.specs.private.Stretches.{AreStretch, IsPlain, SaysStretch, action_in, counter_in, event_in, kind_in, last_counter, stretch_events}
use Rattle.runtime_log.proofs.AddedBlocks.{event_of, said_again}
use Rattle.runtime_log.proofs.NotedEvents.{counting, noted_more}
use Rattle.runtime_log.proofs.RecordFits.{AreBytes, byte_below, number_below}
use Rattle.runtime_log.proofs.Stretches.{kind_by, no_argument, record_of}

-- ---- the bytes of one record

abbrev no_bytes : List ℕ
no_bytes = []

take_none : (m : ℕ) → take m no_bytes ≡ no_bytes
take_none zero = refl
take_none (suc m) = refl

take_split : (n m : ℕ) (xs : List ℕ) → take (n + m) xs ≡ take n xs ++ take m (drop n xs)
take_split zero m xs = let e : 0 + m ≡ m = omega arith in ap (λ (k : ℕ). take k xs) e
take_split (suc n) m [] = take_none (suc n + m) ∙ sym (take_none m)
take_split (suc n) m (x ∷ xs) =
    let e : suc n + m ≡ suc (n + m) = omega arith in
    ap (λ (k : ℕ). take k (x ∷ xs)) e ∙ ap (λ (ys : List ℕ). x ∷ ys) (take_split n m xs)

four_same : (a b c d e f g h : ℕ) → a ≡ e → b ≡ f → c ≡ g → d ≡ h → a ∷ b ∷ c ∷ d ∷ [] ≡ e ∷ f ∷ g ∷ h ∷ []
four_same a b c d e f g h p q r s = rw (p, q, r, s) refl

-- the bytes of a number that was read of bytes
four_back : (bytes : List ℕ) → 4 ≤ length bytes → AreBytes bytes → little_bytes 4 (little_number 4 bytes) ≡ take 4 bytes
four_back [] whole all = absurd (omega arith)
four_back (a ∷ []) whole all = absurd (omega arith)
four_back (a ∷ b ∷ []) whole all = absurd (omega arith)
four_back (a ∷ b ∷ c ∷ []) whole all = absurd (omega arith)
four_back (a ∷ b ∷ c ∷ d ∷ rest) whole all =
    let bytes = a ∷ b ∷ c ∷ d ∷ rest in
    let first : a < 256 = byte_below bytes all 0 in
    let second : b < 256 = byte_below bytes all 1 in
    let third : c < 256 = byte_below bytes all 2 in
    let fourth : d < 256 = byte_below bytes all 3 in
    four_same _ _ _ _ a b c d (omega arith) (omega arith) (omega arith) (omega arith)

action_back : (action : ℕ) → action ≤ 2 → action_of (kind_by action) ≡ action
action_back zero few = refl
action_back (suc zero) few = refl
action_back (suc (suc zero)) few = refl
action_back (suc (suc (suc n))) few = absurd (omega arith)

function_bytes : (kind : Kind) (func delta : ℕ) → record_bytes (Function kind func delta) ≡ little_bytes 4 (head_of kind func) ++ little_bytes 4 delta
function_bytes kind func delta = refl

head_back : (bytes : List ℕ) → slice_index bytes 0 % 2 ≡ 0 → action_in bytes ≤ 2 → head_of (kind_in bytes) (little_number 4 bytes / 16) ≡ little_number 4 bytes
head_back bytes even few =
    let whole : little_number 4 bytes ≡ slice_index bytes 0 + 256 * little_from 1 3 bytes = refl in
    omega (arith, whole, even, action_back (action_in bytes) few)

-- the record of the event that a function record of a stretch says is this record
plain_bytes : (tsc : ℕ) (bytes : List ℕ) → AreBytes bytes → IsPlain tsc bytes → record_bytes (record_of bytes) ≡ take 8 bytes
plain_bytes tsc bytes all plain =
    let delta = little_bytes 4 (little_number 4 (drop 4 bytes)) in
    function_bytes (kind_in bytes) (little_number 4 bytes / 16) (little_number 4 (drop 4 bytes))
    ∙ ap (λ (n : ℕ). little_bytes 4 n ++ delta) (head_back bytes plain.function plain.action)
    ∙ ap (λ (xs : List ℕ). xs ++ delta) (four_back bytes (omega (arith, plain.whole)) all)
    ∙ ap (λ (xs : List ℕ). take 4 bytes ++ xs) (four_back (drop 4 bytes) (omega (arith, plain.whole, length-drop 4 bytes)) (All-drop (λ b. b < 256) 4 bytes all))
    ∙ sym (take_split 4 4 bytes)

-- ---- the records of events, each after the event before it

-- the last of events, or an event before them
abbrev last_after : Event → List Event → Event
last_after before [] = before
last_after before (event ∷ events) = last_after event events

last_push : (before : Event) (events : List Event) (event : Event) → last_after before (events ++ event ∷ []) ≡ event
last_push before [] event = refl
last_push before (next ∷ events) event = last_push next events event

records_push : (before : Event) (events : List Event) (event : Event)
    → records_after (Some before) (events ++ event ∷ []) ≡ records_after (Some before) events ++ records_of (Some (last_after before events)) event
records_push before [] event = append-nil (records_of (Some before) event)
records_push before (next ∷ events) event =
    ap (λ (rs : List Rec). records_of (Some before) next ++ rs) (records_push next events event)
    ∙ sym (append_assoc (records_of (Some before) next) (records_after (Some next) events) (records_of (Some (last_after next events)) event))

-- the records of events, and of more after one of them
records_join : (before : Option Event) (earlier : List Event) (last : Event) (more : List Event)
    → records_after before ((earlier ++ last ∷ []) ++ more) ≡ records_after before (earlier ++ last ∷ []) ++ records_after (Some last) more
records_join before [] last more = ap (λ (rs : List Rec). rs ++ records_after (Some last) more) (sym (append-nil (records_of before last)))
records_join before (event ∷ earlier) last more =
    ap (λ (rs : List Rec). records_of before event ++ rs) (records_join (Some event) earlier last more)
    ∙ sym (append_assoc (records_of before event) (records_after (Some event) (earlier ++ last ∷ [])) (records_after (Some last) more))

-- the event before the next record of a stretch
ends_at : (n : ℕ) (after : Event) (bytes : List ℕ) → let last = last_after after (stretch_events n after.cpu after.tsc bytes) in (last.cpu ≡ after.cpu) × (last.tsc ≡ last_counter n after.tsc bytes)
ends_at zero after bytes = (refl, refl)
ends_at (suc n) after bytes =
    let is = last_push after (stretch_events n after.cpu after.tsc bytes) (event_in after.cpu (last_counter (suc n) after.tsc bytes) (drop (n * 8) bytes)) in
    (ap (λ (e : Event). e.cpu) is, ap (λ (e : Event). e.tsc) is)

in_reach : (before tsc delta : ℕ) → tsc ≡ before + delta → delta < 2 ^ 32 → is_out_of_reach before tsc ≡ false
in_reach before tsc delta is few =
    let low : ltb tsc before ≡ false = grind (arith, nat_tests) in
    let high : ltb (before + (2 ^ 32 - 1)) tsc ≡ false = grind (arith, nat_tests) in
    rw (low, high) refl

no_argument_records : (a b : Bool) → arg_records (cond a Entry (cond b Exit TailExit)) 0 ≡ []
no_argument_records true b = refl
no_argument_records false true = refl
no_argument_records false false = refl

one_record : (before : Event) (cpu tsc : ℕ) (bytes : List ℕ) → before.cpu ≡ cpu → before.tsc ≡ tsc → AreBytes bytes → IsPlain tsc bytes
    → bytes_of (records_of (Some before) (event_in cpu (counter_in tsc bytes) bytes)) ≡ take 8 bytes
one_record before cpu tsc bytes cpu_is tsc_is all plain =
    let delta = little_number 4 (drop 4 bytes) in
    let few : delta < 2 ^ 32 = omega (arith, number_below 4 4 bytes all) in
    let same = eq-eqb before.cpu cpu cpu_is in
    let near = in_reach before.tsc (counter_in tsc bytes) delta (omega (arith, tsc_is)) few in
    let by : counter_in tsc bytes - before.tsc ≡ delta = omega (arith, tsc_is) in
    let none = no_argument_records (eqb (action_in bytes) 0) (eqb (action_in bytes) 1) in
    rw (same, near, by, none) (flat_map-cons record_bytes (record_of bytes) [] ∙ append-nil (record_bytes (record_of bytes)) ∙ plain_bytes tsc bytes all plain)

-- the records of the events of a stretch are its bytes
stretch_records : (n : ℕ) (after : Event) (bytes : List ℕ) → AreBytes bytes → AreStretch n after.tsc bytes
    → bytes_of (records_after (Some after) (stretch_events n after.cpu after.tsc bytes)) ≡ take (n * 8) bytes
stretch_records zero after bytes all are = refl
stretch_records (suc n) after bytes all are =
    let es = stretch_events n after.cpu after.tsc bytes in
    let rest = drop (n * 8) bytes in
    let e = event_in after.cpu (last_counter (suc n) after.tsc bytes) rest in
    let last = last_after after es in
    let at = ends_at n after bytes in
    let more : n * 8 + 8 ≡ suc n * 8 = omega arith in
    ap bytes_of (records_push after es e)
    ∙ flat_map-append record_bytes (records_after (Some after) es) (records_of (Some last) e)
    ∙ ap (λ (xs : List ℕ). xs ++ bytes_of (records_of (Some last) e)) (stretch_records n after bytes all are.0)
    ∙ ap (λ (xs : List ℕ). take (n * 8) bytes ++ xs) (one_record last after.cpu (last_counter n after.tsc bytes) rest at.0 at.1 (All-drop (λ b. b < 256) (n * 8) bytes all) are.1)
    ∙ sym (take_split (n * 8) 8 bytes)
    ∙ ap (λ (k : ℕ). take k bytes) more

no_argument_fits : (a b : Bool) → ArgFits (cond a Entry (cond b Exit TailExit)) 0
no_argument_fits true b = refl
no_argument_fits false true = refl
no_argument_fits false false = refl

stretch_fit : (n cpu tsc : ℕ) (bytes : List ℕ) → cpu < 2 ^ 16 → AreBytes bytes → AreStretch n tsc bytes → All EventFits (stretch_events n cpu tsc bytes)
stretch_fit zero cpu tsc bytes few all are = All-from_recursion EventFits [] tt
stretch_fit (suc n) cpu tsc bytes few all are =
    let rest = drop (n * 8) bytes in
    let below = number_below 0 4 rest (All-drop (λ b. b < 256) (n * 8) bytes all) in
    All-push EventFits (stretch_events n cpu tsc bytes) (event_in cpu (last_counter (suc n) tsc bytes) rest) (stretch_fit n cpu tsc bytes few all are.0) (record {
      cpu = few;
      func = omega (arith, below);
      tsc = are.1.counter;
      arg = lit< tt;
      logged = no_argument_fits (eqb (action_in rest) 0) (eqb (action_in rest) 1);
    })

pub stretch_count : (n cpu tsc : ℕ) (bytes : List ℕ) → length (stretch_events n cpu tsc bytes) ≡ n
stretch_count zero cpu tsc bytes = refl
stretch_count (suc n) cpu tsc bytes =
    omega (arith, length-append (stretch_events n cpu tsc bytes) (event_in cpu (last_counter (suc n) tsc bytes) (drop (n * 8) bytes) ∷ []), stretch_count n cpu tsc bytes)

-- a segment that ends with an event goes on with the stretch that is after it
pub stretch_goes_on : (opened : List Event) (after : Event) (stretch : Stretch) (bytes : List ℕ) (events left : List Event) → (earlier : List Event) × (opened ≡ earlier ++ after ∷ [])
    → SaysStretch after stretch bytes events left
    → GoesOn opened stretch.records.now stretch.count stretch.last (stretch_events stretch.count after.cpu after.tsc bytes)
stretch_goes_on opened after stretch bytes events left (earlier, ends) says =
    let n = stretch.count in
    let more = stretch_events n after.cpu after.tsc bytes in
    let is = says.is in
    let one : n ≡ suc (n - 1) = omega (arith, is.some) in
    let rest = drop ((n - 1) * 8) bytes in
    record {
      bytes =
          ap (λ (es : List Event). segment_bytes (es ++ more)) ends
          ∙ ap bytes_of (records_join None earlier after more)
          ∙ flat_map-append record_bytes (records_after None (earlier ++ after ∷ [])) (records_after (Some after) more)
          ∙ ap (λ (es : List Event). segment_bytes es ++ bytes_of (records_after (Some after) more)) (sym ends)
          ∙ ap (λ (xs : List ℕ). segment_bytes opened ++ xs) (stretch_records n after bytes says.fit.0 is.are ∙ sym is.records);
      count_is = stretch_count n after.cpu after.tsc bytes;
      earlier = stretch_events (n - 1) after.cpu after.tsc bytes;
      parts =
          ap (λ (k : ℕ). stretch_events k after.cpu after.tsc bytes) one
          ∙ ap (λ (k : ℕ). stretch_events (n - 1) after.cpu after.tsc bytes ++ event_in after.cpu (last_counter k after.tsc bytes) rest ∷ []) (sym one)
          ∙ ap (λ (e : Event). stretch_events (n - 1) after.cpu after.tsc bytes ++ e ∷ []) (sym is.last);
      fit = stretch_fit n after.cpu after.tsc bytes says.fit.1 says.fit.0 is.are;
    }

-- ---- the segments of a block

-- events that have room have it without the last of them
records_more : (before : Option Event) (events more : List Event) → (rest : List Rec) × (records_after before (events ++ more) ≡ records_after before events ++ rest)
records_more before [] more = (records_after before more, refl)
records_more before (event ∷ events) more =
    let r = records_more (Some event) events more in (
      r.0,
      ap (λ (rs : List Rec). records_of before event ++ rs) r.1 ∙ sym (append_assoc (records_of before event) (records_after (Some event) events) r.0),
    )

room_without : (size : ℕ) (events more : List Event) → has_room size (events ++ more) ≡ true → has_room size events ≡ true
room_without size events more room =
    let r = records_more None events more in
    let bytes : segment_bytes (events ++ more) ≡ segment_bytes events ++ bytes_of r.0 = ap bytes_of r.1 ∙ flat_map-append record_bytes (records_after None events) r.0 in
    le-leb _ _ (omega (arith, leb-true _ _ room, ap length bytes, length-append (segment_bytes events) (bytes_of r.0)))

-- how segments grow by an event that has room
abbrev Joins : Type 0
Joins = (size : ℕ) (events opened : List Event) (whole : List (List Event)) (event : Event) → segments size events ≡ whole ++ opened ∷ []
    → IsTrue (has_room size (opened ++ event ∷ [])) → segments size (events ++ event ∷ []) ≡ whole ++ (opened ++ event ∷ []) ∷ []

segments_join : (size : ℕ) (events opened : List Event) (whole : List (List Event)) (more : List Event) → Joins → segments size events ≡ whole ++ opened ∷ []
    → has_room size (opened ++ more) ≡ true → segments size (events ++ more) ≡ whole ++ (opened ++ more) ∷ []
segments_join size events opened whole [] joins cut room =
    ap (segments size) (append-nil events) ∙ cut ∙ ap (λ (es : List Event). whole ++ es ∷ []) (sym (append-nil opened))
segments_join size events opened whole (event ∷ more) joins cut room =
    let assoc : (opened ++ event ∷ []) ++ more ≡ opened ++ event ∷ more = append_assoc opened (event ∷ []) more in
    let room' : has_room size ((opened ++ event ∷ []) ++ more) ≡ true = ap (has_room size) assoc ∙ room in
    ap (segments size) (sym (append_assoc events (event ∷ []) more))
    ∙ segments_join size (events ++ event ∷ []) (opened ++ event ∷ []) whole more joins (joins size events opened whole event cut (room_without size (opened ++ event ∷ []) more room')) room'
    ∙ ap (λ (es : List Event). whole ++ es ∷ []) assoc

fills_stretch : (head : Head) (file : List ℕ) (events more : List Event) (old new : Packing) → Joins → Fills head file events old → has_room old.buffer.size (old.buffer.events ++ more) ≡ true
    → new.file ≡ old.file → new.buffer ≡ record old.buffer { events = old.buffer.events ++ more } → Fills head file (events ++ more) new
fills_stretch head file events more old new joins f room kept buffer =
    let wide = subst (λ (b : Filled). has_room b.size (b.events ++ more) ≡ true) f.buffer room in
    record {
      whole = f.whole;
      opened = f.opened ++ more;
      cut = segments_join LARGEST_SIZE events f.opened f.whole more joins f.cut wide;
      written = ap (λ v. v.items) kept ∙ f.written;
      buffer = buffer ∙ ap (λ (b : Filled). let x : Filled = record b { events = b.events ++ more } in x) f.buffer;
    }

-- ---- what is noted of a stretch

-- the least counter is no more than the last, and the greatest no less
first_low : (events : List ThreadEvent) (l : LastEvent) → last_event events ≡ Some l → (m : ℕ) × (least_of (map (λ (e : ThreadEvent). e.event.tsc) events) ≡ Some m) × (m ≤ l.tsc)
first_low [] l is = absurd cc
first_low (e ∷ []) l is =
    let same : record { thread = e.thread; tsc = e.event.tsc } ≡ l = cc in
    let counter : e.event.tsc ≡ l.tsc = ap (λ (x : LastEvent). x.tsc) same in
    (e.event.tsc, refl, omega arith)
first_low (e ∷ next ∷ events) l is =
    let r = first_low (next ∷ events) l is in
    let low : min e.event.tsc r.0 ≤ l.tsc = omega (arith, r.2) in
    (min e.event.tsc r.0, ap (λ (o : Option ℕ). let x : Option ℕ = Some (option_map_or (min e.event.tsc) o e.event.tsc) in x) r.1, low)

last_high : (events : List ThreadEvent) (l : LastEvent) → last_event events ≡ Some l → (m : ℕ) × (greatest_of (map (λ (e : ThreadEvent). e.event.tsc) events) ≡ Some m) × (l.tsc ≤ m)
last_high [] l is = absurd cc
last_high (e ∷ []) l is =
    let same : record { thread = e.thread; tsc = e.event.tsc } ≡ l = cc in
    let counter : e.event.tsc ≡ l.tsc = ap (λ (x : LastEvent). x.tsc) same in
    (e.event.tsc, refl, omega arith)
last_high (e ∷ next ∷ events) l is =
    let r = last_high (next ∷ events) l is in
    let high : l.tsc ≤ max e.event.tsc r.0 = omega (arith, r.2) in
    (max e.event.tsc r.0, ap (λ (o : Option ℕ). let x : Option ℕ = Some (option_map_or (max e.event.tsc) o e.event.tsc) in x) r.1, high)

counter_up : (n tsc : ℕ) (bytes : List ℕ) → tsc ≤ last_counter n tsc bytes
counter_up zero tsc bytes = omega arith
counter_up (suc n) tsc bytes = omega (arith, counter_up n tsc bytes)

-- one more event whose counter doesn't fall
rises : (old : Notes) (thread n t next m : ℕ) → old.facts.first ≡ Some m → m ≤ next → t ≤ next → NotesCounter (counting (noted_to old thread n t) 0) thread next (noted_to old thread (suc n) next)
rises old thread n t next m first low up =
    let same = eq-eqb thread thread refl in
    let flat : ltb next t ≡ false = grind (arith, nat_tests) in
    let least : m ≡ min m next = omega arith in
    record {
      threads = rw same (omega arith);
      back = rw (same, flat) (omega arith);
      fallen = rw (same, flat) refl;
      first =
          first ∙ ap (λ (k : ℕ). let x : Option ℕ = Some k in x) least
          ∙ sym (ap (λ (o : Option ℕ). let x : Option ℕ = Some (option_map_or (λ k. min k next) o next) in x) first);
      last = by_last old.facts.last;
      ends = refl;
      events = omega arith;
      arguments = omega arith;
      log = record { blocks = refl; custom = refl; typed = refl; doubled = refl; empty = refl; lost = refl; cut = refl; frequency = refl };
    }
  where
    by_last : (o : Option ℕ) → Some (option_map_or (λ k. max k next) o next) ≡ Some (max (option_map_or (λ k. max k t) o t) next)
    by_last None = let e : next ≡ max t next = omega arith in ap (λ (k : ℕ). let x : Option ℕ = Some k in x) e
    by_last (Some k) = let e : max k next ≡ max (max k t) next = omega arith in ap (λ (k : ℕ). let x : Option ℕ = Some k in x) e

stretch_noted : (n thread pid cpu tsc : ℕ) (bytes : List ℕ) (before : List ThreadEvent) (old : Notes) → HasNoted before old → EndsWith old thread tsc
    → HasNoted (before ++ map (event_of thread pid) (stretch_events n cpu tsc bytes)) (noted_to old thread n (last_counter n tsc bytes))
stretch_noted zero thread pid cpu tsc bytes before old has ends =
    let last : LastEvent = record { thread = thread; tsc = tsc } in
    let high = last_high before last (sym has.ends ∙ ends) in
    let same : max high.0 tsc ≡ high.0 = omega (arith, high.2) in
    let none : old.facts.events + 0 ≡ old.facts.events = omega arith in
    subst (λ (es : List ThreadEvent). HasNoted es (noted_to old thread 0 tsc)) (sym (append-nil before)) (record {
      count = none ∙ has.count;
      arguments = has.arguments;
      threads = has.threads;
      first = has.first;
      last =
          ap (λ (o : Option ℕ). let x : Option ℕ = Some (option_map_or (λ k. max k tsc) o tsc) in x) (has.last ∙ high.1)
          ∙ ap (λ (k : ℕ). let x : Option ℕ = Some k in x) same ∙ sym high.1;
      back = has.back;
      ends = sym ends ∙ has.ends;
      fallen = has.fallen;
    })
stretch_noted (suc n) thread pid cpu tsc bytes before old has ends =
    let es = stretch_events n cpu tsc bytes in
    let rest = drop (n * 8) bytes in
    let t = last_counter n tsc bytes in
    let next = last_counter (suc n) tsc bytes in
    let e = event_in cpu next rest in
    let one = event_of thread pid in
    let low = first_low before (record { thread = thread; tsc = tsc }) (sym has.ends ∙ ends) in
    let split : (before ++ map one es) ++ one e ∷ [] ≡ before ++ map one (es ++ e ∷ []) =
    append_assoc before (map one es) (one e ∷ []) ∙ ap (λ (xs : List ThreadEvent). before ++ xs) (sym (map-append one es (e ∷ []))) in
    let least : low.0 ≤ next = omega (arith, low.2, counter_up n tsc bytes) in
    let up : t ≤ next = omega arith in
    let args : 0 ≡ (let x : ℕ = cond (logs_arg e.kind) 1 0 in x) = sym (ap (λ (b : Bool). let x : ℕ = cond b 1 0 in x) (no_argument rest)) in
    subst (λ (xs : List ThreadEvent). HasNoted xs (noted_to old thread (suc n) next)) split
    (noted_more (before ++ map one es) (one e) (noted_to old thread n t) (noted_to old thread (suc n) next) 0 (stretch_noted n thread pid cpu tsc bytes before old has ends) args
    (rises old thread n t next low.0 (has.first ∙ low.1) least up))

-- ---- a stretch of a block

-- the counter at the last record of a stretch
last_tsc : (after : Event) (stretch : Stretch) (bytes : List ℕ) (events left : List Event) → SaysStretch after stretch bytes events left → stretch.last.tsc ≡ last_counter stretch.count after.tsc bytes
last_tsc after stretch bytes events left says = ap (λ (e : Event). e.tsc) says.is.last

pub adds_stretch : (head : Head) (first mid new : Packing) (all left rest : BlockEvents) (after : Event) (stretch : Stretch) (bytes : List ℕ) → Joins
    → SaysStretch after stretch bytes (events_to_come left) (events_to_come rest) → EndsWith mid.notes head.thread after.tsc
    → has_room mid.buffer.size (mid.buffer.events ++ stretch_events stretch.count after.cpu after.tsc bytes) ≡ true
    → new.file ≡ mid.file → new.notes ≡ noted_to mid.notes head.thread stretch.count stretch.last.tsc
    → new.buffer ≡ record mid.buffer { events = mid.buffer.events ++ stretch_events stretch.count after.cpu after.tsc bytes }
    → Adds head first all left mid → Adds head first all rest new
adds_stretch head first mid new all left rest after stretch bytes joins says ends room file notes buffer adds =
    let more = stretch_events stretch.count after.cpu after.tsc bytes in
    let done = adds.done in
    let noted : noted_to mid.notes head.thread stretch.count (last_counter stretch.count after.tsc bytes) ≡ new.notes =
    sym (notes ∙ ap (noted_to mid.notes head.thread stretch.count) (last_tsc after stretch bytes _ _ says)) in
    record {
      done = done ++ more;
      parts = adds.parts ∙ ap (λ (es : List Event). done ++ es) says.parts ∙ sym (append_assoc done more (events_to_come rest));
      fills = fills_stretch head first.file.items done more mid new joins adds.fills room file buffer;
      notes = λ before pid has.
          let one = event_of head.thread pid in
          let split : (before ++ map one done) ++ map one more ≡ before ++ map one (done ++ more) =
          append_assoc before (map one done) (map one more) ∙ ap (λ (es : List ThreadEvent). before ++ es) (sym (map-append one done more)) in
          subst (λ (es : List ThreadEvent). HasNoted es new.notes) split (subst (HasNoted ((before ++ map one done) ++ map one more)) noted
          (stretch_noted stretch.count head.thread pid after.cpu after.tsc bytes (before ++ map one done) mid.notes (adds.notes before pid has) ends));
      count = ap (λ (n : Notes). n.facts.blocks) notes ∙ adds.count;
      log = λ log says_log. said_again log mid.notes.facts new.notes.facts (subst (λ (n : Notes). SameLog mid.notes.facts n.facts) (sym notes)
          (record { blocks = refl; custom = refl; typed = refl; doubled = refl; empty = refl; lost = refl; cut = refl; frequency = refl })) (adds.log log says_log);
    }

pub all_after : (P : Event → Type 0) (more left events : List Event) → events ≡ more ++ left → All P events → All P left
all_after P more left events parts all = by_more more (subst (All P) parts all)
  where
    by_more : (xs : List Event) → All P (xs ++ left) → All P left
    by_more [] h = h
    by_more (x ∷ xs) h = by_more xs (All-tail P x (xs ++ left) h)

-- a stretch that is no longer than the room of a buffer has room there
pub stretch_room : (size room : ℕ) (opened more : List Event) (records : List ℕ) → segment_bytes (opened ++ more) ≡ segment_bytes opened ++ records → length records ≤ room
    → 48 + length (segment_bytes opened) + room ≡ size → has_room size (opened ++ more) ≡ true
stretch_room size room opened more records bytes short is =
    le-leb _ _ (omega (arith, ap length bytes, length-append (segment_bytes opened) records, short, is))
