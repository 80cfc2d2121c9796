-- What the fields of a buffer say, and how it is filled.
use Rattle.std.proofs.Common.{◌≡◌, Vec, Global, ℕ, ◌+◌, ◌-◌, ◌^◌, ◌<◌, ◌≤◌, true, leb, ltb, lt-ltb, lit<, List, [], ◌∷◌, ◌++◌, length, take, drop, Option, Some, None, refl, sym, ap, subst, ◌∙◌, append_assoc, arith, inl, inr}
use Rattle.std.proofs.lemmas.Bool.{cases_Bool, ltb-true, ltb-false, leb-true}
use Rattle.std.proofs.lemmas.Bool.Decides.{leb_tells, eqb_tells}
use Rattle.std.proofs.lemmas.List.{length-append, length-take, with_items_is}
use Rattle.std.specs.Prelude.{All}
use Rattle.std.specs.Vec.{vec_len, with_items}
use Rattle.std.proofs.lemmas.List.Concat.{flat_map-append}
use Rattle.std.proofs.lemmas.List.Elements.{All-append, All-from_recursion}
use Rattle.xray_io.specs.declared.wall.Wall.{Wall}
use Rattle.fdr_record.specs.declared.event.Event.{Event}
use Rattle.fdr_record.specs.Records.{record_bytes}
use Rattle.fdr_record.specs.Recordable.{ArgFits}
use Rattle.fdr_buffer.specs.declared.buffer.TheConstants.{LEAST_SIZE, LARGEST_SIZE}
use Rattle.fdr_buffer.specs.declared.buffer.Buffer.TheInside.{Inside}
use Rattle.fdr_buffer.specs.Segments.{bytes_of, is_out_of_reach, records_of, records_after, segment_bytes, preamble, body, has_room, EventFits, GoesOn}
use Rattle.fdr_buffer.specs.declared.lead.Lead.{Lead}
use Rattle.fdr_buffer.specs.private.Leads.{lead_records}
use Rattle.fdr_buffer.specs.Filled.{Filled, empty_buffer, used_bytes}
use Rattle.fdr_buffer.specs.private.Last.{last_after}
use Rattle.fdr_buffer.specs.Fits.{BufferFits, PreambleFits}
use Rattle.fdr_buffer.specs.private.Telling.{events_in}
use Rattle.fdr_buffer.specs.private.Buffer.{filled_with, events_told, filled_in, Holds, IsFilled}
use Rattle.fdr_buffer.proofs.Records.{last_after-append, last_after-push, segment_bytes-push}
use Rattle.fdr_buffer.proofs.SegmentBytes.{segment_told, nothing_told}

-- the events that a buffer says are those that it holds
pub told_is : (a : Inside) (events : List Event) → Holds a events → events_told a ≡ events
told_is a events h =
    elim (cases_Bool (ltb 0 a.used)) [
      | inl begun ↦
          ap (λ (bytes : List ℕ). events_in (drop 48 bytes)) (rw begun at h.bytes) ∙ segment_told events h.fit
      | inr unbegun ↦
          let none : a.used ≡ 0 = omega (arith, ltb-false 0 a.used unbegun) in
          ap (λ (bytes : List ℕ). events_in (drop 48 bytes)) (rw unbegun at h.bytes) ∙ nothing_told ∙ sym (h.unbegun none)
    ]

pub filled_is : (a : Inside) (events : List Event) → Holds a events → filled_in a ≡ filled_with a events
filled_is a events h = ap (filled_with a) (told_is a events h)

pub is_filled : (a : Inside) (events : List Event) → Holds a events → IsFilled a
is_filled a events h = subst (Holds a) (sym (told_is a events h)) h

-- how much is used of a buffer that was begun
pub used_is : (a : Inside) (events : List Event) → Holds a events → ltb 0 a.used ≡ true → a.used ≡ 48 + length (segment_bytes events)
used_is a events h begun =
    let bytes : take a.used a.bytes.items ≡ body a.thread a.wall a.pid events = rw begun at h.bytes in
    let long = ap length bytes in
    omega (arith, long, length-take a.used a.bytes.items, h.within)

leb_moved : (x used size all : ℕ) → used ≤ size → all ≡ used + x → leb x (size - used) ≡ leb all size
leb_moved x used size all within e =
    elim (leb_tells x (size - used)) [
      | inl there ↦ elim (leb_tells all size) [ inl fits ↦ there.0 ∙ sym fits.0 | inr past ↦ absurd (omega (arith, there.1, past.1)) ]
      | inr over ↦ elim (leb_tells all size) [ inl fits ↦ absurd (omega (arith, over.1, fits.1)) | inr past ↦ over.0 ∙ sym past.0 ]
    ]

-- the bytes that are used once events were added
longer_by_all : (a : Inside) (events more : List Event) (added : List ℕ) → Holds a events → ltb 0 a.used ≡ true → segment_bytes (events ++ more) ≡ segment_bytes events ++ added
    → 48 + length (segment_bytes (events ++ more)) ≡ a.used + length added
longer_by_all a events more added h begun e =
    omega (arith, used_is a events h begun, ap length e, length-append (segment_bytes events) added)

-- the same of one event
one_more : (a : Inside) (events : List Event) (event : Event) → Holds a events → segment_bytes (events ++ event ∷ []) ≡ segment_bytes events ++ bytes_of (records_of a.last event)
one_more a events event h = rw h.last (segment_bytes-push events event)

longer_by : (a : Inside) (events : List Event) (event : Event) → Holds a events → ltb 0 a.used ≡ true → 48 + length (segment_bytes (events ++ event ∷ [])) ≡ a.used + length (bytes_of (records_of a.last event))
longer_by a events event h begun = longer_by_all a events (event ∷ []) (bytes_of (records_of a.last event)) h begun (one_more a events event h)

pub fits_is : (a : Inside) (events : List Event) (event : Event) → Holds a events → ltb 0 a.used ≡ true → leb (length (bytes_of (records_of a.last event))) (length a.bytes.items - a.used) ≡ has_room (length a.bytes.items) (events ++ event ∷ [])
fits_is a events event h begun =
    leb_moved _ a.used (length a.bytes.items) _ h.within (longer_by a events event h begun)

-- b is a with more bytes, which are the records of more events
pub record Grows (a b : Inside) (added : List ℕ) (more : List Event) : Type 0 where
  pub fit : All EventFits more
  pub thread : b.thread ≡ a.thread
  pub serial : b.serial ≡ a.serial
  pub wall : b.wall ≡ a.wall
  pub pid : b.pid ≡ a.pid
  pub size : length b.bytes.items ≡ length a.bytes.items
  pub bytes : take b.used b.bytes.items ≡ take a.used a.bytes.items ++ added
  pub used : b.used ≡ a.used + length added
  pub last : b.last ≡ last_after a.last more
  pub count : b.count ≡ a.count + length more

pub room_is : (a : Inside) (events : List Event) (event : Event) → Holds a events → ltb 0 a.used ≡ true → has_room (length a.bytes.items) (events ++ event ∷ []) ≡ true → a.used + length (bytes_of (records_of a.last event)) ≤ length a.bytes.items
room_is a events event h begun room =
    let le = leb-true _ _ room in
    omega (arith, le, longer_by a events event h begun)

still_begun : (a b : Inside) (added : List ℕ) (more : List Event) → Grows a b added more → ltb 0 a.used ≡ true → ltb 0 b.used ≡ true
still_begun a b added more g begun = lt-ltb 0 b.used (omega (arith, ltb-true 0 a.used begun, g.used))

pub holds_more : (a b : Inside) (events : List Event) (added : List ℕ) (more : List Event) → Holds a events → Grows a b added more → ltb 0 a.used ≡ true → segment_bytes (events ++ more) ≡ segment_bytes events ++ added
    → a.used + length added ≤ length a.bytes.items → Holds b (events ++ more)
holds_more a b events added more h g begun e within =
    let old : take a.used a.bytes.items ≡ body a.thread a.wall a.pid events = rw begun at h.bytes in
    let joined : body a.thread a.wall a.pid events ++ added ≡ body a.thread a.wall a.pid (events ++ more) =
    append_assoc (preamble a.thread a.wall a.pid) (segment_bytes events) added ∙ ap (λ (x : List ℕ). preamble a.thread a.wall a.pid ++ x) (sym e) in
    record {
      least = omega (arith, h.least, g.size);
      most = omega (arith, h.most, g.size);
      within = omega (arith, within, g.used, g.size);
      preamble = rw (g.thread, g.wall, g.pid) (record { thread = h.preamble.thread; secs = h.preamble.secs; micros = h.preamble.micros; pid = h.preamble.pid });
      bytes = rw (still_begun a b added more g begun, g.thread, g.wall, g.pid) (g.bytes ∙ ap (λ (x : List ℕ). x ++ added) old ∙ joined);
      unbegun = λ none. absurd (omega (arith, none, ltb-true 0 b.used (still_begun a b added more g begun)));
      last = g.last ∙ ap (λ (last : Option Event). last_after last more) h.last ∙ sym (last_after-append None events more);
      count = omega (arith, g.count, h.count, length-append events more);
      fit = All-append EventFits events more h.fit g.fit;
    }

-- there are at most as many events as bytes
records_not_empty : (before : Option Event) (event : Event) → 8 ≤ length (bytes_of (records_of before event))
records_not_empty None event = omega arith
records_not_empty (Some before) event =
    elim (eqb_tells before.cpu event.cpu) [
      | inl same ↦ rw same.0 (elim (cases_Bool (is_out_of_reach before.tsc event.tsc)) [ inl out ↦ rw out (omega arith) | inr reached ↦ rw reached (omega arith) ])
      | inr other ↦ rw other.0 (omega arith)
    ]

events_short : (before : Option Event) (events : List Event) → length events ≤ length (bytes_of (records_after before events))
events_short before [] = omega arith
events_short before (event ∷ events) =
    let all = ap length (flat_map-append record_bytes (records_of before event) (records_after (Some event) events)) ∙ length-append (bytes_of (records_of before event)) (bytes_of (records_after (Some event) events)) in
    omega (arith, all, records_not_empty before event, events_short (Some event) events)

-- one more event still has a number
pub count_small : (a : Inside) (events : List Event) → Holds a events → ltb 0 a.used ≡ true → a.count + 1 < 2 ^ 32
count_small a events h begun =
    omega (arith, h.count, used_is a events h begun, events_short None events, h.within, h.most)

-- the buffer after that
pub more_is : (a b : Inside) (events : List Event) (added : List ℕ) (more : List Event) → Grows a b added more → ltb 0 a.used ≡ true → Holds b (events ++ more) → filled_in b ≡ record (filled_with a events) { events = events ++ more }
more_is a b events added more g begun h =
    filled_is b (events ++ more) h ∙ rw (still_begun a b added more g begun, begun, g.size, g.thread, g.serial, g.wall, g.pid) refl

-- a buffer without events
pub holds_none : (a : Inside) → LEAST_SIZE ≤ length a.bytes.items → length a.bytes.items ≤ LARGEST_SIZE → a.used ≤ length a.bytes.items → PreambleFits (filled_with a []) → take a.used a.bytes.items ≡ used_bytes (filled_with a []) → a.last ≡ None → a.count ≡ 0 → Holds a []
holds_none a least most within preamble bytes last count = record {
  least = least;
  most = most;
  within = within;
  preamble = preamble;
  bytes = bytes;
  unbegun = λ none. refl;
  last = last;
  count = count;
  fit = All-from_recursion EventFits [] tt;
}

-- a buffer whose bytes were written, with so many more events, of which this is the last
abbrev pub grown : Inside → List ℕ → ℕ → ℕ → Event → Inside
grown a bytes used count last = record a { bytes = with_items a.bytes bytes; used = used; count = a.count + count; last = Some last }

pub grown_grows : (a : Inside) (bytes : List ℕ) (used count : ℕ) (last : Event) (added : List ℕ) (more : List Event) → length bytes ≡ length a.bytes.items → All EventFits more
    → take used bytes ≡ take a.used a.bytes.items ++ added → used ≡ a.used + length added → length more ≡ count → Some last ≡ last_after a.last more → Grows a (grown a bytes used count last) added more
grown_grows a bytes used count last added more size fit written next many ends =
    let over = with_items_is a.bytes bytes (size ∙ sym a.bytes.ok.0) in
    record {
      fit = fit;
      thread = refl;
      serial = refl;
      wall = refl;
      pid = refl;
      size = ap length over ∙ size;
      bytes = ap (take used) over ∙ written;
      used = next;
      last = ends;
      count = ap (λ (n : ℕ). a.count + n) (sym many);
    }

-- a buffer as contracts see it, with more events
abbrev pub with_more : Filled → List Event → Filled
with_more v more = record v { events = v.events ++ more }

-- adding events leaves a buffer with these more
grows_leaves : (a : Inside) (now : Filled) (bytes : List ℕ) (used count : ℕ) (last : Event) (added : List ℕ) (more : List Event) → filled_in a ≡ now → IsFilled a → ltb 0 a.used ≡ true
    → Grows a (grown a bytes used count last) added more → segment_bytes (events_told a ++ more) ≡ segment_bytes (events_told a) ++ added → a.used + length added ≤ length a.bytes.items
    → IsFilled (grown a bytes used count last) × (filled_in (grown a bytes used count last) ≡ with_more now more)
grows_leaves a now bytes used count last added more seen filled begun grows e within =
    let b = grown a bytes used count last in
    let holds : Holds b (events_told a ++ more) = holds_more a b (events_told a) added more filled grows begun e within in
    (is_filled b (events_told a ++ more) holds, more_is a b (events_told a) added more grows begun holds ∙ ap (λ (v : Filled). with_more v more) seen)

-- a buffer that was begun has room for an event
abbrev HasRoomFor : Event → Filled → Type 0
HasRoomFor event v = has_room v.size (v.events ++ event ∷ []) ≡ true

-- what is to be written of an event
pub record IsToldBy (a : Inside) (lead : Lead) (event : Event) : Type 0 where
  pub records : lead_records lead event ≡ records_of a.last event
  pub cpu : event.cpu < 2 ^ 16
  pub tsc : event.tsc < 2 ^ 64
  pub arg : event.arg < 2 ^ 64
  pub logged : ArgFits event.kind event.arg

-- adding an event leaves a buffer with one event more
pub put_leaves : (a : Inside) (now : Filled) (event : Event) (lead : Lead) (bytes : List ℕ) (used : ℕ) → filled_in a ≡ now → IsFilled a → now.begun ≡ true → HasRoomFor event now → event.func < 2 ^ 28 → IsToldBy a lead event
    → length bytes ≡ length a.bytes.items → take used bytes ≡ take a.used a.bytes.items ++ bytes_of (lead_records lead event) → used ≡ a.used + length (bytes_of (lead_records lead event))
    → IsFilled (grown a bytes used 1 event) × (filled_in (grown a bytes used 1 event) ≡ with_more now (event ∷ []))
put_leaves a now event lead bytes used seen filled begun room id told size written next =
    let begun' : ltb 0 a.used ≡ true = ap (λ (v : Filled). v.begun) seen ∙ begun in
    let room' : HasRoomFor event (filled_in a) = subst (HasRoomFor event) (sym seen) room in
    let fits : EventFits event = record { cpu = told.cpu; func = id; tsc = told.tsc; arg = told.arg; logged = told.logged } in
    let added = bytes_of (records_of a.last event) in
    let grows : Grows a (grown a bytes used 1 event) added (event ∷ []) =
    grown_grows a bytes used 1 event added (event ∷ []) size (All-from_recursion EventFits (event ∷ []) (fits, tt)) (written ∙ rw told.records refl) (next ∙ rw told.records refl) refl refl in
    grows_leaves a now bytes used 1 event added (event ∷ []) seen filled begun' grows (one_more a (events_told a) event filled) (room_is a (events_told a) event filled begun' room')

-- how much more is used of a buffer that was begun
pub room_left : (a : Inside) (now : Filled) → filled_in a ≡ now → IsFilled a → now.begun ≡ true → (48 + length (segment_bytes now.events) ≡ a.used) × (length a.bytes.items ≡ now.size)
room_left a now seen filled begun =
    let used = used_is a (events_told a) filled (ap (λ (v : Filled). v.begun) seen ∙ begun) in
    (ap (λ (v : Filled). 48 + length (segment_bytes v.events)) (sym seen) ∙ sym used, ap (λ (v : Filled). v.size) seen)

-- so many more events still have numbers
pub counts_small : (a : Inside) (now : Filled) (records : List ℕ) (count : ℕ) (last : Event) (more : List Event) → filled_in a ≡ now → IsFilled a → now.begun ≡ true
    → a.used + length records ≤ length a.bytes.items → GoesOn now.events records count last more → a.count + count < 2 ^ 32
counts_small a now records count last more seen filled begun within g =
    let told : events_told a ≡ now.events = ap (λ (v : Filled). v.events) seen in
    let all = events_short None (now.events ++ more) in
    omega (arith, filled.count, ap length told, g.count_is, length-append now.events more, all, ap length g.bytes, length-append (segment_bytes now.events) records, (room_left a now seen filled begun).0, within, filled.most)

-- adding the records of events leaves a buffer with these events more
pub records_leave : (a : Inside) (now : Filled) (records : List ℕ) (count : ℕ) (last : Event) (more : List Event) (bytes : List ℕ) (used : ℕ) → filled_in a ≡ now → IsFilled a → now.begun ≡ true
    → a.used + length records ≤ length a.bytes.items → GoesOn now.events records count last more
    → length bytes ≡ length a.bytes.items → take used bytes ≡ take a.used a.bytes.items ++ records → used ≡ a.used + length records
    → IsFilled (grown a bytes used count last) × (filled_in (grown a bytes used count last) ≡ with_more now more)
records_leave a now records count last more bytes used seen filled begun within g size written next =
    let begun' : ltb 0 a.used ≡ true = ap (λ (v : Filled). v.begun) seen ∙ begun in
    let ends : Some last ≡ last_after a.last more = sym (ap (last_after a.last) g.parts ∙ last_after-push a.last g.earlier last) in
    let e = subst (λ (events : List Event). segment_bytes (events ++ more) ≡ segment_bytes events ++ records) (sym (ap (λ (v : Filled). v.events) seen)) g.bytes in
    grows_leaves a now bytes used count last records more seen filled begun'
    (grown_grows a bytes used count last records more size g.fit written next g.count_is ends) e within

-- a buffer whose bytes were written, and which was begun
abbrev pub begun_as : Inside → List ℕ → ℕ → ℕ → ℕ → Wall → ℕ → Inside
begun_as a bytes used thread serial wall pid = record { bytes = with_items a.bytes bytes; used = used; thread = thread; serial = serial; wall = wall; pid = pid; count = 0; last = None }

-- beginning a segment leaves a buffer with no events
pub begin_leaves : (a : Inside) (now : Filled) (bytes : List ℕ) (used thread serial : ℕ) (wall : Wall) (pid : ℕ) → filled_in a ≡ now → IsFilled a
    → (thread < 2 ^ 32) × (wall.secs < 2 ^ 64) × (wall.micros < 2 ^ 32) × (pid < 2 ^ 32) → length bytes ≡ length a.bytes.items → take used bytes ≡ body thread wall pid [] → used ≡ 48
    → IsFilled (begun_as a bytes used thread serial wall pid)
    × (filled_in (begun_as a bytes used thread serial wall pid) ≡ record { size = now.size; begun = true; thread = thread; serial = serial; wall = wall; pid = pid; events = [] })
begin_leaves a now bytes used thread serial wall pid seen filled (thread_fits, secs_fit, micros_fit, pid_fits) size written next =
    let b = begun_as a bytes used thread serial wall pid in
    let begun : ltb 0 used ≡ true = lt-ltb 0 used (omega arith) in
    let over = with_items_is a.bytes bytes (size ∙ sym a.bytes.ok.0) in
    let long : length b.bytes.items ≡ length a.bytes.items = ap length over ∙ size in
    let told : take used b.bytes.items ≡ body thread wall pid [] = ap (take used) over ∙ written in
    let holds : Holds b [] = holds_none b (omega (arith, filled.least, long)) (omega (arith, filled.most, long)) (omega (arith, filled.least, long))
    (record { thread = thread_fits; secs = secs_fit; micros = micros_fit; pid = pid_fits }) (rw begun told) refl refl in
    let size' : length b.bytes.items ≡ now.size = long ∙ ap (λ (v : Filled). v.size) seen in
    (is_filled b [] holds, filled_is b [] holds ∙ rw (begun, size') refl)

-- a buffer that wasn't begun
abbrev pub unbegun : Vec ℕ Global → Inside
unbegun bytes = record { bytes = bytes; used = 0; thread = 0; serial = 0; wall = record { secs = 0; micros = 0 }; pid = 0; count = 0; last = None }

pub new_leaves : (bytes : Vec ℕ Global) (size : ℕ) → LEAST_SIZE ≤ size → size ≤ LARGEST_SIZE → vec_len bytes ≡ size → IsFilled (unbegun bytes) × (filled_in (unbegun bytes) ≡ empty_buffer size)
new_leaves bytes size least most e =
    let b = unbegun bytes in
    let long : length bytes.items ≡ size = sym bytes.ok.0 ∙ e in
    let holds : Holds b [] = holds_none b (omega arith) (omega arith) (omega arith)
    (record { thread = lit< tt; secs = lit< tt; micros = lit< tt; pid = lit< tt }) refl refl refl in
    (is_filled b [] holds, filled_is b [] holds ∙ rw long refl)

-- what a buffer holds fits
pub holds_fits : (a : Inside) (now : Filled) → filled_in a ≡ now → IsFilled a → BufferFits now
holds_fits a now seen holds =
    subst BufferFits seen (record {
      preamble = holds.preamble;
      events = holds.fit;
      within = omega (arith, ap length holds.bytes, length-take a.used a.bytes.items);
      most = holds.most;
    })
