-- The file of a trace, with one more event or block.
use Rattle.std.proofs.Common.{◌≡◌, ℕ, true, List, [], ◌∷◌, ◌++◌, map, refl, sym, ap, subst, ◌∙◌, append_assoc, append-nil}
use Rattle.std.specs.Prelude.{IsTrue, IsFalse}
use Rattle.std.specs.List.{flat_map}
use Rattle.std.proofs.lemmas.List.{map-append}
use Rattle.std.proofs.lemmas.List.Concat.{flat_map-append, flat_map-cons}
use Rattle.xray_io.specs.declared.wall.Wall.{Wall}
use Rattle.fdr_record.specs.declared.event.Event.{Event}
use Rattle.fdr_buffer.specs.declared.buffer.TheConstants.{LARGEST_SIZE}
use Rattle.fdr_buffer.specs.Filled.{Filled}
use Rattle.fdr_buffer.specs.Segments.{has_room, segments}
use Rattle.fdr_file.specs.declared.header.Header.{Header}
use Rattle.fdr_file.specs.declared.trace.Block.{Block}
use Rattle.fdr_file.specs.Files.{block_bytes, header_bytes}
use Rattle.fdr_file.specs.ThreadEvents.{ThreadEvent, block_events, thread_events}
use Rattle.runtime_log.specs.declared.blocks.Head.{Head}
use Rattle.runtime_log.specs.declared.packing.Packing.{Packing}
use Rattle.runtime_log.specs.Imports.{buffer_for, pieces_of, trace_file, trace_taken}
use Rattle.runtime_log.specs.private.Packings.{Fills, Heads, filled_for}

-- ---- the segments of a block

-- the bytes of segments of a block
abbrev pub segments_written : Head → List (List Event) → List ℕ
segments_written head segs = flat_map (λ s. block_bytes (filled_for head s)) segs

-- the first event
pub fills_first : (head : Head) (file : List ℕ) (event : Event) (packing : Packing) → ((size : ℕ) (e : Event) → segments size (e ∷ []) ≡ (e ∷ []) ∷ [])
    → packing.file.items ≡ file → packing.buffer ≡ filled_for head (event ∷ []) → Fills head file (event ∷ []) packing
fills_first head file event packing first is buffer = record {
  whole = [];
  opened = event ∷ [];
  cut = first LARGEST_SIZE event;
  written = is ∙ sym (append-nil file);
  buffer = buffer;
}

-- one that has room
pub fills_joined : (head : Head) (file : List ℕ) (events : List Event) (event : Event) (old new : Packing)
    → ((size : ℕ) (events opened : List Event) (whole : List (List Event)) (event : Event) → segments size events ≡ whole ++ opened ∷ []
    → IsTrue (has_room size (opened ++ event ∷ [])) → segments size (events ++ event ∷ []) ≡ whole ++ (opened ++ event ∷ []) ∷ [])
    → Fills head file events old → IsTrue (has_room old.buffer.size (old.buffer.events ++ event ∷ [])) → new.file.items ≡ old.file.items
    → new.buffer ≡ record old.buffer { events = old.buffer.events ++ event ∷ [] } → Fills head file (events ++ event ∷ []) new
fills_joined head file events event old new joined f room is buffer =
    let wide = subst (λ (b : Filled). IsTrue (has_room b.size (b.events ++ event ∷ []))) f.buffer room in
    record {
      whole = f.whole;
      opened = f.opened ++ event ∷ [];
      cut = joined LARGEST_SIZE events f.opened f.whole event f.cut wide;
      written = is ∙ f.written;
      buffer = buffer ∙ ap (λ (b : Filled). let x : Filled = record b { events = b.events ++ event ∷ [] } in x) f.buffer;
    }

-- one that has none: the segment is written
pub fills_cut : (head : Head) (file : List ℕ) (events : List Event) (event : Event) (old new : Packing)
    → ((size : ℕ) (events opened : List Event) (whole : List (List Event)) (event : Event) → segments size events ≡ whole ++ opened ∷ []
    → IsFalse (has_room size (opened ++ event ∷ [])) → segments size (events ++ event ∷ []) ≡ whole ++ opened ∷ (event ∷ []) ∷ [])
    → Fills head file events old → IsFalse (has_room old.buffer.size (old.buffer.events ++ event ∷ [])) → new.file.items ≡ old.file.items ++ block_bytes old.buffer
    → new.buffer ≡ filled_for head (event ∷ []) → Fills head file (events ++ event ∷ []) new
fills_cut head file events event old new cut f full is buffer =
    let narrow = subst (λ (b : Filled). IsFalse (has_room b.size (b.events ++ event ∷ []))) f.buffer full in
    let last = block_bytes (filled_for head f.opened) in
    record {
      whole = f.whole ++ f.opened ∷ [];
      opened = event ∷ [];
      cut = cut LARGEST_SIZE events f.opened f.whole event f.cut narrow ∙ sym (append_assoc f.whole (f.opened ∷ []) ((event ∷ []) ∷ []));
      written =
          is ∙ ap (λ (b : Filled). old.file.items ++ block_bytes b) f.buffer ∙ ap (λ (xs : List ℕ). xs ++ last) f.written
          ∙ append_assoc file (segments_written head f.whole) last
          ∙ ap (λ (xs : List ℕ). file ++ xs) (ap (λ (xs : List ℕ). segments_written head f.whole ++ xs) (sym (append-nil last))
          ∙ sym (flat_map-append (λ s. block_bytes (filled_for head s)) f.whole (f.opened ∷ [])));
      buffer = buffer;
    }

-- all segments, once the last is written
pub fills_all : (head : Head) (file : List ℕ) (events : List Event) (old : Packing) (bytes : List ℕ) → Fills head file events old → bytes ≡ old.file.items ++ block_bytes old.buffer
    → bytes ≡ file ++ segments_written head (segments LARGEST_SIZE events)
fills_all head file events old bytes f is =
    let last = block_bytes (filled_for head f.opened) in
    is ∙ ap (λ (b : Filled). old.file.items ++ block_bytes b) f.buffer ∙ ap (λ (xs : List ℕ). xs ++ last) f.written
    ∙ append_assoc file (segments_written head f.whole) last
    ∙ ap (λ (xs : List ℕ). file ++ xs) (ap (λ (xs : List ℕ). segments_written head f.whole ++ xs) (sym (append-nil last))
    ∙ sym (flat_map-append (λ s. block_bytes (filled_for head s)) f.whole (f.opened ∷ []))
    ∙ ap (segments_written head) (sym f.cut))

-- ---- blocks

-- the segments of a block, as its pieces
piece_bytes : (head : Head) (block : Block) (segs : List (List Event)) → Heads head block
    → flat_map block_bytes (map buffer_for (map (λ (es : List Event). let x : Block = record block { events = es } in x) segs)) ≡ segments_written head segs
piece_bytes head block [] shows = refl
piece_bytes head block (s ∷ segs) shows =
    let made : ℕ → Wall → ℕ → Filled = λ thread wall pid. record { size = LARGEST_SIZE; begun = true; thread = thread; serial = 0; wall = wall; pid = pid; events = s } in
    let same : buffer_for (record block { events = s }) ≡ filled_for head s =
    ap (λ (n : ℕ). made n block.wall block.pid) (sym shows.thread) ∙ ap (λ (v : Wall). made head.thread v block.pid) (sym shows.wall) ∙ ap (λ (n : ℕ). made head.thread head.wall n) (sym shows.pid) in
    flat_map-cons block_bytes (buffer_for (record block { events = s })) (map buffer_for (map (λ (es : List Event). let x : Block = record block { events = es } in x) segs))
    ∙ ap (λ (b : Filled). block_bytes b ++ flat_map block_bytes (map buffer_for (map (λ (es : List Event). let x : Block = record block { events = es } in x) segs))) same
    ∙ ap (λ (xs : List ℕ). block_bytes (filled_for head s) ++ xs) (piece_bytes head block segs shows)
    ∙ sym (flat_map-cons (λ s. block_bytes (filled_for head s)) s segs)

-- the file of blocks, and one more
pub file_more : (header : Header) (taken : List Block) (b : Block) (head : Head) → Heads head b
    → trace_file (trace_taken header (taken ++ b ∷ [])) ≡ trace_file (trace_taken header taken) ++ segments_written head (segments LARGEST_SIZE b.events)
file_more header taken b head shows =
    let pieces : Block → List Block = pieces_of in
    let before : List Block = flat_map pieces taken in
    let one : flat_map pieces (b ∷ []) ≡ pieces b = flat_map-cons pieces b [] ∙ append-nil (pieces b) in
    ap (λ (xs : List Block). header_bytes header ++ flat_map block_bytes (map buffer_for xs)) (flat_map-append pieces taken (b ∷ []) ∙ ap (λ (xs : List Block). before ++ xs) one)
    ∙ ap (λ (xs : List Filled). header_bytes header ++ flat_map block_bytes xs) (map-append buffer_for before (pieces b))
    ∙ ap (λ (xs : List ℕ). header_bytes header ++ xs) (flat_map-append block_bytes (map buffer_for before) (map buffer_for (pieces b)))
    ∙ sym (append_assoc (header_bytes header) (flat_map block_bytes (map buffer_for before)) (flat_map block_bytes (map buffer_for (pieces b))))
    ∙ ap (λ (xs : List ℕ). trace_file (trace_taken header taken) ++ xs) (piece_bytes head b (segments LARGEST_SIZE b.events) shows)

-- the events of blocks, and of one more
pub events_more : (taken : List Block) (b : Block) → thread_events (taken ++ b ∷ []) ≡ thread_events taken ++ block_events b
events_more taken b =
    flat_map-append block_events taken (b ∷ [])
    ∙ ap (λ (xs : List ThreadEvent). thread_events taken ++ xs) (flat_map-cons block_events b [] ∙ append-nil (block_events b))
