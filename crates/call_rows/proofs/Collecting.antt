-- Wanted calls that are collected, event by event.
use Rattle.std.proofs.Common.{◌≡◌, ◌≤◌, ◌+◌, ◌++◌, ◌∙◌, ℕ, suc, Bool, true, false, cond, List, [], ◌∷◌, length, map, reverse, take, refl, ap, sym, subst, arith, Option, None, Some, append_assoc}
use Rattle.std.specs.Prelude.{option_map, slice_get}
use Rattle.std.specs.Option.{option_to_list}
use Rattle.std.proofs.lemmas.List.{append-nil, map-append, reverse-append}
use Rattle.std.proofs.lemmas.List.Concat.{flat_map-append}
use Rattle.std.proofs.lemmas.List.Elements.{filter-append}
use Rattle.fdr_record.specs.declared.event.Event.{Event}
use Rattle.fdr_file.specs.declared.trace.Block.{Block}
use Rattle.fdr_file.specs.Scanning.{longer_block}
use Rattle.fdr_file.specs.ThreadEvents.{ThreadEvent, block_events, thread_events}
use Rattle.stack_rebuild.specs.declared.call.Pair.{Pair}
use Rattle.stack_rebuild.specs.Histories.{history_of, thread_event}
use Rattle.call_rows.specs.declared.row.CallRow.{CallRow}
use Rattle.call_rows.specs.declared.frames.Frame.{Frame}
use Rattle.call_rows.specs.declared.filter.CallFilter.{CallFilter}
use Rattle.call_rows.specs.declared.order.FirstRows.{FirstRows}
use Rattle.call_rows.specs.CallRows.{EndsAt, passes, rows_after, wanted_rows}
use Rattle.call_rows.specs.private.FirstRows.{Collects, KeepsFirst}
use Rattle.call_rows.specs.private.Frames.{next_row, row_by}
use Rattle.call_rows.proofs.PutInOrder.{ended-later}

-- ---- when a call ends

pub row_ends : (thread number : ℕ) (pair : Option Pair) (depth : ℕ) (frames : List Frame) → EndsAt number (next_row thread number pair depth frames)
row_ends thread number None depth frames = tt
row_ends thread number (Some pair) depth frames = by_frame (slice_get frames depth)
  where
    by_frame : (frame : Option Frame) → EndsAt number (option_map (row_by thread number pair (take depth frames)) frame)
    by_frame None = tt
    by_frame (Some frame) = refl

-- ---- one more event

-- it ends no wanted call
still : (first : FirstRows) (wanted : CallFilter) (history : List ThreadEvent) (e : ThreadEvent) → wanted_rows wanted (rows_after (e ∷ history)) ≡ wanted_rows wanted (rows_after history)
    → Collects first wanted history → Collects first wanted (e ∷ history)
still first wanted history e same keeps =
    let P : List CallRow → Type 0 = λ rows. KeepsFirst first (suc (length history)) rows in
    subst P (sym same)
    (record {
      same = keeps.same;
      bounded = keeps.bounded;
      apart = keeps.apart;
      ended = ended-later (length history) (suc (length history)) first.rows.items (omega arith) keeps.ended;
      all_apart = keeps.all_apart;
      all_ended = ended-later (length history) (suc (length history)) (wanted_rows wanted (rows_after history)) (omega arith) keeps.all_ended;
    })

more_rows : (wanted : CallFilter) (history : List ThreadEvent) (e : ThreadEvent) (row : Option CallRow) → rows_after (e ∷ history) ≡ rows_after history ++ option_to_list row
    → wanted_rows wanted (rows_after (e ∷ history)) ≡ wanted_rows wanted (rows_after history) ++ wanted_rows wanted (option_to_list row)
more_rows wanted history e row is = ap (wanted_rows wanted) is ∙ filter-append (passes wanted) (rows_after history) (option_to_list row)

pub none_ended : (first : FirstRows) (wanted : CallFilter) (history : List ThreadEvent) (e : ThreadEvent) (row : Option CallRow) → row ≡ None
    → rows_after (e ∷ history) ≡ rows_after history ++ option_to_list row → Collects first wanted history → Collects first wanted (e ∷ history)
none_ended first wanted history e row none is keeps =
    still first wanted history e
    (more_rows wanted history e row is
    ∙ (ap (λ (o : Option CallRow). wanted_rows wanted (rows_after history) ++ wanted_rows wanted (option_to_list o)) none ∙ append-nil (wanted_rows wanted (rows_after history))))
    keeps

pub unwanted_ended : (first : FirstRows) (wanted : CallFilter) (history : List ThreadEvent) (e : ThreadEvent) (row : Option CallRow) (r : CallRow) → row ≡ Some r
    → passes wanted r ≡ false → rows_after (e ∷ history) ≡ rows_after history ++ option_to_list row → Collects first wanted history → Collects first wanted (e ∷ history)
unwanted_ended first wanted history e row r some fails is keeps =
    still first wanted history e
    (more_rows wanted history e row is
    ∙ (ap (λ (o : Option CallRow). wanted_rows wanted (rows_after history) ++ wanted_rows wanted (option_to_list o)) some
    ∙ (ap (λ (b : Bool). wanted_rows wanted (rows_after history) ++ cond b (r ∷ []) []) fails ∙ append-nil (wanted_rows wanted (rows_after history)))))
    keeps

-- it ends a wanted call
pub wanted_ended : (first new : FirstRows) (wanted : CallFilter) (history : List ThreadEvent) (e : ThreadEvent) (row : Option CallRow) (r : CallRow) → row ≡ Some r
    → passes wanted r ≡ true → rows_after (e ∷ history) ≡ rows_after history ++ option_to_list row → EndsAt (length history) row
    → ((events : ℕ) (rows : List CallRow) → KeepsFirst first events rows → events ≤ r.end → KeepsFirst new (r.end + 1) (rows ++ r ∷ []))
    → Collects first wanted history → Collects new wanted (e ∷ history)
wanted_ended first new wanted history e row r some passes_it is ends added keeps =
    let at : r.end ≡ length history = subst (EndsAt (length history)) some ends in
    let rows : wanted_rows wanted (rows_after (e ∷ history)) ≡ wanted_rows wanted (rows_after history) ++ r ∷ [] =
    more_rows wanted history e row is
    ∙ (ap (λ (o : Option CallRow). wanted_rows wanted (rows_after history) ++ wanted_rows wanted (option_to_list o)) some
    ∙ ap (λ (b : Bool). wanted_rows wanted (rows_after history) ++ cond b (r ∷ []) []) passes_it) in
    let more = added (length history) (wanted_rows wanted (rows_after history)) keeps (omega (arith, at)) in
    let many : r.end + 1 ≡ suc (length history) = omega (arith, at) in
    subst (KeepsFirst new (suc (length history))) (sym rows) (subst (λ (n : ℕ). KeepsFirst new n (wanted_rows wanted (rows_after history) ++ r ∷ [])) many more)

-- ---- blocks

events_last : (blocks : List Block) (last : Block) → thread_events (blocks ++ last ∷ []) ≡ thread_events blocks ++ block_events last
events_last blocks last =
    flat_map-append block_events blocks (last ∷ []) ∙ ap (λ (es : List ThreadEvent). thread_events blocks ++ es) (append-nil (block_events last))

-- one more block, without events
pub history_same : (blocks : List Block) (last : Block) → last.events ≡ [] → history_of (blocks ++ last ∷ []) ≡ history_of blocks
history_same blocks last none =
    ap reverse
    (events_last blocks last
    ∙ (ap (λ (es : List Event). thread_events blocks ++ map (thread_event last.thread last.pid) es) none ∙ append-nil (thread_events blocks)))

-- one more event
pub history_longer : (blocks : List Block) (last : Block) (e : Event)
    → history_of (blocks ++ longer_block last e ∷ []) ≡ thread_event last.thread last.pid e ∷ history_of (blocks ++ last ∷ [])
history_longer blocks last e =
    let new = thread_event last.thread last.pid e in
    let more : thread_events (blocks ++ longer_block last e ∷ []) ≡ thread_events (blocks ++ last ∷ []) ++ new ∷ [] =
    events_last blocks (longer_block last e)
    ∙ (ap (λ (es : List ThreadEvent). thread_events blocks ++ es) (map-append (thread_event last.thread last.pid) last.events (e ∷ []))
    ∙ (sym (append_assoc (thread_events blocks) (block_events last) (new ∷ []))
    ∙ ap (λ (es : List ThreadEvent). es ++ new ∷ []) (sym (events_last blocks last)))) in
    ap reverse more ∙ reverse-append (thread_events (blocks ++ last ∷ [])) (new ∷ [])
