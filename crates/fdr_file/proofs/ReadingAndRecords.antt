-- What a file reads as is what the reading of all its records ends in.
use Rattle.std.proofs.Common.{◌≡◌, ℕ, zero, suc, ◌+◌, ◌-◌, ◌<◌, ◌≤◌, Bool, true, false, cond, eqb, ltb, List, [], ◌∷◌, ◌++◌, length, take, drop, Option, Some, None, Result, Ok, Err, inl, inr, refl, sym, ap, ◌∙◌, append_assoc, append-nil, arith}
use Rattle.std.specs.Prelude.{◌⊎◌, option_to_list}
use Rattle.std.proofs.lemmas.Bool.{cases_Bool, eq-eqb, le-leb, lt-leb, le-ltb, lt-ltb, ltb-false, ltb-true, ne_eqb}
use Rattle.std.proofs.lemmas.Grind.{common_steps}
use Rattle.std.proofs.lemmas.List.{drop-drop, drop-take, length-drop, length-take, length-take-le, take-append-drop}
use Rattle.xray_io.specs.Rows.{◌>>=◌, NeedsPart}
use Rattle.fdr_record.specs.declared.event.Event.{Event}
use Rattle.fdr_record.specs.declared.rec.Rec.{Rec}
use Rattle.fdr_record.specs.declared.rec.Rec.TheVariants.{Extents}
use Rattle.fdr_record.specs.declared.fault.RecFault.{RecFault}
use Rattle.fdr_record.specs.declared.fault.RecFault.TheVariants as decoder_faults
use Rattle.fdr_record.specs.Reading.{function_record_at, metadata_record_at}
use Rattle.fdr_file.specs.declared.events.Base.{Base}
use Rattle.fdr_file.specs.declared.fault.TraceFault.{TraceFault}
use Rattle.fdr_file.specs.declared.fault.TraceFault.TheVariants as faults
use Rattle.fdr_file.specs.declared.header.Header.{Header}
use Rattle.fdr_file.specs.declared.stage.Span.{Span}
use Rattle.fdr_file.specs.declared.stage.Inside.{Inside}
use Rattle.fdr_file.specs.declared.stage.Inside.TheVariants as insides
use Rattle.fdr_file.specs.declared.stage.Stage.{Stage}
use Rattle.fdr_file.specs.declared.stage.Stage.TheVariants.{Due, Within, Faulty}
use Rattle.fdr_file.specs.declared.stage.Told.{Told}
use Rattle.fdr_file.specs.declared.stage.Told.TheVariants.{Nothing, Begun, Noted}
use Rattle.fdr_file.specs.declared.trace.Block.{Block}
use Rattle.fdr_file.specs.declared.trace.Trace.{Trace}
use Rattle.fdr_file.specs.declared.version.Version.{Version}
use Rattle.fdr_file.specs.declared.version.Version.TheVariants.{Two, Three}
use Rattle.fdr_file.specs.Places.{starts}
use Rattle.fdr_file.specs.Traces.{block_in, block_length, block_of, header_in, pid_named, preamble_bytes, record_in, record_length, records_among, size_named, standings, thread_named, trace_of, wall_named}
use Rattle.fdr_file.specs.private.Faults.{block_faults, blocks_faults, decided, standing_faults, told_by}
use Rattle.fdr_file.specs.private.Reading.{Left, blocks_read, body_on, events_on, named_on, pid_on, preamble_on, read_first, record_on, with_front}
use Rattle.fdr_file.specs.Scanning.{block_span, blocks_given, empty_block, extents_next, extents_span, inside_judged, inside_next, record_or, record_within, scanned, scanned_ends, scanned_from, scanned_on, stage_after, stage_ends, stage_judged, stage_within, step_on, version_read, with_event, with_told}
use Rattle.fdr_file.proofs.PlacesDecide.{body_decided, extents_is, file_ends, file_fails, file_goes_on, length_most}
use Rattle.fdr_file.proofs.RecordSteps.{at_stage, event_last, reads_next, reads_none, stays_faulty, with_events}
use Rattle.fdr_file.proofs.TraceRows.{header_first, header_has, rows_decide}
use Rattle.fdr_file.proofs.NextParts.{same_test, events_more, events_refuse, events_stop, length_some}
use Rattle.fdr_file.proofs.WholeRecords.{cut_is_short, length_again, whole_again}

-- ---- a record within a block

abbrev Rest : ℕ → List ℕ → ℕ → Left
Rest at bytes left = (at + record_length bytes, take (left - record_length bytes) (drop (record_length bytes) bytes))

-- the first record of a block's rest, by the bytes of the file
record_cut : (span : Span) (at : ℕ) (bytes : List ℕ) (left : ℕ) → 0 < left → left ≤ length bytes → span.end ≡ at + left
    → record_on (at, take left bytes) ≡ (record_within span at (record_length bytes) (record_in bytes) >>= λ r. Ok (r, Rest at bytes left))
unfolding record_on
record_cut span at bytes left some within end = by_end (ltb span.end (at + record_length bytes)) refl
  where
    long : length (take left bytes) ≡ left
    long = length-take-le left bytes within

    same : record_length (take left bytes) ≡ record_length bytes
    same = sym (length_again (take left bytes) (drop left bytes) (omega (arith, length-take-le left bytes within, some))) ∙ ap record_length (take-append-drop left bytes)

    by_answer : (a : Result Rec RecFault) → record_length bytes ≤ left → read_first (at, take left bytes) a ≡ (record_or at a >>= λ r. Ok (r, Rest at bytes left))
    by_answer (Ok r) fits =
        let n = record_length bytes in
        let parts : left ≡ n + (left - n) = omega arith in
        ap (λ (k : ℕ). let x : Result (Rec × Left) TraceFault = Ok (r, (at + k, drop k (take left bytes))) in x) same
        ∙ ap (λ (k : ℕ). let x : Result (Rec × Left) TraceFault = Ok (r, (at + n, drop n (take k bytes))) in x) parts
        ∙ ap (λ (x : List ℕ). let y : Result (Rec × Left) TraceFault = Ok (r, (at + n, x)) in y) (drop-take n (left - n) bytes)
    by_answer (Err f) fits = refl

    by_end : (b : Bool) → ltb span.end (at + record_length bytes) ≡ b
        → read_first (at, take left bytes) (record_in (take left bytes)) ≡ (cond b (Err (faults.Extents at)) (record_or at (record_in bytes)) >>= λ r. Ok (r, Rest at bytes left))
    by_end true e =
        ap (read_first (at, take left bytes)) (cut_is_short (take left bytes) (omega (arith, long, same, end, ltb-true span.end (at + record_length bytes) e)))
    by_end false e =
        let fits : record_length bytes ≤ left = omega (arith, end, ltb-false span.end (at + record_length bytes) e) in
        let all : record_in bytes ≡ record_in (take left bytes) =
        ap record_in (sym (take-append-drop left bytes)) ∙ whole_again (take left bytes) (drop left bytes) (omega (arith, long, some)) (omega (arith, long, same, fits)) in
        ap (read_first (at, take left bytes)) (sym all) ∙ by_answer (record_in bytes) fits

-- a record that is found ends within the block
within_fits : (span : Span) (at len : ℕ) (a : Result Rec RecFault) (r : Rec) → record_within span at len a ≡ Ok r → at + len ≤ span.end
within_fits span at len a r e = by_end (ltb span.end (at + len)) refl e
  where
    by_end : (b : Bool) → ltb span.end (at + len) ≡ b → cond b (Err (faults.Extents at)) (record_or at a) ≡ Ok r → at + len ≤ span.end
    by_end true is h = absurd cc
    by_end false is h = ltb-false span.end (at + len) is

-- a record that has a fault, in a block that is whole
ends_faulty : (version : Version) (total : ℕ) (header : Header) (stage : Stage) (blocks : List Block) (at : ℕ) (bytes : List ℕ) (span : Span) (fault : TraceFault)
    → 0 < length bytes → span.end ≤ total → stage_judged version stage at (record_length bytes) (record_in bytes) ≡ (Faulty span fault, Nothing)
    → scanned_ends total header (scanned_on version (at_stage stage blocks) at bytes) ≡ Err fault
ends_faulty version total header stage blocks at bytes span fault some whole is =
    ap (scanned_ends total header)
    (reads_next version stage (Faulty span fault) Nothing blocks at bytes some is
    ∙ stays_faulty version span fault blocks (starts record_length 0 (at + record_length bytes) (drop (record_length bytes) bytes)))
    ∙ rw (le-ltb total span.end whole) refl

-- ---- events

told_block : (entry event : Option Event) (front : List Block) (block : Block)
    → with_told (Noted entry event) (front ++ block ∷ []) ≡ front ++ with_events block (block.events ++ (option_to_list entry ++ option_to_list event)) ∷ []
told_block entry event front block =
    ap (with_event event) (event_last entry front block)
    ∙ event_last event front (with_events block (block.events ++ option_to_list entry))
    ∙ ap (λ (es : List Event). front ++ with_events block es ∷ []) (append_assoc block.events (option_to_list entry) (option_to_list event))

-- a record is the last of its block if no byte is left
ends_block : (end at k left : ℕ) (bytes : List ℕ) → end ≡ at + left → k ≤ left → left ≤ length bytes → eqb (length (take (left - k) (drop k bytes))) 0 ≡ eqb (at + k) end
ends_block end at k left bytes place fits within =
    let long : length (take (left - k) (drop k bytes)) ≡ left - k = omega (arith, length-take (left - k) (drop k bytes), length-drop k bytes) in
    same_test (length (take (left - k) (drop k bytes))) 0 (at + k) end (λ e. omega (arith, e, long, place, fits)) (λ e. omega (arith, e, long, place, fits))

-- the blocks from a place on
abbrev Onward : Version → ℕ → Header → ℕ → List ℕ → List Block → Result Trace TraceFault
Onward version total header at bytes blocks = scanned_ends total header (scanned_on version (at_stage Due blocks) at bytes)

abbrev EventsEnd : Version → ℕ → Header → Span → List Block → Block → List ℕ → ℕ → Result (List Event) TraceFault → Result Trace TraceFault
EventsEnd version total header span front block bytes left read = read >>= λ events. Onward version total header span.end (drop left bytes) (front ++ with_events block events ∷ [])

abbrev EventsRun : Version → ℕ → Type 0
EventsRun version n = (total : ℕ) (header : Header) (span : Span) (front : List Block) (block : Block) (base : Option Base) (at : ℕ) (bytes : List ℕ) (left : ℕ)
    → length bytes ≤ n → left ≤ length bytes → span.end ≡ at + left → span.end ≤ total
    → scanned_ends total header (scanned_on version (at_stage (stage_after span at (insides.Events base)) (front ++ block ∷ [])) at bytes)
    ≡ EventsEnd version total header span front block bytes left (with_front block.events (events_on base (standings at (take left bytes))))

abbrev EventsGoal : Version → ℕ → Header → Span → List Block → Block → Option Base → ℕ → List ℕ → ℕ → Type 0
EventsGoal version total header span front block base at bytes left =
    scanned_ends total header (scanned_on version (at_stage (Within span (insides.Events base)) (front ++ block ∷ [])) at bytes)
    ≡ EventsEnd version total header span front block bytes left (with_front block.events (events_on base (standings at (take left bytes))))

events_run : (version : Version) (n : ℕ) → EventsRun version n
unfolding events_on starts
events_run version n total header span front block base at bytes zero few within end whole =
    let place : at ≡ span.end = omega (arith, end) in
    rw (eq-eqb at span.end place) (ap (λ (k : ℕ). Onward version total header k bytes (front ++ block ∷ [])) place
    ∙ ap (λ (es : List Event). Onward version total header span.end bytes (front ++ with_events block es ∷ [])) (sym (append-nil block.events)))
events_run version zero total header span front block base at bytes (suc l) few within end whole = absurd (omega arith)
events_run version (suc n) total header span front block base at bytes (suc l) few within end whole =
    rw (ne_eqb at span.end (λ e. omega (arith, e, end))) (by_found (events_run version n) (record_within span at (record_length bytes) (record_in bytes)) refl)
  where
    by_step : EventsRun version n → (r : Rec) → record_within span at (record_length bytes) (record_in bytes) ≡ Ok r → record_on (at, take (suc l) bytes) ≡ Ok (r, Rest at bytes (suc l))
        → (y : Result (Base × Option Event × Option Event) TraceFault) → step_on (eqb (at + record_length bytes) span.end) at r base ≡ y → EventsGoal version total header span front block base at bytes (suc l)
    by_step again r is on (Err f) stepped =
        let ends = ends_block span.end at (record_length bytes) (suc l) bytes end (omega (arith, end, within_fits span at (record_length bytes) (record_in bytes) r is)) within in
        ends_faulty version total header (Within span (insides.Events base)) (front ++ block ∷ []) at bytes span f (omega (arith, within)) whole (rw (is, stepped) refl)
        ∙ ap (EventsEnd version total header span front block bytes (suc l))
        (sym (events_refuse block.events base at (take (suc l) bytes) r _ f _ (omega (arith, length-take-le (suc l) bytes within)) on (ap (λ (b : Bool). step_on b at r base) ends ∙ stepped) refl))
    by_step again r is on (Ok (after, entry, event)) stepped =
        let k = record_length bytes in
        let rest = drop k bytes in
        let left = suc l - k in
        let fits : k ≤ suc l = omega (arith, end, within_fits span at k (record_in bytes) r is) in
        let longer = with_events block (block.events ++ (option_to_list entry ++ option_to_list event)) in
        let stage = stage_after span (at + k) (insides.Events (Some after)) in
        let onward = again total header span front longer (Some after) (at + k) rest left (omega (arith, few, length-drop k bytes, length_some bytes, within)) (omega (arith, length-drop k bytes, within)) (omega (arith, end)) whole in
        let back : k + left ≡ suc l = omega arith in
        let dropped : drop left rest ≡ drop (suc l) bytes = drop-drop left k bytes ∙ ap (λ (m : ℕ). drop m bytes) back in
        let read = events_more block.events base at (take (suc l) bytes) r (at + k, take left rest) (after, entry, event) _ (omega (arith, length-take-le (suc l) bytes within)) on (ap (λ (b : Bool). step_on b at r base) (ends_block span.end at k (suc l) bytes end fits within) ∙ stepped) refl in
        ap (scanned_ends total header) (reads_next version (Within span (insides.Events base)) stage (Noted entry event) (front ++ block ∷ []) at bytes (omega (arith, within)) (rw (is, stepped) refl)
        ∙ ap (λ (bs : List Block). scanned_on version (at_stage stage bs) (at + k) rest) (told_block entry event front block))
        ∙ onward
        ∙ ap (λ (x : List ℕ). with_front longer.events (events_on (Some after) (standings (at + k) (take left rest))) >>= λ events. Onward version total header span.end x (front ++ with_events block events ∷ [])) dropped
        ∙ ap (EventsEnd version total header span front block bytes (suc l)) read

    by_found : EventsRun version n → (x : Result Rec TraceFault) → record_within span at (record_length bytes) (record_in bytes) ≡ x → EventsGoal version total header span front block base at bytes (suc l)
    by_found again (Ok r) is =
        by_step again r is (record_cut span at bytes (suc l) (omega arith) within end ∙ rw is refl) (step_on (eqb (at + record_length bytes) span.end) at r base) refl
    by_found again (Err f) is =
        let on : record_on (at, take (suc l) bytes) ≡ Err f = record_cut span at bytes (suc l) (omega arith) within end ∙ rw is refl in
        ends_faulty version total header (Within span (insides.Events base)) (front ++ block ∷ []) at bytes span f (omega (arith, within)) whole (rw is refl)
        ∙ ap (EventsEnd version total header span front block bytes (suc l))
        (sym (events_stop block.events base at (take (suc l) bytes) f _ (omega (arith, length-take-le (suc l) bytes within)) on refl))

-- ---- a preamble

-- what a record that has to name something leads to
abbrev Names : {A : Type 0} → Version → (Rec → Option A) → (A → Inside × Told) → Inside → Type 0
Names version named go inside = (ends : Bool) (at : ℕ) (r : Rec) → inside_next version inside ends at r ≡ NeedsPart (named r) (Err (faults.Order at)) (λ x. Ok (go x))

abbrev StepTo : {A : Type 0} → Version → (Rec → Option A) → (A → Inside × Told) → ℕ → Header → Span → Inside → List Block → ℕ → List ℕ → ℕ → Type 0
StepTo {A} version named go total header span inside blocks at bytes left =
    ((f : TraceFault) × (named_on named (at, take left bytes) ≡ Err f) × (scanned_ends total header (scanned_on version (at_stage (Within span inside) blocks) at bytes) ≡ Err f))
    ⊎ ((x : A) × (named_on named (at, take left bytes) ≡ Ok (x, Rest at bytes left))
    × (scanned_on version (at_stage (Within span inside) blocks) at bytes
    ≡ scanned_on version (at_stage (stage_after span (at + record_length bytes) (go x).0) (with_told (go x).1 blocks)) (at + record_length bytes) (drop (record_length bytes) bytes))
    × (record_length bytes ≤ left))

step_to : {A : Type 0} (version : Version) (named : Rec → Option A) (go : A → Inside × Told) (total : ℕ) (header : Header) (span : Span) (inside : Inside) (blocks : List Block) (at : ℕ) (bytes : List ℕ) (left : ℕ)
    → Names version named go inside → 0 < left → left ≤ length bytes → span.end ≡ at + left → span.end ≤ total
    → StepTo version named go total header span inside blocks at bytes left
step_to {A} version named go total header span inside blocks at bytes left names some within end whole = by_found (record_within span at (record_length bytes) (record_in bytes)) refl
  where
    by_name : (r : Rec) → record_within span at (record_length bytes) (record_in bytes) ≡ Ok r → record_on (at, take left bytes) ≡ Ok (r, Rest at bytes left) → (o : Option A) → named r ≡ o
        → StepTo version named go total header span inside blocks at bytes left
    by_name r found on (Some x) name =
        let says : inside_next version inside (eqb (at + record_length bytes) span.end) at r ≡ Ok (go x) = names (eqb (at + record_length bytes) span.end) at r ∙ rw name refl in
        inr (
          x,
          rw (on, name) refl,
          reads_next version (Within span inside) (stage_after span (at + record_length bytes) (go x).0) (go x).1 blocks at bytes (omega (arith, some, within)) (rw (found, says) refl),
          omega (arith, end, within_fits span at (record_length bytes) (record_in bytes) r found),
        )
    by_name r found on None name =
        let says : inside_next version inside (eqb (at + record_length bytes) span.end) at r ≡ Err (faults.Order at) = names (eqb (at + record_length bytes) span.end) at r ∙ rw name refl in
        inl (faults.Order at, rw (on, name) refl, ends_faulty version total header (Within span inside) blocks at bytes span (faults.Order at) (omega (arith, some, within)) whole (rw (found, says) refl))

    by_found : (a : Result Rec TraceFault) → record_within span at (record_length bytes) (record_in bytes) ≡ a → StepTo version named go total header span inside blocks at bytes left
    by_found (Ok r) found = by_name r found (record_cut span at bytes left some within end ∙ rw found refl) (named r) refl
    by_found (Err f) found =
        let on : record_on (at, take left bytes) ≡ Err f = record_cut span at bytes left some within end ∙ rw found refl in
        inl (f, rw on refl, ends_faulty version total header (Within span inside) blocks at bytes span f (omega (arith, some, within)) whole (rw found refl))

-- a block that isn't at its end
still_within : (span : Span) (at left : ℕ) (inside : Inside) → span.end ≡ at + left → 0 < left → stage_after span at inside ≡ Within span inside
still_within span at left inside end some = rw (ne_eqb at span.end (λ e. omega (arith, e, end, some))) refl

-- a block whose events were read
block_then : (read : Result (List Event) TraceFault) (block : Block) (onward : List Block → Result Trace TraceFault) (blocks : List Block)
    → (with_front [] read >>= λ events. onward (blocks ++ with_events block events ∷ [])) ≡ ((read >>= λ events. Ok (with_events block events)) >>= λ b. onward (blocks ++ b ∷ []))
block_then (Ok events) block onward blocks = refl
block_then (Err f) block onward blocks = refl

-- the bytes of a block after its extents
body_run : (version : Version) (total : ℕ) (header : Header) (span : Span) (blocks : List Block) (at : ℕ) (bytes : List ℕ) (left : ℕ)
    → preamble_bytes version ≤ left → left ≤ length bytes → span.end ≡ at + left → span.end ≤ total
    → scanned_ends total header (scanned_on version (at_stage (Within span insides.Opened) blocks) at bytes)
    ≡ (body_on version (at, take left bytes) >>= λ block. Onward version total header span.end (drop left bytes) (blocks ++ block ∷ []))
unfolding body_on preamble_on pid_on
body_run Two total header span blocks at bytes left many within end whole =
    let n = record_length bytes in
    elim (step_to Two thread_named (λ thread. (insides.Thread thread, Nothing)) total header span insides.Opened blocks at bytes left (λ ends k r. refl) (omega arith) within end whole) [
      | inl (f, on, run) ↦ rw on run
      | inr (thread, on, run, fits) ↦
          let at1 = at + n in
          let bytes1 = drop n bytes in
          let left1 = left - n in
          let n1 = record_length bytes1 in
          let long1 = length-drop n bytes in
          let most = length_most bytes in
          let run' = run ∙ ap (λ (s : Stage). scanned_on Two (at_stage s blocks) at1 bytes1) (still_within span at1 left1 (insides.Thread thread) (omega (arith, end)) (omega arith)) in
          elim (step_to Two wall_named (λ wall. (insides.Events None, Begun thread wall 0)) total header span (insides.Thread thread) blocks at1 bytes1 left1 (λ ends k r. refl) (omega arith) (omega arith) (omega (arith, end)) whole) [
            | inl (f, on1, run1) ↦ rw (on, on1) (ap (scanned_ends total header) run' ∙ run1)
            | inr (wall, on1, run1, fits1) ↦
                let at2 = at1 + n1 in
                let bytes2 = drop n1 bytes1 in
                let left2 = left1 - n1 in
                let long2 = length-drop n1 bytes1 in
                let most1 = length_most bytes1 in
                let empty = empty_block thread wall 0 in
                let events = events_run Two (length bytes2) total header span blocks empty None at2 bytes2 left2 (omega arith) (omega arith) (omega (arith, end)) whole in
                let back : n + (n1 + left2) ≡ left = omega arith in
                let dropped : drop left2 bytes2 ≡ drop left bytes =
                drop-drop left2 n1 bytes1 ∙ drop-drop (n1 + left2) n bytes ∙ ap (λ (k : ℕ). drop k bytes) back in
                let read = events_on None (standings at2 (take left2 bytes2)) in
                rw (on, on1) (
                ap (scanned_ends total header) (run' ∙ run1) ∙ events
                ∙ ap (λ (x : List ℕ). with_front [] read >>= λ es. Onward Two total header span.end x (blocks ++ with_events empty es ∷ [])) dropped
                ∙ block_then read empty (Onward Two total header span.end (drop left bytes)) blocks)
          ]
    ]
body_run Three total header span blocks at bytes left many within end whole =
    let n = record_length bytes in
    elim (step_to Three thread_named (λ thread. (insides.Thread thread, Nothing)) total header span insides.Opened blocks at bytes left (λ ends k r. refl) (omega arith) within end whole) [
      | inl (f, on, run) ↦ rw on run
      | inr (thread, on, run, fits) ↦
          let at1 = at + n in
          let bytes1 = drop n bytes in
          let left1 = left - n in
          let n1 = record_length bytes1 in
          let long1 = length-drop n bytes in
          let most = length_most bytes in
          let run' = run ∙ ap (λ (s : Stage). scanned_on Three (at_stage s blocks) at1 bytes1) (still_within span at1 left1 (insides.Thread thread) (omega (arith, end)) (omega arith)) in
          elim (step_to Three wall_named (λ wall. (insides.Wall thread wall, Nothing)) total header span (insides.Thread thread) blocks at1 bytes1 left1 (λ ends k r. refl) (omega arith) (omega arith) (omega (arith, end)) whole) [
            | inl (f, on1, run1) ↦ rw (on, on1) (ap (scanned_ends total header) run' ∙ run1)
            | inr (wall, on1, run1, fits1) ↦
                let at2 = at1 + n1 in
                let bytes2 = drop n1 bytes1 in
                let left2 = left1 - n1 in
                let n2 = record_length bytes2 in
                let long2 = length-drop n1 bytes1 in
                let most1 = length_most bytes1 in
                let run1' = run1 ∙ ap (λ (s : Stage). scanned_on Three (at_stage s blocks) at2 bytes2) (still_within span at2 left2 (insides.Wall thread wall) (omega (arith, end)) (omega arith)) in
                elim (step_to Three pid_named (λ pid. (insides.Events None, Begun thread wall pid)) total header span (insides.Wall thread wall) blocks at2 bytes2 left2 (λ ends k r. refl) (omega arith) (omega arith) (omega (arith, end)) whole) [
                  | inl (f, on2, run2) ↦ rw (on, on1, on2) (ap (scanned_ends total header) (run' ∙ run1') ∙ run2)
                  | inr (pid, on2, run2, fits2) ↦
                      let bytes3 = drop n2 bytes2 in
                      let left3 = left2 - n2 in
                      let long3 = length-drop n2 bytes2 in
                      let empty = empty_block thread wall pid in
                      let events = events_run Three (length bytes3) total header span blocks empty None (at2 + n2) bytes3 left3 (omega arith) (omega arith) (omega (arith, end)) whole in
                      let back : n + (n1 + (n2 + left3)) ≡ left = omega arith in
                      let dropped : drop left3 bytes3 ≡ drop left bytes =
                      drop-drop left3 n2 bytes2 ∙ drop-drop (n2 + left3) n1 bytes1 ∙ drop-drop (n1 + (n2 + left3)) n bytes ∙ ap (λ (k : ℕ). drop k bytes) back in
                      let read = events_on None (standings (at2 + n2) (take left3 bytes3)) in
                      rw (on, on1, on2) (
                      ap (scanned_ends total header) (run' ∙ run1' ∙ run2) ∙ events
                      ∙ ap (λ (x : List ℕ). with_front [] read >>= λ es. Onward Three total header span.end x (blocks ++ with_events empty es ∷ [])) dropped
                      ∙ block_then read empty (Onward Three total header span.end (drop left bytes)) blocks)
                ]
          ]
    ]

-- ---- a block that the file cuts off

cut_found : (version : Version) (span : Span) (inside : Inside) (at len : ℕ) → inside_judged version span inside at len (Err decoder_faults.Short) ≡ Err (faults.Extents at)
cut_found version span inside at len = elim (cases_Bool (ltb span.end (at + len))) [ inl e ↦ rw e refl | inr e ↦ rw e refl ]

abbrev CutRun : Version → ℕ → Type 0
CutRun version n = (total : ℕ) (header : Header) (span : Span) (inside : Inside) (blocks : List Block) (at : ℕ) (bytes : List ℕ) → length bytes ≤ n → at + length bytes ≡ total → total < span.end
    → scanned_ends total header (scanned_on version (at_stage (Within span inside) blocks) at bytes) ≡ Err (faults.Short span.begin)

abbrev CutGoal : Version → ℕ → Header → Span → Inside → List Block → ℕ → List ℕ → Type 0
CutGoal version total header span inside blocks at bytes =
    scanned_ends total header (scanned_on version (at_stage (Within span inside) blocks) at bytes) ≡ Err (faults.Short span.begin)

cut_step : (version : Version) (n : ℕ) → CutRun version n → (total : ℕ) (header : Header) (span : Span) (inside : Inside) (blocks : List Block) (at : ℕ) (bytes : List ℕ) → 0 < length bytes → length bytes ≤ suc n
    → at + length bytes ≡ total → total < span.end → scanned_ends total header (scanned_on version (at_stage (Within span inside) blocks) at bytes) ≡ Err (faults.Short span.begin)
cut_step version n again total header span inside blocks at bytes some few long cut = by_said (inside_judged version span inside at (record_length bytes) (record_in bytes)) refl
  where
    refused : (f : TraceFault) → inside_judged version span inside at (record_length bytes) (record_in bytes) ≡ Err f → CutGoal version total header span inside blocks at bytes
    refused f is =
        ap (scanned_ends total header) (reads_next version (Within span inside) (Faulty span f) Nothing blocks at bytes some (ap (stage_within span (at + record_length bytes)) is)
        ∙ stays_faulty version span f blocks (starts record_length 0 (at + record_length bytes) (drop (record_length bytes) bytes)))
        ∙ rw (lt-ltb total span.end cut) refl

    by_said : (x : Result (Inside × Told) TraceFault) → inside_judged version span inside at (record_length bytes) (record_in bytes) ≡ x → CutGoal version total header span inside blocks at bytes
    by_said (Err f) is = refused f is
    by_said (Ok (next, told)) is =
        elim (cases_Bool (ltb (length bytes) (record_length bytes))) [
          | inl e ↦ refused (faults.Extents at) (ap (inside_judged version span inside at (record_length bytes)) (cut_is_short bytes (ltb-true (length bytes) (record_length bytes) e)) ∙ cut_found version span inside at (record_length bytes))
          | inr e ↦
              let fits : record_length bytes ≤ length bytes = ltb-false (length bytes) (record_length bytes) e in
              let more : eqb (at + record_length bytes) span.end ≡ false = ne_eqb (at + record_length bytes) span.end (λ same. omega (arith, same, fits, long, cut)) in
              ap (scanned_ends total header) (reads_next version (Within span inside) (Within span next) told blocks at bytes some (ap (stage_within span (at + record_length bytes)) is ∙ rw more refl))
              ∙ again total header span next (with_told told blocks) (at + record_length bytes) (drop (record_length bytes) bytes) (omega (arith, length-drop (record_length bytes) bytes, length_some bytes, few)) (omega (arith, length-drop (record_length bytes) bytes, long, fits)) cut
        ]

cut_run : (version : Version) (n : ℕ) → CutRun version n
cut_run version n total header span inside blocks at [] few long cut = ap (scanned_ends total header) (reads_none version (at_stage (Within span inside) blocks) at)
cut_run version zero total header span inside blocks at (b ∷ bytes) few long cut = absurd (omega arith)
cut_run version (suc n) total header span inside blocks at (b ∷ bytes) few long cut = cut_step version n (cut_run version n) total header span inside blocks at (b ∷ bytes) (omega arith) few long cut

-- ---- blocks

-- a record with a number of bytes is extents
size_is : (r : Rec) (size : ℕ) → size_named r ≡ Some size → r ≡ Extents size
size_is (Extents n) size e = cc
size_is r size e = absurd cc

-- extents have their full length
extents_long : (bytes : List ℕ) (size : ℕ) → record_in bytes ≡ Ok (Extents size) → record_length bytes ≡ 16
unfolding record_in function_record_at metadata_record_at
extents_long bytes size e = grind (arith, common_steps)

-- the block that begins here
abbrev BlockHere : Version → ℕ → List ℕ → Result Block TraceFault
BlockHere version at bytes = decided (block_faults version (at, bytes)) (block_in (at, bytes))

abbrev FilesGoal : Version → ℕ → Header → List Block → ℕ → List ℕ → Type 0
FilesGoal version total header blocks at bytes =
    blocks_read version header blocks (starts block_length 0 at bytes) ≡ Onward version total header at bytes blocks

abbrev FilesRun : Version → ℕ → Type 0
FilesRun version n = (total : ℕ) (header : Header) (blocks : List Block) (at : ℕ) (bytes : List ℕ) → length bytes ≤ n → at + length bytes ≡ total → FilesGoal version total header blocks at bytes

block_fails : (version : Version) (total : ℕ) (header : Header) (blocks : List Block) (at : ℕ) (bytes : List ℕ) (f : TraceFault) → 0 < length bytes → 16 ≤ length bytes → at + length bytes ≡ total
    → BlockHere version at bytes ≡ Err f → extents_next version at (record_in bytes) ≡ Faulty (extents_span at) f → FilesGoal version total header blocks at bytes
block_fails version total header blocks at bytes f some many long found next =
    file_fails version header blocks at bytes f some found
    ∙ sym (ends_faulty version total header Due blocks at bytes (extents_span at) f some (omega (arith, many, long)) (ap (λ (x : Stage). (x, Nothing)) next))

-- the reading goes into the block
block_enters : (version : Version) (total : ℕ) (header : Header) (blocks : List Block) (at : ℕ) (bytes : List ℕ) (size : ℕ) → 0 < length bytes → record_in bytes ≡ Ok (Extents size) → ltb size (preamble_bytes version) ≡ false
    → Onward version total header at bytes blocks ≡ scanned_ends total header (scanned_on version (at_stage (Within (block_span at size) insides.Opened) blocks) (at + 16) (drop 16 bytes))
block_enters version total header blocks at bytes size some is least =
    ap (scanned_ends total header)
    (reads_next version Due (Within (block_span at size) insides.Opened) Nothing blocks at bytes some (rw (is, least) refl)
    ∙ ap (λ (k : ℕ). scanned_on version (at_stage (Within (block_span at size) insides.Opened) blocks) (at + k) (drop k bytes)) (extents_long bytes size is))

block_cut : (version : Version) (total : ℕ) (header : Header) (blocks : List Block) (at : ℕ) (bytes : List ℕ) (size : ℕ) → 0 < length bytes → 16 ≤ length bytes → at + length bytes ≡ total → record_in bytes ≡ Ok (Extents size)
    → ltb size (preamble_bytes version) ≡ false → length bytes < 16 + size → BlockHere version at bytes ≡ Err (faults.Short at) → FilesGoal version total header blocks at bytes
block_cut version total header blocks at bytes size some many long is least cut found =
    file_fails version header blocks at bytes (faults.Short at) some found
    ∙ sym (block_enters version total header blocks at bytes size some is least
    ∙ cut_run version (length (drop 16 bytes)) total header (block_span at size) insides.Opened blocks (at + 16) (drop 16 bytes) (omega arith) (omega (arith, length-drop 16 bytes, many, long)) (omega (arith, cut, long)))

block_whole : (version : Version) (n : ℕ) → FilesRun version n → (total : ℕ) (header : Header) (blocks : List Block) (at : ℕ) (bytes : List ℕ) (size : ℕ) → 0 < length bytes → length bytes ≤ suc n → at + length bytes ≡ total
    → record_in bytes ≡ Ok (Extents size) → ltb size (preamble_bytes version) ≡ false → 16 + size ≤ length bytes
    → BlockHere version at bytes ≡ body_on version (at + 16, take size (drop 16 bytes)) → FilesGoal version total header blocks at bytes
block_whole version n again total header blocks at bytes size some few long is least whole found =
    by_body (body_on version (at + 16, take size (drop 16 bytes))) refl
    ∙ sym (block_enters version total header blocks at bytes size some is least
    ∙ body_run version total header (block_span at size) blocks (at + 16) (drop 16 bytes) size (ltb-false size (preamble_bytes version) least) (omega (arith, length-drop 16 bytes, whole)) refl (omega (arith, whole, long)))
  where
    by_body : (x : Result Block TraceFault) → body_on version (at + 16, take size (drop 16 bytes)) ≡ x
        → blocks_read version header blocks (starts block_length 0 at bytes) ≡ (body_on version (at + 16, take size (drop 16 bytes)) >>= λ block. Onward version total header (at + 16 + size) (drop size (drop 16 bytes)) (blocks ++ block ∷ []))
    by_body (Err f) body = file_fails version header blocks at bytes f some (found ∙ body) ∙ sym (rw body refl)
    by_body (Ok block) body =
        let named : block_length bytes ≡ 16 + size = ap (λ (k : ℕ). 16 + k) (extents_is bytes size is) in
        let place : at + (16 + size) ≡ at + 16 + size = omega arith in
        file_goes_on version header blocks at bytes block some (found ∙ body)
        ∙ ap (λ (k : ℕ). blocks_read version header (blocks ++ block ∷ []) (starts block_length 0 (at + k) (drop k bytes))) named
        ∙ again total header (blocks ++ block ∷ []) (at + (16 + size)) (drop (16 + size) bytes) (omega (arith, length-drop (16 + size) bytes, few)) (omega (arith, length-drop (16 + size) bytes, whole, long))
        ∙ ap (λ (k : ℕ). Onward version total header k (drop (16 + size) bytes) (blocks ++ block ∷ [])) place
        ∙ ap (λ (x : List ℕ). Onward version total header (at + 16 + size) x (blocks ++ block ∷ [])) (sym (drop-drop size 16 bytes))
        ∙ sym (rw body refl)

-- the body is what its records decide
found_body : (version : Version) (at : ℕ) (bytes : List ℕ) (size : ℕ) → ltb (length bytes) 16 ≡ false → record_in bytes ≡ Ok (Extents size) → preamble_bytes version ≤ size → 16 + size ≤ length bytes
    → BlockHere version at bytes ≡ body_on version (at + 16, take size (drop 16 bytes))
found_body version at bytes size long is least whole =
    let body = take size (drop 16 bytes) in
    let many : preamble_bytes version ≤ length body = omega (arith, length-take size (drop 16 bytes), length-drop 16 bytes, least, whole) in
    rw (long, is, le-leb (preamble_bytes version) size least, le-leb (16 + size) (length bytes) whole)
    (ap (λ (k : ℕ). let said = standings (at + 16) (take k (drop 16 bytes)) in decided (standing_faults version [] said) (block_of (records_among said))) (extents_is bytes size is)
    ∙ sym (body_decided version (at + 16) body many))

-- fewer bytes than extents have
due_cut : (version : Version) (at : ℕ) (bytes : List ℕ) → 0 < length bytes → length bytes < 16 → (f : TraceFault) × (extents_next version at (record_in bytes) ≡ Faulty (extents_span at) f)
due_cut version at bytes some few = by_answer (record_in bytes) refl
  where
    by_size : (r : Rec) (o : Option ℕ) → record_in bytes ≡ Ok r → size_named r ≡ o → (f : TraceFault) × (extents_next version at (Ok r) ≡ Faulty (extents_span at) f)
    by_size r None is named = (faults.Order at, rw named refl)
    by_size r (Some size) is named =
        let extents : record_in bytes ≡ Ok (Extents size) = is ∙ ap (λ (x : Rec). Ok x) (size_is r size named) in
        let cut : length bytes < record_length bytes = omega (arith, few, extents_long bytes size extents) in
        let short = cut_is_short bytes cut in
        absurd cc

    by_answer : (a : Result Rec RecFault) → record_in bytes ≡ a → (f : TraceFault) × (extents_next version at a ≡ Faulty (extents_span at) f)
    by_answer (Ok r) is = by_size r (size_named r) is refl
    by_answer (Err fault) is = (faults.Bad at fault, refl)

files_step : (version : Version) (n : ℕ) → FilesRun version n → (total : ℕ) (header : Header) (blocks : List Block) (at : ℕ) (bytes : List ℕ) → 0 < length bytes → length bytes ≤ suc n → at + length bytes ≡ total
    → FilesGoal version total header blocks at bytes
files_step version n again total header blocks at bytes some few long = by_length (ltb (length bytes) 16) refl
  where
    by_whole : (size : ℕ) (b : Bool) → ltb (length bytes) 16 ≡ false → record_in bytes ≡ Ok (Extents size) → ltb size (preamble_bytes version) ≡ false → ltb (length bytes) (16 + size) ≡ b
        → FilesGoal version total header blocks at bytes
    by_whole size true far is least cut =
        let less : length bytes < 16 + size = ltb-true (length bytes) (16 + size) cut in
        block_cut version total header blocks at bytes size some (ltb-false (length bytes) 16 far) long is least less
        (rw (far, is, le-leb (preamble_bytes version) size (ltb-false size (preamble_bytes version) least), lt-leb (16 + size) (length bytes) less) refl)
    by_whole size false far is least cut =
        let whole : 16 + size ≤ length bytes = ltb-false (length bytes) (16 + size) cut in
        block_whole version n again total header blocks at bytes size some few long is least whole (found_body version at bytes size far is (ltb-false size (preamble_bytes version) least) whole)

    by_least : (size : ℕ) (b : Bool) → ltb (length bytes) 16 ≡ false → record_in bytes ≡ Ok (Extents size) → ltb size (preamble_bytes version) ≡ b → FilesGoal version total header blocks at bytes
    by_least size true far is least =
        block_fails version total header blocks at bytes (faults.Extents at) some (ltb-false (length bytes) 16 far) long (rw (far, is, lt-leb (preamble_bytes version) size (ltb-true size (preamble_bytes version) least)) refl) (rw (is, least) refl)
    by_least size false far is least = by_whole size (ltb (length bytes) (16 + size)) far is least refl

    by_size : (r : Rec) (o : Option ℕ) → ltb (length bytes) 16 ≡ false → record_in bytes ≡ Ok r → size_named r ≡ o → FilesGoal version total header blocks at bytes
    by_size r (Some size) far is named = by_least size (ltb size (preamble_bytes version)) far (is ∙ ap (λ (x : Rec). Ok x) (size_is r size named)) refl
    by_size r None far is named =
        block_fails version total header blocks at bytes (faults.Order at) some (ltb-false (length bytes) 16 far) long (rw (far, is, named) refl) (rw (is, named) refl)

    by_answer : (a : Result Rec RecFault) → ltb (length bytes) 16 ≡ false → record_in bytes ≡ a → FilesGoal version total header blocks at bytes
    by_answer (Ok r) far is = by_size r (size_named r) far is refl
    by_answer (Err f) far is = block_fails version total header blocks at bytes (faults.Bad at f) some (ltb-false (length bytes) 16 far) long (rw (far, is) refl) (rw is refl)

    by_length : (b : Bool) → ltb (length bytes) 16 ≡ b → FilesGoal version total header blocks at bytes
    by_length true near =
        let few : length bytes < 16 = ltb-true (length bytes) 16 near in
        let f = due_cut version at bytes some few in
        file_fails version header blocks at bytes (faults.Short at) some (rw near refl)
        ∙ sym (ap (scanned_ends total header) (reads_next version Due (Faulty (extents_span at) f.0) Nothing blocks at bytes some (ap (λ (x : Stage). (x, Nothing)) f.1)
        ∙ stays_faulty version (extents_span at) f.0 blocks (starts record_length 0 (at + record_length bytes) (drop (record_length bytes) bytes)))
        ∙ rw (lt-ltb total (at + 16) (omega (arith, few, long))) refl)
    by_length false far = by_answer (record_in bytes) far refl

files_run : (version : Version) (n : ℕ) → FilesRun version n
files_run version n total header blocks at [] few long = file_ends version header blocks at ∙ ap (scanned_ends total header) (sym (reads_none version (at_stage Due blocks) at))
files_run version zero total header blocks at (b ∷ bytes) few long = absurd (omega arith)
files_run version (suc n) total header blocks at (b ∷ bytes) few long = files_step version n (files_run version n) total header blocks at (b ∷ bytes) (omega arith) few long

-- ---- a file

pub run_agrees : (bytes : List ℕ) → trace_of bytes ≡ scanned_ends (length bytes) (header_in bytes) (scanned bytes)
run_agrees bytes =
    rows_decide bytes ∙ header_first bytes (λ version. decided (blocks_faults version bytes) (told_by bytes)) ∙ by_version (version_read bytes) refl
  where
    by_version : (o : Result Version TraceFault) → version_read bytes ≡ o
        → (o >>= λ version. decided (blocks_faults version bytes) (told_by bytes)) ≡ scanned_ends (length bytes) (header_in bytes) (scanned_from o bytes)
    by_version (Ok version) is =
        files_run version (length (drop 32 bytes)) (length bytes) (header_in bytes) [] 32 (drop 32 bytes) (omega arith) (omega (arith, length-drop 32 bytes, (header_has bytes version is).long))
    by_version (Err f) is = sym (rw (le-ltb (length bytes) 0 (omega arith)) refl)

-- a file that reads as a trace
ends_ok : (len : ℕ) (header : Header) (blocks : List Block) (stage : Stage) (trace : Trace) → stage_ends len header blocks stage ≡ Ok trace → blocks ≡ trace.blocks
ends_ok len header blocks Due trace e =
    let made : Trace = record { header = header; blocks = blocks } in
    let same : made ≡ trace = cc in
    ap (λ (t : Trace). t.blocks) same
ends_ok len header blocks (Within span inside) trace e = absurd cc
ends_ok len header blocks (Faulty span fault) trace e = by_end (ltb len span.end) e
  where
    by_end : (b : Bool) → cond b (Err (faults.Short span.begin)) (Err fault) ≡ Ok trace → blocks ≡ trace.blocks
    by_end true h = absurd cc
    by_end false h = absurd cc

pub given_reads : (bytes : List ℕ) (trace : Trace) → trace_of bytes ≡ Ok trace → blocks_given bytes ≡ trace.blocks
given_reads bytes trace is = ends_ok (length bytes) (header_in bytes) (scanned bytes).blocks (scanned bytes).stage trace (sym (run_agrees bytes) ∙ is)

pub given_none : blocks_given [] ≡ []
given_none = refl
