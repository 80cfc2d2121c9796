-- A scan that goes past records among the events of a block.
use Rattle.std.proofs.Common.{◌≡◌, Bool, eqb, ℕ, ◌+◌, ◌<◌, ◌≤◌, List, [], ◌++◌, length, take, drop, Option, Some, Result, Ok, Err, refl, sym, ap, subst, ◌∙◌, append_assoc, length-drop, arith}
use Rattle.std.specs.Prelude.{IfOk}
use Rattle.std.proofs.Math.Seq.{take-add}
use Rattle.std.proofs.lemmas.List.{take-append-drop, take-append-le}
use Rattle.std.proofs.lemmas.Bool.{le-leb, le-ltb, ne_eqb}
use Rattle.xray_io.specs.Rows.{◌>>=◌}
use Rattle.fdr_record.specs.declared.event.Event.{Event}
use Rattle.fdr_record.specs.declared.rec.Rec.{Rec}
use Rattle.fdr_record.specs.declared.fault.RecFault.{RecFault}
use Rattle.fdr_file.specs.declared.events.Base.{Base}
use Rattle.fdr_file.specs.declared.scan.TraceScan.{TraceScan}
use Rattle.fdr_file.specs.declared.stage.Inside.TheVariants as insides
use Rattle.fdr_file.specs.declared.stage.Span.{Span}
use Rattle.fdr_file.specs.declared.stage.Stage.{Stage}
use Rattle.fdr_file.specs.declared.stage.Stage.TheVariants.{Within}
use Rattle.fdr_file.specs.declared.stage.Told.{Told}
use Rattle.fdr_file.specs.declared.stage.Told.TheVariants.{Noted}
use Rattle.fdr_file.specs.declared.version.Version.{Version}
use Rattle.fdr_file.specs.Scanning.{event_on, blocks_given, record_or, stage_after, stage_judged, stage_within, step_on, with_told}
use Rattle.fdr_file.specs.Traces.{record_in, record_length}
use Rattle.fdr_file.specs.Streams.{Scans}
use Rattle.fdr_file.specs.private.Scan.{Advances, CanTell, EventsNext, among_events, record_advanced}
use Rattle.fdr_file.proofs.ScanSteps.{record_advances}

-- a record among the events of a block
pub runs_judged : (version : Version) (span : Span) (at : ℕ) (start base : Base) (entry event : Option Event) (bytes : List ℕ) → at + record_length bytes ≤ span.end
    → event_on (eqb (at + record_length bytes) span.end) at start bytes ≡ Ok (base, entry, event)
    → stage_judged version (Within span (insides.Events (Some start))) at (record_length bytes) (record_in bytes) ≡ (stage_after span (at + record_length bytes) (insides.Events (Some base)), Noted entry event)
runs_judged version span at start base entry event bytes within says = rw (le-ltb span.end (at + record_length bytes) within) (by_found (record_in bytes) says)
  where
    by_found : (a : Result Rec RecFault) → (record_or at a >>= λ r. step_on (eqb (at + record_length bytes) span.end) at r (Some start)) ≡ Ok (base, entry, event)
        → stage_within span (at + record_length bytes) (record_or at a >>= λ r. step_on (eqb (at + record_length bytes) span.end) at r (Some start) >>= λ step. Ok (insides.Events (Some step.0), Noted step.1 step.2))
        ≡ (stage_after span (at + record_length bytes) (insides.Events (Some base)), Noted entry event)
    by_found (Ok r) is = rw is refl
    by_found (Err f) is = absurd cc

-- a scan after such a record
runs_step : (version : Version) (scan : TraceScan) (span : Span) (at : ℕ) (start base : Base) (entry event : Option Event) (bytes : List ℕ) → scan.prefix ≡ [] → at < span.end
    → at + record_length bytes ≤ span.end → record_length bytes ≤ length bytes → event_on (eqb (at + record_length bytes) span.end) at start bytes ≡ Ok (base, entry, event)
    → (among_events scan span (at + record_length bytes) base, (record_length bytes, Noted entry event)) ≡ record_advanced version (among_events scan span at start) bytes
runs_step version scan span at start base entry event bytes none before within whole says =
    let n = record_length bytes in
    let after : Stage × Told → TraceScan × (ℕ × Told) = λ said. (record scan { stage = said.0; at = at + n; prefix = [] }, (n, said.1)) in
    rw (none, ne_eqb at span.end (λ e. omega (arith, e)), le-leb n (length bytes) whole) (ap after (sym (runs_judged version span at start base entry event bytes within says)))

-- the stream with more of the bytes
pub runs_longer : (stream bytes : List ℕ) (from n : ℕ) → (stream ++ take from bytes) ++ take n (drop from bytes) ≡ stream ++ take (from + n) bytes
runs_longer stream bytes from n =
    append_assoc stream (take from bytes) (take n (drop from bytes)) ∙ ap (λ (x : List ℕ). stream ++ x) (sym (take-add from n bytes))

-- a scan after more of the stream, and what that says
pub record RunsTo (new : TraceScan) (before after : List ℕ) (told : Told) : Type 0 where
  pub scans : Scans new after
  pub grows : blocks_given after ≡ with_told told (blocks_given before)
  pub can : CanTell told (blocks_given before)

pub runs_more : (scan : TraceScan) (span : Span) (first start base : Base) (entry event : Option Event) (stream bytes : List ℕ) (from next end : ℕ) → EventsNext scan span first → scan.at + length bytes ≤ span.end
    → (next ≡ from + record_length (drop from bytes)) × (from < next) × (next ≤ length bytes) → ((k : ℕ) → k ≤ length bytes → eqb k end ≡ eqb (scan.at + k) span.end)
    → event_on (eqb next end) (scan.at + from) start (drop from bytes) ≡ Ok (base, entry, event)
    → Scans (among_events scan span (scan.at + from) start) (stream ++ take from bytes)
    → RunsTo (among_events scan span (scan.at + next) base) (stream ++ take from bytes) (stream ++ take next bytes) (Noted entry event)
runs_more scan span first start base entry event stream bytes from next end here within (is, further, whole) ends says scans =
    let rest = drop from bytes in
    let n = record_length rest in
    let left = length-drop from bytes in
    let before = among_events scan span (scan.at + from) start in
    let place : scan.at + from + n ≡ scan.at + next = omega (arith, is) in
    let same : eqb next end ≡ eqb (scan.at + from + n) span.end = ends next whole ∙ ap (λ (k : ℕ). eqb k span.end) (sym place) in
    let said = ap (λ (b : Bool). event_on b (scan.at + from) start rest) (sym same) ∙ says in
    let step = runs_step here.version scan span (scan.at + from) start base entry event rest here.none (omega (arith, further, whole, within)) (omega (arith, is, whole, within)) (omega (arith, is, whole, left)) said in
    let a : Advances (among_events scan span (scan.at + from + n) base) (stream ++ take from bytes) (take n rest) (Noted entry event) =
    record_advances before _ (stream ++ take from bytes) rest n (Noted entry event) here.version here.header (omega (arith, left, further, whole)) here.head step scans in
    let longer : (stream ++ take from bytes) ++ take n rest ≡ stream ++ take next bytes = runs_longer stream bytes from n ∙ ap (λ (k : ℕ). stream ++ take k bytes) (sym is) in
    record {
      scans = subst (λ (k : ℕ). Scans (among_events scan span k base) (stream ++ take next bytes)) place (subst (λ (x : List ℕ). Scans (among_events scan span (scan.at + from + n) base) x) longer a.scans);
      grows = ap blocks_given (sym longer) ∙ a.grows;
      can = a.can;
    }

-- ---- answers

-- the first items of a part
pub take_part : (n m : ℕ) (xs : List ℕ) → n ≤ length (take m xs) → take n (take m xs) ≡ take n xs
take_part n m xs within = sym (ap (take n) (sym (take-append-drop m xs)) ∙ take-append-le n (take m xs) (drop m xs) within)

-- of two facts of an answer, a third
pub if_ok_both : {T E : Type 0} (r : Result T E) (P Q R : T → Type 0) → ((x : T) → P x → Q x → R x) → IfOk r P → IfOk r Q → IfOk r R
if_ok_both (Ok x) P Q R f p q = f x p q
if_ok_both (Err e) P Q R f p q = tt
