-- A record of a log by the grammar is read as this record.
use Rattle.std.proofs.Common.{◌≡◌, ℕ, ◌+◌, ◌%◌, ◌^◌, ◌<◌, ◌≤◌, Bool, true, false, cond, eqb, ltb, List, [], ◌∷◌, ◌++◌, length, drop, slice_index, Option, Some, None, Result, Ok, Err, refl, sym, ap, subst, ◌∙◌, append_assoc, arith}
use Rattle.std.proofs.lemmas.Bool.{eqb-true, le-ltb}
use Rattle.std.proofs.lemmas.List.{drop_at, length-append, take_at}
use Rattle.byteorder.specs.Endian.{little_bytes, little_number}
use Rattle.byteorder.specs.Numbers.{length-bytes_low_first, little_number-reads_back}
use Rattle.xray_io.specs.Rows.{First, InTurn, ◌>>=◌}
use Rattle.fdr_record.specs.declared.fault.RecFault.{RecFault}
use Rattle.fdr_record.specs.declared.fault.RecFault.TheVariants as decoder_faults
use Rattle.fdr_record.specs.declared.rec.Rec.{Rec}
use Rattle.fdr_record.specs.declared.rec.Rec.TheVariants.{TscWrap}
use Rattle.fdr_record.specs.Reading.{metadata_record_at}
use Rattle.fdr_record.specs.Records.{BeginsWith, Spells, length_of}
use Rattle.fdr_file.specs.declared.fault.TraceFault.{TraceFault}
use Rattle.fdr_file.specs.declared.fault.TraceFault.TheVariants as traces
use Rattle.fdr_file.specs.declared.stage.Inside.{Inside}
use Rattle.fdr_file.specs.declared.stage.Inside.TheVariants as insides
use Rattle.fdr_file.specs.declared.stage.Span.{Span}
use Rattle.fdr_file.specs.declared.stage.Stage.{Stage}
use Rattle.fdr_file.specs.declared.stage.Stage.TheVariants.{Within}
use Rattle.fdr_file.specs.declared.stage.Told.{Told}
use Rattle.fdr_file.specs.declared.version.Version.{Version}
use Rattle.fdr_file.specs.Scanning.{inside_next, stage_after, stage_judged, stage_within}
use Rattle.fdr_file.specs.Traces.{record_in}
use Rattle.fdr_file.proofs.DecodedRecords.{length_told, told_again}
use Rattle.runtime_log.specs.declared.own_event.OwnKind.{OwnKind}
use Rattle.runtime_log.specs.declared.own_event.OwnKind.TheVariants.{Custom, Typed}
use Rattle.runtime_log.specs.declared.version.LogVersion.{LogVersion}
use Rattle.runtime_log.specs.declared.version.LogVersion.TheVariants.{Two, Three, Four, Five}
use Rattle.runtime_log.specs.Grammar.{AreLogRecords, DeltaFits, HasEventsOf, IsLogRecord, IsOwnEvent, LogRecord, OfProgram, OfTrace, arg_first, delta_bytes, is_typed_event, own_marker}
use Rattle.runtime_log.specs.Logs.{BlockSoFar, block_with, log_places, log_record_rows, one_custom, one_typed, said_rows, unless_faulty}
use Rattle.runtime_log.specs.Arguments.{arg_follows, found_arg, found_before, rec_before}
use Rattle.runtime_log.specs.OwnEvents.{counter_inside, counter_so_far, first_kind, log_record_in, log_record_length, own_delta, own_kind, own_size, typed_kind}
use Rattle.runtime_log.specs.Versions.{trace_version}
use Rattle.runtime_log.proofs.ArgumentsBehind.{nothing_found}
use Rattle.runtime_log.proofs.LogRecords.{as_record, kind_of, length_by_kind, not_faulty, record_by}
use Rattle.runtime_log.proofs.RecordWalk.{log_record_some, rows_first, so_with}

-- ---- records of traces

not_custom : (rest : List ℕ) (r : Rec) → record_in (11 ∷ rest) ≡ Ok r → ⊥
unfolding record_in metadata_record_at
not_custom rest r found = by_short (ltb (length rest) 15) found
  where
    by_short : (b : Bool) → cond b (Err decoder_faults.Short) (Err (decoder_faults.Kind 5)) ≡ Ok r → ⊥
    by_short true h = absurd cc
    by_short false h = absurd cc

not_typed : (rest : List ℕ) (r : Rec) → record_in (17 ∷ rest) ≡ Ok r → ⊥
unfolding record_in metadata_record_at
not_typed rest r found = by_short (ltb (length rest) 15) found
  where
    by_short : (b : Bool) → cond b (Err decoder_faults.Short) (Err (decoder_faults.Kind 8)) ≡ Ok r → ⊥
    by_short true h = absurd cc
    by_short false h = absurd cc

-- no record of a trace begins as an event of the program's own does
pub never_first : (version : LogVersion) (first : ℕ) (rest : List ℕ) (r : Rec) → record_in (first ∷ rest) ≡ Ok r → first_kind version first ≡ None
never_first version first rest r found = by_custom (eqb first 11) refl
  where
    by_typed : (b : Bool) → eqb first 17 ≡ b → cond b (Some Typed) None ≡ None
    by_typed true e = absurd (not_typed rest r (ap (λ (k : ℕ). record_in (k ∷ rest)) (sym (eqb-true first 17 e)) ∙ found))
    by_typed false e = refl

    by_version : (v : LogVersion) → typed_kind v first ≡ None
    by_version Two = refl
    by_version Three = refl
    by_version Four = refl
    by_version Five = by_typed (eqb first 17) refl

    by_custom : (b : Bool) → eqb first 11 ≡ b → cond b (Some Custom) (typed_kind version first) ≡ None
    by_custom true e = absurd (not_custom rest r (ap (λ (k : ℕ). record_in (k ∷ rest)) (sym (eqb-true first 11 e)) ∙ found))
    by_custom false e = by_version version

pub never_own : (version : LogVersion) (bytes : List ℕ) (r : Rec) → record_in bytes ≡ Ok r → own_kind version bytes ≡ None
never_own version [] r found = refl
never_own version (first ∷ rest) r found = by_short (ltb (length (first ∷ rest)) 16)
  where
    by_short : (b : Bool) → cond b None (first_kind version first) ≡ None
    by_short true = refl
    by_short false = never_first version first rest r found

-- ---- events of the program's own

kind_again : (version : LogVersion) (kind : OwnKind) → HasEventsOf version kind → first_kind version (own_marker kind) ≡ Some kind
kind_again version Custom known = refl
kind_again version Typed known = ap (λ (v : LogVersion). typed_kind v 17) known

delta_again : (version : LogVersion) (marker n delta : ℕ) (filler tail : List ℕ) → DeltaFits version delta → own_delta version (marker ∷ (little_bytes 4 n ++ ((delta_bytes version delta ++ filler) ++ tail))) ≡ delta
delta_again Two marker n delta filler tail fits = sym fits
delta_again Three marker n delta filler tail fits = sym fits
delta_again Four marker n delta filler tail fits = sym fits
delta_again Five marker n delta filler tail fits =
    ap (little_number 4) (drop_at (little_bytes 4 n) ((little_bytes 4 delta ++ filler) ++ tail) 4 (length-bytes_low_first 0 4 n))
    ∙ ap (little_number 4) (append_assoc (little_bytes 4 delta) filler tail)
    ∙ little_number-reads_back 4 delta (filler ++ tail) fits

record OwnAgain (version : LogVersion) (kind : OwnKind) (delta n : ℕ) (bytes : List ℕ) : Type 0 where
  kind_is : own_kind version bytes ≡ Some kind
  size : own_size bytes ≡ n
  delta_is : own_delta version bytes ≡ delta

own_again : (version : LogVersion) (kind : OwnKind) (delta : ℕ) (front following : List ℕ) (is : IsOwnEvent version kind delta front) → OwnAgain version kind delta (length is.payload) (front ++ following)
own_again version kind delta front following is =
    let n = length is.payload in
    let tail = is.payload ++ following in
    let rest = little_bytes 4 n ++ ((delta_bytes version delta ++ is.filler) ++ tail) in
    let word : List ℕ = own_marker kind ∷ rest in
    let parts : front ++ following ≡ word =
    ap (λ (x : List ℕ). x ++ following) is.parts ∙ append_assoc is.head is.payload following ∙ ap (λ (x : List ℕ). x ++ tail) is.spelled
    ∙ ap (λ (x : List ℕ). own_marker kind ∷ x) (append_assoc (little_bytes 4 n) (delta_bytes version delta ++ is.filler) tail) in
    let long : 16 ≤ length word = omega (arith, ap length parts, ap length (ap (λ (x : List ℕ). x ++ following) is.parts ∙ append_assoc is.head is.payload following), length-append is.head tail, is.whole) in
    subst (OwnAgain version kind delta n) (sym parts) (record {
      kind_is = ap (λ (b : Bool). cond b None (first_kind version (own_marker kind))) (le-ltb (length word) 16 long) ∙ kind_again version kind is.known;
      size = little_number-reads_back 4 n ((delta_bytes version delta ++ is.filler) ++ tail) is.few;
      delta_is = delta_again version (own_marker kind) n delta is.filler tail is.fits;
    })

-- ---- any record

pub record LogReads (version : LogVersion) (stage : Stage) (bytes : List ℕ) (lr : LogRecord) (n : ℕ) : Type 0 where
  pub kind : own_kind version bytes ≡ kind_of lr
  pub long : log_record_length version bytes ≡ n
  pub found : log_record_in version stage bytes ≡ Ok (as_record (counter_so_far stage) (found_arg (record_in (drop n bytes))) lr)

pub log_reads : (version : LogVersion) (stage : Stage) (lr : LogRecord) (front following : List ℕ) → IsLogRecord version lr front → LogReads version stage (front ++ following) lr (length front)
log_reads version stage (OfTrace r) front following is =
    let bytes = front ++ following in
    let begins : BeginsWith r bytes = subst (λ (x : List ℕ). Spells x r) (sym (take_at front following (length_of r) is.1.whole)) is.1 in
    let found = told_again r bytes is.0 begins in
    let own = never_own version bytes r found in record {
      kind = own;
      long = ap (length_by_kind bytes) own ∙ length_told r bytes is.0 begins ∙ sym is.1.whole;
      found =
          ap (record_by version stage bytes) own ∙ (ap (found_before (arg_follows bytes)) found
          ∙ ap (λ (k : ℕ). let x : Result Rec RecFault = Ok (rec_before (found_arg (record_in (drop k bytes))) r) in x) (length_told r bytes is.0 begins ∙ sym is.1.whole));
    }
log_reads version stage (OfProgram kind delta) front following is =
    let bytes = front ++ following in
    let o = own_again version kind delta front following is in
    let long : 16 + own_size bytes ≡ length front = omega (arith, o.size, ap length is.parts, length-append is.head is.payload, is.whole) in record {
      kind = o.kind_is;
      long = ap (length_by_kind bytes) o.kind_is ∙ long;
      found = ap (record_by version stage bytes) o.kind_is ∙ ap (λ (d : ℕ). let x : Result Rec RecFault = Ok (TscWrap ((counter_so_far stage + d) % 2 ^ 64)) in x) o.delta_is;
    }

pub front_some : (version : LogVersion) (lr : LogRecord) (front following : List ℕ) → IsLogRecord version lr front → 0 < length front
front_some version lr front following is =
    let stage : Stage = Within (record { begin = 0; end = 0 }) insides.Opened in
    omega (arith, (log_reads version stage lr front following is).long, log_record_some version (front ++ following))

-- an argument is next in bytes if it is the first of their records
pub arg_agrees : (version : LogVersion) (records : List LogRecord) (bytes : List ℕ) → AreLogRecords version records bytes → found_arg (record_in bytes) ≡ arg_first records
arg_agrees version [] bytes are = ap (λ (xs : List ℕ). found_arg (record_in xs)) are ∙ nothing_found
arg_agrees version (OfTrace r ∷ records) bytes (front, following, parts, is, rest) =
    let all = front ++ following in
    let begins : BeginsWith r all = subst (λ (x : List ℕ). Spells x r) (sym (take_at front following (length_of r) is.1.whole)) is.1 in
    ap (λ (xs : List ℕ). found_arg (record_in xs)) parts ∙ ap found_arg (told_again r all is.0 begins)
arg_agrees version (OfProgram kind delta ∷ records) bytes (front, following, parts, is, rest) =
    ap (λ (xs : List ℕ). found_arg (record_in xs)) parts ∙ by_found (record_in (front ++ following)) refl
  where
    all : List ℕ
    all = front ++ following

    by_found : (x : Result Rec RecFault) → record_in all ≡ x → found_arg x ≡ false
    by_found (Err fault) e = refl
    by_found (Ok r) e =
        let no : Some kind ≡ None = sym (own_again version kind delta front following is).kind_is ∙ never_own version all r e in
        absurd cc

no_bytes_read : (r : Rec) → record_in [] ≡ Ok r → ⊥
unfolding record_in
no_bytes_read r found = absurd cc

-- a record is a typed event by its first byte
pub first_typed : (version : LogVersion) (lr : LogRecord) (front following : List ℕ) → IsLogRecord version lr front → one_typed (first_kind version (slice_index (front ++ following) 0)) ≡ cond (is_typed_event lr) 1 0
first_typed version (OfTrace r) front following is =
    let all = front ++ following in
    let begins : BeginsWith r all = subst (λ (x : List ℕ). Spells x r) (sym (take_at front following (length_of r) is.1.whole)) is.1 in
    by_bytes all (told_again r all is.0 begins)
  where
    by_bytes : (xs : List ℕ) → record_in xs ≡ Ok r → one_typed (first_kind version (slice_index xs 0)) ≡ 0
    by_bytes [] found = absurd (no_bytes_read r found)
    by_bytes (first ∷ rest) found = ap one_typed (never_first version first rest r found)
first_typed version (OfProgram kind delta) front following is =
    let o = own_again version kind delta front following is in
    by_long (ltb (length (front ++ following)) 16) o.kind_is
  where
    by_kind : (k : OwnKind) → one_typed (Some k) ≡ cond (is_typed_event (OfProgram k delta)) 1 0
    by_kind Custom = refl
    by_kind Typed = refl

    by_long : (b : Bool) → cond b None (first_kind version (slice_index (front ++ following) 0)) ≡ Some kind → one_typed (first_kind version (slice_index (front ++ following) 0)) ≡ cond (is_typed_event (OfProgram kind delta)) 1 0
    by_long true e = absurd cc
    by_long false e = ap one_typed e ∙ by_kind kind

-- ---- one step

-- the block so far, with what a record says
abbrev pub so_lr : BlockSoFar → LogRecord → Stage → Told → BlockSoFar
so_lr so lr stage told = record { stage = stage; block = block_with told so.block; custom = so.custom + one_custom (kind_of lr); typed = so.typed + one_typed (kind_of lr) }

pub run_step : (version : LogVersion) (span : Span) (inside : Inside) (at : ℕ) (lr : LogRecord) (front following : List ℕ) (so : BlockSoFar) (said : Inside × Told) → IsLogRecord version lr front
    → so.stage ≡ Within span inside → at + length front ≤ span.end
    → inside_next (trace_version version) inside (eqb (at + length front) span.end) at (as_record (counter_inside inside) (found_arg (record_in following)) lr) ≡ Ok said
    → InTurn (said_rows version) so (log_places version at (front ++ following))
    ≡ InTurn (said_rows version) (so_lr so lr (stage_after span (at + length front) said.0) said.1) (log_places version (at + length front) following)
run_step version span inside at lr front following so said is stage within next =
    rows_first version so at bytes some
    ∙ ap (λ (x : Result (Stage × Told) TraceFault). (x >>= λ s. Ok (so_with version so bytes s)) >>= λ s. InTurn (said_rows version) s (log_places version (at + log_record_length version bytes) (drop (log_record_length version bytes) bytes))) row
    ∙ ap (λ (o : Option OwnKind). InTurn (said_rows version) (made o) (log_places version (at + log_record_length version bytes) (drop (log_record_length version bytes) bytes))) r.kind
    ∙ ap (λ (k : ℕ). InTurn (said_rows version) (made (kind_of lr)) (log_places version (at + k) (drop k bytes))) r.long
    ∙ ap (λ (xs : List ℕ). InTurn (said_rows version) (made (kind_of lr)) (log_places version (at + n) xs)) (drop_at front following n refl)
  where
    bytes : List ℕ
    bytes = front ++ following

    n : ℕ
    n = length front

    tv : Version
    tv = trace_version version

    r : LogReads version (Within span inside) bytes lr n
    r = log_reads version (Within span inside) lr front following is

    some : 0 < length bytes
    some = omega (arith, length-append front following, front_some version lr front following is)

    rec : Rec
    rec = as_record (counter_inside inside) (found_arg (record_in following)) lr

    made : Option OwnKind → BlockSoFar
    made o = record { stage = stage_after span (at + n) said.0; block = block_with said.1 so.block; custom = so.custom + one_custom o; typed = so.typed + one_typed o }

    row : log_record_rows version so.stage (at, bytes) ≡ Ok (stage_after span (at + n) said.0, said.1)
    row =
        ap (λ (s : Stage). log_record_rows version s (at, bytes)) stage
        ∙ ap (λ (k : ℕ). First (ltb (length bytes) k) (Err (traces.Extents at)) (unless_faulty (stage_judged tv (Within span inside) at k (log_record_in version (Within span inside) bytes)))) r.long
        ∙ ap (λ (b : Bool). First b (Err (traces.Extents at)) (unless_faulty (stage_judged tv (Within span inside) at n (log_record_in version (Within span inside) bytes)))) (le-ltb (length bytes) n (omega (arith, length-append front following)))
        ∙ ap (λ (x : Result Rec RecFault). unless_faulty (stage_judged tv (Within span inside) at n x))
        (r.found ∙ ap (λ (xs : List ℕ). let x : Result Rec RecFault = Ok (as_record (counter_inside inside) (found_arg (record_in xs)) lr) in x) (drop_at front following n refl))
        ∙ ap (λ (b : Bool). unless_faulty (stage_within span (at + n) (cond b (Err (traces.Extents at)) (Ok rec) >>= λ x. inside_next tv inside (eqb (at + n) span.end) at x))) (le-ltb span.end (at + n) within)
        ∙ ap (λ (x : Result (Inside × Told) TraceFault). unless_faulty (stage_within span (at + n) x)) next
        ∙ not_faulty span (at + n) said
