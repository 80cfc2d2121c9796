-- The records of a block of a log, as the grammar has them.
use Rattle.std.proofs.Common.{◌≡◌, ℕ, ◌+◌, ◌%◌, ◌^◌, ◌<◌, ◌≤◌, Bool, true, false, cond, eqb, ltb, List, [], ◌∷◌, ◌++◌, All, length, drop, take, Option, Some, None, Result, Ok, Err, refl, sym, ap, subst, ◌∙◌, arith}
use Rattle.std.specs.Option.{option_map_or}
use Rattle.std.proofs.lemmas.Bool.{eqb-true, ltb-false}
use Rattle.std.proofs.lemmas.List.{length-drop, length-take}
use Rattle.std.proofs.lemmas.List.Elements.{All-drop, All-tail}
use Rattle.std.proofs.Math.Seq.{take-add}
use Rattle.byteorder.specs.Endian.{little_bytes}
use Rattle.xray_io.specs.Rows.{First, InTurn, ◌>>=◌}
use Rattle.fdr_record.specs.declared.fault.RecFault.{RecFault}
use Rattle.fdr_record.specs.declared.rec.Rec.{Rec}
use Rattle.fdr_record.specs.declared.rec.Rec.TheVariants.{TscWrap}
use Rattle.fdr_record.specs.Records.{Spells, length_of}
use Rattle.fdr_record.specs.Refusals.{Answers}
use Rattle.fdr_record.proofs.Fields.{field_4}
use Rattle.fdr_file.specs.declared.fault.TraceFault.{TraceFault}
use Rattle.fdr_file.specs.declared.fault.TraceFault.TheVariants as traces
use Rattle.fdr_file.specs.declared.stage.Inside.{Inside}
use Rattle.fdr_file.specs.declared.stage.Span.{Span}
use Rattle.fdr_file.specs.declared.stage.Stage.{Stage}
use Rattle.fdr_file.specs.declared.stage.Stage.TheVariants.{Due, Within}
use Rattle.fdr_file.specs.declared.stage.Told.{Told}
use Rattle.fdr_file.specs.declared.version.Version.{Version}
use Rattle.fdr_file.specs.Scanning.{inside_next, record_or, stage_after, stage_judged, stage_within}
use Rattle.fdr_file.specs.Traces.{record_in, record_length}
use Rattle.fdr_file.proofs.DecodedRecords.{length_told}
use Rattle.runtime_log.specs.declared.own_event.OwnKind.{OwnKind}
use Rattle.runtime_log.specs.declared.own_event.OwnKind.TheVariants.{Custom, Typed}
use Rattle.runtime_log.specs.declared.version.LogVersion.{LogVersion}
use Rattle.runtime_log.specs.declared.version.LogVersion.TheVariants.{Two, Three, Four, Five}
use Rattle.runtime_log.specs.Grammar.{DeltaFits, HasEventsOf, IsLogRecord, IsOwnEvent, LogRecord, OfProgram, OfTrace, delta_bytes, is_custom_event, is_typed_event, own_marker}
use Rattle.runtime_log.specs.Logs.{BlockSoFar, log_places, log_record_rows, one_custom, one_typed, said_rows, unless_faulty}
use Rattle.runtime_log.specs.Arguments.{arg_follows, found_arg, found_before, rec_before, traced_in}
use Rattle.runtime_log.specs.OwnEvents.{counter_so_far, first_kind, log_record_in, log_record_length, own_delta, own_kind, own_size, typed_kind}
use Rattle.runtime_log.specs.Versions.{trace_version}
use Rattle.runtime_log.proofs.RecordFits.{AreBytes}
use Rattle.runtime_log.proofs.RecordWalk.{rows_first, so_with}

-- what a place of a file is read as is what the decoder of records returns there
abbrev pub Decodes : Type 0
Decodes = (bytes : List ℕ) → All (λ b. b < 256) bytes → Answers bytes (record_in bytes)

-- ---- events of the program's own

abbrev ok_kind : OwnKind → Option OwnKind
ok_kind kind = Some kind

-- by the first byte
first_is : (version : LogVersion) (kind : OwnKind) (first : ℕ) → first_kind version first ≡ Some kind → (first ≡ own_marker kind) × HasEventsOf version kind
first_is version kind first is = by_custom (eqb first 11) refl is
  where
    Goal : OwnKind → Type 0
    Goal k = (first ≡ own_marker k) × HasEventsOf version k

    by_five : (b : Bool) → eqb first 17 ≡ b → version ≡ Five → cond b (Some Typed) None ≡ Some kind → Goal kind
    by_five true e five h =
        let same : Typed ≡ kind = cc in
        subst Goal same (eqb-true first 17 e, five)
    by_five false e five h = absurd cc

    by_version : (v : LogVersion) → version ≡ v → typed_kind v first ≡ Some kind → Goal kind
    by_version Two e h = absurd cc
    by_version Three e h = absurd cc
    by_version Four e h = absurd cc
    by_version Five e h = by_five (eqb first 17) refl e h

    by_custom : (b : Bool) → eqb first 11 ≡ b → cond b (Some Custom) (typed_kind version first) ≡ Some kind → Goal kind
    by_custom true e h =
        let same : Custom ≡ kind = cc in
        subst Goal same (eqb-true first 11 e, tt)
    by_custom false e h = by_version version refl h

-- what the bytes behind the size are
record SaysDelta (version : LogVersion) (rest : List ℕ) (delta : ℕ) : Type 0 where
  filler : List ℕ
  parts : take 11 (drop 4 rest) ≡ delta_bytes version delta ++ filler
  fits : DeltaFits version delta

says_delta : (version : LogVersion) (first : ℕ) (rest : List ℕ) → AreBytes rest → 15 ≤ length rest → SaysDelta version rest (own_delta version (first ∷ rest))
says_delta Two first rest all long = record { filler = take 11 (drop 4 rest); parts = refl; fits = refl }
says_delta Three first rest all long = record { filler = take 11 (drop 4 rest); parts = refl; fits = refl }
says_delta Four first rest all long = record { filler = take 11 (drop 4 rest); parts = refl; fits = refl }
says_delta Five first rest all long =
    let f = field_4 (drop 4 rest) (omega (arith, length-drop 4 rest)) (All-drop (λ b. b < 256) 4 rest all) in record {
      filler = take 7 (drop 4 (drop 4 rest));
      parts = take-add 4 7 (drop 4 rest) ∙ ap (λ (x : List ℕ). x ++ take 7 (drop 4 (drop 4 rest))) (sym f.back);
      fits = f.fits;
    }

pub own_written : (version : LogVersion) (kind : OwnKind) (bytes : List ℕ) → AreBytes bytes → own_kind version bytes ≡ Some kind → 16 + own_size bytes ≤ length bytes
    → IsOwnEvent version kind (own_delta version bytes) (take (16 + own_size bytes) bytes)
own_written version kind [] all is fits = absurd cc
own_written version kind (first ∷ rest) all is fits = by_short (ltb (length (first ∷ rest)) 16) is
  where
    bytes : List ℕ
    bytes = first ∷ rest

    n : ℕ
    n = own_size bytes

    inner : AreBytes rest
    inner = All-tail (λ b. b < 256) first rest all

    by_first : first_kind version first ≡ Some kind → IsOwnEvent version kind (own_delta version bytes) (take (16 + n) bytes)
    by_first e =
        let kind_is = first_is version kind first e in
        let long : 15 ≤ length rest = omega (arith, fits) in
        let size = field_4 rest (omega (arith, long)) inner in
        let delta = says_delta version first rest inner long in
        let payload : List ℕ = take n (drop 16 bytes) in
        let there : length payload ≡ n = omega (arith, length-take n (drop 16 bytes), length-drop 16 bytes, fits) in
        let sized : take 15 rest ≡ little_bytes 4 (length payload) ++ (delta_bytes version (own_delta version bytes) ++ delta.filler) =
        take-add 4 11 rest ∙ ap (λ (x : List ℕ). x ++ take 11 (drop 4 rest)) (sym size.back)
        ∙ ap (λ (x : List ℕ). little_bytes 4 n ++ x) delta.parts
        ∙ ap (λ (k : ℕ). little_bytes 4 k ++ (delta_bytes version (own_delta version bytes) ++ delta.filler)) (sym there) in record {
          head = take 16 bytes;
          payload = payload;
          filler = delta.filler;
          parts = take-add 16 n bytes;
          spelled = ap (λ (x : List ℕ). first ∷ x) sized ∙ ap (λ (k : ℕ). k ∷ (little_bytes 4 (length payload) ++ (delta_bytes version (own_delta version bytes) ++ delta.filler))) kind_is.0;
          whole = omega (arith, length-take 16 bytes, fits);
          few = omega (arith, there, size.fits);
          fits = delta.fits;
          known = kind_is.1;
        }

    by_short : (b : Bool) → cond b None (first_kind version first) ≡ Some kind → IsOwnEvent version kind (own_delta version bytes) (take (16 + n) bytes)
    by_short true e = absurd cc
    by_short false e = by_first e

-- ---- a record

-- what a record stands for, after this counter, and before an argument or not
abbrev pub as_record : ℕ → Bool → LogRecord → Rec
as_record counter follows (OfTrace r) = rec_before follows r
as_record counter follows (OfProgram kind delta) = TscWrap ((counter + delta) % 2 ^ 64)

-- an argument begins what stands behind the record that bytes begin with
abbrev pub follows_in : LogVersion → List ℕ → Bool
follows_in version bytes = found_arg (record_in (drop (log_record_length version bytes) bytes))

abbrev pub kind_of : LogRecord → Option OwnKind
kind_of (OfTrace r) = None
kind_of (OfProgram kind delta) = Some kind

-- the record of a log that bytes begin with
pub record BeginsLog (version : LogVersion) (stage : Stage) (bytes : List ℕ) (r : Rec) : Type 0 where
  pub lr : LogRecord
  pub is : IsLogRecord version lr (take (log_record_length version bytes) bytes)
  pub stands : r ≡ as_record (counter_so_far stage) (follows_in version bytes) lr
  pub kind : own_kind version bytes ≡ kind_of lr

abbrev pub record_by : LogVersion → Stage → List ℕ → Option OwnKind → Result Rec RecFault
record_by version stage bytes kind = option_map_or (λ k. Ok (TscWrap ((counter_so_far stage + own_delta version bytes) % 2 ^ 64))) kind (traced_in bytes)

abbrev pub length_by_kind : List ℕ → Option OwnKind → ℕ
length_by_kind bytes kind = option_map_or (λ k. 16 + own_size bytes) kind (record_length bytes)

pub begins_log : Decodes → (version : LogVersion) (stage : Stage) (bytes : List ℕ) (r : Rec) → AreBytes bytes → log_record_length version bytes ≤ length bytes → log_record_in version stage bytes ≡ Ok r
    → BeginsLog version stage bytes r
begins_log decodes version stage bytes r all fits found = by_kind (own_kind version bytes) refl
  where
    by_answer : own_kind version bytes ≡ None → log_record_length version bytes ≡ record_length bytes → (a : Result Rec RecFault) → found_before (arg_follows bytes) a ≡ Ok r → Answers bytes a → BeginsLog version stage bytes r
    by_answer e long (Err fault) h answers = absurd cc
    by_answer e long (Ok s) h is =
        let same : rec_before (arg_follows bytes) s ≡ r = cc in
        let told : log_record_length version bytes ≡ length_of s = long ∙ length_told s bytes is.0 is.1 in record {
          lr = OfTrace s;
          is = (is.0, subst (λ (k : ℕ). Spells (take k bytes) s) (sym told) is.1);
          stands = sym same ∙ ap (λ (k : ℕ). rec_before (found_arg (record_in (drop k bytes))) s) (sym long);
          kind = e;
        }

    by_kind : (o : Option OwnKind) → own_kind version bytes ≡ o → BeginsLog version stage bytes r
    by_kind None e =
        let long : log_record_length version bytes ≡ record_length bytes = ap (length_by_kind bytes) e in
        let here : traced_in bytes ≡ Ok r = sym (ap (record_by version stage bytes) e) ∙ found in
        by_answer e long (record_in bytes) here (decodes bytes all)
    by_kind (Some kind) e =
        let long : log_record_length version bytes ≡ 16 + own_size bytes = ap (length_by_kind bytes) e in
        let here : Ok (TscWrap ((counter_so_far stage + own_delta version bytes) % 2 ^ 64)) ≡ Ok r = sym (ap (record_by version stage bytes) e) ∙ found in
        let same : r ≡ TscWrap ((counter_so_far stage + own_delta version bytes) % 2 ^ 64) = cc in record {
          lr = OfProgram kind (own_delta version bytes);
          is = subst (λ (k : ℕ). IsOwnEvent version kind (own_delta version bytes) (take k bytes)) (sym long) (own_written version kind bytes all e (omega (arith, long, fits)));
          stands = same;
          kind = e;
        }

-- how many events of each kind it is
pub one_of_custom : (lr : LogRecord) → one_custom (kind_of lr) ≡ cond (is_custom_event lr) 1 0
one_of_custom (OfTrace r) = refl
one_of_custom (OfProgram Custom delta) = refl
one_of_custom (OfProgram Typed delta) = refl

pub one_of_typed : (lr : LogRecord) → one_typed (kind_of lr) ≡ cond (is_typed_event lr) 1 0
one_of_typed (OfTrace r) = refl
one_of_typed (OfProgram Custom delta) = refl
one_of_typed (OfProgram Typed delta) = refl

-- ---- one step

-- the first record of a block's rest, and what is read after it
pub record LogStep (version : LogVersion) (span : Span) (inside : Inside) (at : ℕ) (bytes : List ℕ) (so last : BlockSoFar) : Type 0 where
  pub r : Rec
  pub found : log_record_in version (Within span inside) bytes ≡ Ok r
  pub within : log_record_length version bytes ≤ length bytes
  pub said : Inside × Told
  pub next : inside_next (trace_version version) inside (eqb (at + log_record_length version bytes) span.end) at r ≡ Ok said
  pub rest : InTurn (said_rows version) (so_with version so bytes (stage_after span (at + log_record_length version bytes) said.0, said.1))
      (log_places version (at + log_record_length version bytes) (drop (log_record_length version bytes) bytes)) ≡ Ok last

pub not_faulty : (span : Span) (place : ℕ) (said : Inside × Told) → unless_faulty (stage_after span place said.0, said.1) ≡ Ok (stage_after span place said.0, said.1)
not_faulty span place said = by_end (eqb place span.end)
  where
    by_end : (b : Bool) → unless_faulty (cond b Due (Within span said.0), said.1) ≡ Ok (cond b Due (Within span said.0), said.1)
    by_end true = refl
    by_end false = refl

pub log_step : (version : LogVersion) (span : Span) (inside : Inside) (at : ℕ) (bytes : List ℕ) (so last : BlockSoFar) → 0 < length bytes → so.stage ≡ Within span inside
    → InTurn (said_rows version) so (log_places version at bytes) ≡ Ok last → LogStep version span inside at bytes so last
log_step version span inside at bytes so last some stage reads =
    by_short (ltb (length bytes) len) refl (subst After stage (sym (rows_first version so at bytes some) ∙ reads))
  where
    len : ℕ
    len = log_record_length version bytes

    tv : Version
    tv = trace_version version

    onward : Result (Stage × Told) TraceFault → Result BlockSoFar TraceFault
    onward x = (x >>= λ said. Ok (so_with version so bytes said)) >>= λ next. InTurn (said_rows version) next (log_places version (at + len) (drop len bytes))

    After : Stage → Type 0
    After s = onward (log_record_rows version s (at, bytes)) ≡ Ok last

    by_next : (r : Rec) → log_record_in version (Within span inside) bytes ≡ Ok r → len ≤ length bytes → (x : Result (Inside × Told) TraceFault)
        → inside_next tv inside (eqb (at + len) span.end) at r ≡ x → onward (unless_faulty (stage_within span (at + len) x)) ≡ Ok last → LogStep version span inside at bytes so last
    by_next r found within (Err fault) e h = absurd cc
    by_next r found within (Ok said) e h = record {
      r = r;
      found = found;
      within = within;
      said = said;
      next = e;
      rest = sym (ap onward (not_faulty span (at + len) said)) ∙ h;
    }

    judged : Bool → Result Rec RecFault → Stage × Told
    judged b x = stage_within span (at + len) (cond b (Err (traces.Extents at)) (record_or at x) >>= λ r. inside_next tv inside (eqb (at + len) span.end) at r)

    by_end : (r : Rec) → log_record_in version (Within span inside) bytes ≡ Ok r → len ≤ length bytes → (b : Bool) → onward (unless_faulty (judged b (Ok r))) ≡ Ok last → LogStep version span inside at bytes so last
    by_end r found within true h = absurd cc
    by_end r found within false h = by_next r found within (inside_next tv inside (eqb (at + len) span.end) at r) refl h

    by_bad : (fault : RecFault) (b : Bool) → onward (unless_faulty (judged b (Err fault))) ≡ Ok last → ⊥
    by_bad fault true h = absurd cc
    by_bad fault false h = absurd cc

    by_found : (x : Result Rec RecFault) → log_record_in version (Within span inside) bytes ≡ x → len ≤ length bytes → onward (unless_faulty (judged (ltb span.end (at + len)) x)) ≡ Ok last → LogStep version span inside at bytes so last
    by_found (Ok r) e within h = by_end r e within (ltb span.end (at + len)) h
    by_found (Err fault) e within h = absurd (by_bad fault (ltb span.end (at + len)) h)

    by_short : (b : Bool) → ltb (length bytes) len ≡ b → onward (First b (Err (traces.Extents at)) (unless_faulty (stage_judged tv (Within span inside) at len (log_record_in version (Within span inside) bytes)))) ≡ Ok last
        → LogStep version span inside at bytes so last
    by_short true e h = absurd cc
    by_short false e h = by_found (log_record_in version (Within span inside) bytes) refl (ltb-false (length bytes) len e) h
