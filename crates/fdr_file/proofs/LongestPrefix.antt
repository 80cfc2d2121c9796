-- The longest prefix of bytes that reads as a trace.
use Rattle.std.proofs.Common.{◌≡◌, ℕ, ◌+◌, ◌-◌, ◌<◌, ◌≤◌, Bool, true, false, cond, ltb, List, [], ◌++◌, length, take, drop, Result, Ok, Err, inl, inr, refl, sym, ap, subst, ◌∙◌, append_assoc, append-nil, arith}
use Rattle.std.specs.Prelude.{◌⊎◌}
use Rattle.std.proofs.lemmas.Bool.{cases_Bool, cases_lt}
use Rattle.std.proofs.lemmas.List.{drop_at, length-drop, length-take-le, take-append-drop}
use Rattle.std.proofs.Math.Seq.{take-add}
use Rattle.fdr_record.specs.declared.rec.Rec.{Rec}
use Rattle.fdr_record.specs.declared.fault.RecFault.{RecFault}
use Rattle.fdr_record.specs.declared.fault.RecFault.TheVariants as decoder_faults
use Rattle.fdr_file.specs.declared.fault.TraceFault.{TraceFault}
use Rattle.fdr_file.specs.declared.fault.TraceFault.TheVariants as faults
use Rattle.fdr_file.specs.declared.header.Header.{Header}
use Rattle.fdr_file.specs.declared.stage.Span.{Span}
use Rattle.fdr_file.specs.declared.stage.Stage.{Stage}
use Rattle.fdr_file.specs.declared.stage.Stage.TheVariants.{Due, Within, Faulty}
use Rattle.fdr_file.specs.declared.trace.Block.{Block}
use Rattle.fdr_file.specs.declared.trace.Trace.{Trace}
use Rattle.fdr_file.specs.declared.version.Version.{Version}
use Rattle.fdr_file.specs.Places.{starts}
use Rattle.fdr_file.specs.Prefixes.{IsHeaderFault, IsReadable, ReadsAsTrace}
use Rattle.fdr_file.specs.Scanning.{header_on, scan_start, Scanned, scanned, scanned_ends, scanned_from, scanned_next, scanned_on, stage_ends, stage_judged, version_read, with_told}
use Rattle.fdr_file.specs.Traces.{header_in, record_in, record_length, trace_of}
use Rattle.fdr_file.specs.private.Prefixes.{ReadsTo, end_after, passed_at}
use Rattle.fdr_file.proofs.ReadingAndRecords.{run_agrees}
use Rattle.fdr_file.proofs.PlacesDecide.{versioned}
use Rattle.fdr_file.proofs.ScanSteps.{headed, header_again, step_cut, step_whole, unheaded}
use Rattle.fdr_file.proofs.PartFaults.{IsBlockFault, IsOfPart, fault_first, fault_of, header_is}
use Rattle.fdr_file.proofs.RecordSteps.{at_stage, reads_none, stays_faulty}
use Rattle.fdr_file.proofs.TraceRows.{header_first, header_has}
use Rattle.fdr_file.proofs.NextParts.{length_some}
use Rattle.fdr_file.proofs.WholeRecords.{cut_is_short, length_again, whole_again}

-- ---- a block is due where a trace ends

ends_due : (len : ℕ) (header : Header) (blocks : List Block) (stage : Stage) (trace : Trace) → stage_ends len header blocks stage ≡ Ok trace → stage ≡ Due
ends_due len header blocks Due trace e = refl
ends_due len header blocks (Within span inside) trace e = absurd cc
ends_due len header blocks (Faulty span fault) trace e = by_end (ltb len span.end) e
  where
    by_end : (b : Bool) → cond b (Err (faults.Short span.begin)) (Err fault) ≡ Ok trace → Faulty span fault ≡ Due
    by_end true h = absurd cc
    by_end false h = absurd cc

trace_is_due : (bytes : List ℕ) (s : Scanned) → scanned bytes ≡ s → ReadsAsTrace bytes → s.stage ≡ Due
trace_is_due bytes s is (trace, reads) =
    ends_due (length bytes) (header_in bytes) s.blocks s.stage trace (ap (scanned_ends (length bytes) (header_in bytes)) (sym is) ∙ sym (run_agrees bytes) ∙ reads)

due_is_trace : (bytes : List ℕ) (blocks : List Block) → scanned bytes ≡ at_stage Due blocks → ReadsAsTrace bytes
due_is_trace bytes blocks is =
    (record { header = header_in bytes; blocks = blocks }, run_agrees bytes ∙ ap (scanned_ends (length bytes) (header_in bytes)) is)

-- a record that is cut off is a fault
cut_is_faulty : (version : Version) (stage : Stage) (at len : ℕ) → (span : Span) × (fault : TraceFault) × ((stage_judged version stage at len (Err decoder_faults.Short)).0 ≡ Faulty span fault)
cut_is_faulty version Due at len = (record { begin = at; end = at + 16 }, faults.Bad at decoder_faults.Short, refl)
cut_is_faulty version (Faulty span fault) at len = (span, fault, refl)
cut_is_faulty version (Within span inside) at len =
    (span, faults.Extents at, elim (cases_Bool (ltb span.end (at + len))) [ inl e ↦ rw e refl | inr e ↦ rw e refl ])

-- ---- a prefix that goes on with a part of a record

-- the prefix after a place
longer : (bytes : List ℕ) (at more : ℕ) → at ≤ more → take more bytes ≡ take at bytes ++ take (more - at) (drop at bytes)
longer bytes at more past = ap (λ (n : ℕ). take n bytes) (omega arith) ∙ take-add at (more - at) bytes

cut_prefix : (version : Version) (bytes : List ℕ) (stage : Stage) (at end : ℕ) → ReadsTo version bytes stage at end → (more : ℕ) → at < more → more ≤ length bytes
    → more < at + record_length (drop at bytes) → ReadsAsTrace (take more bytes) → ⊥
cut_prefix version bytes stage at end h more past within cut reads =
    let left = drop at bytes in
    let w = take (more - at) left in
    let s : Scanned = at_stage stage h.blocks in
    let long : length w ≡ more - at = length-take-le (more - at) left (omega (arith, length-drop at bytes)) in
    let some : 0 < length w = omega arith in
    let same : record_length left ≡ record_length w = ap record_length (sym (take-append-drop (more - at) left)) ∙ length_again w (drop (more - at) left) some in
    let few : length w < record_length w = omega arith in
    let is : scanned (take more bytes) ≡ scanned_next version s at w =
    ap scanned (longer bytes at more (omega arith)) ∙ h.on w ∙ step_cut version s at w some few in
    let due : (stage_judged version stage at (record_length w) (record_in w)).0 ≡ Due = trace_is_due (take more bytes) (scanned_next version s at w) is reads in
    let faulty = cut_is_faulty version stage at (record_length w) in
    let both : Faulty faulty.0 faulty.1 ≡ Due = sym faulty.2 ∙ sym (ap (λ (a : Result Rec RecFault). (stage_judged version stage at (record_length w) a).0) (cut_is_short w few)) ∙ due in
    absurd cc

-- ---- a prefix that goes on with a record

abbrev next_at : ℕ → List ℕ → ℕ
next_at at bytes = at + record_length (drop at bytes)

record Passed (version : Version) (bytes : List ℕ) (stage : Stage) (at : ℕ) : Type 0 where
  blocks : List Block
  on : (rest : List ℕ) → scanned (take (next_at at bytes) bytes ++ rest) ≡ scanned_on version (at_stage (passed_at version stage bytes at).0 blocks) (next_at at bytes) rest

whole_prefix : (version : Version) (bytes : List ℕ) (stage : Stage) (at end : ℕ) → ReadsTo version bytes stage at end → next_at at bytes ≤ length bytes → Passed version bytes stage at
whole_prefix version bytes stage at end h within =
    let left = drop at bytes in
    let n = record_length left in
    let w = take n left in
    let s : Scanned = at_stage stage h.blocks in
    let long : length w ≡ n = length-take-le n left (omega (arith, length-drop at bytes)) in
    let some : 0 < length w = omega (arith, length_some left) in
    let same : record_length left ≡ record_length w = ap record_length (sym (take-append-drop n left)) ∙ length_again w (drop n left) some in
    let alike : record_in left ≡ record_in w = ap record_in (sym (take-append-drop n left)) ∙ whole_again w (drop n left) some (omega (arith, same, long)) in
    let made : ℕ → Result Rec RecFault → Scanned = λ k a. let said = stage_judged version stage at k a in at_stage said.0 (with_told said.1 h.blocks) in
    let next : scanned_next version s at w ≡ made n (record_in left) = ap (λ (k : ℕ). made k (record_in w)) (sym same) ∙ ap (made n) (sym alike) in
    record {
      blocks = with_told (stage_judged version stage at n (record_in left)).1 h.blocks;
      on = λ rest.
          ap (λ (x : List ℕ). scanned (x ++ rest)) (take-add at n bytes) ∙ ap scanned (append_assoc (take at bytes) w rest) ∙ h.on (w ++ rest)
          ∙ step_whole version s at w rest some (omega arith)
          ∙ ap (λ (k : ℕ). scanned_on version (scanned_next version s at w) (at + k) rest) long
          ∙ ap (λ (x : Scanned). scanned_on version x (at + n) rest) next;
    }

-- no prefix from there on, if the record is a fault
faulty_prefix : (version : Version) (bytes : List ℕ) (stage : Stage) (at end : ℕ) (span : Span) (fault : TraceFault) → ReadsTo version bytes stage at end
    → (passed_at version stage bytes at).0 ≡ Faulty span fault → (more : ℕ) → at < more → more ≤ length bytes → ReadsAsTrace (take more bytes) → ⊥
faulty_prefix version bytes stage at end span fault h is more past within reads = by_end (cases_lt more (next_at at bytes))
  where
    by_end : (more < next_at at bytes) ⊎ (next_at at bytes ≤ more) → ⊥
    by_end (inl cut) = cut_prefix version bytes stage at end h more past within cut reads
    by_end (inr whole) =
        let next = next_at at bytes in
        let p = whole_prefix version bytes stage at end h (omega arith) in
        let rest = take (more - next) (drop next bytes) in
        let on : scanned (take more bytes) ≡ at_stage (Faulty span fault) p.blocks =
        ap scanned (longer bytes next more whole) ∙ p.on rest
        ∙ ap (λ (x : Stage). scanned_on version (at_stage x p.blocks) next rest) is
        ∙ stays_faulty version span fault p.blocks (starts record_length 0 next rest) in
        let due : Faulty span fault ≡ Due = trace_is_due (take more bytes) (at_stage (Faulty span fault) p.blocks) on reads in
        absurd cc

-- ---- the calls

-- before the first block
pub reads_header : (bytes : List ℕ) (version : Version) (header : Header) → header_on bytes ≡ Ok (version, header) → ReadsTo version bytes Due 32 32
reads_header bytes version header is =
    let h = headed bytes version header is in
    let long = (header_has bytes version h.version_is).long in
    let front = take 32 bytes in
    let size : length front ≡ 32 = length-take-le 32 bytes long in
    let first : header_on front ≡ Ok (version, header) = sym (header_again front (drop 32 bytes) size) ∙ ap header_on (take-append-drop 32 bytes) ∙ is in
    let on : (rest : List ℕ) → scanned (front ++ rest) ≡ scanned_on version scan_start 32 rest = λ rest.
    ap (λ (o : Result Version TraceFault). scanned_from o (front ++ rest)) (headed (front ++ rest) version header (header_again front rest size ∙ first)).version_is
    ∙ ap (scanned_on version scan_start 32) (drop_at front rest 32 size) in
    record {
      within = long;
      blocks = [];
      on = on;
      before = omega arith;
      reads = due_is_trace front [] (ap scanned (sym (append-nil front)) ∙ on [] ∙ reads_none version scan_start 32);
      longest = λ more past few reads. absurd (omega arith);
    }

-- after a record without a fault
pub reads_record : (version : Version) (bytes : List ℕ) (stage after : Stage) (at next end last : ℕ) → ReadsTo version bytes stage at end → at < length bytes
    → (after, next) ≡ passed_at version stage bytes at → ((span : Span) (fault : TraceFault) → after ≡ Faulty span fault → ⊥) → last ≡ end_after after next end → ReadsTo version bytes after next last
reads_record version bytes stage after at next end last h some passed sound is =
    subst (λ (n : ℕ). ReadsTo version bytes after next n) (sym is) (by_stage after (sym stage_is) sound)
  where
    stage_is : after ≡ (passed_at version stage bytes at).0
    stage_is = ap (λ (x : Stage × ℕ). x.0) passed

    next_is : next ≡ next_at at bytes
    next_is = ap (λ (x : Stage × ℕ). x.1) passed

    -- only a record that is whole is no fault
    whole : (found : Stage) → (passed_at version stage bytes at).0 ≡ found → ((span : Span) (fault : TraceFault) → found ≡ Faulty span fault → ⊥) → next_at at bytes ≤ length bytes
    whole found e none =
        let left = drop at bytes in
        elim (cases_lt (length left) (record_length left)) [
          | inl few ↦
              let faulty = cut_is_faulty version stage at (record_length left) in
              absurd (none faulty.0 faulty.1 (sym e ∙ ap (λ (a : Result Rec RecFault). (stage_judged version stage at (record_length left) a).0) (cut_is_short left few) ∙ faulty.2))
          | inr fits ↦ omega (arith, length-drop at bytes)
        ]

    -- the reading after the record
    passes : (found : Stage) → (passed_at version stage bytes at).0 ≡ found → next_at at bytes ≤ length bytes
        → (blocks : List Block) × ((rest : List ℕ) → scanned (take next bytes ++ rest) ≡ scanned_on version (at_stage found blocks) next rest)
    passes found e fits =
        let p = whole_prefix version bytes stage at end h fits in (
          p.blocks,
          λ rest.
              ap (λ (n : ℕ). scanned (take n bytes ++ rest)) next_is ∙ p.on rest
              ∙ ap (λ (x : Stage). scanned_on version (at_stage x p.blocks) (next_at at bytes) rest) e
              ∙ ap (λ (n : ℕ). scanned_on version (at_stage found p.blocks) n rest) (sym next_is),
        )

    on_end : (found : Stage) (blocks : List Block) → ((rest : List ℕ) → scanned (take next bytes ++ rest) ≡ scanned_on version (at_stage found blocks) next rest)
        → scanned (take next bytes) ≡ at_stage found blocks
    on_end found blocks on = ap scanned (sym (append-nil (take next bytes))) ∙ on [] ∙ reads_none version (at_stage found blocks) next

    further : at < next
    further = omega (arith, next_is, length_some (drop at bytes))

    by_stage : (found : Stage) → (passed_at version stage bytes at).0 ≡ found → ((span : Span) (fault : TraceFault) → found ≡ Faulty span fault → ⊥) → ReadsTo version bytes found next (end_after found next end)
    by_stage Due e none =
        let fits = whole Due e none in
        let p = passes Due e fits in
        record {
          within = omega (arith, next_is, fits);
          blocks = p.0;
          on = p.1;
          before = omega arith;
          reads = due_is_trace (take next bytes) p.0 (on_end Due p.0 p.1);
          longest = λ more past within reads. absurd (omega (arith, past, within));
        }
    by_stage (Within span inside) e none =
        let fits = whole (Within span inside) e none in
        let p = passes (Within span inside) e fits in
        record {
          within = omega (arith, next_is, fits);
          blocks = p.0;
          on = p.1;
          before = omega (arith, h.before, further);
          reads = h.reads;
          longest = λ more past within reads.
              elim (cases_lt at more) [
                | inr le ↦ h.longest more past le reads
                | inl over ↦ elim (cases_lt more next) [
                  | inl less ↦ cut_prefix version bytes stage at end h more over (omega (arith, next_is, fits, within)) (omega (arith, next_is, less)) reads
                  | inr ge ↦
                      let same : more ≡ next = omega (arith, within, ge) in
                      let due : Within span inside ≡ Due = trace_is_due (take more bytes) (at_stage (Within span inside) p.0) (ap (λ (n : ℕ). scanned (take n bytes)) same ∙ on_end (Within span inside) p.0 p.1) reads in
                      absurd cc
                ]
              ];
        }
    by_stage (Faulty span fault) e none = absurd (none span fault refl)

-- all bytes were read
pub readable_whole : (version : Version) (bytes : List ℕ) (stage : Stage) (at end : ℕ) → ReadsTo version bytes stage at end → length bytes ≤ at → IsReadable bytes end
readable_whole version bytes stage at end h all = record {
  within = omega (arith, h.within, h.before);
  reads = h.reads;
  longest = λ more past within reads. h.longest more past (omega (arith, all, within)) reads;
}

-- a record is a fault
pub readable_before : (version : Version) (bytes : List ℕ) (stage after : Stage) (at next end : ℕ) (span : Span) (fault : TraceFault) → ReadsTo version bytes stage at end
    → (after, next) ≡ passed_at version stage bytes at → after ≡ Faulty span fault → IsReadable bytes end
readable_before version bytes stage after at next end span fault h passed is = record {
  within = omega (arith, h.within, h.before);
  reads = h.reads;
  longest = λ more past within reads.
      elim (cases_lt at more) [
        | inr le ↦ h.longest more past le reads
        | inl over ↦ faulty_prefix version bytes stage at end span fault h (sym (ap (λ (x : Stage × ℕ). x.0) passed) ∙ is) more over within reads
      ];
}

-- ---- the bytes

-- there is only one longest prefix
pub one_readable : (bytes : List ℕ) (len other : ℕ) → IsReadable bytes len → IsReadable bytes other → len ≡ other
one_readable bytes len other a b =
    elim (cases_lt len other) [
      | inl lt ↦ absurd (a.longest other lt b.within b.reads)
      | inr ge ↦ elim (cases_lt other len) [ inl gt ↦ absurd (b.longest len gt a.within a.reads) | inr le ↦ omega arith ]
    ]

-- a prefix that reads as a trace has the header of the bytes
trace_opens : (bytes : List ℕ) (len : ℕ) → ReadsAsTrace (take len bytes) → (version : Version) × (header : Header) × (header_on bytes ≡ Ok (version, header))
trace_opens bytes len (trace, reads) = by_version (version_read (take len bytes)) refl
  where
    by_version : (o : Result Version TraceFault) → version_read (take len bytes) ≡ o → (version : Version) × (header : Header) × (header_on bytes ≡ Ok (version, header))
    by_version (Err fault) is =
        let e = fault_first (take len bytes) fault is in
        absurd cc
    by_version (Ok version) is =
        let part = take len bytes in
        let long : 32 ≤ length part = (header_has part version is).long in
        let front = take 32 part in
        let size : length front ≡ 32 = length-take-le 32 part long in
        let back = drop 32 part ++ drop len bytes in
        let parts : front ++ back ≡ bytes =
        sym (append_assoc front (drop 32 part) (drop len bytes)) ∙ ap (λ (x : List ℕ). x ++ drop len bytes) (take-append-drop 32 part) ∙ take-append-drop len bytes in
        let opened : header_on part ≡ Ok (version, header_in part) = header_first part (versioned part) ∙ rw is refl in (
          version,
          header_in part,
          ap header_on (sym parts) ∙ header_again front back size ∙ sym (header_again front (drop 32 part) size) ∙ ap header_on (take-append-drop 32 part) ∙ opened,
        )

-- a fault of the header
pub refused_prefix : (bytes : List ℕ) (fault : TraceFault) → header_on bytes ≡ Err fault → (len : ℕ) → ReadsAsTrace (take len bytes) → ⊥
refused_prefix bytes fault is len reads =
    let o = trace_opens bytes len reads in
    let found : header_on bytes ≡ Ok (o.0, o.1) = o.2 in
    cc

pub refused_by : (bytes : List ℕ) (fault : TraceFault) → header_on bytes ≡ Err fault → IsHeaderFault fault × (trace_of bytes ≡ Err fault)
refused_by bytes fault is =
    let read = unheaded bytes fault is in
    (header_is bytes fault read, fault_first bytes fault read)

-- bytes have one first fault
pub one_fault : (bytes : List ℕ) (fault other : TraceFault) → trace_of bytes ≡ Err fault → trace_of bytes ≡ Err other → fault ≡ other
one_fault bytes fault other is also = cc

-- no fault of the header
pub not_refused : (bytes : List ℕ) (version : Version) (header : Header) (fault : TraceFault) → header_on bytes ≡ Ok (version, header) → IsHeaderFault fault → trace_of bytes ≡ Err fault → ⊥
not_refused bytes version header fault is of_header refused = by_part (fault_of bytes fault refused)
  where
    apart : (f : TraceFault) → IsHeaderFault f → IsBlockFault f → ⊥
    apart (faults.Short at) first past = omega (arith, first, past)
    apart (faults.Version number) first past = past
    apart (faults.Form number) first past = past
    apart (faults.Order at) first past = first
    apart (faults.Extents at) first past = first
    apart (faults.Bad at why) first past = first
    apart (faults.NoBase at) first past = first
    apart faults.NoMemory first past = first

    by_part : IsOfPart bytes fault → ⊥
    by_part (inl here) =
        let read : version_read bytes ≡ Ok version = (headed bytes version header is).version_is in
        let found : version_read bytes ≡ Err fault = here.1 in
        cc
    by_part (inr there) = apart fault of_header there.0
