-- A basic log that was read fits one that is written.
use Rattle.std.proofs.Common.{◌≡◌, ℕ, zero, suc, ◌+◌, ◌<◌, ◌≤◌, ◌++◌, List, [], ◌∷◌, Bool, true, false, All, Option, Some, None, Result, Ok, Err, length, drop, refl, subst, sym, arith}
use Rattle.std.specs.Prelude.{◌==◌, nat_lt, not}
use Rattle.std.proofs.lemmas.Bool.{ltb-false}
use Rattle.std.proofs.lemmas.List.{length-drop}
use Rattle.std.proofs.lemmas.List.Elements.{All-append, All-cons, All-drop, All-get_or, All-nil, All-tail}
use Rattle.basic_record.specs.BasicRecords.{arg_logged, basic_length, kind_byte, kind_numbered, tag_in}
use Rattle.xray_io.specs.Rows.{First, InTurn, NeedsPart, ◌>>=◌}
use Rattle.fdr_record.specs.declared.event.Event.{Event}
use Rattle.fdr_record.specs.declared.event.Kind.{Kind}
use Rattle.fdr_record.specs.declared.event.Kind.TheVariants.{Entry, Exit, TailExit, EntryArgs}
use Rattle.fdr_record.specs.Recordable.{ArgFits}
use Rattle.fdr_record.proofs.Fields.{field_4, field_8, IsField}
use Rattle.fdr_file.specs.declared.trace.Trace.{Trace}
use Rattle.fdr_file.specs.Places.{starts}
use Rattle.fdr_file.specs.ThreadEvents.{ThreadEvent, event_given}
use Rattle.fdr_file.specs.Traces.{type_in, version_in}
use Rattle.fdr_file.proofs.FewEvents.{ok_same, then_ok}
use Rattle.trace_forms.specs.declared.basic.BasicFault.{BasicFault}
use Rattle.trace_forms.specs.declared.basic.BasicFault.TheVariants as faults
use Rattle.trace_forms.specs.BasicLogs.{EventFits, TraceFits, basic_header, basic_of, events_rows, basic_passing, basic_record_rows, record_starts}
use Rattle.trace_forms.specs.Runs.{runs}
use Rattle.trace_forms.proofs.LogRecords.{arg_low}
use Rattle.trace_forms.proofs.RunLaws.{runs_are}

abbrev AreBytes : List ℕ → Type 0
AreBytes bytes = All (λ b. b < 256) bytes

-- the number at this place of a record, or of a header
at_4 : (at : ℕ) (bytes : List ℕ) → at + 4 ≤ length bytes → AreBytes bytes → IsField 4 (drop at bytes)
at_4 at bytes long all = field_4 (drop at bytes) (omega (arith, length-drop at bytes)) (All-drop (λ b. b < 256) at bytes all)

at_8 : (at : ℕ) (bytes : List ℕ) → at + 8 ≤ length bytes → AreBytes bytes → IsField 8 (drop at bytes)
at_8 at bytes long all = field_8 (drop at bytes) (omega (arith, length-drop at bytes)) (All-drop (λ b. b < 256) at bytes all)

logged_fits : (kind : Kind) (arg : ℕ) → ArgFits kind (arg_logged kind arg)
logged_fits Entry arg = refl
logged_fits Exit arg = refl
logged_fits TailExit arg = refl
logged_fits EntryArgs arg = tt

-- what a whole record says
passing_fits : (kind : Kind) (bytes : List ℕ) → 32 ≤ length bytes → AreBytes bytes → EventFits (event_given (basic_passing kind bytes))
passing_fits kind bytes long all = record {
  thread = (at_4 16 bytes (omega arith) all).fits;
  pid = (at_4 20 bytes (omega arith) all).fits;
  cpu = All-get_or (λ b. b < 256) bytes 2 0 (omega arith) all;
  func = (at_4 4 bytes (omega arith) all).fits;
  tsc = (at_8 8 bytes (omega arith) all).fits;
  arg = arg_low kind _ (at_8 24 bytes (omega arith) all).fits;
  logged = logged_fits kind _;
}

record_fits : (at : ℕ) (bytes : List ℕ) (x : ℕ × ℕ × Event) → AreBytes bytes → basic_record_rows at bytes ≡ Ok x → EventFits (event_given x)
record_fits at bytes x all is = by_tests (nat_lt (length bytes) 32) (not (tag_in bytes == 0)) (kind_numbered (kind_byte bytes)) refl is
  where
    by_tests : (short tagged : Bool) (kind : Option Kind) → nat_lt (length bytes) 32 ≡ short
        → First short (Err (faults.Short at)) (First tagged (Err (faults.Tag at (tag_in bytes))) (NeedsPart kind (Err (faults.Kind at (kind_byte bytes))) λ kind. Ok (basic_passing kind bytes))) ≡ Ok x
        → EventFits (event_given x)
    by_tests true tagged kind e h = absurd cc
    by_tests false true kind e h = absurd cc
    by_tests false false None e h = absurd cc
    by_tests false false (Some kind) e h =
        let same : basic_passing kind bytes ≡ x = ok_same {F = BasicFault} (basic_passing kind bytes) x h in
        subst (λ (y : ℕ × ℕ × Event). EventFits (event_given y)) same (passing_fits kind bytes (ltb-false (length bytes) 32 e) all)

-- what the records from a place on say, after events that fit
events_fit : (left at : ℕ) (bytes : List ℕ) (before events : List ThreadEvent) → AreBytes bytes → All EventFits before
    → InTurn events_rows before (starts (λ _. basic_length) left at bytes) ≡ Ok events → All EventFits events
unfolding starts
events_fit left at [] before events all fits is =
    let same : before ≡ events = ok_same {F = BasicFault} before events is in
    subst (All EventFits) same fits
events_fit (suc left) at (byte ∷ bytes) before events all fits is =
    events_fit left (at + 1) bytes before events (All-tail (λ b. b < 256) byte bytes all) fits is
events_fit zero at (byte ∷ bytes) before events all fits is =
    let more : List ℕ = byte ∷ bytes in
    let following : List ThreadEvent → Result (List ThreadEvent) BasicFault = λ after. InTurn events_rows after (starts (λ _. basic_length) 31 (at + 1) bytes) in
    let longer : ℕ × ℕ × Event → Result (List ThreadEvent) BasicFault = λ x. Ok (before ++ event_given x ∷ []) in
    let read = then_ok (events_rows before (at, more)) following events is in
    let first = then_ok (basic_record_rows at more) longer read.0 read.1 in
    let one : List ThreadEvent = event_given first.0 ∷ [] in
    let same : before ++ one ≡ read.0 = ok_same {F = BasicFault} (before ++ one) read.0 first.2 in
    let here : All EventFits one = All-cons EventFits (event_given first.0) [] (record_fits at more first.0 all first.1) (All-nil EventFits) in
    events_fit 31 (at + 1) bytes read.0 events (All-tail (λ b. b < 256) byte bytes all)
    (subst (All EventFits) same (All-append EventFits before one fits here)) read.2

pub log_fits : (bytes : List ℕ) (trace : Trace) → AreBytes bytes → basic_of bytes ≡ Ok trace → TraceFits trace
log_fits bytes trace all is =
    by_tests (nat_lt (length bytes) 32) (not (version_in bytes == 3)) (not (type_in bytes == 0)) refl is
  where
    by_tests : (short other typed : Bool) → nat_lt (length bytes) 32 ≡ short
        → First short (Err (faults.Short 0)) (First other (Err (faults.Version (version_in bytes))) (First typed (Err (faults.Form (type_in bytes)))
        (InTurn events_rows [] (record_starts 32 (drop 32 bytes)) >>= λ events. Ok (record { header = basic_header bytes; blocks = runs events })))) ≡ Ok trace
        → TraceFits trace
    by_tests true other typed e h = absurd cc
    by_tests false true typed e h = absurd cc
    by_tests false false true e h = absurd cc
    by_tests false false false e h =
        let made : List ThreadEvent → Result Trace BasicFault = λ events. Ok (record { header = basic_header bytes; blocks = runs events }) in
        let read = then_ok (InTurn events_rows [] (record_starts 32 (drop 32 bytes))) made trace h in
        let back : Trace = record { header = basic_header bytes; blocks = runs read.0 } in
        let same : back ≡ trace = ok_same {F = BasicFault} back trace read.2 in
        let fit = events_fit 0 32 (drop 32 bytes) [] read.0 (All-drop (λ b. b < 256) 32 bytes all) (All-nil EventFits) read.1 in
        let long = ltb-false (length bytes) 32 e in
        subst TraceFits same (record {
          frequency = (at_8 8 bytes (omega (arith, long)) all).fits;
          events = subst (All EventFits) (sym (runs_are read.0).events) fit;
        })
