-- The records of the basic mode fit the records of a trace.
use Rattle.std.proofs.Common.{◌≡◌, ℕ, ◌+◌, ◌<◌, Bool, true, false, cond, eqb, ltb, List, [], ◌∷◌, length, drop, map, take, Option, Some, None, Result, Ok, Err, refl, arith}
use Rattle.std.specs.Prelude.{◌^◌, ◌&&◌, All, ⊤, not}
use Rattle.byteorder.specs.Endian.{little_number}
use Rattle.std.proofs.lemmas.Bool.{and_parts, ltb-true}
use Rattle.std.proofs.lemmas.List.Elements.{All-cons, All-drop, All-nil, All-take}
use Rattle.xray_io.specs.Rows.{First, NeedsPart}
use Rattle.fdr_record.specs.declared.event.Event.{Event}
use Rattle.fdr_record.specs.declared.event.Kind.{Kind}
use Rattle.fdr_record.specs.declared.event.Kind.TheVariants.{Entry, Exit, TailExit, EntryArgs}
use Rattle.fdr_record.specs.Recordable.{ArgFits, IsRecordable}
use Rattle.fdr_buffer.specs.Segments.{EventFits}
use Rattle.basic_record.specs.BasicRecords.{arg_logged}
use Rattle.fdr_file.specs.ThreadEvents.{ThreadEvent}
use Rattle.fdr_file.specs.Traces.{logs_arg}
use Rattle.fdr_file.specs.declared.fault.TraceFault.TheVariants as traces
use Rattle.runtime_log.specs.declared.basic.BasicRec.{BasicRec}
use Rattle.runtime_log.specs.declared.basic.BasicRec.TheVariants.{Passed, Argument}
use Rattle.runtime_log.specs.declared.basic.RecordOwner.{RecordOwner}
use Rattle.runtime_log.specs.declared.version.BasicVersion.{BasicVersion}
use Rattle.runtime_log.specs.declared.version.BasicVersion.TheVariants.{Early, Third}
use Rattle.runtime_log.specs.declared.basic.Passing.{Passing}
use Rattle.runtime_log.specs.declared.fault.LogFault.{LogFault}
use Rattle.runtime_log.specs.declared.fault.LogFault.TheVariants as faults
use Rattle.runtime_log.specs.BasicLogs.{argument_in, func_in, kind_byte, kind_numbered, passing_in, passing_rows, pid_in, process_of, recorded_events, same_owner, tag_in, tagged_rows, takes_argument, with_argument}
use Rattle.runtime_log.specs.private.Passings.{event_at, passed_event, record_at}
use Rattle.runtime_log.proofs.RecordFits.{AreBytes, byte_below, number_below}
use Rattle.runtime_log.proofs.RecordableLogs.{fit_recordable}

-- ---- events that a trace can have

abbrev pub OwnerFits : RecordOwner → Type 0
OwnerFits owner = (owner.thread < 2 ^ 32) × (owner.pid < 2 ^ 32)

abbrev pub RecordFits : BasicRec → Type 0
RecordFits (Passed owner event) = OwnerFits owner × EventFits event
RecordFits (Argument owner func value) = OwnerFits owner × (value < 2 ^ 64)

abbrev pub ReadFits : Result BasicRec LogFault → Type 0
ReadFits (Ok r) = RecordFits r
ReadFits (Err fault) = ⊤

plain_arg : (kind : Kind) (arg : ℕ) → ArgFits kind (arg_logged kind arg)
plain_arg Entry arg = refl
plain_arg Exit arg = refl
plain_arg TailExit arg = refl
plain_arg EntryArgs arg = tt

arg_below : (kind : Kind) (arg : ℕ) → arg < 2 ^ 64 → arg_logged kind arg < 2 ^ 64
arg_below Entry arg few = omega arith
arg_below Exit arg few = omega arith
arg_below TailExit arg few = omega arith
arg_below EntryArgs arg few = few

process_fits : (version : BasicVersion) (pid : ℕ) → pid < 2 ^ 32 → process_of version pid < 2 ^ 32
process_fits Early pid fits = omega arith
process_fits Third pid fits = fits

pub read_fits : (version : BasicVersion) (at : ℕ) (bytes : List ℕ) → AreBytes bytes → ReadFits (tagged_rows version at bytes)
read_fits version at bytes all = by_short (ltb (length bytes) 32)
  where
    four : (from : ℕ) → little_number 4 (drop from bytes) < 2 ^ 32
    four from = omega (arith, number_below from 4 bytes all)

    eight : (from : ℕ) → little_number 8 (drop from bytes) < 2 ^ 64
    eight from = omega (arith, number_below from 8 bytes all)

    by_func : (kind : Kind) (b : Bool) → ltb (func_in bytes) (2 ^ 28) ≡ b → ReadFits (First (not b) (Err (faults.Function at (func_in bytes))) (Ok (passing_in version kind bytes)))
    by_func kind true e = (
      (four 16, process_fits version (pid_in bytes) (four 20)),
      record {
        cpu = omega (arith, byte_below bytes all 2);
        func = ltb-true (func_in bytes) (2 ^ 28) e;
        tsc = eight 8;
        arg = arg_below kind (little_number 8 (drop 24 bytes)) (eight 24);
        logged = plain_arg kind (little_number 8 (drop 24 bytes));
      },
    )
    by_func kind false e = tt

    by_kind : (k : Option Kind) → ReadFits (NeedsPart k (Err (faults.Kind at (kind_byte bytes))) λ kind. First (not (ltb (func_in bytes) (2 ^ 28))) (Err (faults.Function at (func_in bytes))) (Ok (passing_in version kind bytes)))
    by_kind None = tt
    by_kind (Some kind) = by_func kind (ltb (func_in bytes) (2 ^ 28)) refl

    by_tag : (passing argument : Bool) → ReadFits (First passing (passing_rows version at bytes) (First argument (Ok (argument_in version bytes)) (Err (faults.Tag at (tag_in bytes)))))
    by_tag true argument = by_kind (kind_numbered (kind_byte bytes))
    by_tag false true = ((four 8, process_fits version (little_number 4 (drop 12 bytes)) (four 12)), eight 16)
    by_tag false false = tt

    by_short : (short : Bool)
        → ReadFits (First short (Err (faults.Trace (traces.Short at))) (First (eqb (tag_in bytes) 0) (passing_rows version at bytes) (First (eqb (tag_in bytes) 1) (Ok (argument_in version bytes)) (Err (faults.Tag at (tag_in bytes))))))
    by_short true = tt
    by_short false = by_tag (eqb (tag_in bytes) 0) (eqb (tag_in bytes) 1)

abbrev pub RecordsFit : List BasicRec → Type 0
RecordsFit [] = ⊤
RecordsFit (r ∷ records) = RecordFits r × RecordsFit records

argued_kind : (kind : Kind) (value arg : ℕ) → logs_arg kind ≡ true → ArgFits kind value
argued_kind Entry value arg e = absurd cc
argued_kind Exit value arg e = absurd cc
argued_kind TailExit value arg e = absurd cc
argued_kind EntryArgs value arg e = tt

argued_fits : (owner : RecordOwner) (event : Event) (later : List BasicRec) → EventFits event → RecordsFit later → EventFits (with_argument owner event later)
argued_fits owner event [] fits few = fits
argued_fits owner event (Passed of other ∷ later) fits few = fits
argued_fits owner event (Argument of func value ∷ later) fits few = by_test (takes_argument (Passed owner event) of func) refl
  where
    by_test : (b : Bool) → takes_argument (Passed owner event) of func ≡ b → EventFits (cond b (record event { arg = value }) event)
    by_test true e = record { cpu = fits.cpu; func = fits.func; tsc = fits.tsc; arg = few.0.1; logged = argued_kind event.kind value event.arg (and_parts (logs_arg event.kind) (eqb event.func func) (and_parts (logs_arg event.kind && eqb event.func func) (same_owner owner of) e).0).0 }
    by_test false e = fits

-- ---- events

-- an event, and the thread and the process that it belongs to, fit the records of a trace
pub record RecordedFits (e : ThreadEvent) : Type 0 where
  pub thread : e.thread < 2 ^ 32
  pub pid : e.pid < 2 ^ 32
  pub event : EventFits e.event

pub recorded_fit : (records : List BasicRec) → RecordsFit records → All RecordedFits (recorded_events records)
recorded_fit [] fits = All-nil RecordedFits
recorded_fit (Passed owner event ∷ later) fits =
    All-cons RecordedFits (record { thread = owner.thread; pid = owner.pid; event = with_argument owner event later }) (recorded_events later)
    (record { thread = fits.0.0.0; pid = fits.0.0.1; event = argued_fits owner event later fits.0.1 fits.1 }) (recorded_fit later fits.1)
recorded_fit (Argument owner func value ∷ later) fits = recorded_fit later fits.1

-- the event at a place
passed_fits : (said next : Result BasicRec LogFault) → ReadFits said → ReadFits next → EventFits (passed_event said next)
passed_fits (Ok (Passed owner event)) (Ok r) fits fit = argued_fits owner event (r ∷ []) fits.1 (fit, tt)
passed_fits (Ok (Passed owner event)) (Err fault) fits fit = fits.1
passed_fits (Ok (Argument owner func value)) next fits fit = record { cpu = omega arith; func = omega arith; tsc = omega arith; arg = omega arith; logged = refl }
passed_fits (Err fault) next fits fit = record { cpu = omega arith; func = omega arith; tsc = omega arith; arg = omega arith; logged = refl }

record_fits_at : (version : BasicVersion) (bytes : List ℕ) (at : ℕ) → AreBytes bytes → ReadFits (record_at version bytes at)
record_fits_at version bytes at all = read_fits version at (take 32 (drop at bytes)) (All-take (λ b. b < 256) 32 (drop at bytes) (All-drop (λ b. b < 256) at bytes all))

pub passings_recordable : (version : BasicVersion) (bytes : List ℕ) (passings : List Passing) → AreBytes bytes → All IsRecordable (map (λ p. event_at version bytes p.at) passings)
passings_recordable version bytes passings all = fit_recordable (map (λ p. event_at version bytes p.at) passings) (each passings)
  where
    each : (ps : List Passing) → All EventFits (map (λ p. event_at version bytes p.at) ps)
    each [] = All-nil EventFits
    each (p ∷ ps) = All-cons EventFits (event_at version bytes p.at) (map (λ q. event_at version bytes q.at) ps) (passed_fits (record_at version bytes p.at) (record_at version bytes (p.at + 32)) (record_fits_at version bytes p.at all) (record_fits_at version bytes (p.at + 32) all)) (each ps)
