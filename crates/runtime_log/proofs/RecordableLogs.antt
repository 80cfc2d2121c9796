-- The events of a log of the Flight Data Recorder mode fit the records of a trace.
use Rattle.std.proofs.Common.{◌≡◌, ℕ, zero, suc, ◌+◌, ◌-◌, ◌%◌, ◌^◌, ◌<◌, Bool, true, false, cond, eqb, ltb, List, [], ◌∷◌, length, Option, Some, None, Result, Ok, Err, refl, subst, arith}
use Rattle.std.specs.Prelude.{⊤, All, option_to_list, ◌&&◌, not}
use Rattle.std.proofs.lemmas.List.Elements.{All-append, All-cons, All-nil, All-tail, All-weaker}
use Rattle.xray_io.specs.Rows.{First, NeedsPart, ◌>>=◌}
use Rattle.xray_io.specs.declared.wall.Wall.{Wall}
use Rattle.fdr_record.specs.declared.event.Event.{Event}
use Rattle.fdr_record.specs.declared.event.Kind.{Kind}
use Rattle.fdr_record.specs.declared.event.Kind.TheVariants.{Entry, Exit, TailExit, EntryArgs}
use Rattle.fdr_record.specs.declared.fault.RecFault.{RecFault}
use Rattle.fdr_record.specs.declared.rec.Rec.{Rec}
use Rattle.fdr_record.specs.declared.rec.Rec.TheVariants.{NewBuffer, NewCpu, TscWrap, WallTime, Pid, CallArg, Extents, Function}
use Rattle.fdr_record.specs.Recordable.{ArgFits, IsRecordable}
use Rattle.fdr_record.specs.Records.{FieldsFit}
use Rattle.fdr_buffer.specs.Segments.{EventFits}
use Rattle.fdr_file.specs.declared.events.Argument.{Argument}
use Rattle.fdr_file.specs.declared.events.Argument.TheVariants as arguments
use Rattle.fdr_file.specs.declared.events.Base.{Base}
use Rattle.fdr_file.specs.declared.fault.TraceFault.{TraceFault}
use Rattle.fdr_file.specs.declared.fault.TraceFault.TheVariants as traces
use Rattle.fdr_file.specs.declared.stage.Inside.{Inside}
use Rattle.fdr_file.specs.declared.stage.Inside.TheVariants as insides
use Rattle.fdr_file.specs.declared.stage.Span.{Span}
use Rattle.fdr_file.specs.declared.stage.Stage.{Stage}
use Rattle.fdr_file.specs.declared.stage.Stage.TheVariants.{Due, Within, Faulty}
use Rattle.fdr_file.specs.declared.stage.Told.{Told}
use Rattle.fdr_file.specs.declared.stage.Told.TheVariants.{Nothing, Begun, Noted}
use Rattle.fdr_file.specs.declared.version.Version.{Version}
use Rattle.fdr_file.specs.declared.version.Version.TheVariants.{Two, Three}
use Rattle.fdr_file.specs.Places.{starts}
use Rattle.fdr_file.specs.Scanning.{after_wall, argument_on, block_span, entry_due, entry_with, extents_span, function_on, inside_judged, inside_next, record_or, stage_after, stage_judged, stage_within, step_on}
use Rattle.fdr_file.specs.Traces.{logs_arg, pid_named, preamble_bytes, record_in, size_named, thread_named, wall_named}
use Rattle.runtime_log.specs.declared.own_event.OwnKind.{OwnKind}
use Rattle.runtime_log.specs.declared.version.LogVersion.{LogVersion}
use Rattle.runtime_log.specs.Logs.{log_record_rows, unless_faulty}
use Rattle.runtime_log.specs.Arguments.{arg_follows, found_before}
use Rattle.runtime_log.specs.OwnEvents.{counter_so_far, log_record_in, log_record_length, own_delta, own_kind}
use Rattle.runtime_log.specs.Versions.{trace_version}
use Rattle.runtime_log.specs.private.Walks.{events_by, events_told, settled}
use Rattle.runtime_log.proofs.RecordFits.{AreBytes, FoundFits, record_fits}

-- ---- records

-- a record fits before an argument, too
before_fits : (follows : Bool) (x : Result Rec RecFault) → FoundFits x → FoundFits (found_before follows x)
before_fits follows (Err fault) fits = tt
before_fits follows (Ok (NewBuffer thread)) fits = fits
before_fits follows (Ok (NewCpu cpu tsc)) fits = fits
before_fits follows (Ok (TscWrap tsc)) fits = fits
before_fits follows (Ok (WallTime wall)) fits = fits
before_fits follows (Ok (Pid pid)) fits = fits
before_fits follows (Ok (CallArg value)) fits = fits
before_fits follows (Ok (Extents size)) fits = fits
before_fits follows (Ok (Function kind func delta)) fits = fits

log_record_fits : (version : LogVersion) (stage : Stage) (bytes : List ℕ) → AreBytes bytes → FoundFits (log_record_in version stage bytes)
log_record_fits version stage bytes all = by_kind (own_kind version bytes) refl
  where
    below : (counter_so_far stage + own_delta version bytes) % 2 ^ 64 < 2 ^ 64
    below = omega arith

    by_kind : (kind : Option OwnKind) → own_kind version bytes ≡ kind → FoundFits (log_record_in version stage bytes)
    by_kind None e = rw e (before_fits (arg_follows bytes) (record_in bytes) (record_fits bytes all))
    by_kind (Some kind) e = rw e below

-- ---- stages

-- the function whose argument is awaited has an id of 28 bits
abbrev pub ArgumentFits : Argument → Type 0
ArgumentFits arguments.Barred = ⊤
ArgumentFits (arguments.Awaited func) = func < 2 ^ 28
ArgumentFits arguments.Known = ⊤

-- the CPU and the counter of the last record fit the records of a trace
abbrev pub IsBase : Base → Type 0
IsBase base = (base.cpu < 2 ^ 16) × (base.tsc < 2 ^ 64) × ArgumentFits base.argument

abbrev pub BaseFits : Option Base → Type 0
BaseFits None = ⊤
BaseFits (Some base) = IsBase base

abbrev pub WallFits : Wall → Type 0
WallFits wall = (wall.secs < 2 ^ 64) × (wall.micros < 2 ^ 32)

abbrev pub InsideFits : Inside → Type 0
InsideFits insides.Opened = ⊤
InsideFits (insides.Thread thread) = thread < 2 ^ 32
InsideFits (insides.Wall thread wall) = (thread < 2 ^ 32) × WallFits wall
InsideFits (insides.Events base) = BaseFits base

abbrev pub StageFits : Stage → Type 0
StageFits Due = ⊤
StageFits (Within span inside) = InsideFits inside
StageFits (Faulty span fault) = ⊤

-- the event, if there is one, fits the records of a trace
abbrev pub MaybeFits : Option Event → Type 0
MaybeFits None = ⊤
MaybeFits (Some event) = EventFits event

abbrev pub ToldFits : Told → Type 0
ToldFits Nothing = ⊤
ToldFits (Begun thread wall pid) = (thread < 2 ^ 32) × WallFits wall × (pid < 2 ^ 32)
ToldFits (Noted entry event) = MaybeFits entry × MaybeFits event

-- what a record says, and the stage after it
abbrev pub SaidFits : Result (Stage × Told) TraceFault → Type 0
SaidFits (Ok said) = StageFits said.0 × ToldFits said.1
SaidFits (Err fault) = ⊤

abbrev pub InFits : Result (Inside × Told) TraceFault → Type 0
InFits (Ok said) = InsideFits said.0 × ToldFits said.1
InFits (Err fault) = ⊤

abbrev pub StepFits : Result (Base × Option Event × Option Event) TraceFault → Type 0
StepFits (Ok step) = IsBase step.0 × MaybeFits step.1 × MaybeFits step.2
StepFits (Err fault) = ⊤

due_fits : (a : Argument) (base : Base) (arg : ℕ) → arg < 2 ^ 64 → IsBase base → ArgumentFits a → MaybeFits (entry_due a base arg)
due_fits arguments.Barred base arg few fits awaited = tt
due_fits (arguments.Awaited func) base arg few fits awaited = record { cpu = fits.0; func = awaited; tsc = fits.1; arg = few; logged = tt }
due_fits arguments.Known base arg few fits awaited = tt

entry_fits : (base : Option Base) (arg : ℕ) → arg < 2 ^ 64 → BaseFits base → MaybeFits (entry_with base arg)
entry_fits None arg few fits = tt
entry_fits (Some base) arg few fits = due_fits base.argument base arg few fits fits.2

-- an event of this kind, without an argument
plain_fits : (kind : Kind) → ArgFits kind 0
plain_fits Entry = refl
plain_fits Exit = refl
plain_fits TailExit = refl
plain_fits EntryArgs = tt

no_arg : 0 < 2 ^ 64
no_arg = omega arith

function_step : (ends : Bool) (kind : Kind) (func tsc : ℕ) (base : Base) → func < 2 ^ 28 → tsc < 2 ^ 64 → IsBase base → StepFits (Ok (function_on ends kind func tsc base))
function_step ends kind func tsc base few below fits = by_test (logs_arg kind && not ends)
  where
    awaited : Base
    awaited = record { cpu = base.cpu; tsc = tsc; argument = arguments.Awaited func }

    barred : Base
    barred = record { cpu = base.cpu; tsc = tsc; argument = arguments.Barred }

    event : Event
    event = record { cpu = base.cpu; func = func; kind = kind; tsc = tsc; arg = 0 }

    by_test : (b : Bool) → StepFits (Ok (cond b (awaited, entry_with (Some base) 0, None) (barred, entry_with (Some base) 0, Some event)))
    by_test true = ((fits.0, below, few), entry_fits (Some base) 0 no_arg fits, tt)
    by_test false = ((fits.0, below, tt), entry_fits (Some base) 0 no_arg fits, record { cpu = fits.0; func = few; tsc = below; arg = no_arg; logged = plain_fits kind })

argument_step : (at value : ℕ) (base : Base) (a : Argument) → value < 2 ^ 64 → IsBase base → StepFits (argument_on at value base a)
argument_step at value base arguments.Barred few fits = tt
argument_step at value base (arguments.Awaited func) few fits = ((fits.0, fits.1, tt), entry_fits (Some base) value few fits, tt)
argument_step at value base arguments.Known few fits = (fits, tt, tt)

step_fits : (ends : Bool) (at : ℕ) (r : Rec) (base : Option Base) → FieldsFit r → BaseFits base → StepFits (step_on ends at r base)
step_fits ends at (NewCpu cpu tsc) base few fits = ((few.0, few.1, tt), entry_fits base 0 no_arg fits, tt)
step_fits ends at (TscWrap tsc) None few fits = tt
step_fits ends at (TscWrap tsc) (Some base) few fits = ((fits.0, few, tt), entry_fits (Some base) 0 no_arg fits, tt)
step_fits ends at (Function kind func delta) None few fits = tt
step_fits ends at (Function kind func delta) (Some base) few fits =
    let below : (base.tsc + delta) % 2 ^ 64 < 2 ^ 64 = omega arith in
    function_step ends kind func ((base.tsc + delta) % 2 ^ 64) base few.0 below fits
step_fits ends at (CallArg value) None few fits = tt
step_fits ends at (CallArg value) (Some base) few fits = argument_step at value base base.argument few fits
step_fits ends at (NewBuffer thread) base few fits = tt
step_fits ends at (WallTime wall) base few fits = tt
step_fits ends at (Pid pid) base few fits = tt
step_fits ends at (Extents size) base few fits = tt

-- the thread, the wall time and the process that a record names
thread_fits : (r : Rec) (thread : ℕ) → FieldsFit r → thread_named r ≡ Some thread → thread < 2 ^ 32
thread_fits (NewBuffer n) thread few e =
    let same : n ≡ thread = cc in
    omega (arith, few, same)
thread_fits r thread few e = absurd cc

wall_fits : (r : Rec) (wall : Wall) → FieldsFit r → wall_named r ≡ Some wall → WallFits wall
wall_fits (WallTime w) wall few e =
    let same : w ≡ wall = cc in
    subst WallFits same few
wall_fits r wall few e = absurd cc

pid_fits : (r : Rec) (pid : ℕ) → FieldsFit r → pid_named r ≡ Some pid → pid < 2 ^ 32
pid_fits (Pid n) pid few e =
    let same : n ≡ pid = cc in
    omega (arith, few, same)
pid_fits r pid few e = absurd cc

next_fits : (version : Version) (inside : Inside) (ends : Bool) (at : ℕ) (r : Rec) → FieldsFit r → InsideFits inside → InFits (inside_next version inside ends at r)
next_fits version insides.Opened ends at r few fits = by_thread (thread_named r) refl
  where
    by_thread : (o : Option ℕ) → thread_named r ≡ o → InFits (NeedsPart o (Err (traces.Order at)) λ thread. Ok (insides.Thread thread, Nothing))
    by_thread None e = tt
    by_thread (Some thread) e = (thread_fits r thread few e, tt)
next_fits version (insides.Thread thread) ends at r few fits = by_wall version (wall_named r) refl
  where
    by_wall : (v : Version) (o : Option Wall) → wall_named r ≡ o → InFits (NeedsPart o (Err (traces.Order at)) λ wall. Ok (after_wall v thread wall))
    by_wall v None e = tt
    by_wall Two (Some wall) e = (tt, (fits, wall_fits r wall few e, omega arith))
    by_wall Three (Some wall) e = ((fits, wall_fits r wall few e), tt)
next_fits version (insides.Wall thread wall) ends at r few fits = by_pid (pid_named r) refl
  where
    by_pid : (o : Option ℕ) → pid_named r ≡ o → InFits (NeedsPart o (Err (traces.Order at)) λ pid. Ok (insides.Events None, Begun thread wall pid))
    by_pid None e = tt
    by_pid (Some pid) e = (tt, (fits.0, fits.1, pid_fits r pid few e))
next_fits version (insides.Events base) ends at r few fits = by_step (step_on ends at r base) (step_fits ends at r base few fits)
  where
    by_step : (s : Result (Base × Option Event × Option Event) TraceFault) → StepFits s → InFits (s >>= λ step. Ok (insides.Events (Some step.0), Noted step.1 step.2))
    by_step (Ok step) f = (f.0, (f.1, f.2))
    by_step (Err fault) f = tt

-- the stage after it
after_fits : (span : Span) (at : ℕ) (inside : Inside) → InsideFits inside → StageFits (stage_after span at inside)
after_fits span at inside fits = by_test (eqb at span.end)
  where
    by_test : (b : Bool) → StageFits (cond b Due (Within span inside))
    by_test true = tt
    by_test false = fits

within_fits : (version : Version) (span : Span) (inside : Inside) (at len : ℕ) (found : Result Rec RecFault) → FoundFits found → InsideFits inside
    → InFits (inside_judged version span inside at len found)
within_fits version span inside at len found few fits = by_end (ltb span.end (at + len)) found few
  where
    by_end : (b : Bool) (a : Result Rec RecFault) → FoundFits a
        → InFits (cond b (Err (traces.Extents at)) (record_or at a) >>= λ r. inside_next version inside (eqb (at + len) span.end) at r)
    by_end true a f = tt
    by_end false (Ok r) f = next_fits version inside (eqb (at + len) span.end) at r f fits
    by_end false (Err fault) f = tt

-- a stage that is no fault, with what was said
abbrev JudgedFits : Stage × Told → Type 0
JudgedFits said = SaidFits (unless_faulty said)

stage_fits : (span : Span) (at : ℕ) (said : Result (Inside × Told) TraceFault) → InFits said → JudgedFits (stage_within span at said)
stage_fits span at (Err fault) fits = tt
stage_fits span at (Ok said) fits = by_test (eqb at span.end)
  where
    by_test : (b : Bool) → JudgedFits (cond b Due (Within span said.0), said.1)
    by_test true = (tt, fits.1)
    by_test false = fits

judged_fits : (version : Version) (stage : Stage) (at len : ℕ) (found : Result Rec RecFault) → FoundFits found → StageFits stage → JudgedFits (stage_judged version stage at len found)
judged_fits version Due at len (Ok r) few fits = by_size (size_named r)
  where
    by_least : (size : ℕ) (b : Bool) → JudgedFits (cond b (Faulty (extents_span at) (traces.Extents at)) (Within (block_span at size) insides.Opened), Nothing)
    by_least size true = tt
    by_least size false = (tt, tt)

    by_size : (o : Option ℕ) → JudgedFits (NeedsPart o (Faulty (extents_span at) (traces.Order at)) (λ size. First (ltb size (preamble_bytes version)) (Faulty (extents_span at) (traces.Extents at)) (Within (block_span at size) insides.Opened)), Nothing)
    by_size None = tt
    by_size (Some size) = by_least size (ltb size (preamble_bytes version))
judged_fits version Due at len (Err fault) few fits = tt
judged_fits version (Within span inside) at len found few fits =
    stage_fits span (at + len) (inside_judged version span inside at len found) (within_fits version span inside at len found few fits)
judged_fits version (Faulty span fault) at len found few fits = tt

pub row_fits : (version : LogVersion) (stage : Stage) (at : ℕ) (bytes : List ℕ) → AreBytes bytes → StageFits stage → SaidFits (log_record_rows version stage (at, bytes))
row_fits version stage at bytes all fits = by_short (ltb (length bytes) (log_record_length version bytes))
  where
    by_short : (b : Bool) → SaidFits (First b (Err (traces.Extents at)) (unless_faulty (stage_judged (trace_version version) stage at (log_record_length version bytes) (log_record_in version stage bytes))))
    by_short true = tt
    by_short false = judged_fits (trace_version version) stage at (log_record_length version bytes) (log_record_in version stage bytes) (log_record_fits version stage bytes all) fits

-- ---- events

-- the bytes at these places are bytes
abbrev pub PlacesFit : List (ℕ × List ℕ) → Type 0
PlacesFit [] = ⊤
PlacesFit (place ∷ later) = AreBytes place.1 × PlacesFit later

pub starts_fit : (len : List ℕ → ℕ) (left at : ℕ) (bytes : List ℕ) → AreBytes bytes → PlacesFit (starts len left at bytes)
unfolding starts
starts_fit len left at [] all = tt
starts_fit len (suc left) at (b ∷ bytes) all = starts_fit len left (at + 1) bytes (All-tail (λ b. b < 256) b bytes all)
starts_fit len zero at (b ∷ bytes) all = (all, starts_fit len (len (b ∷ bytes) - 1) (at + 1) bytes (All-tail (λ b. b < 256) b bytes all))

maybe_all : (o : Option Event) → MaybeFits o → All EventFits (option_to_list o)
maybe_all None fits = All-nil EventFits
maybe_all (Some event) fits = All-cons EventFits event [] fits (All-nil EventFits)

pub settled_fit : (told : Told) → ToldFits told → All EventFits (settled told)
settled_fit Nothing fits = All-nil EventFits
settled_fit (Begun thread wall pid) fits = All-nil EventFits
settled_fit (Noted entry event) fits = All-append EventFits (option_to_list entry) (option_to_list event) (maybe_all entry fits.0) (maybe_all event fits.1)

pub events_fit : (version : LogVersion) (stage : Stage) (places : List (ℕ × List ℕ)) → PlacesFit places → StageFits stage → All EventFits (events_told version stage places)
events_fit version stage [] all fits = All-nil EventFits
events_fit version stage ((at, bytes) ∷ later) all fits =
    by_row (λ next f. events_fit version next later all.1 f) (log_record_rows version stage (at, bytes)) (row_fits version stage at bytes all.0 fits)
  where
    by_row : ((next : Stage) → StageFits next → All EventFits (events_told version next later)) → (x : Result (Stage × Told) TraceFault) → SaidFits x
        → All EventFits (events_by x (λ next. events_told version next later))
    by_row again (Ok said) f = All-append EventFits (settled said.1) (events_told version said.0 later) (settled_fit said.1 f.1) (again said.0 f.0)
    by_row again (Err fault) f = All-nil EventFits

-- events that fit their records are events that a trace can have
pub fit_recordable : (events : List Event) → All EventFits events → All IsRecordable events
fit_recordable events all = All-weaker EventFits IsRecordable (λ event fits. record { id = fits.func; arg = fits.logged }) events all
