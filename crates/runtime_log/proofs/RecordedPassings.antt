-- The records of a basic log, and their passings, as they are read one after the other.
use Rattle.std.proofs.Common.{◌≡◌, ℕ, ◌+◌, ◌<◌, ◌≤◌, List, [], ◌∷◌, ◌++◌, length, drop, map, take, Option, Some, None, Result, Ok, Err, refl, sym, ap, ◌∙◌, arith}
use Rattle.std.specs.Prelude.{IfSome, MatchOption}
use Rattle.std.proofs.lemmas.List.{drop-drop, length-drop, drop_all}
use Rattle.xray_io.specs.Rows.{InTurn, ◌>>=◌}
use Rattle.fdr_record.specs.declared.event.Event.{Event}
use Rattle.fdr_file.specs.ThreadEvents.{ThreadEvent}
use Rattle.fdr_file.specs.declared.fault.TraceFault.TheVariants as traces
use Rattle.runtime_log.specs.declared.basic.BasicRec.{BasicRec}
use Rattle.runtime_log.specs.declared.basic.BasicRec.TheVariants.{Passed, Argument}
use Rattle.runtime_log.specs.declared.basic.Passing.{Passing}
use Rattle.runtime_log.specs.declared.basic.RecordOwner.{RecordOwner}
use Rattle.runtime_log.specs.declared.version.BasicVersion.{BasicVersion}
use Rattle.runtime_log.specs.declared.fault.LogFault.{LogFault}
use Rattle.runtime_log.specs.declared.fault.LogFault.TheVariants as faults
use Rattle.runtime_log.specs.BasicLogs.{basic_length, basic_places, basic_records, basic_rows, lost_count, one_lost, recorded_events, tagged_rows, with_argument}
use Rattle.runtime_log.specs.private.Passings.{AreBetween, PassingsRead, argued_by, event_at, events_of_passings, last_record, passed_event, passings_from, record_at}
use Rattle.runtime_log.proofs.RecordWalk.{starts_first, starts_none}

-- ---- one more record

-- the last of records behind this one
abbrev last_after : Option BasicRec → List BasicRec → Option BasicRec
last_after before [] = before
last_after before (r ∷ records) = last_after (Some r) records

last_is : (records : List BasicRec) → last_record records ≡ last_after None records
last_is [] = refl
last_is (r ∷ []) = refl
last_is (r ∷ next ∷ records) = last_is (next ∷ records)

lost_more : (before : Option BasicRec) (records : List BasicRec) (r : BasicRec) → lost_count before (records ++ r ∷ []) ≡ lost_count before records + one_lost (last_after before records) r
lost_more before [] r = omega arith
lost_more before (first ∷ records) r = let again = lost_more (Some first) records r in omega (arith, again)

last_more : (records : List BasicRec) (r : BasicRec) → last_record (records ++ r ∷ []) ≡ Some r
last_more [] r = refl
last_more (first ∷ []) r = refl
last_more (first ∷ next ∷ records) r = last_more (next ∷ records) r

between_more : (version : BasicVersion) (bytes : List ℕ) (from to : ℕ) (records : List BasicRec) (r : BasicRec) → AreBetween version bytes from to records → record_at version bytes to ≡ Ok r → AreBetween version bytes from (to + 32) (records ++ r ∷ [])
between_more version bytes from to [] r are is = (ap (record_at version bytes) are ∙ is, ap (λ (n : ℕ). n + 32) are)
between_more version bytes from to (first ∷ records) r are is = (are.0, between_more version bytes (from + 32) to records r are.1 is)

passings_more : (version : BasicVersion) (bytes : List ℕ) (from to : ℕ) (records : List BasicRec) (r : BasicRec) → AreBetween version bytes from to records → passings_from from (records ++ r ∷ []) ≡ passings_from from records ++ passings_from to (r ∷ [])
passings_more version bytes from to [] r are = ap (λ (n : ℕ). passings_from n (r ∷ [])) are
passings_more version bytes from to (Passed owner event ∷ records) r are =
    ap (λ (ps : List Passing). record { at = from; thread = owner.thread; pid = owner.pid } ∷ ps) (passings_more version bytes (from + 32) to records r are.1)
passings_more version bytes from to (Argument owner func value ∷ records) r are = passings_more version bytes (from + 32) to records r are.1

-- ---- the events of passings

argued_same : (owner : RecordOwner) (event : Event) (r : BasicRec) (later : List BasicRec) → with_argument owner event (r ∷ []) ≡ with_argument owner event (r ∷ later)
argued_same owner event (Passed of other) later = refl
argued_same owner event (Argument of func value) later = refl

-- an event, with the argument that the record at a place says
argued_is : (version : BasicVersion) (bytes : List ℕ) (from to : ℕ) (owner : RecordOwner) (event : Event) (later : List BasicRec) (fault : LogFault) → AreBetween version bytes from to later → record_at version bytes to ≡ Err fault
    → argued_by owner event (record_at version bytes from) ≡ with_argument owner event later
argued_is version bytes from to owner event [] fault are end = ap (λ (n : ℕ). argued_by owner event (record_at version bytes n)) are ∙ ap (argued_by owner event) end
argued_is version bytes from to owner event (r ∷ later) fault are end = ap (argued_by owner event) are.0 ∙ argued_same owner event r later

passings_events : (version : BasicVersion) (bytes : List ℕ) (from to : ℕ) (records : List BasicRec) (fault : LogFault) → AreBetween version bytes from to records → record_at version bytes to ≡ Err fault
    → events_of_passings version bytes (passings_from from records) ≡ recorded_events records
passings_events version bytes from to [] fault are end = refl
passings_events version bytes from to (Passed owner event ∷ later) fault are end =
    let made : Event → ThreadEvent = λ e. record { thread = owner.thread; pid = owner.pid; event = e } in
    let is : event_at version bytes from ≡ with_argument owner event later =
    ap (λ (x : Result BasicRec LogFault). passed_event x (record_at version bytes (from + 32))) are.0 ∙ argued_is version bytes (from + 32) to owner event later fault are.1 end in
    ap (λ (e : Event). made e ∷ events_of_passings version bytes (passings_from (from + 32) later)) is
    ∙ ap (λ (es : List ThreadEvent). made (with_argument owner event later) ∷ es) (passings_events version bytes (from + 32) to later fault are.1 end)
passings_events version bytes from to (Argument owner func value ∷ later) fault are end = passings_events version bytes (from + 32) to later fault are.1 end

-- ---- what was read

-- the records from a place on
abbrev Onward : BasicVersion → List BasicRec → ℕ → List ℕ → Result (List BasicRec) LogFault
Onward version before at bytes = InTurn (basic_rows version) before (basic_places at (drop at bytes))

-- by the record at the place
abbrev ByRecord : BasicVersion → List BasicRec → ℕ → List ℕ → Result BasicRec LogFault → Result (List BasicRec) LogFault
ByRecord version before at bytes read = (read >>= λ r. Ok (before ++ r ∷ [])) >>= λ records. InTurn (basic_rows version) records (basic_places (at + 32) (drop 32 (drop at bytes)))

onward_first : (version : BasicVersion) (before : List BasicRec) (at : ℕ) (bytes : List ℕ) → at < length bytes → Onward version before at bytes ≡ ByRecord version before at bytes (record_at version bytes at)
onward_first version before at bytes within =
    ap (InTurn (basic_rows version) before) (starts_first (λ rest. basic_length) at (drop at bytes) (omega (arith, length-drop at bytes, within)) (omega arith))

-- the record at the place is not one
pub passings_stop : (version : BasicVersion) (bytes : List ℕ) (at : ℕ) (last : Option BasicRec) (lost : ℕ) (passings : List Passing) (fault : LogFault) → PassingsRead version bytes at last lost passings → at < length bytes
    → record_at version bytes at ≡ Err fault → basic_records version bytes ≡ Err fault
passings_stop version bytes at last lost passings fault r within is = r.on ∙ onward_first version r.records at bytes within ∙ ap (ByRecord version r.records at bytes) is

-- it was taken
pub passings_next : (version : BasicVersion) (bytes : List ℕ) (at : ℕ) (last : Option BasicRec) (lost all : ℕ) (old new : List Passing) (rec : BasicRec) → PassingsRead version bytes at last lost old → at < length bytes
    → record_at version bytes at ≡ Ok rec → all ≡ lost + one_lost last rec → new ≡ old ++ passings_from at (rec ∷ []) → PassingsRead version bytes (at + 32) (Some rec) all new
passings_next version bytes at last lost all old new rec r within is counts more = record {
  records = r.records ++ rec ∷ [];
  on =
      r.on ∙ onward_first version r.records at bytes within ∙ ap (ByRecord version r.records at bytes) is
      ∙ ap (λ (xs : List ℕ). InTurn (basic_rows version) (r.records ++ rec ∷ []) (basic_places (at + 32) xs)) (drop-drop 32 at bytes);
  ends = sym (last_more r.records rec);
  between = between_more version bytes 32 at r.records rec r.between is;
  lost_is =
      let one : one_lost last rec ≡ one_lost (last_after None r.records) rec = ap (λ (o : Option BasicRec). one_lost o rec) (r.ends ∙ last_is r.records) in
      omega (arith, counts, r.lost_is, one, lost_more None r.records rec);
  are = more ∙ ap (λ (ps : List Passing). ps ++ passings_from at (rec ∷ [])) r.are ∙ sym (passings_more version bytes 32 at r.records rec r.between);
}

-- none is left
pub passings_all : (version : BasicVersion) (bytes : List ℕ) (at : ℕ) (last : Option BasicRec) (lost : ℕ) (passings : List Passing) (r : PassingsRead version bytes at last lost passings) → length bytes ≤ at → basic_records version bytes ≡ Ok r.records
passings_all version bytes at last lost passings r end =
    r.on ∙ ap (InTurn (basic_rows version) r.records) (starts_none (λ rest. basic_length) at (drop at bytes) (omega (arith, length-drop at bytes, end)))

pub passings_held : (version : BasicVersion) (bytes : List ℕ) (at : ℕ) (last : Option BasicRec) (lost : ℕ) (passings : List Passing) (r : PassingsRead version bytes at last lost passings) → length bytes ≤ at
    → events_of_passings version bytes passings ≡ recorded_events r.records
passings_held version bytes at last lost passings r end =
    ap (events_of_passings version bytes) r.are
    ∙ passings_events version bytes 32 at r.records (faults.Trace (traces.Short at)) r.between (ap (λ (xs : List ℕ). tagged_rows version at (take 32 xs)) (drop_all at bytes end))

-- each record has at most one passing
few_from : (version : BasicVersion) (bytes : List ℕ) (from to : ℕ) (records : List BasicRec) → AreBetween version bytes from to records → from + length (passings_from from records) ≤ to
few_from version bytes from to [] are = omega (arith, are)
few_from version bytes from to (Passed owner event ∷ later) are = omega (arith, few_from version bytes (from + 32) to later are.1)
few_from version bytes from to (Argument owner func value ∷ later) are = omega (arith, few_from version bytes (from + 32) to later are.1)

pub passings_few : (version : BasicVersion) (bytes : List ℕ) (at : ℕ) (last : Option BasicRec) (lost : ℕ) (passings : List Passing) → PassingsRead version bytes at last lost passings → at ≤ length bytes → length passings ≤ length bytes
passings_few version bytes at last lost passings r within = omega (arith, ap length r.are, few_from version bytes 32 at r.records r.between)

-- ---- passings whose events are given

abbrev pub Given : BasicVersion → List ℕ → (old new : List Passing) → Option Event → Type 0
Given version bytes old new given =
    MatchOption given (old ≡ []) (λ event. (passing : Passing) × (old ≡ passing ∷ new) × (event ≡ event_at version bytes passing.at))

abbrev pub events_left : BasicVersion → List ℕ → List Passing → List Event
events_left version bytes passings = map (λ p. event_at version bytes p.at) passings

pub given_next : (version now : BasicVersion) (bytes after : List ℕ) (old new : List Passing) (given : Option Event) → now ≡ version → after ≡ bytes → Given version bytes old new given → IfSome given (λ event. events_left version bytes old ≡ event ∷ events_left now after new)
given_next version now bytes after old new None kept same is = tt
given_next version now bytes after old new (Some event) kept same is =
    ap (events_left version bytes) is.1
    ∙ ap (λ (e : Event). e ∷ events_left version bytes new) (sym is.2)
    ∙ ap (λ (bs : List ℕ). event ∷ events_left version bs new) (sym same)
    ∙ ap (λ (v : BasicVersion). event ∷ events_left v after new) (sym kept)

pub given_none : (version now : BasicVersion) (bytes after : List ℕ) (old new : List Passing) (given : Option Event) → now ≡ version → after ≡ bytes → Given version bytes old new given → given ≡ None → events_left version bytes old ≡ []
given_none version now bytes after old new None kept same is none = ap (events_left version bytes) is
given_none version now bytes after old new (Some event) kept same is none = absurd cc
