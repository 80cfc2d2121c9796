-- Inputs in their turn, and what comes of these by the turns.
use Rattle.std.proofs.Common.{◌≡◌, ◌≢◌, ◌⊎◌, ◌<◌, ◌≤◌, ◌+◌, ◌++◌, ◌∙◌, ℕ, List, [], length, replicate, Option, Some, Result, Ok, Err, inl, inr, refl, sym, ap, arith, subst, append_assoc}
use Rattle.std.proofs.lemmas.List.{length-replicate}
use Rattle.fault_words.specs.Words.{words_text}
use Rattle.xray_io.specs.Calls.{CallMade}
use Rattle.xray_io.specs.Desk.{Entry, Untold, Absent, Holds}
use Rattle.xray_io.specs.Faults.{Rose}
use Rattle.xray_io.specs.declared.faults.ReadError.{ReadError}
use Rattle.xray_io.specs.declared.faults.ReadError.TheVariants as errors
use Rattle.xray_program.specs.Doings.{Gives, LeadsTo, ReachesInput, Takes, Taking}
use Rattle.xray_program.specs.Order.{AreAllTaken, IsNext, ReadsInputs}
use Rattle.xray_program.specs.Outcomes.{Outcome, Unread, TooLong, Refused}
use Rattle.xray_program.specs.private.Takes.{IsFaultStop, IsLost, IsReadStop, IsStopAtInput, IsTaken, IsTakenAs, IsTooLong, StopsTaking}
use Rattle.xray_program.specs.private.Turns.{StopsHere}
use Rattle.xray_program.specs.Taking.{Form, MayHold, Take, IsAcceptedAs}
use Rattle.xray_io.specs.World.{DeskView}
use Rattle.xray_program.specs.declared.stop.Stop.{Stop}
use Rattle.xray_program.specs.declared.stop.Stop.TheVariants as stops

-- ---- one input

-- what was read is what the name may hold
may_hold : (entry : Entry) (bytes : List ℕ) → entry ≢ Absent → ((content : List ℕ) → entry ≡ Holds content → bytes ≡ content) → MayHold entry bytes
may_hold Untold bytes there whole = tt
may_hold Absent bytes there whole = absurd (there refl)
may_hold (Holds content) bytes there whole = whole content refl

-- a name with too many bytes may hold bytes that are too many
too_long : (limit : ℕ) (entry : Entry) → entry ≢ Absent → ((bytes : List ℕ) → entry ≡ Holds bytes → limit < length bytes) → IsTooLong limit entry
too_long limit Untold there told = record { bytes = replicate (limit + 1) 0; held = tt; long = simp length-replicate (omega arith) }
too_long limit Absent there told = absurd (there refl)
too_long limit (Holds bytes) there told = record { bytes = bytes; held = refl; long = told bytes refl }

-- bytes that were read whole read as a value
pub gives : {X : Type 0} (form : Form X) (entry : Entry) (bytes : List ℕ) (value : X) → entry ≢ Absent
    → ((content : List ℕ) → entry ≡ Holds content → bytes ≡ content) → length bytes ≤ form.limit → form.Reads bytes value → IsAcceptedAs form entry value
gives form entry bytes value there whole within reads =
    record { bytes = bytes; held = may_hold entry bytes there whole; within = within; reads = reads }

-- bytes that were read whole are refused, or memory ran out
pub faults : {X : Type 0} (form : Form X) (name kind : List ℕ) (before after : DeskView) (bytes : List ℕ) (told : Option (List ℕ)) (stop : Stop)
    → before.held name ≢ Absent → ((content : List ℕ) → before.held name ≡ Holds content → bytes ≡ content) → length bytes ≤ form.limit
    → kind ≡ form.kind → ((refusal : List ℕ) → told ≡ Some refusal → form.Refuses bytes refusal)
    → IsFaultStop name kind told stop → IsTaken form name before after (Err stop)
faults form name kind before after bytes told stops.BadLine there whole within word refuses is = is
faults form name kind before after bytes told (stops.Unread n) there whole within word refuses is = absurd is
faults form name kind before after bytes told (stops.TooLong n) there whole within word refuses is = absurd is
faults form name kind before after bytes told (stops.Refused n k words) there whole within word refuses (same, of_kind, is) = (
  same,
  of_kind ∙ word,
  record { bytes = bytes; held = may_hold (before.held name) bytes there whole; within = within; refused = refuses (words_text words) is },
)
faults form name kind before after bytes told (stops.Fell trouble) there whole within word refuses is = is
faults form name kind before after bytes told (stops.Unwritten n) there whole within word refuses is = is
faults form name kind before after bytes told stops.NoMemory there whole within word refuses is = tt

-- a name that wasn't read whole
pub unread : {X : Type 0} (form : Form X) (name : List ℕ) (before after : DeskView) (error : ReadError) (stop : Stop)
    → (error ≡ errors.TooLong → before.held name ≢ Absent) → (error ≡ errors.TooLong → (bytes : List ℕ) → before.held name ≡ Holds bytes → form.limit < length bytes)
    → (error ≡ errors.ReadFault → IsLost before after name) → IsReadStop name error stop → IsTaken form name before after (Err stop)
unread form name before after error stops.BadLine there long lost is = is
unread form name before after error (stops.Unread n) there long lost (same, is) = (same, lost is)
unread form name before after error (stops.TooLong n) there long lost (same, is) = (same, too_long form.limit (before.held name) (there is) (long is))
unread form name before after error (stops.Refused n kind words) there long lost is = absurd is
unread form name before after error (stops.Fell trouble) there long lost is = is
unread form name before after error (stops.Unwritten n) there long lost is = is
unread form name before after error stops.NoMemory there long lost is = tt

-- an input whose value is what it reads as
pub taken_as : {X : Type 0} (form : Form X) (name : List ℕ) (before after : DeskView) (result : Result X Stop)
    → IsTakenAs form (λ value meant. value ≡ meant) name before after result → IsTaken form name before after result
taken_as {X} form name before after (Ok value) (meant, same, given) = subst (λ (v : X). IsAcceptedAs form (before.held name) v) (sym same) given
taken_as form name before after (Err stop) taken = taken

-- what follows an input that is accepted comes of it
pub again : {X : Type 0} (form : Form X) (held : List ℕ → Entry) (name : List ℕ) (next : X → Outcome → Type 0) (value : X) (outcome : Outcome)
    → IsAcceptedAs form (held name) value → next value outcome → Take form held name next outcome
again form held name next value outcome given comes = inr (given.bytes, given.held, inr (given.within, inr (value, given.reads, comes)))

-- ---- a stop at one of the inputs of a command

-- at the first of these
stops_first : {X Y : Type 0} {later : List (List ℕ)} (form : Form X) (name : List ℕ) (next : X → Taking Y later) (Follows : Y → Outcome → Type 0)
    (before after : DeskView) (stop : Stop) → IsTaken form name before after (Err stop)
    → IsStopAtInput (LeadsTo (Takes form name next) before.held Follows) (ReachesInput (Takes form name next) before.held) before after stop
stops_first form name next Follows before after stops.BadLine taken = taken
stops_first form name next Follows before after (stops.Unread n) (is, lost) = (inl is, cause lost)
  where
    cause : IsLost before after name
        → Rose before.read_faults after.read_faults ⊎ ((before.held n.now ≡ Absent) × LeadsTo (Takes form name next) before.held Follows (Unread n.now))
    cause (inl rose) = inl rose
    cause (inr absent) = inr (ap before.held is ∙ absent, inl (absent, ap Unread is))
stops_first form name next Follows before after (stops.TooLong n) (is, long) = inr (long.bytes, long.held, inl (long.long, ap TooLong is))
stops_first form name next Follows before after (stops.Refused n kind words) (is, of_kind, rejects) =
    inr (rejects.bytes, rejects.held, inr (rejects.within, inl (words_text words, rejects.refused, refused)))
  where
    refused : Refused n.now kind.now (words_text words) ≡ Refused name form.kind (words_text words)
    refused = rw (is, of_kind) refl
stops_first form name next Follows before after (stops.Fell trouble) taken = taken
stops_first form name next Follows before after (stops.Unwritten n) taken = taken
stops_first form name next Follows before after stops.NoMemory taken = tt

-- at a later one
stops_later : {comes more : Outcome → Type 0} {reached further : List ℕ → Type 0} (before after : DeskView) (stop : Stop)
    → ((outcome : Outcome) → more outcome → comes outcome) → ((name : List ℕ) → further name → reached name)
    → IsStopAtInput more further before after stop → IsStopAtInput comes reached before after stop
stops_later before after stops.BadLine on turn stands = stands
stops_later {comes} {more} before after (stops.Unread n) on turn (reached, why) = (turn n.now reached, cause why)
  where
    cause : Rose before.read_faults after.read_faults ⊎ ((before.held n.now ≡ Absent) × more (Unread n.now))
        → Rose before.read_faults after.read_faults ⊎ ((before.held n.now ≡ Absent) × comes (Unread n.now))
    cause (inl rose) = inl rose
    cause (inr (absent, is)) = inr (absent, on (Unread n.now) is)
stops_later before after (stops.TooLong n) on turn stands = on (TooLong n.now) stands
stops_later before after (stops.Refused n kind words) on turn stands = on (Refused n.now kind.now (words_text words)) stands
stops_later before after (stops.Fell trouble) on turn stands = stands
stops_later before after (stops.Unwritten n) on turn stands = stands
stops_later before after stops.NoMemory on turn stands = tt

-- what comes of it
pub stop_stands : {Y : Type 0} {names : List (List ℕ)} (inputs : Taking Y names) (Follows : Y → Outcome → Type 0) (before after : DeskView) (stop : Stop)
    (calls : List CallMade) → ReadsInputs inputs before.held (StopsHere before after stop) calls
    → IsStopAtInput (LeadsTo inputs before.held Follows) (ReachesInput inputs before.held) before after stop
stop_stands (Takes form name next) Follows before after stop calls (inl (taken, stops)) = stops_first form name next Follows before after stop taken
stop_stands (Takes form name next) Follows before after stop calls (inr (mine, rest, value, split, whole, accepted, reaches)) =
    stops_later before after stop
    (λ outcome more. again form before.held name (λ v. LeadsTo (next v) before.held Follows) value outcome accepted more)
    (λ n further. inr (value, accepted, further))
    (stop_stands (next value) Follows before after stop rest reaches)
stop_stands (Gives y) Follows before after stop calls here = absurd here

-- its calls
pub stop_calls : {Y : Type 0} {names : List (List ℕ)} (inputs : Taking Y names) (before after : DeskView) (stop : Stop) (wanted : List ℕ)
    (Last : (limit : ℕ) → List CallMade → Type 0)
    → ((X : Type 0) (form : Form X) (name : List ℕ) (calls : List CallMade) → IsTaken form name before after (Err stop) → StopsTaking name form.limit stop calls
    → (wanted ≡ name) × Last form.limit calls)
    → (calls : List CallMade) → ReadsInputs inputs before.held (StopsHere before after stop) calls → ReadsInputs inputs before.held (IsNext wanted Last) calls
stop_calls (Takes {X} form name next) before after stop wanted Last says calls (inl (taken, stops)) = inl (says X form name calls taken stops)
stop_calls (Takes form name next) before after stop wanted Last says calls (inr (mine, rest, value, split, whole, accepted, reaches)) =
    inr (mine, rest, value, split, whole, accepted, stop_calls (next value) before after stop wanted Last says rest reaches)
stop_calls (Gives y) before after stop wanted Last says calls here = absurd here

-- if memory ran out, at one of the inputs
pub memory_calls : {Y : Type 0} {names : List (List ℕ)} (inputs : Taking Y names) (before after : DeskView) (calls : List CallMade)
    → ReadsInputs inputs before.held (StopsHere before after stops.NoMemory) calls
    → (name : List ℕ) × ReadsInputs inputs before.held (IsNext name (λ limit. StopsTaking name limit stops.NoMemory)) calls
memory_calls (Takes form name next) before after calls (inl (taken, stops)) = (name, inl (refl, stops))
memory_calls (Takes form name next) before after calls (inr (mine, rest, value, split, whole, accepted, reaches)) =
    let at = memory_calls (next value) before after rest reaches in
    (at.0, inr (mine, rest, value, split, whole, accepted, at.1))
memory_calls (Gives y) before after calls here = absurd here

-- ---- all inputs gave values

-- what comes of all values of which this is known comes of the inputs
pub all_come : {Y V : Type 0} {names : List (List ℕ)} (inputs : Taking Y names) (Follows : Y → Outcome → Type 0) (held : List ℕ → Entry) (means : V → Y → Type 0)
    (value : V) (calls : List CallMade) → ReadsInputs inputs held (AreAllTaken (λ y later. (later ≡ []) × means value y)) calls → (outcome : Outcome)
    → ((y : Y) → means value y → Follows y outcome) → LeadsTo inputs held Follows outcome
all_come (Takes form name next) Follows held means value calls (inl at) outcome follows = absurd at
all_come (Takes form name next) Follows held means value calls (inr (mine, rest, v, split, whole, accepted, reaches)) outcome follows =
    again form held name (λ u. LeadsTo (next u) held Follows) v outcome accepted (all_come (next v) Follows held means value rest reaches outcome follows)
all_come (Gives y) Follows held means value calls (none, is) outcome follows = follows y is

-- the calls of all inputs, and those after them
pub all_calls : {Y V : Type 0} {names : List (List ℕ)} (inputs : Taking Y names) (held : List ℕ → Entry) (means : V → Y → Type 0) (value : V)
    (Then : Y → List CallMade → Type 0) (calls later : List CallMade) → ReadsInputs inputs held (AreAllTaken (λ y last. (last ≡ []) × means value y)) calls
    → ((y : Y) → means value y → Then y later) → ReadsInputs inputs held (AreAllTaken Then) (calls ++ later)
all_calls (Takes form name next) held means value Then calls later (inl at) follows = absurd at
all_calls (Takes form name next) held means value Then calls later (inr (mine, rest, v, split, whole, accepted, reaches)) follows = inr (
  mine,
  rest ++ later,
  v,
  ap (λ (c : List CallMade). c ++ later) split ∙ append_assoc mine rest later,
  whole,
  accepted,
  all_calls (next v) held means value Then rest later reaches follows,
)
all_calls (Gives y) held means value Then calls later (none, is) follows = subst (λ (c : List CallMade). Then y (c ++ later)) (sym none) (follows y is)
