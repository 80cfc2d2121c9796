-- Inputs that are taken one after another.
use Rattle.std.specs.Prelude.{IfOk, IsErrAnd}
use Rattle.std.proofs.Common.{◌≡◌, ◌++◌, ◌∙◌, ◌≤◌, ℕ, List, [], Result, Ok, Err, inl, inr, refl, sym, ap, subst, le_refl, append_assoc}
use Rattle.std.proofs.lemmas.List.{append-nil}
use Rattle.xray_io.specs.Calls.{CallMade, Composes, HoldsOfNone, Went}
use Rattle.xray_io.specs.Desk.{Entry}
use Rattle.xray_io.specs.World.{DeskView}
use Rattle.command_words.specs.Reports.{NameSource, ByIds, ByImage, ByMap}
use Rattle.map_names.specs.Naming.{Naming}
use Rattle.xray_program.specs.Commands.{takes_report}
use Rattle.xray_program.specs.Doings.{Gives, Takes, Taking}
use Rattle.xray_program.specs.Order.{AreAllTaken, ReadsInputs}
use Rattle.xray_program.specs.Taking.{Form, IsAcceptedAs}
use Rattle.xray_program.specs.private.Takes.{IsTaken, IsTaking, StopsTaking, TakesInput}
use Rattle.xray_program.specs.private.Turns.{StopsHere, Turns}
use Rattle.xray_program.specs.declared.stop.Stop.{Stop}

-- ---- between the turns of inputs

-- a desk was left as it was
same_desk : (desk now : DeskView) → now.held ≡ desk.held → now.read_faults ≡ desk.read_faults → now.write_faults ≡ desk.write_faults → now ≡ desk
same_desk desk now held reads writes = λ i. record { held = held i; read_faults = reads i; write_faults = writes i }

-- Some of these inputs gave values between two states of a desk, and the others are left to be taken.
pub record HasPassed {S Y : Type 0} (along : S → S → List CallMade → Type 0) (desk : S → DeskView) {names left : List (List ℕ)} (inputs : Taking Y names)
    (others : Taking Y left) (first now : S) : Type 1 where
  pub calls : List CallMade
  pub way : along first now calls
  pub same : desk now ≡ desk first
  pub on : (At : (left : List (List ℕ)) → Taking Y left → List CallMade → Type 0) (more : List CallMade) → ReadsInputs others (desk first).held At more
      → ReadsInputs inputs (desk first).held At (calls ++ more)

-- none yet
pub at_first : {S Y : Type 0} {names : List (List ℕ)} {along : S → S → List CallMade → Type 0} (desk : S → DeskView) → HoldsOfNone along
    → (inputs : Taking Y names) (first : S) → HasPassed along desk inputs inputs first first
at_first desk none inputs first = record { calls = []; way = none first; same = refl; on = λ At more reaches. reaches }

-- one more
pub passed : {S X Y : Type 0} {along : S → S → List CallMade → Type 0} {desk : S → DeskView} {names later : List (List ℕ)} {inputs : Taking Y names}
    {first now after : S} → Composes along → (form : Form X) (name : List ℕ) (next : X → Taking Y later) (value : X)
    → HasPassed along desk inputs (Takes form name next) first now
    → (let turn : Result X Stop = Ok value in TakesInput form name (desk now) (desk after) (along now after) turn)
    → HasPassed along desk inputs (next value) first after
passed {Y = Y} {desk = desk} {inputs = inputs} {first = first} {now = now} {after = after} both form name next value so_far turn = record {
  calls = so_far.calls ++ turn.calls.calls;
  way = both _ _ _ _ _ so_far.way turn.calls.way;
  same = same_desk (desk now) (desk after) turn.held turn.calm turn.writes ∙ so_far.same;
  on = λ At more reaches.
      subst (ReadsInputs inputs (desk first).held At) (sym (append_assoc so_far.calls turn.calls.calls more))
      (so_far.on At (turn.calls.calls ++ more) (inr (
        turn.calls.calls,
        more,
        value,
        refl,
        turn.calls.are,
        subst (λ (d : DeskView). IsAcceptedAs form (d.held name) value) so_far.same turn.taken,
        reaches,
      )));
}

-- one was a stop, which a `?` passes on
pub stopped : {S X Y V : Type 0} {along : S → S → List CallMade → Type 0} {desk : S → DeskView} {names later : List (List ℕ)} {inputs : Taking Y names}
    {first now after : S} → Composes along → (form : Form X) (name : List ℕ) (next : X → Taking Y later) (means : V → Y → Type 0) (result : Result V Stop)
    (stop : Stop) → IsErrAnd result (λ s. s ≡ stop) → HasPassed along desk inputs (Takes form name next) first now
    → (let turn : Result X Stop = Err stop in TakesInput form name (desk now) (desk after) (along now after) turn)
    → Turns inputs means (desk first) (desk after) (along first after) result
stopped both form name next means (Ok values) stop is so_far turn = absurd is
stopped {along = along} {desk = desk} {first = first} {now = now} {after = after} both form name next means (Err s) stop is so_far turn = record {
  calls = record {
    calls = so_far.calls ++ turn.calls.calls;
    way = both _ _ _ _ _ so_far.way turn.calls.way;
    are = so_far.on (StopsHere (desk first) (desk after) s) turn.calls.calls here;
  };
  held = turn.held ∙ ap (λ (d : DeskView). d.held) so_far.same;
  later = subst (λ (d : DeskView). d.read_faults ≤ (desk after).read_faults) so_far.same turn.later;
  writes = turn.writes ∙ ap (λ (d : DeskView). d.write_faults) so_far.same;
  calm = tt;
}
  where
    here : ReadsInputs (Takes form name next) (desk first).held (StopsHere (desk first) (desk after) s) turn.calls.calls
    here = inl (
      subst (λ (r : Stop). IsTaken form name (desk first) (desk after) (Err r)) (sym is)
          (subst (λ (d : DeskView). IsTaken form name d (desk after) (Err stop)) so_far.same turn.taken),
      subst (λ (r : Stop). StopsTaking name form.limit r turn.calls.calls) (sym is) turn.calls.are,
    )

-- the log of a report was a stop, whatever names its functions
pub report_stopped : {S X V : Type 0} {along : S → S → List CallMade → Type 0} (desk : S → DeskView) {first after : S} → Composes along → HoldsOfNone along
    → (form : Form X) (log : List ℕ) (names : NameSource) (means : V → X × Naming → Type 0) (result : Result V Stop) (stop : Stop)
    → IsErrAnd result (λ s. s ≡ stop) → (let turn : Result X Stop = Err stop in TakesInput form log (desk first) (desk after) (along first after) turn)
    → Turns (takes_report form log names) means (desk first) (desk after) (along first after) result
report_stopped desk {first = first} both none form log ByIds means result stop is turn =
    stopped both form log _ means result stop is (at_first desk none (takes_report form log ByIds) first) turn
report_stopped desk {first = first} both none form log (ByImage name) means result stop is turn =
    stopped both form log _ means result stop is (at_first desk none (takes_report form log (ByImage name)) first) turn
report_stopped desk {first = first} both none form log (ByMap name) means result stop is turn =
    stopped both form log _ means result stop is (at_first desk none (takes_report form log (ByMap name)) first) turn

-- all gave values
pub given : {S Y V : Type 0} {along : S → S → List CallMade → Type 0} {desk : S → DeskView} {names : List (List ℕ)} {inputs : Taking Y names} {first now : S}
    (means : V → Y → Type 0) (value : V) (y : Y) → HasPassed along desk inputs (Gives y) first now → means value y
    → (let result : Result V Stop = Ok value in Turns inputs means (desk first) (desk now) (along first now) result)
given {desk = desk} {inputs = inputs} {first = first} means value y so_far is = record {
  calls = record {
    calls = so_far.calls;
    way = so_far.way;
    are = subst (ReadsInputs inputs (desk first).held (AreAllTaken (λ y calls. (calls ≡ []) × means value y))) (append-nil so_far.calls)
        (so_far.on _ [] (refl, is));
  };
  held = ap (λ (d : DeskView). d.held) so_far.same;
  later = subst (λ (d : DeskView). (desk first).read_faults ≤ d.read_faults) (sym so_far.same) (le_refl _);
  writes = ap (λ (d : DeskView). d.write_faults) so_far.same;
  calm = ap (λ (d : DeskView). d.read_faults) so_far.same;
}

-- ---- one input

-- the turn of an input whose form is of a number that equals another
pub turn_of : {X : Type 0} (form : ℕ → Form X) (name : List ℕ) {n m : ℕ} {before after : DeskView} {Way : List CallMade → Type 0} {result : Result X Stop}
    → n ≡ m → TakesInput (form n) name before after Way result → TakesInput (form m) name before after Way result
turn_of form name {before = before} {after = after} {Way = Way} {result = result} =
    subst (λ (k : ℕ). TakesInput (form k) name before after Way result)

-- the turn of an input whose value only says something of what it reads as
pub turn_as : {X : Type 0} (form : Form X) (name : List ℕ) {before after : DeskView} {Way : List CallMade → Type 0} (x : X)
    → IsAcceptedAs form (before.held name) x → after.held ≡ before.held → before.read_faults ≤ after.read_faults
    → after.write_faults ≡ before.write_faults → after.read_faults ≡ before.read_faults → (let turn : Result X Stop = Ok x in Went Way (IsTaking name form.limit turn))
    → (let turn : Result X Stop = Ok x in TakesInput form name before after Way turn)
turn_as form name x accepted held later writes calm went =
    record { taken = accepted; calls = went; held = held; later = later; writes = writes; calm = calm }

-- the only input of a command
pub only_input : {X : Type 0} {Way : List CallMade → Type 0} (form : Form X) (name : List ℕ) (before after : DeskView) (result : Result X Stop)
    → TakesInput form name before after Way result → Turns (Takes form name Gives) (λ (value y : X). value ≡ y) before after Way result
only_input form name before after (Ok value) turn = record {
  calls = record {
    calls = turn.calls.calls;
    way = turn.calls.way;
    are = inr (turn.calls.calls, [], value, sym (append-nil turn.calls.calls), turn.calls.are, turn.taken, (refl, refl));
  };
  held = turn.held;
  later = turn.later;
  writes = turn.writes;
  calm = turn.calm;
}
only_input form name before after (Err stop) turn = record {
  calls = record { calls = turn.calls.calls; way = turn.calls.way; are = inl (turn.taken, turn.calls.are) };
  held = turn.held;
  later = turn.later;
  writes = turn.writes;
  calm = turn.calm;
}

-- ---- what is known of the values

-- what follows from each reading of which something is known
known_of : {Y V : Type 0} {names : List (List ℕ)} (inputs : Taking Y names) (held : List ℕ → Entry) (means : V → Y → Type 0) (value : V) (calls : List CallMade)
    (Known : Type 0) → ((y : Y) → means value y → Known) → ReadsInputs inputs held (AreAllTaken (λ y later. (later ≡ []) × means value y)) calls → Known
known_of (Takes form name next) held means value calls Known follows (inl at) = absurd at
known_of (Takes form name next) held means value calls Known follows (inr (mine, rest, v, split, whole, accepted, reaches)) =
    known_of (next v) held means value rest Known follows reaches
known_of (Gives y) held means value calls Known follows (none, is) = follows y is

pub taken_known : {Y V : Type 0} {names : List (List ℕ)} (inputs : Taking Y names) (means : V → Y → Type 0) (Known : V → Type 0) (before after : DeskView)
    (Way : List CallMade → Type 0) (result : Result V Stop) → ((value : V) (y : Y) → means value y → Known value) → Turns inputs means before after Way result
    → IfOk result Known
taken_known inputs means Known before after Way (Ok value) follows turns =
    known_of inputs before.held means value turns.calls.calls (Known value) (follows value) turns.calls.are
taken_known inputs means Known before after Way (Err stop) follows turns = tt
