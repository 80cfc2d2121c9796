-- How the work of a command ends, and how a call does.
use Rattle.std.specs.Prelude.{IsErrAnd}
use Rattle.std.proofs.Common.{◌≡◌, ◌+◌, ◌++◌, ◌∙◌, ℕ, List, [], Option, Some, None, Result, Ok, Err, inl, inr, refl, sym, ap, subst}
use Rattle.fault_words.specs.Words.{words_text}
use Rattle.xray_io.specs.Calls.{CallMade, Composes, Went, went_on}
use Rattle.xray_io.specs.Desk.{Entry}
use Rattle.xray_io.specs.Faults.{Rose}
use Rattle.xray_io.specs.Outputs.{IsMaking}
use Rattle.xray_io.specs.Reads.{Reads, ReadsUpToFault}
use Rattle.xray_program.specs.Commands.{doing_of}
use Rattle.xray_program.specs.Doings.{Comes, Leaving, MayLeave, ReachesInput}
use Rattle.xray_program.specs.Order.{AreAllTaken, FailsAtOutput, InOrder, IsNoCall, IsUnmade, MakesAll, ReadsInputs, ReadsWhole}
use Rattle.xray_program.specs.Outcomes.{Outcome, BadLine, Unread, TooLong, Refused, Done, Fell, Ending, With, Unwritten, NoMemory, status_at, err_line_at, written_by}
use Rattle.xray_program.specs.Outputs.{OutputsAreWhole, AreUntouched, FailsAt, FailsAtOut, FailsWriting, HoldsPrefix, WritesNothing}
use Rattle.xray_program.specs.private.Stops.{IsUnsaid, answer_of, stop_line, stop_status, told_of}
use Rattle.xray_program.specs.private.Takes.{IsStopAtInput}
use Rattle.xray_program.specs.private.Turns.{ComesOfAll, Turns}
use Rattle.xray_program.specs.Taking.{RefuseIf, ended_by}
use Rattle.command_words.specs.Words.{Command, outputs_of}
use Rattle.xray_program.specs.private.Works.{AreMakings, Delivers, Ends, Finishes, KeepsOthers, StandsAfter, StopsOutputs, Writes}
use Rattle.xray_io.specs.World.{DeskView, SinkView}
use Rattle.xray_program.proofs.CallOrder.{went_as}
use Rattle.xray_program.proofs.Turns.{all_calls, all_come, memory_calls, stop_calls, stop_stands}
use Rattle.xray_program.specs.declared.stop.Stop.{Stop}
use Rattle.xray_program.specs.declared.stop.Stop.TheVariants as stops

-- ---- outputs and a text

-- an output was a stop
pub output_stops : (outputs : List (List ℕ × List ℕ)) (text : List ℕ) (trouble : Option (List ℕ)) (desk desk_now : DeskView) (out : SinkView)
    (Way : List CallMade → Type 0) (result : Result (Unit {0}) Stop) (stop : Stop) → IsErrAnd result (λ s. s ≡ stop) → StopsOutputs outputs desk desk_now stop
    → Went Way (AreMakings outputs desk desk_now (Err stop)) → Delivers outputs text trouble desk desk_now out out Way result
output_stops outputs text trouble desk desk_now out Way (Ok done) stop is stands made = absurd is
output_stops outputs text trouble desk desk_now out Way (Err s) stop is stands made = rw is (following stop stands made)
  where
    following : (stop : Stop) → StopsOutputs outputs desk desk_now stop → Went Way (AreMakings outputs desk desk_now (Err stop))
        → Delivers outputs text trouble desk desk_now out out Way (Err stop)
    following stops.BadLine stands made = stands
    following (stops.Unread n) stands made = stands
    following (stops.TooLong n) stands made = stands
    following (stops.Refused n kind words) stands made = stands
    following (stops.Fell words) stands made = absurd stands
    following (stops.Unwritten n) stands made =
        (inl (stands, refl), went_as Way (FailsAtOutput outputs desk desk_now n.now) (IsUnmade outputs desk desk_now n.now) made (λ calls p. inl p))
    following stops.NoMemory stands made = stands

-- what was delivered was written, whether all is well or not
ended_writes : (outputs : List (List ℕ × List ℕ)) (text : List ℕ) (trouble : Option (List ℕ)) → written_by (ended_by outputs text trouble) ≡ Some (outputs, text)
ended_writes outputs text None = refl
ended_writes outputs text (Some words) = refl

-- the work ends as its outputs and its text are delivered
pub finishes : (comes : Outcome → Type 0) (outputs : List (List ℕ × List ℕ)) (text : List ℕ) (trouble : Option (List ℕ)) (desk desk_now : DeskView)
    (out out_now : SinkView) (Way : List CallMade → Type 0) (result : Result (Unit {0}) Stop) → comes (ended_by outputs text trouble)
    → Delivers outputs text trouble desk desk_now out out_now Way result → Finishes comes desk desk_now out out_now Way result
finishes comes outputs text trouble desk desk_now out out_now Way (Ok done) is (none, writes, made) =
    record { outputs = outputs; text = text; comes = subst (λ t. comes (ended_by outputs text t)) none is; writes = writes; then_so = made }
finishes comes outputs text trouble desk desk_now out out_now Way (Err stops.BadLine) is delivers = delivers
finishes comes outputs text trouble desk desk_now out out_now Way (Err (stops.Unread n)) is delivers = delivers
finishes comes outputs text trouble desk desk_now out out_now Way (Err (stops.TooLong n)) is delivers = delivers
finishes comes outputs text trouble desk desk_now out out_now Way (Err (stops.Refused n kind words)) is delivers = absurd delivers
finishes comes outputs text trouble desk desk_now out out_now Way (Err (stops.Fell words)) is (some, writes, made) =
    record { outputs = outputs; text = text; comes = subst (λ t. comes (ended_by outputs text t)) some is; writes = writes; then_so = made }
finishes comes outputs text trouble desk desk_now out out_now Way (Err (stops.Unwritten n)) is (fails, unmade) =
    record { outcome = ended_by outputs text trouble; comes = is; outputs = outputs; text = text; writes = ended_writes outputs text trouble; failed = fails; then_so = unmade }
finishes comes outputs text trouble desk desk_now out out_now Way (Err stops.NoMemory) is delivers = absurd delivers

-- inputs that are refused once all of them were judged, or memory ran out: nothing was written
pub refuses : (comes : Outcome → Type 0) (desk : DeskView) (out : SinkView) (Way : List CallMade → Type 0) (stop : Stop) (result : Result (Unit {0}) Stop)
    → IsErrAnd result (λ s. s ≡ stop) → Finishes comes desk desk out out Way (Err stop) → Finishes comes desk desk out out Way result
refuses comes desk out Way stop (Ok done) is stands = absurd is
refuses comes desk out Way stop (Err s) is stands = rw is stands

-- what comes of one thing comes of another
finishes_as : (comes also : Outcome → Type 0) (desk desk_now : DeskView) (out out_now : SinkView) (Way : List CallMade → Type 0) (result : Result (Unit {0}) Stop)
    → ((outcome : Outcome) → comes outcome → also outcome) → Finishes comes desk desk_now out out_now Way result
    → Finishes also desk desk_now out out_now Way result
finishes_as comes also desk desk_now out out_now Way (Ok done) says left =
    record { outputs = left.outputs; text = left.text; comes = says _ left.comes; writes = left.writes; then_so = left.then_so }
finishes_as comes also desk desk_now out out_now Way (Err stops.BadLine) says left = left
finishes_as comes also desk desk_now out out_now Way (Err (stops.Unread n)) says left = left
finishes_as comes also desk desk_now out out_now Way (Err (stops.TooLong n)) says left = left
finishes_as comes also desk desk_now out out_now Way (Err (stops.Refused n kind words)) says (left, none, silent) = (says _ left, none, silent)
finishes_as comes also desk desk_now out out_now Way (Err (stops.Fell words)) says left =
    record { outputs = left.outputs; text = left.text; comes = says _ left.comes; writes = left.writes; then_so = left.then_so }
finishes_as comes also desk desk_now out out_now Way (Err (stops.Unwritten n)) says left = record {
  outcome = left.outcome;
  comes = says left.outcome left.comes;
  outputs = left.outputs;
  text = left.text;
  writes = left.writes;
  failed = left.failed;
  then_so = left.then_so;
}
finishes_as comes also desk desk_now out out_now Way (Err stops.NoMemory) says left = left

-- ---- from the inputs on

-- what failed over a desk failed over one that held the same, with the same counts of faults
fails_over : (outputs : List (List ℕ × List ℕ)) (text : List ℕ) (desk mid desk_now : DeskView) (out out_now : SinkView) (name : List ℕ)
    → mid.held ≡ desk.held → mid.write_faults ≡ desk.write_faults → FailsWriting outputs text mid desk_now out out_now name
    → FailsWriting outputs text desk desk_now out out_now name
fails_over outputs text desk mid desk_now out out_now name same counted (inl (fails, silent)) = inl (at, silent)
  where
    at : FailsAt outputs desk desk_now name
    at = record {
      earlier = fails.earlier;
      bytes = fails.bytes;
      later = fails.later;
      order = fails.order;
      fault = subst (λ (w : ℕ). Rose w desk_now.write_faults) counted fails.fault;
      whole = subst (λ (h : List ℕ → Entry). OutputsAreWhole fails.earlier h desk_now.held) same fails.whole;
      prefix = subst (λ (h : List ℕ → Entry). HoldsPrefix (h name) (desk_now.held name) fails.bytes) same fails.prefix;
      untouched = subst (λ (h : List ℕ → Entry). AreUntouched fails.later h desk_now.held) same fails.untouched;
    }
fails_over outputs text desk mid desk_now out out_now name same counted (inr fails) = inr at
  where
    at : FailsAtOut outputs text desk desk_now out out_now name
    at = record {
      is_out = fails.is_out;
      fault = fails.fault;
      whole = subst (λ (h : List ℕ → Entry). OutputsAreWhole outputs h desk_now.held) same fails.whole;
      prefix = fails.prefix;
    }

writes_over : (outputs : List (List ℕ × List ℕ)) (text : List ℕ) (desk mid desk_now : DeskView) (out out_now : SinkView) → mid.held ≡ desk.held
    → mid.read_faults ≡ desk.read_faults → mid.write_faults ≡ desk.write_faults
    → Writes outputs text mid desk_now out out_now → Writes outputs text desk desk_now out out_now
writes_over outputs text desk mid desk_now out out_now same calm counted writes = record {
  whole = subst (λ (h : List ℕ → Entry). OutputsAreWhole outputs h desk_now.held) same writes.whole;
  printed = writes.printed;
  desk_calm = record { reads = writes.desk_calm.reads ∙ calm; writes = writes.desk_calm.writes ∙ counted };
  calm = writes.calm;
}

unmade_over : (outputs : List (List ℕ × List ℕ)) (desk mid desk_now : DeskView) (name : List ℕ) (calls : List CallMade) → mid.held ≡ desk.held
    → IsUnmade outputs mid desk_now name calls → IsUnmade outputs desk desk_now name calls
unmade_over outputs desk mid desk_now name calls same (inl fails) = inl at
  where
    at : FailsAtOutput outputs desk desk_now name calls
    at = record {
      earlier = fails.earlier;
      bytes = fails.bytes;
      later = fails.later;
      turn = fails.turn;
      before = fails.before;
      last = fails.last;
      order = fails.order;
      makes = fails.makes;
      fault = fails.fault;
      fails = subst (λ (h : List ℕ → Entry). IsMaking name fails.bytes (h name) (desk_now.held name) (Err fails.fault) fails.last) same fails.fails;
    }
unmade_over outputs desk mid desk_now name calls same (inr made) = inr made

-- what is left of the values of a command comes of it, as what is left of all values of which its inputs say this
pub finishes_of : {Y : Type 0} (leaves : Y → Leaving) (y : Y) (desk desk_now : DeskView) (out out_now : SinkView) (Way : List CallMade → Type 0)
    (result : Result (Unit {0}) Stop) → Finishes (MayLeave (leaves y)) desk desk_now out out_now Way result
    → Finishes (ComesOfAll (λ (v : Y). y ≡ v) leaves) desk desk_now out out_now Way result
finishes_of leaves y desk desk_now out out_now Way result done =
    finishes_as (MayLeave (leaves y)) (ComesOfAll (λ v. y ≡ v) leaves) desk desk_now out out_now Way result
    (λ outcome left v same. subst (λ u. MayLeave (leaves u) outcome) same left) done

-- so if outputs and a text are delivered
pub finishes_with : {Y : Type 0} (leaves : Y → Leaving) (y : Y) (outputs : List (List ℕ × List ℕ)) (text : List ℕ) (trouble : Option (List ℕ))
    (desk desk_now : DeskView) (out out_now : SinkView) (Way : List CallMade → Type 0) (result : Result (Unit {0}) Stop)
    → MayLeave (leaves y) (ended_by outputs text trouble) → Delivers outputs text trouble desk desk_now out out_now Way result
    → Finishes (ComesOfAll (λ (v : Y). y ≡ v) leaves) desk desk_now out out_now Way result
finishes_with leaves y outputs text trouble desk desk_now out out_now Way result left delivers =
    finishes_of leaves y desk desk_now out out_now Way result
    (finishes (MayLeave (leaves y)) outputs text trouble desk desk_now out out_now Way result left delivers)

-- the work goes on if there is no reason to refuse
pub goes_on : (reason : Option (List ℕ)) (name kind : List ℕ) (next : Outcome → Type 0) (outcome : Outcome) → reason ≡ None → next outcome
    → RefuseIf reason name kind next outcome
goes_on reason name kind next outcome none is = rw none is

-- ---- a command

-- it stopped at one of its inputs
pub ends_at_turns : {V : Type 0} (command : Command) (means : V → (doing_of command).Values → Type 0) (desk desk_now : DeskView) (out : SinkView)
    (Way : List CallMade → Type 0) (result : Result (Unit {0}) Stop) (stop : Stop) → IsErrAnd result (λ s. s ≡ stop)
    → (let turns : Result V Stop = Err stop in Turns (doing_of command).takes means desk desk_now Way turns)
    → Ends (Some command) desk desk_now out out Way (answer_of result) (told_of result)
ends_at_turns command means desk desk_now out Way (Ok done) stop is turns = absurd is
ends_at_turns {V} command means desk desk_now out Way (Err s) stop is turns = rw is (following stop turns)
  where
    -- with this ending, whose status and line are those of the stop
    ended : (ending : Ending) (stop : Stop) → status_at ending ≡ stop_status stop → err_line_at ending ≡ stop_line stop
        → desk_now.held ≡ desk.held → StandsAfter (Some command) desk desk_now out out ending → Went Way (InOrder (Some command) desk desk_now ending)
        → Ends (Some command) desk desk_now out out Way (stop_status stop) (stop_line stop)
    ended ending stop status told same stands order =
        record { ending = ending; status = status; told = told; stands = stands; names = λ name not. ap (λ (h : List ℕ → Entry). h name) same; order = order }

    stands_at : (stop : Stop) → (let turns : Result V Stop = Err stop in Turns (doing_of command).takes means desk desk_now Way turns)
        → IsStopAtInput (Comes (doing_of command) desk.held) (ReachesInput (doing_of command).takes desk.held) desk desk_now stop
    stands_at stop turns =
        stop_stands (doing_of command).takes (λ y. MayLeave ((doing_of command).leaves y)) desk desk_now stop turns.calls.calls turns.calls.are

    following : (stop : Stop) → (let turns : Result V Stop = Err stop in Turns (doing_of command).takes means desk desk_now Way turns)
        → Ends (Some command) desk desk_now out out Way (stop_status stop) (stop_line stop)
    following stops.BadLine turns = absurd (stands_at stops.BadLine turns)
    following (stops.Unread n) turns =
        let P : List ℕ → ℕ → List CallMade → Type 0 = λ m limit. ReadsUpToFault m (limit + 1) in
        ended (With (Unread n.now)) (stops.Unread n) refl refl turns.held (stands_at (stops.Unread n) turns, (turns.held, refl))
        (went_as Way _ (InOrder (Some command) desk desk_now (With (Unread n.now))) turns.calls
        (stop_calls (doing_of command).takes desk desk_now (stops.Unread n) n.now (P n.now)
        (λ X form name calls taken stops. (taken.0, subst (λ (m : List ℕ). P m form.limit calls) (sym taken.0) stops))))
    following (stops.TooLong n) turns =
        let P : List ℕ → ℕ → List CallMade → Type 0 = λ m limit. Reads m (limit + 1) 0 (limit + 1) in
        ended (With (TooLong n.now)) (stops.TooLong n) refl refl turns.held (stands_at (stops.TooLong n) turns, (turns.held, refl))
        (went_as Way _ (InOrder (Some command) desk desk_now (With (TooLong n.now))) turns.calls
        (stop_calls (doing_of command).takes desk desk_now (stops.TooLong n) n.now (P n.now)
        (λ X form name calls taken stops. (taken.0, subst (λ (m : List ℕ). P m form.limit calls) (sym taken.0) stops))))
    following (stops.Refused n kind words) turns =
        let P : List ℕ → ℕ → List CallMade → Type 0 = λ m limit. ReadsWhole m limit in
        let outcome : Outcome = Refused n.now kind.now (words_text words) in
        ended (With outcome) (stops.Refused n kind words) refl refl turns.held (stands_at (stops.Refused n kind words) turns, (turns.held, refl))
        (went_as Way _ (InOrder (Some command) desk desk_now (With outcome)) turns.calls
        (λ calls are. inl (stop_calls (doing_of command).takes desk desk_now (stops.Refused n kind words) n.now (P n.now)
        (λ X form name calls taken stops. (taken.0, subst (λ (m : List ℕ). P m form.limit calls) (sym taken.0) stops)) calls are)))
    following (stops.Fell words) turns = absurd (stands_at (stops.Fell words) turns)
    following (stops.Unwritten n) turns = absurd (stands_at (stops.Unwritten n) turns)
    following stops.NoMemory turns =
        ended NoMemory stops.NoMemory refl refl turns.held (turns.held, refl)
        (went_as Way _ (InOrder (Some command) desk desk_now NoMemory) turns.calls
        (λ calls are. inr (inl (memory_calls (doing_of command).takes desk desk_now calls are))))

-- it took all of them, and did its work
pub ends_after_turns : {S V : Type 0} (along : S → S → List CallMade → Type 0) → Composes along → (seen : S → DeskView) (command : Command)
    (means : V → (doing_of command).Values → Type 0) (inputs : V) (first second third : S) (out out_now : SinkView) (result : Result (Unit {0}) Stop)
    → (let turns : Result V Stop = Ok inputs in Turns (doing_of command).takes means (seen first) (seen second) (along first second) turns)
    → Finishes (ComesOfAll (means inputs) (doing_of command).leaves) (seen second) (seen third) out out_now (along second third) result
    → KeepsOthers (outputs_of command) (seen second) (seen third)
    → Ends (Some command) (seen first) (seen third) out out_now (along first third) (answer_of result) (told_of result)
ends_after_turns {V = V} along both seen command means inputs first second third out out_now result turns done others = by_result result done
  where
    desk : DeskView
    desk = seen first

    mid : DeskView
    mid = seen second

    desk_now : DeskView
    desk_now = seen third

    comes : (outcome : Outcome) → ComesOfAll (means inputs) (doing_of command).leaves outcome → Comes (doing_of command) (seen first).held outcome
    comes outcome left =
        all_come (doing_of command).takes (λ y. MayLeave ((doing_of command).leaves y)) (seen first).held means inputs turns.calls.calls turns.calls.are outcome left

    kept : KeepsOthers (outputs_of command) (seen first) (seen third)
    kept name not = others name not ∙ ap (λ (h : List ℕ → Entry). h name) turns.held

    nothing : WritesNothing (seen second) (seen third) out out_now → WritesNothing (seen first) (seen third) out out_now
    nothing (held, written) = (held ∙ turns.held, written)

    -- the calls of the inputs, and then these
    then_called : (Q R : List CallMade → Type 0) (Then : (doing_of command).Values → List CallMade → Type 0)
        → ((y : (doing_of command).Values) (later : List CallMade) → means inputs y → Q later → Then y later)
        → ((calls : List CallMade) → ReadsInputs (doing_of command).takes (seen first).held (AreAllTaken Then) calls → R calls)
        → Went (along second third) Q → Went (along first third) R
    then_called Q R Then said is went =
        went_on along both first second third
        (ReadsInputs (doing_of command).takes (seen first).held (AreAllTaken (λ y calls. (calls ≡ []) × means inputs y))) Q R turns.calls went
        (λ calls later reads q. is (calls ++ later)
        (all_calls (doing_of command).takes (seen first).held means inputs Then calls later reads (λ y of_y. said y later of_y q)))

    by_result : (result : Result (Unit {0}) Stop)
        → Finishes (ComesOfAll (means inputs) (doing_of command).leaves) (seen second) (seen third) out out_now (along second third) result
        → Ends (Some command) (seen first) (seen third) out out_now (along first third) (answer_of result) (told_of result)
    by_result (Ok done) left = record {
      ending = With (Done left.outputs left.text);
      status = refl;
      told = refl;
      stands = (comes _ left.comes, writes_over left.outputs left.text desk mid desk_now out out_now turns.held turns.calm turns.writes left.writes);
      names = kept;
      order = then_called (MakesAll left.outputs) (InOrder (Some command) desk desk_now (With (Done left.outputs left.text))) _
          (λ y later of_y made. (left.comes y of_y, made)) (λ calls are. are) left.then_so;
    }
    by_result (Err stops.BadLine) left = absurd left
    by_result (Err (stops.Unread n)) left = absurd left
    by_result (Err (stops.TooLong n)) left = absurd left
    by_result (Err (stops.Refused n kind words)) (left, none, silent) = record {
      ending = With (Refused n.now kind.now (words_text words));
      status = refl;
      told = refl;
      stands = (comes _ left, nothing none);
      names = kept;
      order = then_called IsNoCall (InOrder (Some command) desk desk_now (With (Refused n.now kind.now (words_text words)))) _
          (λ y later of_y silent. (left y of_y, silent)) (λ calls are. inr are) silent;
    }
    by_result (Err (stops.Fell words)) left = record {
      ending = With (Fell left.outputs left.text (words_text words));
      status = refl;
      told = refl;
      stands = (comes _ left.comes, writes_over left.outputs left.text desk mid desk_now out out_now turns.held turns.calm turns.writes left.writes);
      names = kept;
      order = then_called (MakesAll left.outputs) (InOrder (Some command) desk desk_now (With (Fell left.outputs left.text (words_text words)))) _
          (λ y later of_y made. (left.comes y of_y, made)) (λ calls are. are) left.then_so;
    }
    by_result (Err (stops.Unwritten n)) left = record {
      ending = Unwritten n.now left.outputs;
      status = refl;
      told = refl;
      stands = record {
        outcome = left.outcome;
        comes = comes left.outcome left.comes;
        outputs = left.outputs;
        text = left.text;
        writes = left.writes;
        failed = fails_over left.outputs left.text desk mid desk_now out out_now n.now turns.held turns.writes left.failed;
        then_so = refl;
      };
      names = kept;
      order = then_called (IsUnmade left.outputs mid desk_now n.now) (InOrder (Some command) desk desk_now (Unwritten n.now left.outputs)) _
          (λ y later of_y made. (tt, unmade_over left.outputs desk mid desk_now n.now later turns.held made)) (λ calls are. are) left.then_so;
    }
    by_result (Err stops.NoMemory) left = record {
      ending = NoMemory;
      status = refl;
      told = refl;
      stands = nothing left.0;
      names = kept;
      order = then_called IsNoCall (InOrder (Some command) desk desk_now NoMemory) _ (λ y later of_y silent. (tt, silent)) (λ calls are. inr (inr are)) left.1;
    }

-- ---- no command

-- words that say no command
bad_line : (said : Option Command) (desk : DeskView) (out : SinkView) (Way : List CallMade → Type 0) → said ≡ None → Went Way IsNoCall
    → Ends said desk desk out out Way (stop_status stops.BadLine) (stop_line stops.BadLine)
bad_line said desk out Way is none =
    record { ending = With BadLine; status = refl; told = refl; stands = (is, (refl, refl)); names = λ name not. refl; order = none }

-- memory ran out while the words were read
unread_words : (said : Option Command) (desk : DeskView) (out : SinkView) (Way : List CallMade → Type 0)
    → Went Way IsNoCall → Ends said desk desk out out Way (stop_status stops.NoMemory) (stop_line stops.NoMemory)
unread_words said desk out Way none = record {
  ending = NoMemory;
  status = refl;
  told = refl;
  stands = (refl, refl);
  names = λ name not. refl;
  order = went_as Way IsNoCall (InOrder said desk desk NoMemory) none (λ calls p. inl p);
}

-- words that say no command, for this reason
pub unsaid : (said : Option Command) (desk : DeskView) (out : SinkView) {Way : List CallMade → Type 0} (stop : Stop) → IsUnsaid said stop
    → Went Way IsNoCall → Ends said desk desk out out Way (stop_status stop) (stop_line stop)
unsaid said desk out {Way = Way} stops.BadLine is none = bad_line said desk out Way is none
unsaid said desk out {Way = Way} stops.NoMemory is none = unread_words said desk out Way none
unsaid said desk out (stops.Unread name) is none = absurd is
unsaid said desk out (stops.TooLong name) is none = absurd is
unsaid said desk out (stops.Refused name kind words) is none = absurd is
unsaid said desk out (stops.Fell words) is none = absurd is
unsaid said desk out (stops.Unwritten name) is none = absurd is

-- so the stop that a `?` passes on
pub unsaid_on : {X : Type 0} (said : Option Command) (desk : DeskView) (out : SinkView) {Way : List CallMade → Type 0} (result : Result X Stop) (stop : Stop)
    → IsErrAnd result (λ s. s ≡ stop) → IsUnsaid said stop → Went Way IsNoCall → Ends said desk desk out out Way (answer_of result) (told_of result)
unsaid_on said desk out {Way = Way} (Ok value) stop is why none = absurd is
unsaid_on said desk out {Way = Way} (Err s) stop is why none = unsaid said desk out s (rw is why) none
