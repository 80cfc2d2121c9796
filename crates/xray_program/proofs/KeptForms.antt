-- Inputs of which values are kept: their turns are those of what the values hold.
use Rattle.std.proofs.Common.{◌≡◌, ℕ, List, [], Result, Ok, Err, inr, inl, refl, sym}
use Rattle.std.proofs.lemmas.List.{append-nil}
use Rattle.xray_io.specs.Calls.{CallMade}
use Rattle.xray_io.specs.World.{DeskView}
use Rattle.xray_program.specs.Doings.{Gives, Takes}
use Rattle.xray_program.specs.Taking.{Form, IsAcceptedAs}
use Rattle.xray_program.specs.private.KeptForms.{kept_form}
use Rattle.xray_program.specs.private.Takes.{IsTaken, TakesInput}
use Rattle.xray_program.specs.private.Turns.{Turns}
use Rattle.xray_program.specs.declared.stop.Stop.{Stop}
use Rattle.xray_program.specs.declared.stop.Stop.TheVariants as stops

-- a value is accepted as what it holds
kept_taken : {X V : Type 0} (form : Form X) (held : V → X) (name : List ℕ) (before after : DeskView) (value : V)
    → IsTaken (kept_form form held) name before after (Ok value) → IsAcceptedAs form (before.held name) (held value)
kept_taken form held name before after value taken = record { bytes = taken.bytes; held = taken.held; within = taken.within; reads = taken.reads }

-- a stop is a stop of the input
kept_stop : {X V : Type 0} (form : Form X) (held : V → X) (name : List ℕ) (before after : DeskView) (stop : Stop)
    → IsTaken (kept_form form held) name before after (Err stop) → IsTaken form name before after (Err stop)
kept_stop form held name before after stops.BadLine taken = taken
kept_stop form held name before after (stops.Unread n) taken = taken
kept_stop form held name before after (stops.TooLong n) taken = taken
kept_stop form held name before after (stops.Refused n kind words) (same, of_kind, rejects) =
    (same, of_kind, record { bytes = rejects.bytes; held = rejects.held; within = rejects.within; refused = rejects.refused })
kept_stop form held name before after (stops.Fell trouble) taken = taken
kept_stop form held name before after (stops.Unwritten n) taken = taken
kept_stop form held name before after stops.NoMemory taken = taken

-- so are their turns
pub kept_turn : {X V : Type 0} {Way : List CallMade → Type 0} (form : Form X) (held : V → X) (name : List ℕ) (before after : DeskView) (value : V)
    → (let result : Result V Stop = Ok value in TakesInput (kept_form form held) name before after Way result)
    → (let result : Result X Stop = Ok (held value) in TakesInput form name before after Way result)
kept_turn form held name before after value turn = record {
  taken = kept_taken form held name before after value turn.taken;
  calls = turn.calls;
  held = turn.held;
  later = turn.later;
  writes = turn.writes;
  calm = turn.calm;
}

pub kept_stopped : {X V : Type 0} {Way : List CallMade → Type 0} (form : Form X) (held : V → X) (name : List ℕ) (before after : DeskView) (stop : Stop)
    → (let result : Result V Stop = Err stop in TakesInput (kept_form form held) name before after Way result)
    → (let result : Result X Stop = Err stop in TakesInput form name before after Way result)
kept_stopped form held name before after stop turn = record {
  taken = kept_stop form held name before after stop turn.taken;
  calls = turn.calls;
  held = turn.held;
  later = turn.later;
  writes = turn.writes;
  calm = turn.calm;
}

-- the only input of a command
pub only_kept_input : {X V : Type 0} {Way : List CallMade → Type 0} (form : Form X) (held : V → X) (name : List ℕ) (before after : DeskView)
    (result : Result V Stop) → TakesInput (kept_form form held) name before after Way result
    → Turns (Takes form name Gives) (λ (value : V) (x : X). held value ≡ x) before after Way result
only_kept_input form held name before after (Ok value) turn =
    let accepted = kept_taken form held name before after value turn.taken in
    record {
      calls = record {
        calls = turn.calls.calls;
        way = turn.calls.way;
        are = inr (turn.calls.calls, [], held value, sym (append-nil turn.calls.calls), turn.calls.are, accepted, (refl, refl));
      };
      held = turn.held;
      later = turn.later;
      writes = turn.writes;
      calm = turn.calm;
    }
only_kept_input form held name before after (Err stop) turn =
    let at = kept_stop form held name before after stop turn.taken in
    record {
      calls = record { calls = turn.calls.calls; way = turn.calls.way; are = inl (at, turn.calls.are) };
      held = turn.held;
      later = turn.later;
      writes = turn.writes;
      calm = turn.calm;
    }
