-- The calls of a desk and of a sink, in the order in which they were made.
use Rattle.std.specs.Prelude.{ℕ, List, [], ◌++◌, Result}
use Rattle.xray_io.specs.declared.faults.Failed.{Failed}
use Rattle.xray_io.specs.declared.faults.ReadFail.{ReadFail}

-- a call of a desk: the name, what was asked of it, and the answer
pub data CallMade : Type 0 where
  Read : (name : List ℕ) → (from room : ℕ) → Result ℕ ReadFail → CallMade
  Create : (name : List ℕ) → Result (Unit {0}) Failed → CallMade
  Append : (name : List ℕ) → (offered : ℕ) → Result ℕ Failed → CallMade

-- a write of a sink: how many bytes it was offered, and the answer
pub data Write : Type 0 where
  Wrote : (offered : ℕ) → Result ℕ Failed → Write

-- a write to a name of a desk
abbrev pub append_call : List ℕ → Write → CallMade
append_call name (Wrote offered answer) = Append name offered answer

-- Some calls lead from one state to another, and a property holds of these calls.
pub record Went {C : Type 0} (Way : List C → Type 0) (Are : List C → Type 0) : Type 0 where
  pub calls : List C
  pub way : Way calls
  pub are : Are calls

-- no calls lead from a state to itself
abbrev pub HoldsOfNone : {S C : Type 0} → (S → S → List C → Type 0) → Type 0
HoldsOfNone {S = S} along = (state : S) → along state state []

-- if some calls lead to a state, and other calls on from there, then all of them in turn lead the whole way
abbrev pub Composes : {S C : Type 0} → (S → S → List C → Type 0) → Type 0
Composes {S = S} {C = C} along =
    (first second third : S) (calls later : List C) → along first second calls → along second third later → along first third (calls ++ later)

-- calls with one property, and then calls with another
pub went_on : {S C : Type 0} (along : S → S → List C → Type 0) → Composes along → (first second third : S) (P Q R : List C → Type 0)
    → Went (along first second) P → Went (along second third) Q
    → ((calls later : List C) → P calls → Q later → R (calls ++ later)) → Went (along first third) R
went_on along both first second third P Q R went then joined = record {
  calls = went.calls ++ then.calls;
  way = both _ _ _ _ _ went.way then.way;
  are = joined _ _ went.are then.are;
}
