-- What is true of the passings of all sleds is true of all passings of a plain run.
use Rattle.std.proofs.Common.{◌≡◌, ℕ, zero, suc, ◌+◌, List, [], ◌∷◌, Bool, true, false, Some, sym, subst, inl, inr}
use Rattle.std.specs.Prelude.{All, MatchBool, ◌==◌, slice_get}
use Rattle.std.proofs.lemmas.List.Elements.{All-append, All-cons, All-nil}
use Rattle.xray_image.specs.Program.{Program}
use Rattle.xray_image.specs.declared.sled.Sled.{Sled as XraySled}
use Rattle.xray_image.specs.declared.unit.What.{What}
use Rattle.xray_image.specs.declared.unit.What.TheVariants.{Plain, Sled, Pad}
use Rattle.machine_step.specs.declared.limits.Limits.{Limits}
use Rattle.machine_step.specs.declared.end.End.{End}
use Rattle.machine_step.specs.declared.end.End.TheVariants as ends
use Rattle.machine_step.specs.PlainStep.{Ends, Next, Passing, PlainStep, RunsTo, State, UnitStep, after_passing, passing_at}

-- it is true of the passings of all sleds
abbrev pub OfEach : (Passing → Type 0) → Program → Limits → ℕ → Type 0
OfEach P program limits thread =
    (s : State) (k : ℕ) (sled : XraySled) → slice_get program.sleds k ≡ Some sled → P (passing_at limits thread s k sled)

none_made : (P : Passing → Type 0) (made : List Passing) → made ≡ [] → All P made
none_made P made e = subst (All P) (sym e) (All-nil P)

unit_each : (P : Passing → Type 0) (program : Program) (limits : Limits) (thread : ℕ) (s : State) (what : What) (made : List Passing) (next : Next)
    → OfEach P program limits thread → UnitStep program limits thread s what made next → All P made
unit_each P program limits thread s (Plain instr) made next each step = none_made P made step.0
unit_each P program limits thread s Pad made next each step = none_made P made step.0
unit_each P program limits thread s (Sled k) made next each step = by_left (s.passings == limits.passings) step
  where
    by_left : (left : Bool)
        → MatchBool left ((made ≡ []) × (next ≡ Ends ends.Passings s))
        ((sled : XraySled) × (slice_get program.sleds k ≡ Some sled)
        × (made ≡ passing_at limits thread s k sled ∷ [])
        × (next ≡ after_passing limits (record s { passings = s.passings + 1 }) sled.kind))
        → All P made
    by_left true ended = none_made P made ended.0
    by_left false (sled, found, e, goes) =
        subst (All P) (sym e) (All-cons P (passing_at limits thread s k sled) [] (each s k sled found) (All-nil P))

step_each : (P : Passing → Type 0) (program : Program) (limits : Limits) (thread : ℕ) (s : State) (made : List Passing) (next : Next)
    → OfEach P program limits thread → PlainStep program limits thread s made next → All P made
step_each P program limits thread s made next each (inl none) = none_made P made none.1
step_each P program limits thread s made next each (inr (u, has, at, step)) = unit_each P program limits thread s u.what made next each step

pub steps_each : (P : Passing → Type 0) (program : Program) (limits : Limits) (thread n : ℕ) (s : State) (passed : List Passing) (end : End) (last : State)
    → OfEach P program limits thread → RunsTo program limits thread n s passed end last → All P passed
steps_each P program limits thread zero s passed end last each step = step_each P program limits thread s passed _ each step
steps_each P program limits thread (suc n) s passed end last each (made, later, mid, step, rest, e) =
    subst (All P) (sym e)
    (All-append P made later (step_each P program limits thread s made _ each step)
    (steps_each P program limits thread n mid later end last each rest))
