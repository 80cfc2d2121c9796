-- A machine that passes a sled.
use Rattle.std.proofs.Common.{◌≡◌, ℕ, suc, ◌+◌, ◌==◌, List, [], ◌∷◌, length, Option, Some, None, refl, sym, ap, ◌∙◌, subst}
use Rattle.std.specs.Prelude.{Bool, true, false, if◌then◌else◌, slice_get, IsSome, MatchOption}
use Rattle.subset_decode.specs.Encoding.{spelling}
use Rattle.xray_image.specs.declared.unit.Unit.{Unit}
use Rattle.xray_image.specs.declared.unit.What.{What}
use Rattle.xray_image.specs.declared.unit.What.TheVariants as whats
use Rattle.xray_image.specs.Program.{Program, IsAccepted}
use Rattle.machine_step.specs.declared.limits.Limits.{Limits}
use Rattle.machine_step.specs.declared.end.End.{End}
use Rattle.machine_step.specs.declared.step.Step.{Step}
use Rattle.machine_step.specs.declared.step.Step.TheVariants as steps
use Rattle.machine_step.specs.declared.step.Way.{Way}
use Rattle.machine_step.specs.declared.step.Way.TheVariants.{To, Back, Ends as Stops}
use Rattle.machine_step.specs.declared.machine.Machine.{Machine}
use Rattle.machine_step.specs.declared.stand.Stand.{Stand}
use Rattle.machine_step.specs.declared.stand.Stand.TheVariants.{Gate, Loading, Ended}
use Rattle.machine_step.specs.PlainStep.{Goes, Next, Passing, PlainStep, passing_at}
use Rattle.machine_step.specs.private.Machine.{state_at, IsWithin, stepping}
use Rattle.machine_step.specs.private.Standing.{due_sled, IsAtSled, RunsBy}
use Rattle.machine_step.specs.private.Steps.{IsPlaceOf, IsStepOf, IsStepAt, sled_at}
use Rattle.machine_step.proofs.Accepted.{are_in_order}
use Rattle.machine_step.proofs.MachineSteps.{LeadsBy, instruction_at_none, sled_at_some}
use Rattle.machine_step.proofs.WayToSled.{at_passing}

-- ---- the sled at a place is one

abbrev sled_of_what : What → Option ℕ
sled_of_what (whats.Plain instr) = None
sled_of_what (whats.Sled k) = Some k
sled_of_what whats.Pad = None

sled_at_what : (program : Program) (address : ℕ) (what : What) (step : Step) → IsStepOf program address what step → sled_at step ≡ sled_of_what what
sled_at_what program address (whats.Plain instr) step is = instruction_at_none program.units (address + length (spelling instr)) instr step is
sled_at_what program address (whats.Sled k) step (sled, found, is) = ap sled_at is ∙ sled_at_some k sled.kind
sled_at_what program address whats.Pad step is = ap sled_at is

abbrev sled_of_unit : Option Unit → Option ℕ
sled_of_unit None = None
sled_of_unit (Some u) = sled_of_what u.what

sled_at_unit : (program : Program) (found : Option Unit) (step : Step)
    → MatchOption found (step ≡ steps.Nowhere) (λ u. IsStepOf program u.address u.what step) → sled_at step ≡ sled_of_unit found
sled_at_unit program None step is = ap sled_at is
sled_at_unit program (Some u) step is = sled_at_what program u.address u.what step is

same_sled_at : (program : Program) (place : ℕ) (a b : Step) → IsStepAt program place a → IsStepAt program place b → sled_at a ≡ sled_at b
same_sled_at program place a b is is' =
    sled_at_unit program (slice_get program.units place) a is ∙ sym (sled_at_unit program (slice_get program.units place) b is')

-- the sled is due at any step that is there
due_there : (program : Program) (limits : Limits) (address place k : ℕ) (m : Machine) (step : Step) → IsStepAt program place step
    → IsAtSled program limits address place k m → due_sled limits m step ≡ Some k
due_there program limits address place k m step is at =
    ap (λ (o : Option ℕ). if m.passings == limits.passings then None else o) (same_sled_at program place step at.step is at.is_step) ∙ at.due

-- so that step has a sled
pub some_sled : (program : Program) (limits : Limits) (address place k : ℕ) (m : Machine) (step : Step) → IsStepAt program place step
    → IsAtSled program limits address place k m → IsSome (sled_at step)
some_sled program limits address place k m step is at = by_room (m.passings == limits.passings) (sled_at step) (due_there program limits address place k m step is at)
  where
    by_room : (full : Bool) (sled : Option ℕ) → (if full then None else sled) ≡ Some k → IsSome sled
    by_room true sled due = cc
    by_room false sled due = subst (λ (o : Option ℕ). IsSome o) (sym due) refl

-- ---- after the passing

-- a run after a step that makes a passing
run_on : (program : Program) (limits : Limits) (thread address there : ℕ) (m after last : Machine) (made : Passing) (stand : Stand)
    → PlainStep program limits thread (state_at address m) (made ∷ []) (Goes (state_at there after))
    → RunsBy program limits thread there after [] stand last
    → RunsBy program limits thread address m (made ∷ []) stand last
run_on program limits thread address there m after last made (Gate place k) step (to, at, (n, reached)) =
    (to, at, (suc n, (made ∷ [], [], state_at there after, step, reached, refl)))
run_on program limits thread address there m after last made (Loading place k at) step run = run
run_on program limits thread address there m after last made (Ended end) step (to, (n, run)) =
    (to, (suc n, (made ∷ [], [], state_at there after, step, run, refl)))

-- the passing of a machine before a sled, and where its step leads
pub record PassesBy (program : Program) (limits : Limits) (thread address place : ℕ) (m after : Machine) (way : Way) : Type 0 where
  pub made : Passing
  pub next : Next
  pub passes : PlainStep program limits thread (state_at address m) (made ∷ []) next
  pub leads : LeadsBy program.units limits place m way after next

module _ (program : Program) (accepted : (bytes : List ℕ) × IsAccepted bytes program) (limits : Limits) (thread address place k : ℕ) (m : Machine) (step : Step) (within : IsWithin limits m) (is : IsStepAt program place step) (at : IsAtSled program limits address place k m) where
  pub passes_by : (way : Way) (after : Machine) → way ≡ (stepping limits place m step).way → after ≡ (stepping limits place m step).left
      → PassesBy program limits thread address place m after way
  passes_by way after way_is left =
      let due = due_there program limits address place k m step is at in
      let passing = at_passing program (are_in_order accepted.0 program accepted.1) limits thread address place k m step within at.placed is due in
      record {
        made = passing_at limits thread (state_at address m) k passing.sled;
        next = passing.next;
        passes = passing.passes;
        leads = subst (λ (a : Machine). LeadsBy program.units limits place m way a passing.next) (sym left)
            (subst (λ (w : Way). LeadsBy program.units limits place m w (stepping limits place m step).left passing.next) (sym way_is) passing.leads);
      }

  pub on_to : (next : ℕ) (after last : Machine) (stand : Stand) → To next ≡ (stepping limits place m step).way → after ≡ (stepping limits place m step).left
      → ((there : ℕ) → IsPlaceOf program.units there next → RunsBy program limits thread there after [] stand last)
      → (made : Passing) × RunsBy program limits thread address m (made ∷ []) stand last
  on_to next after last stand way left runs =
      let by = passes_by (To next) after way left in let there = by.leads in (
        by.made,
        run_on program limits thread address there.0 m after last by.made stand
            (subst (λ (n : Next). PlainStep program limits thread (state_at address m) (by.made ∷ []) n) there.2 by.passes)
            (runs there.0 there.1),
      )

  pub on_back : (back next : ℕ) (after last : Machine) (stand : Stand) → Back back ≡ (stepping limits place m step).way → after ≡ (stepping limits place m step).left
      → IsPlaceOf program.units back next → ((there : ℕ) → IsPlaceOf program.units there next → RunsBy program limits thread there after [] stand last)
      → (made : Passing) × RunsBy program limits thread address m (made ∷ []) stand last
  on_back back next after last stand way left placed runs =
      let by = passes_by (Back back) after way left in (
        by.made,
        run_on program limits thread address back m after last by.made stand
            (subst (λ (n : Next). PlainStep program limits thread (state_at address m) (by.made ∷ []) n) by.leads.0 by.passes)
            (runs back placed),
      )

  pub on_end : (end : End) (after : Machine) → Stops end ≡ (stepping limits place m step).way → after ≡ (stepping limits place m step).left
      → (made : Passing) × RunsBy program limits thread address m (made ∷ []) (Ended end) after
  on_end end after way left =
      let by = passes_by (Stops end) after way left in
      (by.made, (by.leads.0, (0, subst (λ (n : Next). PlainStep program limits thread (state_at address m) (by.made ∷ []) n) by.leads.1 by.passes)))
