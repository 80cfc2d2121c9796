-- Runs of a machine, step by step.
use Rattle.std.proofs.Common.{◌≡◌, ℕ, zero, suc, ◌+◌, ◌-◌, ◌*◌, ◌<◌, ◌≤◌, List, ◌++◌, length, refl, sym, ap, subst, inl, inr, arith}
use Rattle.std.proofs.Math.Nat.{mul-le-mul_right}
use Rattle.xray_image.specs.Program.{Program}
use Rattle.machine_step.specs.declared.limits.Limits.{Limits}
use Rattle.machine_step.specs.declared.end.End.{End}
use Rattle.machine_step.specs.declared.step.Step.{Step}
use Rattle.machine_step.specs.declared.step.Way.{Way}
use Rattle.machine_step.specs.declared.step.Way.TheVariants.{To, Back, Ends as Stops}
use Rattle.machine_step.specs.declared.machine.Machine.{Machine}
use Rattle.machine_step.specs.PlainStep.{State, Next, Goes, Ends, Passing, PlainStep}
use Rattle.machine_step.specs.private.Machine.{state_at, IsWithin, RunsFrom, stepping}
use Rattle.machine_step.specs.private.Steps.{IsPlaceOf, IsStepAt}
use Rattle.machine_step.proofs.Places.{place_within}
use Rattle.machine_step.proofs.MachineSteps.{left_of, Nearer, LeadsBy, AreInOrder, step_at_place}

-- how many steps are left at most: all places for each instruction and each passing that is left, and those after this
-- one
abbrev pub measure : Limits → ℕ → ℕ → Machine → ℕ
measure limits places place m = left_of limits m * places + (places - place)

falls_by : (places place next left after : ℕ) → place < places → after < left
    → after * places + (places - next) < left * places + (places - place)
falls_by places place next left after within fewer =
    let product : (after + 1) * places ≤ left * places = mul-le-mul_right places (omega arith) in
    omega arith

pub measure_falls : (limits : Limits) (places place next : ℕ) (before after : Machine) → place < places
    → Nearer limits place before next after → measure limits places next after < measure limits places place before
measure_falls limits places place next before after within (inl fewer) =
    falls_by places place next (left_of limits before) (left_of limits after) within fewer
measure_falls limits places place next before after within (inr (at, same)) =
    let left : left_of limits after ≡ left_of limits before = ap (left_of limits) same in
    rw left (omega arith)

-- one step before a run
pub step_in_front : (program : Program) (limits : Limits) (thread : ℕ) (s mid : State) (made : List Passing) (end : End) (left : Machine)
    → PlainStep program limits thread s made (Goes mid) → RunsFrom program limits thread mid end left
    → RunsFrom program limits thread s end left
step_in_front program limits thread s mid made end left step run = record {
  steps = suc run.steps;
  passed = made ++ run.passed;
  address = run.address;
  runs = (made, run.passed, mid, step, run.runs, refl);
}

-- a run of one step
last_step : (program : Program) (limits : Limits) (thread address : ℕ) (s : State) (made : List Passing) (end : End) (left : Machine)
    → PlainStep program limits thread s made (Ends end (state_at address left)) → RunsFrom program limits thread s end left
last_step program limits thread address s made end left step = record {
  steps = zero;
  passed = made;
  address = address;
  runs = step;
}

-- a machine at a place, with the rest of its run being the rest of a run from a start
pub record Stands (program : Program) (limits : Limits) (start : State) (place : ℕ) (m : Machine) : Type 0 where
  pub address : ℕ
  pub placed : IsPlaceOf program.units address place
  pub on : (thread : ℕ) (end : End) (left : Machine) → RunsFrom program limits thread (state_at address m) end left
      → RunsFrom program limits thread start end left

-- wherever a step leads, the machine is on that run again
pub record StandsAgain (program : Program) (limits : Limits) (start : State) (place : ℕ) (m : Machine) (next : ℕ) (after : Machine) : Type 0 where
  pub stands : Stands program limits start next after
  pub nearer : Nearer limits place m next after

pub goes_on : (program : Program) → AreInOrder program → (limits : Limits) (start : State) (place : ℕ) (m : Machine) (step : Step)
    → Stands program limits start place m → IsStepAt program place step → IsWithin limits m
    → (next : ℕ) (after : Machine) → To next ≡ (stepping limits place m step).way → after ≡ (stepping limits place m step).left
    → StandsAgain program limits start place m next after
goes_on program ordered limits start place m step stands is within next after way left =
    let steps = step_at_place program ordered limits place stands.address m step stands.placed is within in
    let by_way = subst (λ (w : Way). LeadsBy program.units limits place m w (stepping limits place m step).left steps.next) (sym way) steps.leads in
    let leads = subst (λ (a : Machine). LeadsBy program.units limits place m (To next) a steps.next) (sym left) by_way in
    record {
      stands = record {
        address = leads.0;
        placed = leads.1;
        on = λ thread end last run. stands.on thread end last
            (step_in_front program limits thread (state_at stands.address m) (state_at leads.0 after) (steps.plain thread).0 end last
            (subst (λ (n : Next). PlainStep program limits thread (state_at stands.address m) (steps.plain thread).0 n) leads.2 (steps.plain thread).1) run);
      };
      nearer = leads.3;
    }

-- if a step returns to an address, the machine is at its place
pub goes_back : (program : Program) → AreInOrder program → (limits : Limits) (start : State) (place : ℕ) (m : Machine) (step : Step)
    → Stands program limits start place m → IsStepAt program place step → IsWithin limits m
    → (address next : ℕ) (after : Machine) → Back address ≡ (stepping limits place m step).way → after ≡ (stepping limits place m step).left
    → IsPlaceOf program.units address next
    → StandsAgain program limits start place m next after
goes_back program ordered limits start place m step stands is within address next after way left placed =
    let steps = step_at_place program ordered limits place stands.address m step stands.placed is within in
    let by_way = subst (λ (w : Way). LeadsBy program.units limits place m w (stepping limits place m step).left steps.next) (sym way) steps.leads in
    let leads = subst (λ (a : Machine). LeadsBy program.units limits place m (Back address) a steps.next) (sym left) by_way in
    record {
      stands = record {
        address = address;
        placed = placed;
        on = λ thread end last run. stands.on thread end last
            (step_in_front program limits thread (state_at stands.address m) (state_at address after) (steps.plain thread).0 end last
            (subst (λ (n : Next). PlainStep program limits thread (state_at stands.address m) (steps.plain thread).0 n) leads.0 (steps.plain thread).1) run);
      };
      nearer = inl leads.1;
    }

-- if a step ends the thread, the run is complete
pub ends_there : (program : Program) → AreInOrder program → (limits : Limits) (start : State) (place : ℕ) (m : Machine) (step : Step)
    → Stands program limits start place m → IsStepAt program place step → IsWithin limits m
    → (end : End) (after : Machine) → Stops end ≡ (stepping limits place m step).way → after ≡ (stepping limits place m step).left
    → (thread : ℕ) → RunsFrom program limits thread start end after
ends_there program ordered limits start place m step stands is within end after way left thread =
    let steps = step_at_place program ordered limits place stands.address m step stands.placed is within in
    let by_way = subst (λ (w : Way). LeadsBy program.units limits place m w (stepping limits place m step).left steps.next) (sym way) steps.leads in
    let leads = subst (λ (a : Machine). LeadsBy program.units limits place m (Stops end) a steps.next) (sym left) by_way in
    stands.on thread end after
    (last_step program limits thread leads.0 (state_at stands.address m) (steps.plain thread).0 end after
    (subst (λ (n : Next). PlainStep program limits thread (state_at stands.address m) (steps.plain thread).0 n) leads.1 (steps.plain thread).1))

-- the place of a machine is one of the steps'
pub stands_within : (program : Program) (limits : Limits) (start : State) (place : ℕ) (m : Machine) → Stands program limits start place m
    → place < length program.units + 1
stands_within program limits start place m stands = place_within program.units stands.address place stands.placed

-- so what is left of the run is less
pub comes_nearer : (program : Program) (limits : Limits) (start : State) (place next : ℕ) (m after : Machine) → Stands program limits start place m
    → StandsAgain program limits start place m next after
    → measure limits (length program.units + 1) next after < measure limits (length program.units + 1) place m
comes_nearer program limits start place next m after stands again =
    measure_falls limits (length program.units + 1) place next m after (stands_within program limits start place m stands) again.nearer
