-- A machine on its way from one sled to the next.
use Rattle.std.proofs.Common.{◌≡◌, ℕ, zero, suc, ◌+◌, ◌<◌, ◌==◌, Bool, true, false, List, [], ◌∷◌, length, Option, Some, None, refl, sym, subst, inl}
use Rattle.std.specs.Prelude.{if◌then◌else◌, slice_get}
use Rattle.xray_image.specs.declared.sled.Sled.{Sled}
use Rattle.xray_image.specs.Program.{Program}
use Rattle.machine_step.specs.declared.limits.Limits.{Limits}
use Rattle.machine_step.specs.declared.end.End.{End}
use Rattle.machine_step.specs.declared.step.Step.{Step}
use Rattle.machine_step.specs.declared.step.Way.{Way}
use Rattle.machine_step.specs.declared.step.Way.TheVariants.{To, Back, Ends as Stops}
use Rattle.machine_step.specs.declared.machine.Machine.{Machine}
use Rattle.machine_step.specs.PlainStep.{State, Next, Goes, Ends, Passing, PlainStep, RunsTo, passing_at}
use Rattle.machine_step.specs.Course.{Reaches}
use Rattle.machine_step.specs.private.Machine.{state_at, IsWithin, stepping}
use Rattle.machine_step.specs.private.Standing.{due_sled}
use Rattle.machine_step.specs.private.Steps.{IsPlaceOf, IsStepAt, sled_at}
use Rattle.machine_step.proofs.PlainWays.{reaches_more, runs_after}
use Rattle.machine_step.proofs.Places.{place_within}
use Rattle.machine_step.proofs.MachineRuns.{measure, measure_falls}
use Rattle.machine_step.proofs.MachineSteps.{LeadsBy, AreInOrder, MadeAt, MadeBy, step_at_place}

-- ---- what a step makes

quiet_sled : (program : Program) (limits : Limits) (thread : ℕ) (s : State) (k : ℕ) (spent : Bool) (made : List Passing)
    → (if spent then None else Some k) ≡ None → MadeBy program limits thread s k spent made → made ≡ []
quiet_sled program limits thread s k true made none is = is
quiet_sled program limits thread s k false made none is = absurd cc

quiet : (program : Program) (limits : Limits) (thread : ℕ) (s : State) (at : Option ℕ) (made : List Passing)
    → (if s.passings == limits.passings then None else at) ≡ None → MadeAt program limits thread s at made → made ≡ []
quiet program limits thread s None made none is = is
quiet program limits thread s (Some k) made none is = quiet_sled program limits thread s k (s.passings == limits.passings) made none is

-- the passing of a sled that is due
abbrev pub PassesSled : Program → Limits → ℕ → State → ℕ → List Passing → Type 0
PassesSled program limits thread s k made =
    (sled : Sled) × (slice_get program.sleds k ≡ Some sled) × (made ≡ passing_at limits thread s k sled ∷ [])

loud_sled : (program : Program) (limits : Limits) (thread : ℕ) (s : State) (j k : ℕ) (spent : Bool) (made : List Passing)
    → (if spent then None else Some j) ≡ Some k → MadeBy program limits thread s j spent made → PassesSled program limits thread s k made
loud_sled program limits thread s j k true made due is = absurd cc
loud_sled program limits thread s j k false made due is =
    let same : j ≡ k = cc in subst (λ i. PassesSled program limits thread s i made) same is

if_none : (spent : Bool) (k : ℕ) → (if spent then None else None) ≡ Some k → ⊥
if_none true k is = cc
if_none false k is = cc

loud : (program : Program) (limits : Limits) (thread : ℕ) (s : State) (at : Option ℕ) (k : ℕ) (made : List Passing)
    → (if s.passings == limits.passings then None else at) ≡ Some k → MadeAt program limits thread s at made → PassesSled program limits thread s k made
loud program limits thread s None k made due is = absurd (if_none (s.passings == limits.passings) k due)
loud program limits thread s (Some j) k made due is = loud_sled program limits thread s j k (s.passings == limits.passings) made due is

-- ---- on the way

-- a machine at a place has come there from an address, by steps without a passing
pub record OnWay (program : Program) (limits : Limits) (start : ℕ) (first : Machine) (place : ℕ) (m : Machine) : Type 0 where
  pub on : (address : ℕ) → IsPlaceOf program.units address start
      → (there : ℕ) × IsPlaceOf program.units there place
      × ((thread : ℕ) → (n : ℕ) × Reaches program limits thread n (state_at address first) [] (state_at there m))

pub begins : (program : Program) (limits : Limits) (start : ℕ) (m : Machine) → OnWay program limits start m start m
begins program limits start m = record { on = λ address placed. (address, placed, λ thread. (zero, (refl, refl))) }

pub way_within : (program : Program) (limits : Limits) (start : ℕ) (first : Machine) (place : ℕ) (m : Machine)
    → OnWay program limits start first place m → (address : ℕ) → IsPlaceOf program.units address start → place < length program.units + 1
way_within program limits start first place m way address placed =
    let here = way.on address placed in place_within program.units here.0 place here.1

-- one more step without a passing
step_quiet : (program : Program) (limits : Limits) (thread address there : ℕ) (first m after : Machine) (made : List Passing)
    → (n : ℕ) × Reaches program limits thread n (state_at address first) [] (state_at there m)
    → (next : ℕ) → PlainStep program limits thread (state_at there m) made (Goes (state_at next after)) → made ≡ []
    → (n : ℕ) × Reaches program limits thread n (state_at address first) [] (state_at next after)
step_quiet program limits thread address there first m after made (n, reached) next step none = (
  suc n,
  reaches_more program limits thread n (state_at address first) (state_at there m) (state_at next after) [] []
      reached (subst (λ (ps : List Passing). PlainStep program limits thread (state_at there m) ps (Goes (state_at next after))) none step),
)

pub way_to : (program : Program) → AreInOrder program → (limits : Limits) (start : ℕ) (first : Machine) (place : ℕ) (m : Machine) (step : Step)
    → OnWay program limits start first place m → IsStepAt program place step → IsWithin limits m → due_sled limits m step ≡ None
    → (next : ℕ) (after : Machine) → To next ≡ (stepping limits place m step).way → after ≡ (stepping limits place m step).left
    → OnWay program limits start first next after
way_to program ordered limits start first place m step way is within quietly next after way_is left = record {
  on = λ address placed.
      let here = way.on address placed in
      let steps = step_at_place program ordered limits place here.0 m step here.1 is within in
      let by_way = subst (λ (w : Way). LeadsBy program.units limits place m w (stepping limits place m step).left steps.next) (sym way_is) steps.leads in
      let leads = subst (λ (a : Machine). LeadsBy program.units limits place m (To next) a steps.next) (sym left) by_way in (
        leads.0,
        leads.1,
        λ thread.
            let plain = steps.plain thread in
            step_quiet program limits thread address here.0 first m after plain.0 (here.2 thread) leads.0
            (subst (λ (n : Next). PlainStep program limits thread (state_at here.0 m) plain.0 n) leads.2 plain.1)
            (quiet program limits thread (state_at here.0 m) (sled_at step) plain.0 quietly plain.2),
      );
}

pub way_back : (program : Program) → AreInOrder program → (limits : Limits) (start : ℕ) (first : Machine) (place : ℕ) (m : Machine) (step : Step)
    → OnWay program limits start first place m → IsStepAt program place step → IsWithin limits m → due_sled limits m step ≡ None
    → (back next : ℕ) (after : Machine) → Back back ≡ (stepping limits place m step).way → after ≡ (stepping limits place m step).left
    → IsPlaceOf program.units back next
    → OnWay program limits start first next after
way_back program ordered limits start first place m step way is within quietly back next after way_is left there = record {
  on = λ address placed.
      let here = way.on address placed in
      let steps = step_at_place program ordered limits place here.0 m step here.1 is within in
      let by_way = subst (λ (w : Way). LeadsBy program.units limits place m w (stepping limits place m step).left steps.next) (sym way_is) steps.leads in
      let leads = subst (λ (a : Machine). LeadsBy program.units limits place m (Back back) a steps.next) (sym left) by_way in (
        back,
        there,
        λ thread.
            let plain = steps.plain thread in
            step_quiet program limits thread address here.0 first m after plain.0 (here.2 thread) back
            (subst (λ (n : Next). PlainStep program limits thread (state_at here.0 m) plain.0 n) leads.0 plain.1)
            (quiet program limits thread (state_at here.0 m) (sled_at step) plain.0 quietly plain.2),
      );
}

-- the step at its place ends the run
pub way_ends : (program : Program) → AreInOrder program → (limits : Limits) (start : ℕ) (first : Machine) (place : ℕ) (m : Machine) (step : Step)
    → OnWay program limits start first place m → IsStepAt program place step → IsWithin limits m → due_sled limits m step ≡ None
    → (end : End) (after : Machine) → Stops end ≡ (stepping limits place m step).way → after ≡ (stepping limits place m step).left
    → (address : ℕ) → IsPlaceOf program.units address start → (thread : ℕ)
    → (there : ℕ) × ((n : ℕ) × RunsTo program limits thread n (state_at address first) [] end (state_at there after))
way_ends program ordered limits start first place m step way is within quietly end after way_is left address placed thread =
    let here = way.on address placed in
    let steps = step_at_place program ordered limits place here.0 m step here.1 is within in
    let by_way = subst (λ (w : Way). LeadsBy program.units limits place m w (stepping limits place m step).left steps.next) (sym way_is) steps.leads in
    let leads = subst (λ (a : Machine). LeadsBy program.units limits place m (Stops end) a steps.next) (sym left) by_way in
    let plain = steps.plain thread in
    let none = quiet program limits thread (state_at here.0 m) (sled_at step) plain.0 quietly plain.2 in
    let reached = here.2 thread in (
      leads.0,
      runs_after program limits thread reached.0 zero (state_at address first) (state_at here.0 m) (state_at leads.0 after) [] [] end reached.1
          (subst (λ (ps : List Passing). PlainStep program limits thread (state_at here.0 m) ps (Ends end (state_at leads.0 after))) none
          (subst (λ (n : Next). PlainStep program limits thread (state_at here.0 m) plain.0 n) leads.1 plain.1)),
    )

-- what is left gets less with each step
pub falls_to : (program : Program) → AreInOrder program → (limits : Limits) (start : ℕ) (first : Machine) (place : ℕ) (m : Machine) (step : Step)
    → OnWay program limits start first place m → (address : ℕ) → IsPlaceOf program.units address start
    → IsStepAt program place step → IsWithin limits m
    → (next : ℕ) (after : Machine) → To next ≡ (stepping limits place m step).way → after ≡ (stepping limits place m step).left
    → measure limits (length program.units + 1) next after < measure limits (length program.units + 1) place m
falls_to program ordered limits start first place m step way address placed is within next after way_is left =
    let here = way.on address placed in
    let steps = step_at_place program ordered limits place here.0 m step here.1 is within in
    let by_way = subst (λ (w : Way). LeadsBy program.units limits place m w (stepping limits place m step).left steps.next) (sym way_is) steps.leads in
    let leads = subst (λ (a : Machine). LeadsBy program.units limits place m (To next) a steps.next) (sym left) by_way in
    measure_falls limits (length program.units + 1) place next m after (place_within program.units here.0 place here.1) leads.3

pub falls_back : (program : Program) → AreInOrder program → (limits : Limits) (start : ℕ) (first : Machine) (place : ℕ) (m : Machine) (step : Step)
    → OnWay program limits start first place m → (address : ℕ) → IsPlaceOf program.units address start
    → IsStepAt program place step → IsWithin limits m
    → (back next : ℕ) (after : Machine) → Back back ≡ (stepping limits place m step).way → after ≡ (stepping limits place m step).left
    → measure limits (length program.units + 1) next after < measure limits (length program.units + 1) place m
falls_back program ordered limits start first place m step way address placed is within back next after way_is left =
    let here = way.on address placed in
    let steps = step_at_place program ordered limits place here.0 m step here.1 is within in
    let by_way = subst (λ (w : Way). LeadsBy program.units limits place m w (stepping limits place m step).left steps.next) (sym way_is) steps.leads in
    let leads = subst (λ (a : Machine). LeadsBy program.units limits place m (Back back) a steps.next) (sym left) by_way in
    measure_falls limits (length program.units + 1) place next m after (place_within program.units here.0 place here.1) (inl leads.1)

-- ---- before a sled

-- before a sled that is due, the plain step is its passing, and it leads where the machine's step leads
pub record AtPassing (program : Program) (limits : Limits) (thread address place k : ℕ) (m : Machine) (step : Step) : Type 0 where
  pub sled : Sled
  pub found : slice_get program.sleds k ≡ Some sled
  pub next : Next
  pub passes : PlainStep program limits thread (state_at address m) (passing_at limits thread (state_at address m) k sled ∷ []) next
  pub leads : LeadsBy program.units limits place m (stepping limits place m step).way (stepping limits place m step).left next

pub at_passing : (program : Program) → AreInOrder program → (limits : Limits) (thread address place k : ℕ) (m : Machine) (step : Step)
    → IsWithin limits m → IsPlaceOf program.units address place → IsStepAt program place step → due_sled limits m step ≡ Some k
    → AtPassing program limits thread address place k m step
at_passing program ordered limits thread address place k m step within placed is due =
    let steps = step_at_place program ordered limits place address m step placed is within in
    let plain = steps.plain thread in
    let passes = loud program limits thread (state_at address m) (sled_at step) k plain.0 due plain.2 in
    record {
      sled = passes.0;
      found = passes.1;
      next = steps.next;
      passes = subst (λ (ps : List Passing). PlainStep program limits thread (state_at address m) ps steps.next) passes.2 plain.1;
      leads = steps.leads;
    }
