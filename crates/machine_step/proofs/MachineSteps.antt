-- What a step does to a machine is what the plain step does to its state.
use Rattle.std.proofs.Common.{◌≡◌, ◌≢◌, ℕ, ◌+◌, ◌-◌, ◌<◌, ◌==◌, Bool, true, false, List, [], ◌∷◌, length, Option, Some, None, refl, sym, ap, subst, ◌∙◌, inl, inr, arith}
use Rattle.std.specs.Prelude.{◌⊎◌, if◌then◌else◌, slice_get, slice_index, Contains, MatchOption}
use Rattle.std.proofs.lemmas.Bool.{eqb-false}
use Rattle.std.proofs.lemmas.Option.{slice_get_past}
use Rattle.subset_decode.specs.declared.instr.Instr.{Instr}
use Rattle.subset_decode.specs.declared.instr.Instr.TheVariants.{Mov, Add, Sub, Push, Pop, Call, Jmp, Jnz, Ret, Out}
use Rattle.subset_decode.specs.Encoding.{spelling}
use Rattle.xray_image.specs.declared.sled.Sled.{Sled}
use Rattle.xray_image.specs.declared.sled.SledKind.{SledKind}
use Rattle.xray_image.specs.declared.sled.SledKind.TheVariants as kinds
use Rattle.xray_image.specs.declared.unit.Unit.{Unit}
use Rattle.xray_image.specs.declared.unit.What.{What}
use Rattle.xray_image.specs.declared.unit.What.TheVariants as whats
use Rattle.xray_image.specs.Layout.{width_of}
use Rattle.xray_image.specs.Program.{Program, addresses}
use Rattle.machine_step.specs.declared.limits.Limits.{Limits}
use Rattle.machine_step.specs.declared.end.End.TheVariants as ends
use Rattle.machine_step.specs.declared.step.Step.{Step}
use Rattle.machine_step.specs.declared.step.Step.TheVariants as steps
use Rattle.machine_step.specs.declared.step.Way.{Way}
use Rattle.machine_step.specs.declared.step.Way.TheVariants.{To, Back, Ends as Stops}
use Rattle.machine_step.specs.declared.machine.Machine.{Machine}
use Rattle.machine_step.specs.PlainStep.{State, Next, Goes, Ends, Passing, PlainStep, UnitStep, does, pushed, popped, returns, fuelled, branched, passing_at, after_passing, stack_limit, output_limit}
use Rattle.machine_step.specs.private.Machine.{state_at, IsWithin, Taken, ending, staying, pushing, popping, returning, putting, leaving, stepping}
use Rattle.machine_step.specs.private.Steps.{IsPlaceOf, IsStepOfInstruction, IsStepOf, IsStepAt, step_of_sled, sled_at}
use Rattle.machine_step.proofs.OneEnd.{Passes}
use Rattle.machine_step.proofs.Places.{found_contains, contains_address, found_address}

-- how many instructions and passings a machine has left
abbrev pub left_of : Limits → Machine → ℕ
left_of limits m = (limits.fuel - m.instructions) + (limits.passings - m.passings)

-- a sled of this kind, after its passing
abbrev after_sled : Limits → ℕ → Machine → SledKind → Taken
after_sled limits place m kinds.Entry = staying (place + 1) m
after_sled limits place m kinds.Tail = staying (place + 1) m
after_sled limits place m kinds.Args = staying (place + 1) m
after_sled limits place m kinds.Exit = leaving limits m

-- one instruction or passing fewer is left, or the place is the next one
abbrev pub Nearer : Limits → ℕ → Machine → ℕ → Machine → Type 0
Nearer limits place before next after =
    (left_of limits after < left_of limits before) ⊎ ((next ≡ place + 1) × (after ≡ before))

-- the way of the step leads where the plain step leads
abbrev pub LeadsBy : List Unit → Limits → ℕ → Machine → Way → Machine → Next → Type 0
LeadsBy units limits place before (To to) after next =
    (address : ℕ) × IsPlaceOf units address to × (next ≡ Goes (state_at address after)) × Nearer limits place before to after
LeadsBy units limits place before (Back address) after next =
    (next ≡ Goes (state_at address after)) × (left_of limits after < left_of limits before)
LeadsBy units limits place before (Stops end) after next =
    (address : ℕ) × (next ≡ Ends end (state_at address after))

abbrev pub Leads : List Unit → Limits → ℕ → Machine → Taken → Next → Type 0
Leads units limits place before taken next = LeadsBy units limits place before taken.way taken.left next

-- both choose by the same test
by_test : (units : List Unit) (limits : Limits) (place : ℕ) (m : Machine) (b : Bool) (f g : Taken) (x y : Next)
    → (b ≡ true → Leads units limits place m f x) → (b ≡ false → Leads units limits place m g y)
    → Leads units limits place m (if b then f else g) (if b then x else y)
by_test units limits place m true f g x y at_true at_false = at_true refl
by_test units limits place m false f g x y at_true at_false = at_false refl

-- one more instruction is one fewer left
spends : (limits : Limits) (m : Machine) → IsWithin limits m → m.instructions ≢ limits.fuel
    → (limits.fuel - (m.instructions + 1)) + (limits.passings - m.passings) < left_of limits m
spends limits m within fuel = omega arith

-- and so is one more passing
passes : (limits : Limits) (m : Machine) → IsWithin limits m → m.passings ≢ limits.passings
    → (limits.fuel - m.instructions) + (limits.passings - (m.passings + 1)) < left_of limits m
passes limits m within passings = omega arith

place_by : (units : List Unit) (b : Bool) (x y i j : ℕ) → IsPlaceOf units x i → IsPlaceOf units y j
    → IsPlaceOf units (if b then x else y) (if b then i else j)
place_by units true x y i j p q = p
place_by units false x y i j p q = q

pop_leads : (units : List Unit) (limits : Limits) (place following address reg : ℕ) (m : Machine) (stack : List ℕ)
    → IsPlaceOf units following (place + 1) → IsWithin limits m → m.instructions ≢ limits.fuel
    → Leads units limits place m (popping (place + 1) reg m stack) (popped (state_at address m) following reg stack)
pop_leads units limits place following address reg m [] next within fuel = (address, refl)
pop_leads units limits place following address reg m (value ∷ stack) next within fuel =
    (following, next, refl, inl (spends limits m within fuel))

return_leads : (units : List Unit) (limits : Limits) (place address : ℕ) (m : Machine) (stack : List ℕ)
    → IsWithin limits m → m.instructions ≢ limits.fuel
    → Leads units limits place m (returning m stack) (returns (state_at address m) stack)
return_leads units limits place address m [] within fuel = (address, refl)
return_leads units limits place address m (back ∷ stack) within fuel = (refl, spends limits m within fuel)

push_leads : (units : List Unit) (limits : Limits) (place to there address value : ℕ) (m : Machine)
    → IsPlaceOf units there to → IsWithin limits m → m.instructions ≢ limits.fuel
    → Leads units limits place m (pushing to value m) (pushed (state_at address m) there value)
push_leads units limits place to there address value m next within fuel =
    by_test units limits place m (length m.stack == stack_limit) _ _ _ _ (λ _. (address, refl))
    (λ _. (there, next, refl, inl (spends limits m within fuel)))

out_leads : (units : List Unit) (limits : Limits) (place to there address port : ℕ) (m : Machine)
    → IsPlaceOf units there to → IsWithin limits m → m.instructions ≢ limits.fuel
    → Leads units limits place m (putting to m) (does (state_at address m) there (Out port))
out_leads units limits place to there address port m next within fuel =
    by_test units limits place m (length m.output == output_limit) _ _ _ _ (λ _. (address, refl))
    (λ _. (there, next, refl, inl (spends limits m within fuel)))

-- an instruction whose step is made if there is fuel
fuel_leads : (units : List Unit) (limits : Limits) (place address : ℕ) (m : Machine) (taken : Taken) (next : Next)
    → (m.instructions ≢ limits.fuel → Leads units limits place m taken next)
    → Leads units limits place m (if m.instructions == limits.fuel then ending ends.Fuel m else taken) (fuelled limits (state_at address m) next)
fuel_leads units limits place address m taken next leads =
    by_test units limits place m (m.instructions == limits.fuel) _ _ _ _ (λ _. (address, refl))
    (λ e. leads (eqb-false m.instructions limits.fuel e))

-- a step, by an equation
by_step : (units : List Unit) (limits : Limits) (place : ℕ) (m : Machine) (step other : Step) (next : Next) → step ≡ other
    → Leads units limits place m (stepping limits place m other) next → Leads units limits place m (stepping limits place m step) next
by_step units limits place m step other next is leads =
    subst (λ (t : Step). Leads units limits place m (stepping limits place m t) next) (sym is) leads

-- the step of an instruction
instruction_leads : (units : List Unit) (limits : Limits) (place following address : ℕ) (m : Machine) (instr : Instr) (step : Step)
    → IsPlaceOf units following (place + 1) → IsWithin limits m → IsStepOfInstruction units following instr step
    → Leads units limits place m (stepping limits place m step) (fuelled limits (state_at address m) (does (state_at address m) following instr))
instruction_leads units limits place following address m (Mov dst imm) step next within is =
    by_step units limits place m step (steps.Mov dst imm) _ is
    (fuel_leads units limits place address m _ _ (λ fuel. (following, next, refl, inl (spends limits m within fuel))))
instruction_leads units limits place following address m (Add dst src) step next within is =
    by_step units limits place m step (steps.Add dst src) _ is
    (fuel_leads units limits place address m _ _ (λ fuel. (following, next, refl, inl (spends limits m within fuel))))
instruction_leads units limits place following address m (Sub dst src) step next within is =
    by_step units limits place m step (steps.Sub dst src) _ is
    (fuel_leads units limits place address m _ _ (λ fuel. (following, next, refl, inl (spends limits m within fuel))))
instruction_leads units limits place following address m (Push reg) step next within is =
    by_step units limits place m step (steps.Push reg) _ is
    (fuel_leads units limits place address m _ _ (push_leads units limits place (place + 1) following address (slice_index m.registers reg) m next within))
instruction_leads units limits place following address m (Pop reg) step next within is =
    by_step units limits place m step (steps.Pop reg) _ is
    (fuel_leads units limits place address m _ _ (pop_leads units limits place following address reg m m.stack next within))
instruction_leads units limits place following address m (Call rel) step next within (target, there, is) =
    by_step units limits place m step (steps.Call target following) _ is
    (fuel_leads units limits place address m _ _ (push_leads units limits place target (branched following rel) address following m there within))
instruction_leads units limits place following address m (Jmp rel) step next within (target, there, is) =
    by_step units limits place m step (steps.Jmp target) _ is
    (fuel_leads units limits place address m _ _ (λ fuel. (branched following rel, there, refl, inl (spends limits m within fuel))))
instruction_leads units limits place following address m (Jnz rel) step next within (target, there, is) =
    by_step units limits place m step (steps.Jnz target) _ is
    (fuel_leads units limits place address m _ _ (λ fuel. (
      if m.zero_flag then following else branched following rel,
      place_by units m.zero_flag following (branched following rel) (place + 1) target next there,
      refl,
      inl (spends limits m within fuel),
    )))
instruction_leads units limits place following address m Ret step next within is =
    by_step units limits place m step steps.Ret _ is
    (fuel_leads units limits place address m _ _ (return_leads units limits place address m m.stack within))
instruction_leads units limits place following address m (Out port) step next within is =
    by_step units limits place m step steps.Out _ is
    (fuel_leads units limits place address m _ _ (out_leads units limits place (place + 1) following address port m next within))

-- nearer than something nearer
leads_on : (units : List Unit) (limits : Limits) (place : ℕ) (before m : Machine) (way : Way) (after : Machine) (next : Next)
    → left_of limits m < left_of limits before
    → LeadsBy units limits place m way after next → LeadsBy units limits place before way after next
leads_on units limits place before m (To to) after next fewer (address, there, goes, inl less) =
    (address, there, goes, inl (omega arith))
leads_on units limits place before m (To to) after next fewer (address, there, goes, inr (at, same)) =
    let left : left_of limits after ≡ left_of limits m = ap (left_of limits) same in
    (address, there, goes, inl (omega arith))
leads_on units limits place before m (Back address) after next fewer (goes, less) = (goes, omega arith)
leads_on units limits place before m (Stops end) after next fewer (address, stops) = (address, stops)

-- a sled after its passing
after_leads : (units : List Unit) (limits : Limits) (place address : ℕ) (before m : Machine) (kind : SledKind)
    → IsPlaceOf units (address + 11) (place + 1) → IsWithin limits m → left_of limits m < left_of limits before
    → Leads units limits place before (after_sled limits place m kind) (after_passing limits (state_at address m) kind)
after_leads units limits place address before m kinds.Entry next within fewer = (address + 11, next, refl, inl fewer)
after_leads units limits place address before m kinds.Tail next within fewer = (address + 11, next, refl, inl fewer)
after_leads units limits place address before m kinds.Args next within fewer = (address + 11, next, refl, inl fewer)
after_leads units limits place address before m kinds.Exit next within fewer =
    leads_on units limits place before m _ _ _ fewer
    (fuel_leads units limits place address m _ _ (return_leads units limits place address m m.stack within))

-- ---- the passings that a step makes

-- at a sled: none if all are used, or else its own
abbrev pub MadeBy : Program → Limits → ℕ → State → ℕ → Bool → List Passing → Type 0
MadeBy program limits thread s k true made = made ≡ []
MadeBy program limits thread s k false made =
    (sled : Sled) × (slice_get program.sleds k ≡ Some sled) × (made ≡ passing_at limits thread s k sled ∷ [])

-- none elsewhere
abbrev pub MadeAt : Program → Limits → ℕ → State → Option ℕ → List Passing → Type 0
MadeAt program limits thread s None made = made ≡ []
MadeAt program limits thread s (Some k) made = MadeBy program limits thread s k (s.passings == limits.passings) made

pub instruction_at_none : (units : List Unit) (following : ℕ) (instr : Instr) (step : Step) → IsStepOfInstruction units following instr step
    → sled_at step ≡ None
instruction_at_none units following (Mov dst imm) step is = ap sled_at is
instruction_at_none units following (Add dst src) step is = ap sled_at is
instruction_at_none units following (Sub dst src) step is = ap sled_at is
instruction_at_none units following (Push reg) step is = ap sled_at is
instruction_at_none units following (Pop reg) step is = ap sled_at is
instruction_at_none units following (Call rel) step (target, there, is) = ap sled_at is
instruction_at_none units following (Jmp rel) step (target, there, is) = ap sled_at is
instruction_at_none units following (Jnz rel) step (target, there, is) = ap sled_at is
instruction_at_none units following Ret step is = ap sled_at is
instruction_at_none units following (Out port) step is = ap sled_at is

pub sled_at_some : (k : ℕ) (kind : SledKind) → sled_at (step_of_sled k kind) ≡ Some k
sled_at_some k kinds.Entry = refl
sled_at_some k kinds.Exit = refl
sled_at_some k kinds.Tail = refl
sled_at_some k kinds.Args = refl

made_none : (program : Program) (limits : Limits) (thread : ℕ) (s : State) (at : Option ℕ) → at ≡ None
    → MadeAt program limits thread s at []
made_none program limits thread s at is =
    subst (λ (o : Option ℕ). MadeAt program limits thread s o []) (sym is) refl

-- where a sled's step leads, and that it makes a passing
pub record PassesTo (program : Program) (limits : Limits) (place address k : ℕ) (m : Machine) (spent : Bool) (taken : Taken) : Type 0 where
  pub next : Next
  pub passes : (thread : ℕ) → (made : List Passing) × Passes program limits thread (state_at address m) k spent made next
      × MadeBy program limits thread (state_at address m) k spent made
  pub leads : Leads program.units limits place m taken next

sled_leads : (program : Program) (limits : Limits) (place address k : ℕ) (m : Machine) (sled : Sled) (spent : Bool)
    → slice_get program.sleds k ≡ Some sled → IsPlaceOf program.units (address + 11) (place + 1) → IsWithin limits m
    → (m.passings == limits.passings) ≡ spent
    → PassesTo program limits place address k m spent
    (if spent then ending ends.Passings m else after_sled limits place (record m { passings = m.passings + 1 }) sled.kind)
sled_leads program limits place address k m sled true found next within is = record {
  next = Ends ends.Passings (state_at address m);
  passes = λ thread. ([], (refl, refl), refl);
  leads = (address, refl);
}
sled_leads program limits place address k m sled false found next within is =
    let some = eqb-false m.passings limits.passings is in
    let after : Machine = record m { passings = m.passings + 1 } in
    let still : IsWithin limits after = record { fuel = within.fuel; passings = omega arith } in
    record {
      next = after_passing limits (state_at address after) sled.kind;
      passes = λ thread. (passing_at limits thread (state_at address m) k sled ∷ [], (sled, found, refl, refl), (sled, found, refl));
      leads = after_leads program.units limits place address m after sled.kind next still (passes limits m within some);
    }

-- both forms of a sled's step are one
stepping_sled : (limits : Limits) (place k : ℕ) (m : Machine) (kind : SledKind)
    → (if m.passings == limits.passings then ending ends.Passings m else after_sled limits place (record m { passings = m.passings + 1 }) kind)
    ≡ stepping limits place m (step_of_sled k kind)
stepping_sled limits place k m kinds.Entry = refl
stepping_sled limits place k m kinds.Tail = refl
stepping_sled limits place k m kinds.Args = refl
stepping_sled limits place k m kinds.Exit = refl

-- the step of a unit at an address, and that of the machine
pub record UnitSteps (program : Program) (limits : Limits) (place address : ℕ) (m : Machine) (what : What) (step : Step) : Type 0 where
  pub next : Next
  pub plain : (thread : ℕ) → (made : List Passing) × UnitStep program limits thread (state_at address m) what made next
      × MadeAt program limits thread (state_at address m) (sled_at step) made
  pub leads : Leads program.units limits place m (stepping limits place m step) next

unit_steps : (program : Program) (limits : Limits) (place address : ℕ) (m : Machine) (what : What) (step : Step)
    → IsPlaceOf program.units (address + width_of what) (place + 1) → IsWithin limits m → IsStepOf program address what step
    → UnitSteps program limits place address m what step
unit_steps program limits place address m (whats.Plain instr) step next within is = record {
  next = fuelled limits (state_at address m) (does (state_at address m) (address + length (spelling instr)) instr);
  plain = λ thread. (
    [],
    (refl, refl),
    made_none program limits thread (state_at address m) (sled_at step)
        (instruction_at_none program.units (address + length (spelling instr)) instr step is),
  );
  leads = instruction_leads program.units limits place (address + length (spelling instr)) address m instr step next within is;
}
unit_steps program limits place address m (whats.Sled k) step next within (sled, found, is) =
    let passes = sled_leads program limits place address k m sled (m.passings == limits.passings) found next within refl in
    record {
      next = passes.next;
      plain = λ thread. let made = passes.passes thread in (
        made.0,
        made.1,
        subst (λ (o : Option ℕ). MadeAt program limits thread (state_at address m) o made.0)
            (sym (ap sled_at is ∙ sled_at_some k sled.kind)) made.2,
      );
      leads = subst (λ (t : Taken). Leads program.units limits place m t passes.next)
          (stepping_sled limits place k m sled.kind ∙ ap (stepping limits place m) (sym is)) passes.leads;
    }
unit_steps program limits place address m whats.Pad step next within is = record {
  next = Goes (state_at (address + 1) m);
  plain = λ thread. ([], (refl, refl), made_none program limits thread (state_at address m) (sled_at step) (ap sled_at is));
  leads = by_step program.units limits place m step steps.Pad _ is (address + 1, next, refl, inr (refl, refl));
}

-- what a thread at an address does, and the step at its place
pub record StepsTo (program : Program) (limits : Limits) (place address : ℕ) (m : Machine) (step : Step) : Type 0 where
  pub next : Next
  pub plain : (thread : ℕ) → (made : List Passing) × PlainStep program limits thread (state_at address m) made next
      × MadeAt program limits thread (state_at address m) (sled_at step) made
  pub leads : Leads program.units limits place m (stepping limits place m step) next

-- the place after a unit is that of the address after it
pub record AreInOrder (program : Program) : Type 0 where
  pub following : (place : ℕ) (u : Unit) → slice_get program.units place ≡ Some u
      → IsPlaceOf program.units (u.address + width_of u.what) (place + 1)

step_at_unit : (program : Program) → AreInOrder program → (limits : Limits) (place : ℕ) (m : Machine) (u : Unit) (step : Step)
    → slice_get program.units place ≡ Some u → IsStepAt program place step → IsWithin limits m
    → StepsTo program limits place u.address m step
step_at_unit program ordered limits place m u step found is within =
    let of : IsStepOf program u.address u.what step =
    subst (λ (o : Option Unit). MatchOption o (step ≡ steps.Nowhere) (λ u. IsStepOf program u.address u.what step)) found is in
    let steps = unit_steps program limits place u.address m u.what step (ordered.following place u found) within of in
    record {
      next = steps.next;
      plain = λ thread. ((steps.plain thread).0, inr (u, found_contains program.units place u found, refl, (steps.plain thread).1), (steps.plain thread).2);
      leads = steps.leads;
    }

step_nowhere : (program : Program) (limits : Limits) (place address : ℕ) (m : Machine) (step : Step)
    → (Contains (addresses program.units) address → ⊥) → step ≡ steps.Nowhere
    → StepsTo program limits place address m step
step_nowhere program limits place address m step none is = record {
  next = Ends ends.BadTarget (state_at address m);
  plain = λ thread. (
    [],
    inl (λ u among at. none (subst (λ a. Contains (addresses program.units) a) at (contains_address program.units u among)), refl, refl),
    made_none program limits thread (state_at address m) (sled_at step) (ap sled_at is),
  );
  leads = by_step program.units limits place m step steps.Nowhere _ is (address, refl);
}

-- the step at the place of an address is what a thread there does
pub step_at_place : (program : Program) → AreInOrder program → (limits : Limits) (place address : ℕ) (m : Machine) (step : Step)
    → IsPlaceOf program.units address place → IsStepAt program place step → IsWithin limits m
    → StepsTo program limits place address m step
step_at_place program ordered limits place address m step (inl found) is within =
    let at = found_address program.units place address found in
    subst (λ a. StepsTo program limits place a m step) at.2
    (step_at_unit program ordered limits place m at.0 step at.1 is within)
step_at_place program ordered limits place address m step (inr (last, none)) is within =
    let past : slice_get program.units place ≡ None = slice_get_past program.units place (omega arith) in
    let nowhere : step ≡ steps.Nowhere =
    subst (λ (o : Option Unit). MatchOption o (step ≡ steps.Nowhere) (λ u. IsStepOf program u.address u.what step)) past is in
    step_nowhere program limits place address m step none nowhere
