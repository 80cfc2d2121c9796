-- Each machine at a place runs to an end.
use Rattle.std.proofs.Common.{◌≡◌, ℕ, zero, suc, ◌+◌, ◌<◌, ◌==◌, Bool, true, false, List, [], ◌∷◌, length, Option, Some, None, refl, arith}
use Rattle.std.specs.Prelude.{◌%◌, ◌++◌, if◌then◌else◌, slice_get, slice_index, MatchOption}
use Rattle.std.proofs.lemmas.Bool.{eqb-false}
use Rattle.subset_decode.specs.declared.instr.Instr.{Instr}
use Rattle.subset_decode.specs.declared.instr.Instr.TheVariants.{Mov, Add, Sub, Push, Pop, Call, Jmp, Jnz, Ret, Out}
use Rattle.subset_decode.specs.Encoding.{spelling}
use Rattle.xray_image.specs.declared.sled.Sled.{Sled}
use Rattle.xray_image.specs.declared.unit.Unit.{Unit}
use Rattle.xray_image.specs.declared.unit.What.{What}
use Rattle.xray_image.specs.declared.unit.What.TheVariants as whats
use Rattle.xray_image.specs.Program.{Program, IsAccepted}
use Rattle.machine_step.specs.declared.limits.Limits.{Limits}
use Rattle.machine_step.specs.declared.end.End.{End}
use Rattle.machine_step.specs.declared.end.End.TheVariants as ends
use Rattle.machine_step.specs.declared.step.Step.{Step}
use Rattle.machine_step.specs.declared.step.Step.TheVariants as steps
use Rattle.machine_step.specs.declared.step.Way.{Way}
use Rattle.machine_step.specs.declared.step.Way.TheVariants.{To, Back, Ends as Stops}
use Rattle.machine_step.specs.declared.machine.Machine.{Machine}
use Rattle.machine_step.specs.PlainStep.{State, Passing, PlainRun, branched, stack_limit, output_limit}
use Rattle.machine_step.specs.private.Machine.{Taken, state_at, first_machine, IsWithin, RunsFrom, ending, going, staying, leaving, pushing, popping, returning, putting, passing, acting, stepping}
use Rattle.machine_step.specs.private.Steps.{IsStepOfInstruction, IsStepOf, IsStepAt, step_of_sled}
use Rattle.machine_step.proofs.Accepted.{are_in_order, has_sled}
use Rattle.machine_step.proofs.Places.{has_place}
use Rattle.machine_step.proofs.MachineRuns.{Stands, measure, goes_on, goes_back, ends_there, stands_within, measure_falls}
use Rattle.machine_step.proofs.MachineSteps.{AreInOrder}

-- ---- each place has its step

instruction_step : (units : List Unit) (following : ℕ) (instr : Instr) → (step : Step) × IsStepOfInstruction units following instr step
instruction_step units following (Mov dst imm) = (steps.Mov dst imm, refl)
instruction_step units following (Add dst src) = (steps.Add dst src, refl)
instruction_step units following (Sub dst src) = (steps.Sub dst src, refl)
instruction_step units following (Push reg) = (steps.Push reg, refl)
instruction_step units following (Pop reg) = (steps.Pop reg, refl)
instruction_step units following (Call rel) =
    let target = has_place units (branched following rel) in (steps.Call target.0 following, (target.0, target.1, refl))
instruction_step units following (Jmp rel) =
    let target = has_place units (branched following rel) in (steps.Jmp target.0, (target.0, target.1, refl))
instruction_step units following (Jnz rel) =
    let target = has_place units (branched following rel) in (steps.Jnz target.0, (target.0, target.1, refl))
instruction_step units following Ret = (steps.Ret, refl)
instruction_step units following (Out port) = (steps.Out, refl)

what_step : (program : Program) (address : ℕ) (what : What)
    → ((k : ℕ) → what ≡ whats.Sled k → (sled : Sled) × (slice_get program.sleds k ≡ Some sled))
    → (step : Step) × IsStepOf program address what step
what_step program address (whats.Plain instr) sleds = instruction_step program.units (address + length (spelling instr)) instr
what_step program address (whats.Sled k) sleds =
    let sled = sleds k refl in (step_of_sled k sled.0.kind, (sled.0, sled.1, refl))
what_step program address whats.Pad sleds = (steps.Pad, refl)

-- the sled of each number that units name
record NamesSleds (program : Program) : Type 0 where
  sled : (i : ℕ) (u : Unit) (k : ℕ) → slice_get program.units i ≡ Some u → u.what ≡ whats.Sled k
      → (sled : Sled) × (slice_get program.sleds k ≡ Some sled)

found_sled : (sleds : List Sled) (k : ℕ) → k < length sleds → (sled : Sled) × (slice_get sleds k ≡ Some sled)
found_sled [] k below = absurd (omega arith)
found_sled (first ∷ sleds) zero below = (first, refl)
found_sled (first ∷ sleds) (suc k) below = found_sled sleds k (omega arith)

names_sleds : (bytes : List ℕ) (program : Program) → IsAccepted bytes program → NamesSleds program
names_sleds bytes program accepted = record {
  sled = λ i u k found is. found_sled program.sleds k (has_sled bytes program accepted i u k found is);
}

step_by : (program : Program) → NamesSleds program → (place : ℕ) (found : Option Unit) → slice_get program.units place ≡ found
    → (step : Step) × MatchOption found (step ≡ steps.Nowhere) (λ u. IsStepOf program u.address u.what step)
step_by program names place None is = (steps.Nowhere, refl)
step_by program names place (Some u) is = what_step program u.address u.what (λ k what. names.sled place u k is what)

has_step : (program : Program) → NamesSleds program → (place : ℕ) → (step : Step) × IsStepAt program place step
has_step program names place = step_by program names place (slice_get program.units place) refl

-- ---- the counts stay within their limits

within_if : (limits : Limits) (b : Bool) (f g : Taken) → (b ≡ true → IsWithin limits f.left) → (b ≡ false → IsWithin limits g.left)
    → IsWithin limits (if b then f else g).left
within_if limits true f g at_true at_false = at_true refl
within_if limits false f g at_true at_false = at_false refl

-- one more instruction, whatever else changes
counted_within : (limits : Limits) (m after : Machine) → IsWithin limits m → (m.instructions == limits.fuel) ≡ false
    → after.instructions ≡ m.instructions + 1 → after.passings ≡ m.passings → IsWithin limits after
counted_within limits m after within fuel instructions passings =
    let some = eqb-false m.instructions limits.fuel fuel in
    record { fuel = omega (arith, within.fuel); passings = omega (arith, within.passings) }

-- if there is no fuel, nothing changes
fuelled_within : (limits : Limits) (m : Machine) (taken : Taken) → IsWithin limits m
    → ((m.instructions == limits.fuel) ≡ false → IsWithin limits taken.left)
    → IsWithin limits (if m.instructions == limits.fuel then ending ends.Fuel m else taken).left
fuelled_within limits m taken within fuelled = within_if limits (m.instructions == limits.fuel) (ending ends.Fuel m) taken (λ _. within) fuelled

pushing_within : (limits : Limits) (place value : ℕ) (m : Machine) → IsWithin limits m
    → (m.instructions == limits.fuel) ≡ false → IsWithin limits (pushing place value m).left
pushing_within limits place value m within fuel =
    within_if limits (length m.stack == stack_limit) (ending ends.StackFull m) (going place (record m { stack = value ∷ m.stack })) (λ _. within)
    (λ _. counted_within limits m (going place (record m { stack = value ∷ m.stack })).left within fuel refl refl)

putting_within : (limits : Limits) (place : ℕ) (m : Machine) → IsWithin limits m
    → (m.instructions == limits.fuel) ≡ false → IsWithin limits (putting place m).left
putting_within limits place m within fuel =
    let more : Machine = record m { output = m.output ++ slice_index m.registers 0 % 256 ∷ [] } in
    within_if limits (length m.output == output_limit) (ending ends.OutputFull m) (going place more) (λ _. within)
    (λ _. counted_within limits m (going place more).left within fuel refl refl)

popping_within : (limits : Limits) (place reg : ℕ) (m : Machine) (stack : List ℕ) → IsWithin limits m
    → (m.instructions == limits.fuel) ≡ false → IsWithin limits (popping place reg m stack).left
popping_within limits place reg m [] within fuel = within
popping_within limits place reg m (value ∷ stack) within fuel =
    counted_within limits m (popping place reg m (value ∷ stack)).left within fuel refl refl

returning_within : (limits : Limits) (m : Machine) (stack : List ℕ) → IsWithin limits m
    → (m.instructions == limits.fuel) ≡ false → IsWithin limits (returning m stack).left
returning_within limits m [] within fuel = counted_within limits m (returning m []).left within fuel refl refl
returning_within limits m (back ∷ stack) within fuel = counted_within limits m (returning m (back ∷ stack)).left within fuel refl refl

passing_within : (limits : Limits) (m : Machine) (following : Machine → Taken) → IsWithin limits m
    → ((after : Machine) → IsWithin limits after → IsWithin limits (following after).left)
    → IsWithin limits (passing limits m following).left
passing_within limits m following within on =
    within_if limits (m.passings == limits.passings) (ending ends.Passings m) (following (record m { passings = m.passings + 1 })) (λ _. within)
    (λ e. let some = eqb-false m.passings limits.passings e in
    on (record m { passings = m.passings + 1 }) (record { fuel = within.fuel; passings = omega (arith, within.passings) }))

step_within : (limits : Limits) (place : ℕ) (m : Machine) (step : Step) → IsWithin limits m → IsWithin limits (stepping limits place m step).left
step_within limits place m (steps.Mov dst imm) within =
    fuelled_within limits m (acting limits place m (steps.Mov dst imm)) within
    (λ e. counted_within limits m (acting limits place m (steps.Mov dst imm)).left within e refl refl)
step_within limits place m (steps.Add dst src) within =
    fuelled_within limits m (acting limits place m (steps.Add dst src)) within
    (λ e. counted_within limits m (acting limits place m (steps.Add dst src)).left within e refl refl)
step_within limits place m (steps.Sub dst src) within =
    fuelled_within limits m (acting limits place m (steps.Sub dst src)) within
    (λ e. counted_within limits m (acting limits place m (steps.Sub dst src)).left within e refl refl)
step_within limits place m (steps.Push reg) within =
    fuelled_within limits m (acting limits place m (steps.Push reg)) within
    (pushing_within limits (place + 1) (slice_index m.registers reg) m within)
step_within limits place m (steps.Pop reg) within =
    fuelled_within limits m (acting limits place m (steps.Pop reg)) within
    (popping_within limits (place + 1) reg m m.stack within)
step_within limits place m (steps.Call target back) within =
    fuelled_within limits m (acting limits place m (steps.Call target back)) within
    (pushing_within limits target back m within)
step_within limits place m (steps.Jmp target) within =
    fuelled_within limits m (acting limits place m (steps.Jmp target)) within
    (λ e. counted_within limits m (acting limits place m (steps.Jmp target)).left within e refl refl)
step_within limits place m (steps.Jnz target) within =
    fuelled_within limits m (acting limits place m (steps.Jnz target)) within
    (λ e. counted_within limits m (acting limits place m (steps.Jnz target)).left within e refl refl)
step_within limits place m steps.Ret within =
    fuelled_within limits m (acting limits place m steps.Ret) within
    (returning_within limits m m.stack within)
step_within limits place m steps.Out within =
    fuelled_within limits m (acting limits place m steps.Out) within
    (putting_within limits (place + 1) m within)
step_within limits place m (steps.Passing sled) within = passing_within limits m (staying (place + 1)) within (λ after is. is)
step_within limits place m (steps.Leaving sled) within = passing_within limits m (leaving limits) within
    (λ after is. fuelled_within limits after (returning after after.stack) is (returning_within limits after after.stack is))
step_within limits place m steps.Pad within = within
step_within limits place m steps.Nowhere within = within

-- ---- and its steps end

-- from a start the thread runs to some end
record ReachesEnd (program : Program) (limits : Limits) (thread : ℕ) (start : State) : Type 0 where
  end : End
  left : Machine
  run : RunsFrom program limits thread start end left

-- by the way that a step takes, if each machine with fewer steps left runs to an end
end_by_way : (program : Program) → AreInOrder program → (limits : Limits) (thread : ℕ) (start : State)
    (place : ℕ) (m : Machine) (step : Step) → Stands program limits start place m → IsStepAt program place step → IsWithin limits m
    → ((next : ℕ) (after : Machine) → Stands program limits start next after → IsWithin limits after
    → measure limits (length program.units + 1) next after < measure limits (length program.units + 1) place m
    → ReachesEnd program limits thread start)
    → (way : Way) → way ≡ (stepping limits place m step).way → ReachesEnd program limits thread start
end_by_way program ordered limits thread start place m step stands is within later (To next) way =
    let after = (stepping limits place m step).left in
    let again = goes_on program ordered limits start place m step stands is within next after way refl in
    let here = stands_within program limits start place m stands in
    later next after again.stands (step_within limits place m step within)
    (measure_falls limits (length program.units + 1) place next m after here again.nearer)
end_by_way program ordered limits thread start place m step stands is within later (Back address) way =
    let after = (stepping limits place m step).left in
    let next = has_place program.units address in
    let again = goes_back program ordered limits start place m step stands is within address next.0 after way refl next.1 in
    let here = stands_within program limits start place m stands in
    later next.0 after again.stands (step_within limits place m step within)
    (measure_falls limits (length program.units + 1) place next.0 m after here again.nearer)
end_by_way program ordered limits thread start place m step stands is within later (Stops end) way = record {
  end = end;
  left = (stepping limits place m step).left;
  run = ends_there program ordered limits start place m step stands is within end (stepping limits place m step).left way refl thread;
}

-- a machine at a place runs to an end, by induction on what is left
reaches_end : (program : Program) → AreInOrder program → NamesSleds program → (limits : Limits) (thread : ℕ) (start : State)
    → (n place : ℕ) (m : Machine) → Stands program limits start place m → IsWithin limits m
    → measure limits (length program.units + 1) place m < n → ReachesEnd program limits thread start
reaches_end program ordered names limits thread start zero place m stands within below = absurd (omega arith)
reaches_end program ordered names limits thread start (suc n) place m stands within below =
    let step = has_step program names place in
    end_by_way program ordered limits thread start place m step.0 stands step.1 within
    (λ next after again still falls. reaches_end program ordered names limits thread start n next after again still (omega arith))
    (stepping limits place m step.0).way refl

pub some_run : (bytes : List ℕ) (program : Program) (limits : Limits) (thread : ℕ) → IsAccepted bytes program
    → (passed : List Passing) × (end : End) × (last : State) × PlainRun program limits thread passed end last
some_run bytes program limits thread accepted =
    let first = first_machine thread in
    let place = has_place program.units program.entry in
    let stands : Stands program limits (state_at program.entry first) place.0 first =
    record { address = program.entry; placed = place.1; on = λ t end left run. run } in
    let reached = reaches_end program (are_in_order bytes program accepted) (names_sleds bytes program accepted) limits thread
    (state_at program.entry first) (suc (measure limits (length program.units + 1) place.0 first)) place.0 first stands
    (record { fuel = omega arith; passings = omega arith }) (omega arith) in
    (reached.run.passed, reached.end, state_at reached.run.address reached.left, (reached.run.steps, reached.run.runs))
