-- The schedule of any number is one of four threads.
use Rattle.std.proofs.Common.{◌≡◌, ℕ, zero, suc, ◌+◌, ◌/◌, ◌%◌, ◌^◌, ◌≤◌, Bool, true, false, cond, length, refl, ◌==◌, arith}
use Rattle.std.specs.Prelude.{All}
use Rattle.std.specs.List.{AllByRecursion}
use Rattle.std.proofs.lemmas.List.Elements.{All-from_recursion}
use Rattle.step_sim.specs.declared.turns.Turns.{Turns}
use Rattle.step_sim.specs.declared.turns.Turns.TheVariants.{Thread, Patcher}
use Rattle.step_sim.specs.Schedules.{AreTurnsOf}
use Rattle.step_sim.specs.WrittenSchedules.{HasWords}
use Rattle.soak_inputs.specs.Draws.{drawn, next}
use Rattle.soak_inputs.specs.Schedules.{after_turns, all_turns, schedule, turns_drawn}

abbrev IsGood : Turns → Type 0
IsGood t = AreTurnsOf 4 t × HasWords t

party_fits : (n : ℕ) → n % 5 ≤ 4
party_fits n = omega arith

steps_fit : (n : ℕ) → 1 + n % 8 ≤ 8
steps_fit n = omega arith

loads_fit : (n : ℕ) → 1 + n % 200 ≤ 200
loads_fit n = omega arith

good : (t : Bool) (party steps loads : ℕ) → (t ≡ false → 1 ≤ party) → party ≤ 4 → steps ≤ 8 → loads ≤ 200 → 1 ≤ steps → 1 ≤ loads
    → IsGood (cond t (Patcher steps) (Thread party loads))
good true party steps loads least most some few s l = (s, omega (arith, some))
good false party steps loads least most some few s l = ((least refl, most, l), omega (arith, few))

not_zero : (n : ℕ) → (n == 0) ≡ false → 1 ≤ n
not_zero zero e = absurd (cc e)
not_zero (suc n) e = omega arith

turns_good : (x : ℕ) → IsGood (turns_drawn x)
turns_good x =
    good (drawn 5 x == 0) (drawn 5 x) (1 + drawn 8 (next x)) (1 + drawn 200 (next x)) (not_zero (drawn 5 x)) (party_fits (next x / 2 ^ 33))
    (steps_fit (next (next x) / 2 ^ 33)) (loads_fit (next (next x) / 2 ^ 33)) (omega arith) (omega arith)

all_of : (count x : ℕ) → AllByRecursion (AreTurnsOf 4) (all_turns count x)
unfolding all_turns
all_of zero x = tt
all_of (suc count) x = ((turns_good x).0, all_of count (after_turns x))

all_fit : (count x : ℕ) → AllByRecursion HasWords (all_turns count x)
unfolding all_turns
all_fit zero x = tt
all_fit (suc count) x = ((turns_good x).1, all_fit count (after_turns x))

turns_count : (count x : ℕ) → length (all_turns count x) ≡ count
unfolding all_turns
turns_count zero x = refl
turns_count (suc count) x = omega (arith, turns_count count (after_turns x))

pub schedule_of_threads : (x : ℕ) → All (AreTurnsOf 4) (schedule x)
schedule_of_threads x = All-from_recursion (AreTurnsOf 4) (schedule x) (all_of 4000 x)

pub schedule_fits : (x : ℕ) → All HasWords (schedule x)
schedule_fits x = All-from_recursion HasWords (schedule x) (all_fit 4000 x)

pub schedule_short : (x : ℕ) → length (schedule x) ≤ 1048576
schedule_short x = omega (arith, turns_count 4000 x)
