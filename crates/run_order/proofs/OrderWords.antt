-- The numbers of an order fit 32 bits.
use Rattle.std.proofs.Common.{◌≡◌, ℕ, zero, suc, ◌+◌, ◌-◌, ◌≤◌, ◌∙◌, List, [], ◌∷◌, ◌++◌, refl, sym, ap, subst, arith, length}
use Rattle.std.specs.Prelude.{All, count_by, ◌==◌}
use Rattle.std.specs.List.{enumerate_from, flat_map}
use Rattle.std.proofs.lemmas.List.Elements.{All-append, All-cons, All-head, All-nil, All-tail}
use Rattle.std.proofs.lemmas.List.Sums.{count_by-le-length}
use Rattle.step_sim.specs.declared.turns.Turns.{Turns}
use Rattle.step_sim.specs.declared.turns.Turns.TheVariants.{Thread, Patcher}
use Rattle.step_sim.specs.WrittenSchedules.{HasWords}
use Rattle.run_order.specs.private.Ordered.{joined, joined_to, ordered, load_line, turns_at, turns_from}

-- ---- lines

-- the micro steps that lines make
abbrev steps_in : List Turns → ℕ
steps_in [] = 0
steps_in (Thread thread count ∷ later) = steps_in later
steps_in (Patcher count ∷ later) = count + steps_in later

-- the loads of a line fit
abbrev HasLoads : Turns → Type 0
HasLoads (Thread thread count) = count ≤ 4294967295
HasLoads (Patcher count) = Unit {0}

-- a thread's places fit
abbrev pub HasFew : List ℕ → Type 0
HasFew places = length places ≤ 4294967295

steps-append : (xs ys : List Turns) → steps_in (xs ++ ys) ≡ steps_in xs + steps_in ys
steps-append [] ys = omega arith
steps-append (Thread thread count ∷ xs) ys = steps-append xs ys
steps-append (Patcher count ∷ xs) ys = let rest = steps-append xs ys in omega (arith, rest)

later_steps : (line : Turns) (later : List Turns) → steps_in later ≤ steps_in (line ∷ later)
later_steps (Thread thread count) later = omega arith
later_steps (Patcher count) later = omega arith

-- ---- before they are joined

line_loads : (thread loads : ℕ) → loads ≤ 4294967295 → All HasLoads (load_line thread loads)
line_loads thread zero fits = All-nil HasLoads
line_loads thread (suc loads) fits = All-cons HasLoads (Thread thread (suc loads)) [] fits (All-nil HasLoads)

line_steps : (thread loads : ℕ) → steps_in (load_line thread loads) ≡ 0
line_steps thread zero = refl
line_steps thread (suc loads) = refl

-- the lines of threads from a number on, at a place
abbrev lines_at : (place number : ℕ) → List (List ℕ) → List Turns
lines_at place number places = flat_map (λ own. load_line own.0 (count_by (λ other. other == place) own.1)) (enumerate_from number places)

at_loads : (place number : ℕ) (places : List (List ℕ)) → All HasFew places → All HasLoads (lines_at place number places)
at_loads place number [] few = All-nil HasLoads
at_loads place number (own ∷ places) few =
    let count = count_by-le-length (λ other. other == place) own in
    let all = All-head HasFew own places few in
    All-append HasLoads (load_line number (count_by (λ other. other == place) own)) (lines_at place (number + 1) places)
    (line_loads number (count_by (λ other. other == place) own) (omega (arith, count, all)))
    (at_loads place (number + 1) places (All-tail HasFew own places few))

at_steps : (place number : ℕ) (places : List (List ℕ)) → steps_in (lines_at place number places) ≡ 0
at_steps place number [] = refl
at_steps place number (own ∷ places) =
    let count : ℕ = count_by (λ other. other == place) own in
    omega (
      arith,
      steps-append (load_line number count) (lines_at place (number + 1) places),
      line_steps number count,
      at_steps place (number + 1) places,
    )

from_loads : (places : List (List ℕ)) (place steps : ℕ) → All HasFew places → All HasLoads (turns_from places place steps)
from_loads places place zero few = at_loads place 1 places few
from_loads places place (suc steps) few =
    All-append HasLoads (turns_at places place) (Patcher 1 ∷ turns_from places (place + 1) steps) (at_loads place 1 places few)
    (All-cons HasLoads (Patcher 1) (turns_from places (place + 1) steps) tt (from_loads places (place + 1) steps few))

from_steps : (places : List (List ℕ)) (place steps : ℕ) → steps_in (turns_from places place steps) ≡ steps
from_steps places place zero = at_steps place 1 places
from_steps places place (suc steps) =
    let here = at_steps place 1 places in
    let rest = from_steps places (place + 1) steps in
    omega (arith, steps-append (turns_at places place) (Patcher 1 ∷ turns_from places (place + 1) steps), here, rest)

-- ---- joined

joined_to_words : (line : Turns) (later : List Turns) → HasLoads line → All HasWords later → steps_in (line ∷ later) ≤ 4294967295
    → All HasWords (joined_to line later)
joined_to_words (Thread thread count) later own all fits = All-cons HasWords (Thread thread count) later own all
joined_to_words (Patcher steps) [] own all fits =
    let few : steps ≤ 4294967295 = omega (arith, fits) in
    All-cons HasWords (Patcher steps) [] few all
joined_to_words (Patcher steps) (Thread thread count ∷ later) own all fits =
    let few : steps ≤ 4294967295 = omega (arith, fits) in
    All-cons HasWords (Patcher steps) (Thread thread count ∷ later) few all
joined_to_words (Patcher steps) (Patcher more ∷ later) own all fits =
    let few : steps + more ≤ 4294967295 = omega (arith, fits) in
    All-cons HasWords (Patcher (steps + more)) later few (All-tail HasWords (Patcher more) later all)

joined_to_steps : (line : Turns) (later : List Turns) → steps_in (joined_to line later) ≡ steps_in (line ∷ later)
joined_to_steps (Thread thread count) later = refl
joined_to_steps (Patcher steps) [] = refl
joined_to_steps (Patcher steps) (Thread thread count ∷ later) = refl
joined_to_steps (Patcher steps) (Patcher more ∷ later) = omega arith

line_more : (line : Turns) (one other : List Turns) → steps_in one ≡ steps_in other → steps_in (line ∷ one) ≡ steps_in (line ∷ other)
line_more (Thread thread count) one other same = same
line_more (Patcher count) one other same = ap (λ n. count + n) same

joined_steps : (lines : List Turns) → steps_in (joined lines) ≡ steps_in lines
joined_steps [] = refl
joined_steps (line ∷ lines) = joined_to_steps line (joined lines) ∙ line_more line (joined lines) lines (joined_steps lines)

joined_words : (lines : List Turns) → All HasLoads lines → steps_in lines ≤ 4294967295 → All HasWords (joined lines)
joined_words [] all fits = All-nil HasWords
joined_words (line ∷ lines) all fits =
    let more = later_steps line lines in
    joined_to_words line (joined lines) (All-head HasLoads line lines all)
    (joined_words lines (All-tail HasLoads line lines all) (omega (arith, fits, more)))
    (subst (λ (n : ℕ). n ≤ 4294967295) (sym (line_more line (joined lines) lines (joined_steps lines))) fits)

-- the numbers of an order fit, if those of its loads and of its micro steps do
pub ordered_words : (start total : ℕ) (places : List (List ℕ)) → total ≤ 4294967295 → All HasFew places → All HasWords (ordered start total places)
ordered_words start total places few all =
    let steps = from_steps places start (total - start) in
    joined_words (turns_from places start (total - start)) (from_loads places start (total - start) all) (omega (arith, steps, few))
