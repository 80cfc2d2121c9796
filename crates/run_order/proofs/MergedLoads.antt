-- An order is a merge of the loads of its threads.
use Rattle.std.proofs.Common.{◌≡◌, ◌≢◌, inl, inr, ℕ, zero, suc, ◌+◌, ◌-◌, ◌<◌, ◌≤◌, Bool, true, false, cond, List, [], ◌∷◌, ◌++◌, append-nil, Option, Some, refl, sym, ap, subst, ◌∙◌, arith, length, map}
use Rattle.std.specs.Prelude.{◌==◌, ◌⊎◌, All, count_by, filter, replicate, slice_get}
use Rattle.std.specs.List.{enumerate_from, flat_map}
use Rattle.std.proofs.lemmas.Bool.{cases_lt}
use Rattle.std.proofs.lemmas.Bool.Decides.{nat_tests}
use Rattle.std.proofs.lemmas.List.{append_assoc, map-append}
use Rattle.std.proofs.lemmas.List.Elements.{All-append, All-cons, All-head, All-nil, All-replicate, All-tail, filter-append}
use Rattle.std.proofs.lemmas.List.Sums.{sum_by-cons}
use Rattle.step_sim.specs.declared.turns.Turns.{Turns}
use Rattle.step_sim.specs.declared.turns.Turns.TheVariants.{Thread, Patcher}
use Rattle.run_order.specs.Merges.{AreWholeRuns, ComeByPlace, IsMerge, MayPrecede, ThreadLoad, loads_from, patcher_steps, turner, turn_count}
use Rattle.run_order.specs.private.Ordered.{joined, joined_to, ordered, load_line, turns_at, turns_from}
use Rattle.machine_step.specs.Follows.{Rise}

-- ---- lists

pub weaken : {X : Type 0} (P Q : X → Type 0) → ((x : X) → P x → Q x) → (xs : List X) → All P xs → All Q xs
weaken P Q into [] all = All-nil Q
weaken P Q into (x ∷ xs) all = All-cons Q x xs (into x (All-head P x xs all)) (weaken P Q into xs (All-tail P x xs all))

keep_all : {X : Type 0} (p : X → Bool) (xs : List X) → All (λ x. p x ≡ true) xs → filter p xs ≡ xs
keep_all p [] all = refl
keep_all {X = X} p (x ∷ xs) all =
    ap (λ b. cond b (x ∷ filter p xs) (filter p xs)) (All-head (λ y. p y ≡ true) x xs all)
    ∙ ap (λ (ys : List X). x ∷ ys) (keep_all p xs (All-tail (λ y. p y ≡ true) x xs all))

pub keep_none : {X : Type 0} (p : X → Bool) (xs : List X) → All (λ x. p x ≡ false) xs → filter p xs ≡ []
keep_none p [] all = refl
keep_none {X = X} p (x ∷ xs) all =
    ap (λ b. cond b (x ∷ filter p xs) (filter p xs)) (All-head (λ y. p y ≡ false) x xs all) ∙ keep_none p xs (All-tail (λ y. p y ≡ false) x xs all)

pub same_is : (a b : ℕ) → a ≡ b → (a == b) ≡ true
same_is a b e = grind (arith, nat_tests)

pub apart_is : (a b : ℕ) → (a ≡ b → ⊥) → (a == b) ≡ false
apart_is a b apart = grind (arith, nat_tests)

abbrev pub place_of : ThreadLoad → ℕ
place_of load = load.place

map_same : (n : ℕ) (load : ThreadLoad) → map place_of (replicate n load) ≡ replicate n load.place
map_same zero load = refl
map_same (suc n) load = ap (λ (ps : List ℕ). load.place ∷ ps) (map_same n load)

-- ---- the loads at a place, and those from a place on

abbrev tally : Bool → ℕ
tally passes = cond passes 1 0

abbrev many : ℕ → List ℕ → ℕ
many place own = count_by (λ other. other == place) own

abbrev load_by : ℕ → ℕ → ThreadLoad
load_by place thread = record { place = place; thread = thread }

abbrev at_place : ℕ → ℕ → List (List ℕ) → List ThreadLoad
at_place place number [] = []
at_place place number (own ∷ places) = replicate (many place own) (load_by place number) ++ at_place place (number + 1) places

abbrev from_place : List (List ℕ) → ℕ → ℕ → List ThreadLoad
from_place places place zero = at_place place 1 places
from_place places place (suc steps) = at_place place 1 places ++ from_place places (place + 1) steps

-- the lines of the threads at a place, from a number on
abbrev lines_at : ℕ → ℕ → List (List ℕ) → List Turns
lines_at place number places = flat_map (λ own. load_line own.0 (count_by (λ other. other == place) own.1)) (enumerate_from number places)

line_loads : (place number n : ℕ) (lines : List Turns) (loads : List ThreadLoad) → loads_from place lines ≡ loads
    → loads_from place (load_line number n ++ lines) ≡ replicate n (load_by place number) ++ loads
line_loads place number zero lines loads e = e
line_loads place number (suc n) lines loads e = ap (λ (ls : List ThreadLoad). replicate (suc n) (load_by place number) ++ ls) e

loads_at_place : (place number : ℕ) (places : List (List ℕ)) (later : List Turns)
    → loads_from place (lines_at place number places ++ later) ≡ at_place place number places ++ loads_from place later
loads_at_place place number [] later = refl
loads_at_place place number (own ∷ places) later =
    let n = many place own in
    ap (loads_from place) (append_assoc (load_line number n) (lines_at place (number + 1) places) later)
    ∙ line_loads place number n (lines_at place (number + 1) places ++ later) (at_place place (number + 1) places ++ loads_from place later)
    (loads_at_place place (number + 1) places later)
    ∙ sym (append_assoc (replicate n (load_by place number)) (at_place place (number + 1) places) (loads_from place later))

loads_of_turns : (places : List (List ℕ)) (place steps : ℕ) → loads_from place (turns_from places place steps) ≡ from_place places place steps
loads_of_turns places place zero =
    ap (loads_from place) (sym (append-nil (turns_at places place))) ∙ loads_at_place place 1 places [] ∙ append-nil (at_place place 1 places)
loads_of_turns places place (suc steps) =
    loads_at_place place 1 places (Patcher 1 ∷ turns_from places (place + 1) steps)
    ∙ ap (λ (ls : List ThreadLoad). at_place place 1 places ++ ls) (loads_of_turns places (place + 1) steps)

-- ---- lines of micro steps that are joined

joined_to_loads : (place : ℕ) (line : Turns) (later : List Turns) → loads_from place (joined_to line later) ≡ loads_from place (line ∷ later)
joined_to_loads place (Thread thread loads) later = refl
joined_to_loads place (Patcher steps) [] = refl
joined_to_loads place (Patcher steps) (Thread thread loads ∷ later) = refl
joined_to_loads place (Patcher steps) (Patcher more ∷ later) =
    let e : place + (steps + more) ≡ place + steps + more = omega arith in ap (λ n. loads_from n later) e

joined_loads : (place : ℕ) (lines : List Turns) → loads_from place (joined lines) ≡ loads_from place lines
joined_loads place [] = refl
joined_loads place (Thread thread loads ∷ lines) =
    ap (λ (ls : List ThreadLoad). replicate loads (load_by place thread) ++ ls) (joined_loads place lines)
joined_loads place (Patcher steps ∷ lines) = joined_to_loads place (Patcher steps) (joined lines) ∙ joined_loads (place + steps) lines

joined_to_steps : (line : Turns) (later : List Turns) → patcher_steps (joined_to line later) ≡ patcher_steps (line ∷ later)
joined_to_steps (Thread thread loads) later = refl
joined_to_steps (Patcher steps) [] = refl
joined_to_steps (Patcher steps) (Thread thread loads ∷ later) = refl
joined_to_steps (Patcher steps) (Patcher more ∷ later) = omega arith

joined_steps : (lines : List Turns) → patcher_steps (joined lines) ≡ patcher_steps lines
joined_steps [] = refl
joined_steps (Thread thread loads ∷ lines) = joined_steps lines
joined_steps (Patcher steps ∷ lines) = joined_to_steps (Patcher steps) (joined lines) ∙ ap (λ n. steps + n) (joined_steps lines)

line_steps : (number n : ℕ) (lines : List Turns) → patcher_steps (load_line number n ++ lines) ≡ patcher_steps lines
line_steps number zero lines = refl
line_steps number (suc n) lines = refl

steps_at_place : (place number : ℕ) (places : List (List ℕ)) (later : List Turns) → patcher_steps (lines_at place number places ++ later) ≡ patcher_steps later
steps_at_place place number [] later = refl
steps_at_place place number (own ∷ places) later =
    ap patcher_steps (append_assoc (load_line number (many place own)) (lines_at place (number + 1) places) later)
    ∙ line_steps number (many place own) (lines_at place (number + 1) places ++ later) ∙ steps_at_place place (number + 1) places later

steps_of_turns : (places : List (List ℕ)) (place steps : ℕ) → patcher_steps (turns_from places place steps) ≡ steps
steps_of_turns places place zero = ap patcher_steps (sym (append-nil (turns_at places place))) ∙ steps_at_place place 1 places []
steps_of_turns places place (suc steps) =
    let one = steps_at_place place 1 places (Patcher 1 ∷ turns_from places (place + 1) steps) in
    let rest = steps_of_turns places (place + 1) steps in
    omega (arith, one, rest)

-- ---- the loads come by their places

come_join : (xs ys : List ThreadLoad) → ComeByPlace xs → ComeByPlace ys → All (λ x. All (MayPrecede x) ys) xs → ComeByPlace (xs ++ ys)
come_join [] ys first second all = second
come_join (x ∷ xs) ys first second all = (
  All-append (MayPrecede x) xs ys first.0 (All-head (λ z. All (MayPrecede z) ys) x xs all),
  come_join xs ys first.1 second (All-tail (λ z. All (MayPrecede z) ys) x xs all),
)

come_same : (n : ℕ) (load : ThreadLoad) → ComeByPlace (replicate n load)
come_same zero load = tt
come_same (suc n) load =
    let low : load.thread ≤ load.thread = omega arith in
    (All-replicate (MayPrecede load) n load (inr (refl, low)), come_same n load)

-- a load at a place, of a thread from a number on
abbrev IsAt : ℕ → ℕ → ThreadLoad → Type 0
IsAt place number load = (load.place ≡ place) × (number ≤ load.thread)

all_at : (place number : ℕ) (places : List (List ℕ)) → All (IsAt place number) (at_place place number places)
all_at place number [] = All-nil (IsAt place number)
all_at place number (own ∷ places) =
    let low : number ≤ number = omega arith in
    All-append (IsAt place number) (replicate (many place own) (load_by place number)) (at_place place (number + 1) places)
    (All-replicate (IsAt place number) (many place own) (load_by place number) (refl, low))
    (weaken (IsAt place (number + 1)) (IsAt place number) (λ load is. (is.0, omega (arith, is.1))) (at_place place (number + 1) places)
    (all_at place (number + 1) places))

come_at : (place number : ℕ) (places : List (List ℕ)) → ComeByPlace (at_place place number places)
come_at place number [] = tt
come_at place number (own ∷ places) =
    let later = at_place place (number + 1) places in
    come_join (replicate (many place own) (load_by place number)) later (come_same (many place own) (load_by place number)) (come_at place (number + 1) places)
    (All-replicate (λ x. All (MayPrecede x) later) (many place own) (load_by place number)
    (weaken (IsAt place (number + 1)) (MayPrecede (load_by place number)) (λ load is. inr (sym is.0, omega (arith, is.1))) later (all_at place (number + 1) places)))

abbrev IsFrom : ℕ → ThreadLoad → Type 0
IsFrom place load = place ≤ load.place

all_from : (places : List (List ℕ)) (place steps : ℕ) → All (IsFrom place) (from_place places place steps)
all_from places place zero =
    weaken (IsAt place 1) (IsFrom place) (λ load is. omega (arith, is.0)) (at_place place 1 places) (all_at place 1 places)
all_from places place (suc steps) =
    All-append (IsFrom place) (at_place place 1 places) (from_place places (place + 1) steps)
    (weaken (IsAt place 1) (IsFrom place) (λ load is. omega (arith, is.0)) (at_place place 1 places) (all_at place 1 places))
    (weaken (IsFrom (place + 1)) (IsFrom place) (λ load is. omega (arith, is)) (from_place places (place + 1) steps) (all_from places (place + 1) steps))

come_from : (places : List (List ℕ)) (place steps : ℕ) → ComeByPlace (from_place places place steps)
come_from places place zero = come_at place 1 places
come_from places place (suc steps) =
    let later = from_place places (place + 1) steps in
    come_join (at_place place 1 places) later (come_at place 1 places) (come_from places (place + 1) steps)
    (weaken (IsAt place 1) (λ x. All (MayPrecede x) later) (λ load is.
    weaken (IsFrom (place + 1)) (MayPrecede load) (λ other high. inl (omega (arith, is.0, high))) later (all_from places (place + 1) steps))
    (at_place place 1 places) (all_at place 1 places))

-- ---- they are of the threads

abbrev IsOf : ℕ → ℕ → ThreadLoad → Type 0
IsOf number end load = (number ≤ load.thread) × (load.thread < end)

threads_at : (place number end : ℕ) (places : List (List ℕ)) → number + length places ≡ end → All (IsOf number end) (at_place place number places)
threads_at place number end [] e = All-nil (IsOf number end)
threads_at place number end (own ∷ places) e =
    let low : number ≤ number = omega arith in
    All-append (IsOf number end) (replicate (many place own) (load_by place number)) (at_place place (number + 1) places)
    (All-replicate (IsOf number end) (many place own) (load_by place number) (low, omega (arith, e)))
    (weaken (IsOf (number + 1) end) (IsOf number end) (λ load is. (omega (arith, is.0), is.1)) (at_place place (number + 1) places)
    (threads_at place (number + 1) end places (omega (arith, e))))

threads_from : (places : List (List ℕ)) (place steps : ℕ) → All (IsOf 1 (1 + length places)) (from_place places place steps)
threads_from places place zero = threads_at place 1 (1 + length places) places refl
threads_from places place (suc steps) =
    All-append (IsOf 1 (1 + length places)) (at_place place 1 places) (from_place places (place + 1) steps)
    (threads_at place 1 (1 + length places) places refl) (threads_from places (place + 1) steps)

-- ---- those of one thread

abbrev pub own_loads : ℕ → List ThreadLoad → List ℕ
own_loads n loads = map place_of (filter (λ (load : ThreadLoad). load.thread == n) loads)

own_append : (n : ℕ) (xs ys : List ThreadLoad) → own_loads n (xs ++ ys) ≡ own_loads n xs ++ own_loads n ys
own_append n xs ys =
    ap (map place_of) (filter-append (λ (load : ThreadLoad). load.thread == n) xs ys)
    ∙ map-append place_of (filter (λ (load : ThreadLoad). load.thread == n) xs) (filter (λ (load : ThreadLoad). load.thread == n) ys)

own_none : (n : ℕ) (loads : List ThreadLoad) → All (λ load. (load.thread == n) ≡ false) loads → own_loads n loads ≡ []
own_none n loads all = ap (map place_of) (keep_none (λ (load : ThreadLoad). load.thread == n) loads all)

own_same : (place n k : ℕ) → own_loads n (replicate k (load_by place n)) ≡ replicate k place
own_same place n k =
    ap (map place_of) (keep_all (λ (load : ThreadLoad). load.thread == n) (replicate k (load_by place n))
    (All-replicate (λ load. (load.thread == n) ≡ true) k (load_by place n) (same_is n n refl)))
    ∙ map_same k (load_by place n)

own_at : (place number n : ℕ) (places : List (List ℕ)) (own : List ℕ) → number ≤ n → slice_get places (n - number) ≡ Some own
    → own_loads n (at_place place number places) ≡ replicate (many place own) place
own_at place number n [] own low e = absurd cc
own_at place number n (first ∷ places) own low e =
    by_case (λ low' there. own_at place (number + 1) n places own low' there) (cases_lt number n)
  where
    by_case : (number + 1 ≤ n → slice_get places (n - (number + 1)) ≡ Some own
        → own_loads n (at_place place (number + 1) places) ≡ replicate (many place own) place)
        → (number < n) ⊎ (n ≤ number) → own_loads n (at_place place number (first ∷ places)) ≡ replicate (many place own) place
    by_case rest (inl less) =
        let back : n - number ≡ suc (n - (number + 1)) = omega (arith, less) in
        let there : slice_get places (n - (number + 1)) ≡ Some own = ap (slice_get (first ∷ places)) (sym back) ∙ e in
        own_append n (replicate (many place first) (load_by place number)) (at_place place (number + 1) places)
        ∙ ap (λ (ps : List ℕ). ps ++ own_loads n (at_place place (number + 1) places))
        (own_none n (replicate (many place first) (load_by place number))
        (All-replicate (λ load. (load.thread == n) ≡ false) (many place first) (load_by place number) (apart_is number n (λ same. omega (arith, same, less)))))
        ∙ rest (omega (arith, less)) there
    by_case rest (inr more) =
        let same : n ≡ number = omega (arith, low, more) in
        let back : n - number ≡ 0 = omega (arith, same) in
        let there : ◌≡◌ {A = Option (List ℕ)} (Some first) (Some own) = ap (slice_get (first ∷ places)) (sym back) ∙ e in
        let first_is : first ≡ own = cc in
        own_append n (replicate (many place first) (load_by place number)) (at_place place (number + 1) places)
        ∙ ap (λ (ps : List ℕ). own_loads n (replicate (many place first) (load_by place number)) ++ ps)
        (own_none n (at_place place (number + 1) places)
        (weaken (IsAt place (number + 1)) (λ load. (load.thread == n) ≡ false) (λ load is. apart_is load.thread n (λ e'. omega (arith, e', is.1, same)))
        (at_place place (number + 1) places) (all_at place (number + 1) places)))
        ∙ append-nil (own_loads n (replicate (many place first) (load_by place number)))
        ∙ ap (λ t. own_loads n (replicate (many place first) (load_by place t))) (sym same)
        ∙ own_same place n (many place first) ∙ ap (λ (ps : List ℕ). replicate (many place ps) place) first_is

abbrev spread : List ℕ → ℕ → ℕ → List ℕ
spread own place zero = replicate (many place own) place
spread own place (suc steps) = replicate (many place own) place ++ spread own (place + 1) steps

own_from : (places : List (List ℕ)) (n : ℕ) (own : List ℕ) (place steps : ℕ) → 1 ≤ n → slice_get places (n - 1) ≡ Some own
    → own_loads n (from_place places place steps) ≡ spread own place steps
own_from places n own place zero low e = own_at place 1 n places own low e
own_from places n own place (suc steps) low e =
    own_append n (at_place place 1 places) (from_place places (place + 1) steps)
    ∙ ap (λ (ps : List ℕ). ps ++ own_loads n (from_place places (place + 1) steps)) (own_at place 1 n places own low e)
    ∙ ap (λ (ps : List ℕ). replicate (many place own) place ++ ps) (own_from places n own (place + 1) steps low e)

-- ---- places that rise

many_here : (place : ℕ) (own : List ℕ) → many place (place ∷ own) ≡ suc (many place own)
many_here place own =
    let here : (place == place) ≡ true = same_is place place refl in
    let sum = sum_by-cons (λ other. tally (other == place)) place own in
    let one : tally (place == place) ≡ tally true = ap tally here in
    omega (arith, sum, one)

many_apart : (place first : ℕ) (own : List ℕ) → (first ≡ place → ⊥) → many place (first ∷ own) ≡ many place own
many_apart place first own apart =
    let there : (first == place) ≡ false = apart_is first place apart in
    let sum = sum_by-cons (λ other. tally (other == place)) first own in
    let none : tally (first == place) ≡ tally false = ap tally there in
    omega (arith, sum, none)

many_none : (place from last : ℕ) (own : List ℕ) → place < from → Rise from last own → many place own ≡ 0
many_none place from last [] low rise = refl
many_none place from last (first ∷ own) low rise =
    many_apart place first own (λ same. omega (arith, same, low, rise.0)) ∙ many_none place first last own (omega (arith, low, rise.0)) rise.2

-- the places from one on: those that are this place, and the others
record Parts (place last : ℕ) (own : List ℕ) : Type 0 where
  here : ℕ
  rest : List ℕ
  whole : own ≡ replicate here place ++ rest
  rise : Rise (place + 1) last rest

parts : (place last : ℕ) (own : List ℕ) → Rise place last own → Parts place last own
parts place last [] rise = record { here = 0; rest = []; whole = refl; rise = tt }
parts place last (first ∷ own) rise = by_case (λ later. parts place last own later) (cases_lt place first)
  where
    by_case : (Rise place last own → Parts place last own) → (place < first) ⊎ (first ≤ place) → Parts place last (first ∷ own)
    by_case rest (inl less) = record { here = 0; rest = first ∷ own; whole = refl; rise = (omega (arith, less), rise.1, rise.2) }
    by_case rest (inr more) =
        let same : first ≡ place = omega (arith, more, rise.0) in
        let later = rest (subst (λ n. Rise n last own) same rise.2) in
        record {
          here = suc later.here;
          rest = later.rest;
          whole = ap (λ n. n ∷ own) same ∙ ap (λ (ps : List ℕ). place ∷ ps) later.whole;
          rise = later.rise;
        }

many_parts : (place here : ℕ) (rest : List ℕ) → many place rest ≡ 0 → many place (replicate here place ++ rest) ≡ here
many_parts place zero rest none = none
many_parts place (suc here) rest none = many_here place (replicate here place ++ rest) ∙ ap suc (many_parts place here rest none)

many_later : (place other here : ℕ) (rest : List ℕ) → (place ≡ other → ⊥) → many other (replicate here place ++ rest) ≡ many other rest
many_later place other zero rest apart = refl
many_later place other (suc here) rest apart = many_apart other place (replicate here place ++ rest) apart ∙ many_later place other here rest apart

spread_later : (own rest : List ℕ) (place steps : ℕ) → ((other : ℕ) → place ≤ other → many other own ≡ many other rest)
    → spread own place steps ≡ spread rest place steps
spread_later own rest place zero same = ap (λ n. replicate n place) (same place (omega arith))
spread_later own rest place (suc steps) same =
    ap (λ n. replicate n place ++ spread own (place + 1) steps) (same place (omega arith))
    ∙ ap (λ (ps : List ℕ). replicate (many place rest) place ++ ps) (spread_later own rest (place + 1) steps (λ other low. same other (omega (arith, low))))

spread_is : (place steps : ℕ) (own : List ℕ) → Rise place (place + steps) own → spread own place steps ≡ own
spread_is place zero own rise =
    let p = parts place (place + 0) own rise in
    let none : p.rest ≡ [] = no_more p.rest p.rise in
    let count : many place own ≡ p.here = ap (many place) p.whole ∙ many_parts place p.here p.rest (ap (many place) none) in
    ap (λ n. replicate n place) count ∙ sym (p.whole ∙ ap (λ (ps : List ℕ). replicate p.here place ++ ps) none ∙ append-nil (replicate p.here place))
  where
    no_more : (rest : List ℕ) → Rise (place + 1) (place + 0) rest → rest ≡ []
    no_more [] rises = refl
    no_more (first ∷ rest) rises = absurd (omega (arith, rises.0, rises.1))
spread_is place (suc steps) own rise =
    let p = parts place (place + suc steps) own rise in
    let low : place < place + 1 = omega arith in
    let count : many place own ≡ p.here =
    ap (many place) p.whole ∙ many_parts place p.here p.rest (many_none place (place + 1) (place + suc steps) p.rest low p.rise) in
    let end : place + suc steps ≡ place + 1 + steps = omega arith in
    let later : spread own (place + 1) steps ≡ spread p.rest (place + 1) steps =
    spread_later own p.rest (place + 1) steps (λ other high.
    ap (many other) p.whole ∙ many_later place other p.here p.rest (λ same. omega (arith, same, high))) in
    ap (λ n. replicate n place ++ spread own (place + 1) steps) count
    ∙ ap (λ (ps : List ℕ). replicate p.here place ++ ps)
    (later ∙ spread_is (place + 1) steps p.rest (subst (λ n. Rise (place + 1) n p.rest) end p.rise))
    ∙ sym p.whole

-- ---- runs are on one line

-- what comes behind a line isn't of its turner
abbrev BeginsApart : ℕ → List Turns → Type 0
BeginsApart other [] = Unit {0}
BeginsApart other (line ∷ later) = other ≢ turner line

runs_on : (line : Turns) (later : List Turns) → 0 < turn_count line → BeginsApart (turner line) later → AreWholeRuns later → AreWholeRuns (line ∷ later)
runs_on line [] some apart runs = some
runs_on line (next ∷ later) some apart runs = (some, apart, runs)

-- the first line is of the patcher, if there is one
abbrev BeginsWithSteps : List Turns → Type 0
BeginsWithSteps [] = Unit {0}
BeginsWithSteps (Thread thread loads ∷ later) = ⊥
BeginsWithSteps (Patcher steps ∷ later) = Unit {0}

-- or it is of a thread from a number on
abbrev BeginsFrom : ℕ → List Turns → Type 0
BeginsFrom number [] = Unit {0}
BeginsFrom number (Thread thread loads ∷ later) = number ≤ thread
BeginsFrom number (Patcher steps ∷ later) = Unit {0}

begins_apart : (number : ℕ) (lines : List Turns) → 0 < number → BeginsFrom (number + 1) lines → BeginsApart number lines
begins_apart number [] some begins = tt
begins_apart number (Thread thread loads ∷ lines) some begins = λ same. omega (arith, same, begins)
begins_apart number (Patcher steps ∷ lines) some begins = λ same. omega (arith, same, some)

steps_begin : (number : ℕ) (lines : List Turns) → BeginsWithSteps lines → BeginsFrom number lines
steps_begin number [] begins = tt
steps_begin number (Thread thread loads ∷ lines) begins = absurd begins
steps_begin number (Patcher steps ∷ lines) begins = tt

begins_lower : (number : ℕ) (lines : List Turns) → BeginsFrom (number + 1) lines → BeginsFrom number lines
begins_lower number [] begins = tt
begins_lower number (Thread thread loads ∷ lines) begins = omega (arith, begins)
begins_lower number (Patcher steps ∷ lines) begins = tt

-- lines of threads stay as they are
join_line : (number n : ℕ) (lines : List Turns) → joined (load_line number n ++ lines) ≡ load_line number n ++ joined lines
join_line number zero lines = refl
join_line number (suc n) lines = refl

record RunsFrom (number : ℕ) (lines : List Turns) : Type 0 where
  runs : AreWholeRuns lines
  begins : BeginsFrom number lines

line_runs : (number n : ℕ) (lines : List Turns) → 0 < number → RunsFrom (number + 1) lines → RunsFrom number (load_line number n ++ lines)
line_runs number zero lines some its = record { runs = its.runs; begins = begins_lower number lines its.begins }
line_runs number (suc n) lines some its =
    let more : 0 < suc n = omega arith in
    let low : number ≤ number = omega arith in
    record { runs = runs_on (Thread number (suc n)) lines more (begins_apart number lines some its.begins) its.runs; begins = low }

runs_at : (place number : ℕ) (places : List (List ℕ)) (later : List Turns) → 0 < number → AreWholeRuns (joined later) → BeginsWithSteps (joined later)
    → RunsFrom number (joined (lines_at place number places ++ later))
runs_at place number [] later some runs begins = record { runs = runs; begins = steps_begin number (joined later) begins }
runs_at place number (own ∷ places) later some runs begins =
    let n = many place own in
    let same : joined (lines_at place number (own ∷ places) ++ later) ≡ load_line number n ++ joined (lines_at place (number + 1) places ++ later) =
    ap joined (append_assoc (load_line number n) (lines_at place (number + 1) places) later)
    ∙ join_line number n (lines_at place (number + 1) places ++ later) in
    subst (RunsFrom number) (sym same)
    (line_runs number n (joined (lines_at place (number + 1) places ++ later)) some (runs_at place (number + 1) places later (omega arith) runs begins))

steps_join : (lines : List Turns) → RunsFrom 1 lines → AreWholeRuns (joined_to (Patcher 1) lines)
steps_join [] its = let some : 0 < 1 = omega arith in some
steps_join (Thread thread loads ∷ later) its =
    let some : 0 < 1 = omega arith in
    let low : 1 ≤ thread = its.begins in
    (some, λ same. omega (arith, same, low), its.runs)
steps_join (Patcher more ∷ []) its = let some : 0 < 1 + more = omega arith in some
steps_join (Patcher more ∷ next ∷ later) its =
    let some : 0 < 1 + more = omega arith in
    (some, its.runs.1, its.runs.2)

begins_join : (lines : List Turns) → BeginsWithSteps (joined_to (Patcher 1) lines)
begins_join [] = tt
begins_join (Thread thread loads ∷ later) = tt
begins_join (Patcher more ∷ later) = tt

runs_of_turns : (places : List (List ℕ)) (place steps : ℕ) → RunsFrom 1 (joined (turns_from places place steps))
runs_of_turns places place zero =
    let some : 0 < 1 = omega arith in
    subst (λ (ls : List Turns). RunsFrom 1 (joined ls)) (append-nil (turns_at places place)) (runs_at place 1 places [] some tt tt)
runs_of_turns places place (suc steps) =
    let some : 0 < 1 = omega arith in
    let later = joined (turns_from places (place + 1) steps) in
    runs_at place 1 places (Patcher 1 ∷ turns_from places (place + 1) steps) some (steps_join later (runs_of_turns places (place + 1) steps)) (begins_join later)

-- ---- the order

pub order_merges : (start total : ℕ) (places : List (List ℕ)) → start ≤ total
    → ((i : ℕ) (own : List ℕ) → slice_get places i ≡ Some own → Rise start total own) → IsMerge start total places (ordered start total places)
order_merges start total places low rise =
    let steps = total - start in
    let loads : loads_from start (ordered start total places) ≡ from_place places start steps =
    joined_loads start (turns_from places start steps) ∙ loads_of_turns places start steps in
    let end : start + steps ≡ total = omega (arith, low) in
    record {
      by_place = subst (λ (ls : List ThreadLoad). ComeByPlace ls) (sym loads) (come_from places start steps);
      own = λ number theirs some there.
          ap (own_loads number) loads ∙ own_from places number theirs start steps some there
          ∙ spread_is start steps theirs (subst (λ n. Rise start n theirs) (sym end) (rise (number - 1) theirs there));
      threads =
          subst (λ (ls : List ThreadLoad). All (λ load. (0 < load.thread) × (load.thread ≤ length places)) ls) (sym loads)
          (weaken (IsOf 1 (1 + length places)) (λ load. (0 < load.thread) × (load.thread ≤ length places))
          (λ load is. (omega (arith, is.0), omega (arith, is.1))) (from_place places start steps) (threads_from places start steps));
      steps =
          let all = joined_steps (turns_from places start steps) ∙ steps_of_turns places start steps in
          omega (arith, all, low);
      runs = (runs_of_turns places start steps).runs;
    }
