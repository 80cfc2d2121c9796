-- Places at which no thread has loads.
use Rattle.std.proofs.Common.{◌≡◌, ℕ, suc, ◌+◌, ◌<◌, ◌≤◌, List, [], ◌∷◌, ◌++◌, Some, None, refl, ap, ◌∙◌, arith}
use Rattle.std.specs.Prelude.{slice_get}
use Rattle.std.specs.Borrow.{Bor}
use Rattle.std.specs.List.{enumerate_from, flat_map}
use Rattle.std.proofs.lemmas.List.Elements.{All-append, All-cons, All-head, All-nil, All-tail}
use Rattle.audit_check.specs.declared.stop.Stop.{Stop}
use Rattle.run_order.specs.private.Ordered.{load_line}
use Rattle.run_order.specs.private.Stops.{AllFrom, AreStops, loads_at, places_in}
use Rattle.run_order.proofs.MergedTurns.{line_at}
use Rattle.run_order.proofs.StopLemmas.{loads_none}

-- stops that begin at a place or later
pub stops_from : (early late : ℕ) (stops : List Stop) → early ≤ late → AreStops late stops → AreStops early stops
stops_from early late [] low are = tt
stops_from early late (stop ∷ later) low are = (omega (arith, low, are.0), are.1, are.2)

tail_from : (place : ℕ) (stops : Bor (List Stop)) (left : List (Bor (List Stop))) → AllFrom place (stops ∷ left) → AllFrom place left
tail_from place stops left all = λ k d low. all (suc k) d (omega (arith, low))

-- before all of them there are no turns
pub no_turns_from : (place next number : ℕ) (left : List (Bor (List Stop))) → AllFrom next left → place < next
    → flat_map (line_at place) (enumerate_from number (places_in left)) ≡ []
no_turns_from place next number [] all low = refl
no_turns_from place next number (stops ∷ left) all low =
    let none : loads_at place stops.now ≡ 0 = loads_none place next stops.now (all 0 stops (omega arith)) low in
    ap (λ n. load_line number n ++ flat_map (line_at place) (enumerate_from (number + 1) (places_in left))) none
    ∙ no_turns_from place next (number + 1) left (tail_from next stops left all) low

-- ---- the first place at which loads are left

front_from : (place : ℕ) (front later : List (Bor (List Stop))) → AllFrom place (front ++ later) → AllFrom place front
front_from place [] later all = All-nil (λ (stops : Bor (List Stop)). AreStops place stops.now)
front_from place (stops ∷ front) later all =
    All-cons (λ (s : Bor (List Stop)). AreStops place s.now) stops front (All-head (λ (s : Bor (List Stop)). AreStops place s.now) stops (front ++ later) all)
    (front_from place front later (All-tail (λ (s : Bor (List Stop)). AreStops place s.now) stops (front ++ later) all))

last_from : (place : ℕ) (front : List (Bor (List Stop))) (stops : Bor (List Stop)) → AllFrom place (front ++ stops ∷ []) → AreStops place stops.now
last_from place [] stops all = All-head (λ (s : Bor (List Stop)). AreStops place s.now) stops [] all
last_from place (first ∷ front) stops all = last_from place front stops (All-tail (λ (s : Bor (List Stop)). AreStops place s.now) first (front ++ stops ∷ []) all)

earlier_from : (early late : ℕ) (left : List (Bor (List Stop))) → early ≤ late → AllFrom late left → AllFrom early left
earlier_from early late [] low all = All-nil (λ (stops : Bor (List Stop)). AreStops early stops.now)
earlier_from early late (stops ∷ left) low all =
    All-cons (λ (s : Bor (List Stop)). AreStops early s.now) stops left
    (stops_from early late stops.now low (All-head (λ (s : Bor (List Stop)). AreStops late s.now) stops left all))
    (earlier_from early late left low (All-tail (λ (s : Bor (List Stop)). AreStops late s.now) stops left all))

-- one more thread
pub due_more : (next after : ℕ) (front : List (Bor (List Stop))) (stops : Bor (List Stop)) → after ≤ next
    → ((from : ℕ) → AreStops from stops.now → AreStops after stops.now) → ((from : ℕ) → AllFrom from front → AllFrom next front)
    → (from : ℕ) → AllFrom from (front ++ stops ∷ []) → AllFrom after (front ++ stops ∷ [])
due_more next after front stops low own before from all =
    All-append (λ (s : Bor (List Stop)). AreStops after s.now) front (stops ∷ []) (earlier_from after next front low (before from (front_from from front (stops ∷ []) all)))
    (All-cons (λ (s : Bor (List Stop)). AreStops after s.now) stops [] (own from (last_from from front stops all))
    (All-nil (λ (s : Bor (List Stop)). AreStops after s.now)))

-- a thread with stops has none before the first
pub own_first : (after : ℕ) (stops : List Stop) (stop : Stop) → slice_get stops 0 ≡ Some stop → after ≤ stop.place → (from : ℕ) → AreStops from stops → AreStops after stops
own_first after [] stop is low from are = tt
own_first after (first ∷ later) stop is low from are =
    let same : first ≡ stop = cc in
    (omega (arith, low, ap (λ (s : Stop). s.place) same), are.1, are.2)

pub own_none : (after : ℕ) (stops : List Stop) → slice_get stops 0 ≡ None → (from : ℕ) → AreStops from stops → AreStops after stops
own_none after [] none from are = tt
own_none after (first ∷ later) none from are = absurd cc

-- ---- no stop is before the first place

-- one more thread
pub late_more : (most next after : ℕ) (front : List (Bor (List Stop))) (stops : Bor (List Stop))
    → ((from : ℕ) → from ≤ next → AreStops from stops.now → from ≤ after) → ((from : ℕ) → from ≤ most → AllFrom from front → from ≤ next)
    → (from : ℕ) → from ≤ most → AllFrom from (front ++ stops ∷ []) → from ≤ after
late_more most next after front stops own before from low all =
    own from (before from low (front_from from front (stops ∷ []) all)) (last_from from front stops all)

pub late_first : (stops : List Stop) (stop : Stop) → slice_get stops 0 ≡ Some stop → (from : ℕ) → AreStops from stops → from ≤ stop.place
late_first [] stop is from are = absurd cc
late_first (first ∷ later) stop is from are =
    let same : first ≡ stop = cc in
    omega (arith, are.0, ap (λ (s : Stop). s.place) same)
