-- The loads of threads, as those at one place after those at another.
use Rattle.std.specs.Prelude.{◌≡◌, ◌<◌, ◌≤◌, ◌+◌, ◌++◌, ◌-◌, ◌==◌, ◌∷◌, ℕ, List, [], All, count_by, length, map, slice_get, take, Some}
use Rattle.std.specs.Borrow.{Bor}
use Rattle.std.specs.List.{enumerate_from, flat_map}
use Rattle.step_sim.specs.declared.turns.Turns.{Turns}
use Rattle.run_order.specs.declared.lines.ScheduleLines.{ScheduleLines}
use Rattle.audit_check.specs.declared.stop.Stop.{Stop}
use Rattle.audit_check.specs.Stops.{places_of}
use Rattle.run_order.specs.private.Ordered.{load_line, turns_from}
use Rattle.run_order.specs.private.Lines.{HasJoined}

-- their places rise from one on, and there is a load at each
abbrev pub AreStops : ℕ → List Stop → Type 0
AreStops from [] = Unit {0}
AreStops from (stop ∷ later) = (from ≤ stop.place) × (0 < stop.loads) × AreStops (stop.place + 1) later

-- how many loads are at a place
abbrev pub loads_at : ℕ → List Stop → ℕ
loads_at place stops = count_by (λ other. other == place) (places_of stops)

-- from some stops those at a place are left out
pub record Passes (place : ℕ) (old new : List Stop) : Type 0 where
  pub stops : AreStops place old → AreStops (place + 1) new
  pub same : (other : ℕ) → AreStops place old → place < other → loads_at other new ≡ loads_at other old

-- ---- all threads

abbrev pub AllFrom : ℕ → List (Bor (List Stop)) → Type 0
AllFrom place left = All (λ stops. AreStops place stops.now) left

-- the places of the loads of each thread
abbrev pub places_in : List (Bor (List Stop)) → List (List ℕ)
places_in left = map (λ stops. places_of stops.now) left

-- those at a place are left out of each of the first threads, and of the others none
pub record ArePassed (place : ℕ) (threads : ℕ) (old new : List (Bor (List Stop))) : Type 0 where
  pub count : length new ≡ length old
  pub passed : (i : ℕ) (was is : Bor (List Stop)) → i < threads → slice_get old i ≡ Some was → slice_get new i ≡ Some is
      → Passes place was.now is.now
  pub left : (i : ℕ) → threads ≤ i → slice_get new i ≡ slice_get old i

-- the turns of the first threads at a place were added to lines
abbrev pub HaveAdded : ℕ → ℕ → List (Bor (List Stop)) → ScheduleLines → ScheduleLines → Type 0
HaveAdded place threads left old new =
    (turns : List Turns) → HasJoined turns old
    → HasJoined (turns ++ flat_map (λ own. load_line own.0 (count_by (λ other. other == place) own.1))
    (take threads (enumerate_from 1 (places_in left)))) new

-- ---- all places

-- The lines are those of the turns before the loads at a place. With those that are left they are the turns of all places.
pub record IsUpTo (start place total : ℕ) (all : List (List ℕ)) (left : List (Bor (List Stop))) (lines : ScheduleLines) : Type 0 where
  pub turns : List Turns
  pub joined : HasJoined turns lines
  pub whole : turns ++ turns_from (places_in left) place (total - place) ≡ turns_from all start (total - start)
  pub steps : lines.steps ≤ place - start
