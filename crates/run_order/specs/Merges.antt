-- An order as a merge: all loads by their places, those at one place by their threads, and the micro steps between them.
use Rattle.std.specs.Prelude.{◌≡◌, ◌≢◌, ◌<◌, ◌≤◌, ◌+◌, ◌-◌, ◌==◌, ◌⊎◌, ◌∷◌, ◌++◌, ℕ, List, [], All, Some, filter, length, map, replicate, slice_get}
use Rattle.step_sim.specs.declared.turns.Turns.{Turns}
use Rattle.step_sim.specs.declared.turns.Turns.TheVariants.{Thread, Patcher}

-- a load: the place at which it is made, and the thread that makes it
pub record ThreadLoad : Type 0 where
  pub place : ℕ
  pub thread : ℕ

-- the loads of a schedule that begins at a place, in their order
abbrev pub loads_from : ℕ → List Turns → List ThreadLoad
loads_from place [] = []
loads_from place (Thread thread loads ∷ later) = replicate loads (record { place = place; thread = thread }) ++ loads_from place later
loads_from place (Patcher steps ∷ later) = loads_from (place + steps) later

-- how many micro steps it makes
abbrev pub patcher_steps : List Turns → ℕ
patcher_steps [] = 0
patcher_steps (Thread thread loads ∷ later) = patcher_steps later
patcher_steps (Patcher steps ∷ later) = steps + patcher_steps later

-- the turns of a line, and whose they are: a thread's, or the patcher's, which has no number
abbrev pub turn_count : Turns → ℕ
turn_count (Thread thread loads) = loads
turn_count (Patcher steps) = steps

abbrev pub turner : Turns → ℕ
turner (Thread thread loads) = thread
turner (Patcher steps) = 0

-- a load is at an earlier place than another, or at its place and of no later thread
abbrev pub MayPrecede : ThreadLoad → ThreadLoad → Type 0
MayPrecede one other = (one.place < other.place) ⊎ ((one.place ≡ other.place) × (one.thread ≤ other.thread))

-- loads come by their places, and those at one place by their threads
abbrev pub ComeByPlace : List ThreadLoad → Type 0
ComeByPlace [] = Unit {0}
ComeByPlace (load ∷ later) = All (MayPrecede load) later × ComeByPlace later

-- each line has turns, and turns of one turner that come one after the other are on one line
abbrev pub AreWholeRuns : List Turns → Type 0
AreWholeRuns [] = Unit {0}
AreWholeRuns (line ∷ []) = 0 < turn_count line
AreWholeRuns (line ∷ next ∷ later) = (0 < turn_count line) × (turner line ≢ turner next) × AreWholeRuns (next ∷ later)

-- A schedule from a place up to a last one is the merge of loads: those of each thread, thread 1 first, are at these places.
pub record IsMerge (start total : ℕ) (places : List (List ℕ)) (schedule : List Turns) : Type 0 where
  pub by_place : ComeByPlace (loads_from start schedule)
  pub own : (number : ℕ) (theirs : List ℕ) → 0 < number → slice_get places (number - 1) ≡ Some theirs
      → map (λ load. load.place) (filter (λ load. load.thread == number) (loads_from start schedule)) ≡ theirs
  pub threads : All (λ load. (0 < load.thread) × (load.thread ≤ length places)) (loads_from start schedule)
  pub steps : start + patcher_steps schedule ≡ total
  pub runs : AreWholeRuns schedule
