-- The order of loads as it is made: place by place, and thread by thread at each. It is the merge of the loads.
use Rattle.std.specs.Prelude.{◌+◌, ◌++◌, ◌-◌, ◌==◌, ◌∷◌, ℕ, zero, suc, List, [], count_by}
use Rattle.std.specs.List.{enumerate_from, flat_map}
use Rattle.step_sim.specs.declared.turns.Turns.{Turns}
use Rattle.step_sim.specs.declared.turns.Turns.TheVariants.{Thread, Patcher}

-- the line of this many loads of a thread; none if it makes none
abbrev pub load_line : ℕ → ℕ → List Turns
load_line thread zero = []
load_line thread (suc loads) = Thread thread (suc loads) ∷ []

-- The turns at a place: of each thread that loads there, thread 1 first. What is listed of a thread are the places of its
-- loads.
abbrev pub turns_at : List (List ℕ) → ℕ → List Turns
turns_at places place = flat_map (λ own. load_line own.0 (count_by (λ other. other == place) own.1)) (enumerate_from 1 places)

-- from a place on, for this many micro steps: the turns at the place, a micro step, the turns at the next place, and so on
abbrev pub turns_from : List (List ℕ) → ℕ → ℕ → List Turns
turns_from places place zero = turns_at places place
turns_from places place (suc steps) = turns_at places place ++ Patcher 1 ∷ turns_from places (place + 1) steps

-- micro steps that come one after the other are on one line
abbrev pub joined_to : Turns → List Turns → List Turns
joined_to (Patcher steps) (Patcher more ∷ later) = Patcher (steps + more) ∷ later
joined_to turns later = turns ∷ later

abbrev pub joined : List Turns → List Turns
joined [] = []
joined (turns ∷ later) = joined_to turns (joined later)

-- the schedule of threads with loads at these places, from the place at which they start up to the script's end
abbrev pub ordered : (start total : ℕ) → List (List ℕ) → List Turns
ordered start total places = joined (turns_from places start (total - start))
