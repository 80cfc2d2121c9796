-- Schedules as they are written of turns.
use Rattle.std.specs.Prelude.{◌≡◌, ◌≤◌, ℕ, List, [], ◌∷◌, length, map, All, Ok, codes, decimal}
use Rattle.text_lines.specs.Written.{written_text}
use Rattle.step_sim.specs.declared.turns.Turns.{Turns}
use Rattle.step_sim.specs.declared.turns.Turns.TheVariants.{Thread, Patcher}
use Rattle.step_sim.specs.Schedules.{AreTurnsOf, most_lines, schedule_of}

-- the words of the line of turns
abbrev pub turn_words : Turns → List (List ℕ)
turn_words (Thread thread count) = codes "t" ∷ decimal thread ∷ decimal count ∷ []
turn_words (Patcher count) = codes "p" ∷ decimal count ∷ []

-- the text of turns, a line each
abbrev pub schedule_text : List Turns → List ℕ
schedule_text turns = written_text (map turn_words turns)

-- how many turns there are fits 32 bits
abbrev pub HasWords : Turns → Type 0
HasWords (Thread thread count) = count ≤ 4294967295
HasWords (Patcher count) = count ≤ 4294967295

-- turns that a schedule may give to the threads are read as they are written
abbrev pub WrittenSchedulesRead : Type 0
WrittenSchedulesRead = (threads : ℕ) (turns : List Turns) → threads ≤ 4294967295 → All (AreTurnsOf threads) turns → All HasWords turns
    → length turns ≤ most_lines → schedule_of threads (schedule_text turns) ≡ Ok turns
