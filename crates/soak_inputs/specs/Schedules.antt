-- The schedule: 4,000 times some turns_drawn of one of four threads, or of the patcher.
use Rattle.std.specs.Prelude.{ℕ, zero, suc, ◌+◌, ◌==◌, List, [], ◌∷◌, if◌then◌else◌}
use Rattle.step_sim.specs.declared.turns.Turns.{Turns}
use Rattle.step_sim.specs.declared.turns.Turns.TheVariants.{Thread, Patcher}
use Rattle.soak_inputs.specs.Draws.{next, drawn}

-- the turns_drawn that are drawn next: whose they are, with 0 for the patcher, and then how many
abbrev pub turns_drawn : ℕ → Turns
turns_drawn x = if drawn 5 x == 0 then Patcher (1 + drawn 8 (next x)) else Thread (drawn 5 x) (1 + drawn 200 (next x))

abbrev pub after_turns : ℕ → ℕ
after_turns x = next (next x)

unfoldable pub all_turns : (count : ℕ) → (x : ℕ) → List Turns
all_turns zero x = []
all_turns (suc count) x = turns_drawn x ∷ all_turns count (after_turns x)

-- the schedule
abbrev pub schedule : ℕ → List Turns
schedule x = all_turns 4000 x
