-- The lines of an order, and of a script without waits.
use Rattle.std.specs.Prelude.{◌++◌, ◌∷◌, ℕ, List, [], codes, decimal, if◌then◌else◌}
use Rattle.text_lines.specs.Words.{words_of}
use Rattle.step_sim.specs.declared.turns.Turns.{Turns}
use Rattle.step_sim.specs.declared.turns.Turns.TheVariants.{Thread, Patcher}
use Rattle.run_order.specs.FreeScripts.{begins_wait, line_in}

abbrev pub line_text : Turns → List ℕ
line_text (Thread thread count) = codes "t " ++ decimal thread ++ codes " " ++ decimal count ++ 10 ∷ []
line_text (Patcher count) = codes "p " ++ decimal count ++ 10 ∷ []

-- what is kept of a line with its end: all of it, or nothing
abbrev pub kept_text : List ℕ → List ℕ
kept_text line = if begins_wait (words_of (line_in line)) then [] else line
