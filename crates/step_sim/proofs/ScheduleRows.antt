-- Small texts worked by hand: the schedules that they are, and why others aren't schedules.
use Rattle.std.proofs.Common.{◌≡◌, ℕ, List, [], ◌∷◌, ◌++◌, map, refl, replicate}
use Rattle.std.specs.Prelude.{codes, Ok, Err}
use Rattle.step_sim.specs.declared.fault.ScheduleFault.TheVariants as faults
use Rattle.step_sim.specs.declared.turns.Turns.TheVariants.{Thread, Patcher}
use Rattle.step_sim.specs.Schedules.{schedule_of}

-- lines of ASCII text
abbrev text : List (List ℕ) → List ℕ
text [] = []
text (line ∷ lines) = line ++ 10 ∷ text lines

-- ---- schedules

no_line : schedule_of 1 [] ≡ Ok []
no_line = refl

in_order : schedule_of 1 (text (codes "t 1 1" ∷ codes "p 2" ∷ [])) ≡ Ok (Thread 1 1 ∷ Patcher 2 ∷ [])
in_order = refl

-- lines without words give no turns, and the last line may lack its line feed
skipped : schedule_of 1 (text (codes "# a load" ∷ [] ∷ codes "t 1 1 # then all" ∷ codes "  " ∷ []) ++ codes "p 4294967295") ≡ Ok (Thread 1 1 ∷ Patcher 4294967295 ∷ [])
skipped = refl

-- Blanks are spaces and tabs. A carriage return before the line feed is no part of the line. Leading zeros are allowed.
blanks : schedule_of 1 (codes " t" ++ 9 ∷ codes "01  5 " ++ 13 ∷ 10 ∷ []) ≡ Ok (Thread 1 5 ∷ [])
blanks = refl

last_thread : schedule_of 16 (codes "t 16 3") ≡ Ok (Thread 16 3 ∷ [])
last_thread = refl

-- ---- lines that aren't those of a schedule

-- no steps, a word missing, a word too many, an unknown word, a sign, a number that is too large
no_schedules : map (schedule_of 1) (codes "p 0" ∷ codes "t 1" ∷ codes "p 1 1" ∷ codes "tt 1 1" ∷ codes "p +1" ∷ codes "p 4294967296" ∷ [])
    ≡ replicate 6 (Err (faults.Syntax 1))
no_schedules = refl

-- the byte 127 outside a comment
bad_byte : schedule_of 1 (text (codes "# none" ∷ (codes "p 1 " ++ 127 ∷ []) ∷ [])) ≡ Err (faults.Syntax 2)
bad_byte = refl

-- ---- lines that name no thread

thread_above : schedule_of 1 (codes "t 2 1") ≡ Err (faults.Thread 1)
thread_above = refl

-- a word that isn't a number names no thread
no_threads : map (schedule_of 16) (codes "t 0 1" ∷ codes "t x 1" ∷ []) ≡ replicate 2 (Err (faults.Thread 1))
no_threads = refl

-- ---- the answer is the first refusal

syntax_first : schedule_of 16 (codes "t x 0") ≡ Err (faults.Syntax 1)
syntax_first = refl

first_line : schedule_of 1 (text (codes "p 1" ∷ codes "t 2 1" ∷ codes "p 0" ∷ [])) ≡ Err (faults.Thread 2)
first_line = refl
