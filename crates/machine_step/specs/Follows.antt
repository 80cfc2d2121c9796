-- The loads, and the marks, of a thread that follow a script.
use Rattle.std.specs.Prelude.{◌≡◌, ◌≢◌, ◌≤◌, ℕ, List, [], ◌∷◌, length, take, Option, Some, All, slice_get}
use Rattle.xray_image.specs.Program.{Program}
use Rattle.sled_words.specs.Words.{release_word}
use Rattle.handler_word.specs.declared.mark.Mark.{Mark}
use Rattle.machine_step.specs.Loads.{AreWanted, Load, marks_of}

-- numbers that never fall, from one on and up to a last one
abbrev pub Rise : ℕ → ℕ → List ℕ → Type 0
Rise from last [] = Unit {0}
Rise from last (number ∷ later) = (from ≤ number) × (number ≤ last) × Rise number last later

-- The loads that a thread can have made when a script is at a place, counted from `start` on. Each load is made at a
-- place, and the places never fall. It is of the word that the thread wants next, and gives the value that `code`
-- says the word has at this place. `bound` gives the last place for the loads of each passing, by the passing's number,
-- which is the number of marks of the loads before. `threads` is how many threads there are.
pub record Follows (program : Program) (threads : ℕ) (code : ℕ → ℕ → ℕ) (start : ℕ) (bound : ℕ → ℕ) (thread : ℕ) (hold : Option ℕ) (sleds : List ℕ)
    (loads : List Load) (place : ℕ) : Type 0 where
  pub places : List ℕ
  pub count : length places ≡ length loads
  pub begun : start ≤ place
  pub rise : Rise start place places
  pub wanted : AreWanted program threads thread hold sleds loads
  pub values : (i at : ℕ) (load : Load) → slice_get places i ≡ Some at → slice_get loads i ≡ Some load → load.value ≡ code at load.word
  pub within : (i at : ℕ) → slice_get places i ≡ Some at → at ≤ bound (length (marks_of program threads thread hold sleds (take i loads)))

-- The marks follow the script up to a place: each passing has one, and they are the marks of loads that follow the
-- script. None of these loads is of a release word that still held the thread.
pub record MarksFollow (program : Program) (threads : ℕ) (code : ℕ → ℕ → ℕ) (start : ℕ) (bound : ℕ → ℕ) (thread : ℕ) (hold : Option ℕ) (sleds : List ℕ)
    (marks : List Mark) (place : ℕ) : Type 0 where
  pub loads : List Load
  pub follow : Follows program threads code start bound thread hold sleds loads place
  pub leave : marks ≡ marks_of program threads thread hold sleds loads
  pub released : All (λ load. load.word ≡ release_word program thread → load.value ≢ 0) loads
  pub each : length marks ≡ length sleds
