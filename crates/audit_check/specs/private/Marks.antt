-- The marks of a thread as the runs of its row.
use Rattle.std.specs.Prelude.{◌≡◌, ◌≢◌, ◌<◌, ℕ, List, [], ◌∷◌, ◌++◌, Option, Some, None, replicate}
use Rattle.std.specs.List.{flat_map}
use Rattle.handler_word.specs.declared.mark.Mark.{Mark}
use Rattle.handler_word.specs.Runs.{run_text, runs_text}

-- the marks of runs
abbrev pub marks_of_runs : List (Mark × ℕ) → List Mark
marks_of_runs runs = flat_map (λ run. replicate run.1 run.0) runs

-- each run has a mark, and not that of the run before it
abbrev pub AreRuns : Option Mark → List (Mark × ℕ) → Type 0
AreRuns before [] = Unit {0}
AreRuns before ((mark, count) ∷ runs) = (before ≢ Some mark) × (0 < count) × AreRuns (Some mark) runs

-- the runs, each with a space (32) before it
abbrev pub spaced : List (Mark × ℕ) → List ℕ
spaced runs = flat_map (λ run. 32 ∷ run_text run) runs

-- marks as their row has them after its first word
abbrev pub marks_part : List Mark → List ℕ
marks_part marks = 32 ∷ runs_text marks

-- the mark of the last run, or that of the run before them if there are none
abbrev pub last_of : Option Mark → List (Mark × ℕ) → Option Mark
last_of before [] = before
last_of before ((mark, count) ∷ runs) = last_of (Some mark) runs

-- a row began with a run of `count` marks, which were added
pub record TakesRun (old new : List ℕ) (before after : List Mark) (mark : Mark) (count : ℕ) : Type 0 where
  pub some : 0 < count
  pub text : old ≡ run_text (mark, count) ++ new
  pub added : after ≡ before ++ replicate count mark

-- a row began with runs, which are all marks, and the last of them is of this mark
pub record HasRuns (row left : List ℕ) (marks : List Mark) (last : Option Mark) : Type 0 where
  pub runs : List (Mark × ℕ)
  pub are : AreRuns None runs
  pub text : row ≡ spaced runs ++ left
  pub marks_are : marks ≡ marks_of_runs runs
  pub last_is : last ≡ last_of None runs

-- What is left of a row of these runs goes on with the later ones. The marks are those of the earlier ones.
pub record GoesOn (left : List ℕ) (marks : List Mark) (last : Option Mark) (runs : List (Mark × ℕ)) (rest : List ℕ) : Type 0 where
  pub later : List (Mark × ℕ)
  pub are : AreRuns last later
  pub text : left ≡ spaced later ++ 10 ∷ rest
  pub marks_are : marks_of_runs runs ≡ marks ++ marks_of_runs later
  pub none_yet : last ≡ None → later ≡ runs
