-- The runs of a row of marks.
use Rattle.std.proofs.Common.{◌≡◌, ◌≢◌, ℕ, ◌<◌, List, [], ◌∷◌, ◌++◌, Option, Some, refl, ap, ◌∙◌, append-nil}
use Rattle.std.specs.Prelude.{replicate}
use Rattle.std.proofs.lemmas.Grind.{flat_map-append}
use Rattle.handler_word.specs.declared.mark.Mark.{Mark}
use Rattle.handler_word.specs.Runs.{run_text}
use Rattle.audit_check.specs.private.Marks.{AreRuns, marks_of_runs, spaced}
use Rattle.audit_check.specs.private.Parts.{BeginsNoDigit}

-- ---- one more run

abbrev pub Run : Type 0
Run = Mark × ℕ

pub one_run : (before : Option Mark) (mark : Mark) (count : ℕ) → before ≢ Some mark → 0 < count → AreRuns before ((mark, count) ∷ [])
one_run before mark count other some = (other, some, tt)

pub more_runs : (before : Option Mark) (runs : List Run) (mark other : Mark) (count more : ℕ) → AreRuns before (runs ++ (mark, count) ∷ [])
    → Some mark ≢ Some other → 0 < more → AreRuns before ((runs ++ (mark, count) ∷ []) ++ (other, more) ∷ [])
more_runs before [] mark other count more (differs, some, rest) unlike some' = (differs, some, (unlike, some', tt))
more_runs before ((first, n) ∷ runs) mark other count more (differs, some, rest) unlike some' =
    (differs, some, more_runs (Some first) runs mark other count more rest unlike some')

pub spaced_more : (runs : List Run) (mark : Mark) (count : ℕ) → spaced (runs ++ (mark, count) ∷ []) ≡ spaced runs ++ 32 ∷ run_text (mark, count)
spaced_more runs mark count =
    flat_map-append (λ run. 32 ∷ run_text run) runs ((mark, count) ∷ [])
    ∙ ap (λ (l : List ℕ). spaced runs ++ l) (append-nil (32 ∷ run_text (mark, count)))

pub marks_more : (runs : List Run) (mark : Mark) (count : ℕ) → marks_of_runs (runs ++ (mark, count) ∷ []) ≡ marks_of_runs runs ++ replicate count mark
marks_more runs mark count =
    flat_map-append (λ run. replicate run.1 run.0) runs ((mark, count) ∷ [])
    ∙ ap (λ (l : List Mark). marks_of_runs runs ++ l) (append-nil (replicate count mark))

-- no digit comes after a run
pub after_run : (runs : List Run) (rest : List ℕ) → BeginsNoDigit (spaced runs ++ 10 ∷ rest)
after_run [] rest = refl
after_run (run ∷ runs) rest = refl
