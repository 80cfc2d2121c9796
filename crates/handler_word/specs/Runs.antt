-- The text of a list of marks: each run of equal marks as its mark and its length.
use Rattle.std.specs.Prelude.{ℕ, ◌+◌, List, [], ◌∷◌, ◌==◌, if◌then◌else◌, codes, decimal, map}
use Rattle.std.specs.List.{join_with_byte}
use Rattle.handler_word.specs.declared.mark.Mark.{Mark}
use Rattle.handler_word.specs.declared.mark.Mark.TheVariants.{Skipped, NoHandler, NotLogging, Recorded, RecordedArg}

-- the character of a mark: . n f + a
abbrev pub mark_byte : Mark → ℕ
mark_byte Skipped = 46
mark_byte NoHandler = 110
mark_byte NotLogging = 102
mark_byte Recorded = 43
mark_byte RecordedArg = 97

-- a mark before runs joins the first of them if the two are alike
abbrev pub onto_runs : Mark → List (Mark × ℕ) → List (Mark × ℕ)
onto_runs mark [] = (mark, 1) ∷ []
onto_runs mark ((next, count) ∷ runs) =
    if mark_byte mark == mark_byte next then (next, count + 1) ∷ runs else (mark, 1) ∷ (next, count) ∷ runs

-- the longest runs of equal marks, in order
abbrev pub runs_of : List Mark → List (Mark × ℕ)
runs_of [] = []
runs_of (mark ∷ marks) = onto_runs mark (runs_of marks)

abbrev pub run_text : Mark × ℕ → List ℕ
run_text (mark, count) = mark_byte mark ∷ decimal count

-- the runs with a space between them, or - if there are no marks
abbrev pub runs_text : List Mark → List ℕ
runs_text [] = codes "-"
runs_text (mark ∷ marks) = join_with_byte 32 (map run_text (runs_of (mark ∷ marks)))
