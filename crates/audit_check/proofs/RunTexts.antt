-- Marks and their longest runs.
use Rattle.std.proofs.Common.{◌≡◌, ◌≢◌, ℕ, zero, suc, ◌+◌, ◌==◌, Bool, true, false, List, [], ◌∷◌, ◌++◌, map, Option, Some, None, refl, sym, ap, ◌∙◌, add-one, arith, append-nil, eqb-true, eq-eqb}
use Rattle.std.specs.Prelude.{codes, if◌then◌else◌, replicate}
use Rattle.std.specs.List.{join_with_byte}
use Rattle.std.proofs.lemmas.Bool.{eqb-false, ne_eqb}
use Rattle.handler_word.specs.declared.mark.Mark.{Mark}
use Rattle.handler_word.specs.declared.mark.Mark.TheVariants.{Skipped, NoHandler, NotLogging, Recorded, RecordedArg}
use Rattle.handler_word.specs.Runs.{mark_byte, onto_runs, run_text, runs_of}
use Rattle.machine_step.specs.Texts.{line_feed, marks_line}
use Rattle.audit_check.specs.private.Marks.{AreRuns, marks_of_runs, marks_part, spaced}

abbrev Run : Type 0
Run = Mark × ℕ

-- the mark of a character
abbrev marked : ℕ → Mark
marked byte = if byte == 46 then Skipped else if byte == 110 then NoHandler else if byte == 102 then NotLogging
    else if byte == 43 then Recorded else RecordedArg

marked_back : (mark : Mark) → marked (mark_byte mark) ≡ mark
marked_back Skipped = refl
marked_back NoHandler = refl
marked_back NotLogging = refl
marked_back Recorded = refl
marked_back RecordedArg = refl

pub same_mark : (mark other : Mark) → mark_byte mark ≡ mark_byte other → mark ≡ other
same_mark mark other alike = sym (marked_back mark) ∙ (ap marked alike ∙ marked_back other)

-- ---- the runs of marks

onto_are : (mark : Mark) (runs : List Run) → AreRuns None runs → AreRuns None (onto_runs mark runs)
onto_are mark [] are = ((λ e. absurd cc), omega arith, tt)
onto_are mark ((next, count) ∷ runs) are = by (mark_byte mark == mark_byte next) refl
  where
    by : (b : Bool) → mark_byte mark == mark_byte next ≡ b
        → AreRuns None (if b then (next, count + 1) ∷ runs else (mark, 1) ∷ (next, count) ∷ runs)
    by true is = ((λ e. absurd cc), omega arith, are.2)
    by false is =
        let unlike : Some mark ≢ Some next = λ (e : Some mark ≡ Some next).
        eqb-false (mark_byte mark) (mark_byte next) is (ap mark_byte (let same : mark ≡ next = cc in same)) in
        ((λ e. absurd cc), omega arith, (unlike, are.1, are.2))

pub runs_are : (marks : List Mark) → AreRuns None (runs_of marks)
runs_are [] = tt
runs_are (mark ∷ marks) = onto_are mark (runs_of marks) (runs_are marks)

onto_marks : (mark : Mark) (runs : List Run) → marks_of_runs (onto_runs mark runs) ≡ mark ∷ marks_of_runs runs
onto_marks mark [] = refl
onto_marks mark ((next, count) ∷ runs) = by (mark_byte mark == mark_byte next) refl
  where
    by : (b : Bool) → mark_byte mark == mark_byte next ≡ b
        → marks_of_runs (if b then (next, count + 1) ∷ runs else (mark, 1) ∷ (next, count) ∷ runs) ≡ mark ∷ marks_of_runs ((next, count) ∷ runs)
    by true is =
        let same : next ≡ mark = sym (same_mark mark next (eqb-true (mark_byte mark) (mark_byte next) is)) in
        ap (λ n. replicate n next ++ marks_of_runs runs) (add-one count) ∙ ap (λ (m : Mark). m ∷ marks_of_runs ((next, count) ∷ runs)) same
    by false is = refl

pub runs_marks : (marks : List Mark) → marks_of_runs (runs_of marks) ≡ marks
runs_marks [] = refl
runs_marks (mark ∷ marks) = onto_marks mark (runs_of marks) ∙ ap (λ l. mark ∷ l) (runs_marks marks)

pub some_runs : (mark : Mark) (marks : List Mark) → runs_of (mark ∷ marks) ≢ []
some_runs mark marks e =
    let none : mark ∷ marks ≡ [] = sym (runs_marks (mark ∷ marks)) ∙ ap marks_of_runs e in absurd cc

-- ---- the marks of runs

onto_itself : (mark : Mark) (count : ℕ) (runs : List Run) → onto_runs mark ((mark, count) ∷ runs) ≡ (mark, count + 1) ∷ runs
onto_itself mark count runs =
    ap (λ b. if b then (mark, count + 1) ∷ runs else (mark, 1) ∷ (mark, count) ∷ runs) (eq-eqb (mark_byte mark) (mark_byte mark) refl)

onto_others : (mark : Mark) (runs : List Run) → AreRuns (Some mark) runs → onto_runs mark runs ≡ (mark, 1) ∷ runs
onto_others mark [] are = refl
onto_others mark ((next, count) ∷ runs) are =
    ap (λ b. if b then (next, count + 1) ∷ runs else (mark, 1) ∷ (next, count) ∷ runs)
    (ne_eqb (mark_byte mark) (mark_byte next) (λ e. are.0 (ap Some (same_mark mark next e))))

repeated : (mark : Mark) (count : ℕ) (marks : List Mark) (runs : List Run) → runs_of marks ≡ runs → AreRuns (Some mark) runs
    → runs_of (replicate (suc count) mark ++ marks) ≡ (mark, suc count) ∷ runs
repeated mark zero marks runs is are = ap (onto_runs mark) is ∙ onto_others mark runs are
repeated mark (suc count) marks runs is are = ap (onto_runs mark) (repeated mark count marks runs is are) ∙ (onto_itself mark (suc count) runs ∙ ap (λ n. (mark, n) ∷ runs) (add-one (suc count)))

pub runs_back : (before : Option Mark) (runs : List Run) → AreRuns before runs → runs_of (marks_of_runs runs) ≡ runs
runs_back before [] are = refl
runs_back before ((mark, zero) ∷ runs) are = absurd (let none = are.1 in omega arith)
runs_back before ((mark, suc count) ∷ runs) are = repeated mark count (marks_of_runs runs) runs (runs_back (Some mark) runs are.2) are.2

-- ---- the row

joined : (run : Run) (runs : List Run) → 32 ∷ join_with_byte 32 (map run_text (run ∷ runs)) ≡ spaced (run ∷ runs)
joined run [] = sym (append-nil (32 ∷ run_text run))
joined run (next ∷ runs) = ap (λ (l : List ℕ). 32 ∷ run_text run ++ l) (joined next runs)

-- marks as their row has them, and runs
pub part_of_marks : (mark : Mark) (marks : List Mark) → marks_part (mark ∷ marks) ≡ spaced (runs_of (mark ∷ marks))
part_of_marks mark marks = by (runs_of (mark ∷ marks)) refl
  where
    by : (runs : List Run) → runs_of (mark ∷ marks) ≡ runs → 32 ∷ join_with_byte 32 (map run_text runs) ≡ spaced runs
    by [] is = absurd (some_runs mark marks is)
    by (run ∷ runs) is = joined run runs

pub part_of_runs : (runs : List Run) → AreRuns None runs → runs ≢ [] → marks_part (marks_of_runs runs) ≡ spaced runs
part_of_runs runs are some = by (marks_of_runs runs) refl
  where
    by : (marks : List Mark) → marks_of_runs runs ≡ marks → marks_part (marks_of_runs runs) ≡ spaced runs
    by [] none = absurd (some (sym (runs_back None runs are) ∙ ap runs_of none))
    by (mark ∷ marks) is =
        ap marks_part is ∙ (part_of_marks mark marks ∙ ap spaced (ap runs_of (sym is) ∙ runs_back None runs are))

pub row_of_part : (marks : List Mark) → marks_line marks ≡ codes "marks" ++ (marks_part marks ++ line_feed)
row_of_part marks = refl
