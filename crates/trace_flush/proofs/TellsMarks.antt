-- The line of marks determines the marks.
use Rattle.std.proofs.Common.{◌≡◌, ◌<◌, ◌≤◌, ◌+◌, ◌^◌, ℕ, suc, Bool, true, false, cond, List, [], ◌∷◌, ◌++◌, length, map, replicate, refl, sym, ap, ◌∙◌, arith, append_assoc, add-one}
use Rattle.std.specs.Prelude.{codes, decimal, max, ◌==◌}
use Rattle.std.specs.List.{join_with_byte}
use Rattle.std.proofs.lemmas.Bool.{eqb-true}
use Rattle.std.proofs.lemmas.Fmt.{decimal_injective}
use Rattle.handler_word.specs.declared.mark.Mark.{Mark}
use Rattle.handler_word.specs.declared.mark.Mark.TheVariants.{Skipped, NoHandler, NotLogging, Recorded, RecordedArg}
use Rattle.handler_word.specs.Runs.{mark_byte, onto_runs, runs_of, run_text, runs_text}
use Rattle.trace_flush.proofs.Digits.{number_split}

-- the mark of a character
mark_named : ℕ → Mark
mark_named byte = cond (byte == 46) Skipped (cond (byte == 110) NoHandler (cond (byte == 102) NotLogging (cond (byte == 43) Recorded RecordedArg)))

mark_named-mark_byte : (mark : Mark) → mark_named (mark_byte mark) ≡ mark
unfolding mark_named
mark_named-mark_byte Skipped = refl
mark_named-mark_byte NoHandler = refl
mark_named-mark_byte NotLogging = refl
mark_named-mark_byte Recorded = refl
mark_named-mark_byte RecordedArg = refl

printed_alike : (mark other : Mark) → mark_byte mark ≡ mark_byte other → mark ≡ other
printed_alike mark other alike = sym (mark_named-mark_byte mark) ∙ (ap mark_named alike ∙ mark_named-mark_byte other)

-- no mark is printed as an empty list is
mark_is_no_dash : (mark : Mark) → mark_byte mark ≡ 45 → ⊥
mark_is_no_dash Skipped same = omega arith
mark_is_no_dash NoHandler same = omega arith
mark_is_no_dash NotLogging same = omega arith
mark_is_no_dash Recorded same = omega arith
mark_is_no_dash RecordedArg same = omega arith

-- and none is printed as the end of a line
mark_is_no_end : (mark : Mark) → mark_byte mark ≡ 10 → ⊥
mark_is_no_end Skipped same = omega arith
mark_is_no_end NoHandler same = omega arith
mark_is_no_end NotLogging same = omega arith
mark_is_no_end Recorded same = omega arith
mark_is_no_end RecordedArg same = omega arith

-- ---- the runs determine the marks

marks_in : List (Mark × ℕ) → List Mark
marks_in [] = []
marks_in (run ∷ runs) = replicate run.1 run.0 ++ marks_in runs

marks_in-onto_runs : (mark : Mark) (runs : List (Mark × ℕ)) → marks_in (onto_runs mark runs) ≡ mark ∷ marks_in runs
unfolding marks_in
marks_in-onto_runs mark [] = refl
marks_in-onto_runs mark ((next, count) ∷ runs) = by_test (mark_byte mark == mark_byte next) refl
  where
    by_test : (alike : Bool) → (mark_byte mark == mark_byte next) ≡ alike
        → marks_in (cond alike ((next, count + 1) ∷ runs) ((mark, 1) ∷ (next, count) ∷ runs)) ≡ mark ∷ marks_in ((next, count) ∷ runs)
    by_test true is =
        let same : next ≡ mark = printed_alike next mark (sym (eqb-true (mark_byte mark) (mark_byte next) is)) in
        rw add-one (ap (λ first. first ∷ (replicate count next ++ marks_in runs)) same)
    by_test false is = refl

marks_in-runs_of : (marks : List Mark) → marks_in (runs_of marks) ≡ marks
unfolding marks_in
marks_in-runs_of [] = refl
marks_in-runs_of (mark ∷ marks) = marks_in-onto_runs mark (runs_of marks) ∙ ap (λ rest. mark ∷ rest) (marks_in-runs_of marks)

-- ---- none is longer than all marks

AreUpTo : ℕ → List (Mark × ℕ) → Type 0
AreUpTo most [] = Unit {0}
AreUpTo most (run ∷ runs) = (run.1 ≤ most) × AreUpTo most runs

more_up_to : (most more : ℕ) (runs : List (Mark × ℕ)) → most ≤ more → AreUpTo most runs → AreUpTo more runs
unfolding AreUpTo
more_up_to most more [] within up = tt
more_up_to most more (run ∷ runs) within up = (omega (arith, up.0), more_up_to most more runs within up.1)

onto_up_to : (most : ℕ) (mark : Mark) (runs : List (Mark × ℕ)) → AreUpTo most runs → AreUpTo (suc most) (onto_runs mark runs)
unfolding AreUpTo
onto_up_to most mark [] up = (omega arith, tt)
onto_up_to most mark ((next, count) ∷ runs) up = by_test (mark_byte mark == mark_byte next)
  where
    by_test : (alike : Bool) → AreUpTo (suc most) (cond alike ((next, count + 1) ∷ runs) ((mark, 1) ∷ (next, count) ∷ runs))
    by_test true = (omega (arith, up.0), more_up_to most (suc most) runs (omega arith) up.1)
    by_test false = (omega arith, (omega (arith, up.0), more_up_to most (suc most) runs (omega arith) up.1))

runs_up_to : (marks : List Mark) → AreUpTo (length marks) (runs_of marks)
unfolding AreUpTo
runs_up_to [] = tt
runs_up_to (mark ∷ marks) = onto_up_to (length marks) mark (runs_of marks) (runs_up_to marks)

-- ---- the text of runs determines the runs

joined_tells : (most : ℕ) (runs others : List (Mark × ℕ)) (run other : Mark × ℕ) (r s : List ℕ) → most < 2 ^ 64
    → AreUpTo most (run ∷ runs) → AreUpTo most (other ∷ others)
    → join_with_byte 32 (map run_text (run ∷ runs)) ++ 10 ∷ r ≡ join_with_byte 32 (map run_text (other ∷ others)) ++ 10 ∷ s
    → (run ∷ runs ≡ other ∷ others) × (r ≡ s)
unfolding AreUpTo
joined_tells most [] [] (mark, count) (mark', count') r s small up up' same =
    let split = number_split count count' 10 10 r s (omega arith) (omega arith) cc in
    let counts : count ≡ count' = decimal_injective count count' (omega (arith, up.0)) (omega (arith, up'.0)) split.0 in
    let marks : mark ≡ mark' = printed_alike mark mark' cc in
    let rest = split.1 in
    (cc, cc)
joined_tells most [] ((next, more) ∷ others) (mark, count) (mark', count') r s small up up' same =
    let text = join_with_byte 32 (map run_text ((next, more) ∷ others)) in
    let same' : (mark_byte mark ∷ decimal count) ++ 10 ∷ r ≡ (mark_byte mark' ∷ decimal count') ++ 32 ∷ (text ++ 10 ∷ s) =
    same ∙ append_assoc (mark_byte mark' ∷ decimal count') (32 ∷ text) (10 ∷ s) in
    let split = number_split count count' 10 32 r (text ++ 10 ∷ s) (omega arith) (omega arith) cc in
    let rest = split.1 in
    let never : ◌≡◌ {A = ℕ} 10 32 = cc in
    absurd (omega arith)
joined_tells most ((next, more) ∷ runs) [] (mark, count) (mark', count') r s small up up' same =
    let text = join_with_byte 32 (map run_text ((next, more) ∷ runs)) in
    let same' : (mark_byte mark ∷ decimal count) ++ 32 ∷ (text ++ 10 ∷ r) ≡ (mark_byte mark' ∷ decimal count') ++ 10 ∷ s =
    sym (append_assoc (mark_byte mark ∷ decimal count) (32 ∷ text) (10 ∷ r)) ∙ same in
    let split = number_split count count' 32 10 (text ++ 10 ∷ r) s (omega arith) (omega arith) cc in
    let rest = split.1 in
    let never : ◌≡◌ {A = ℕ} 32 10 = cc in
    absurd (omega arith)
joined_tells most (next ∷ runs) (next' ∷ others) (mark, count) (mark', count') r s small up up' same =
    let text = join_with_byte 32 (map run_text (next ∷ runs)) in
    let text' = join_with_byte 32 (map run_text (next' ∷ others)) in
    let same' : (mark_byte mark ∷ decimal count) ++ 32 ∷ (text ++ 10 ∷ r) ≡ (mark_byte mark' ∷ decimal count') ++ 32 ∷ (text' ++ 10 ∷ s) =
    sym (append_assoc (mark_byte mark ∷ decimal count) (32 ∷ text) (10 ∷ r))
    ∙ (same ∙ append_assoc (mark_byte mark' ∷ decimal count') (32 ∷ text') (10 ∷ s)) in
    let split = number_split count count' 32 32 (text ++ 10 ∷ r) (text' ++ 10 ∷ s) (omega arith) (omega arith) cc in
    let counts : count ≡ count' = decimal_injective count count' (omega (arith, up.0)) (omega (arith, up'.0)) split.0 in
    let marks : mark ≡ mark' = printed_alike mark mark' cc in
    let following : text ++ 10 ∷ r ≡ text' ++ 10 ∷ s = let rest = split.1 in cc in
    let later = joined_tells most runs others next next' r s small up.1 up'.1 following in
    let runs_same = later.0 in
    (cc, later.1)

-- the first byte of runs
starts : (run : Mark × ℕ) (runs : List (Mark × ℕ)) (tail : List ℕ) → (rest : List ℕ) × (join_with_byte 32 (map run_text (run ∷ runs)) ++ tail ≡ mark_byte run.0 ∷ rest)
starts (mark, count) [] tail = (decimal count ++ tail, refl)
starts (mark, count) (next ∷ runs) tail = ((decimal count ++ 32 ∷ join_with_byte 32 (map run_text (next ∷ runs))) ++ tail, refl)

runs_tell : (most : ℕ) (runs others : List (Mark × ℕ)) (r s : List ℕ) → most < 2 ^ 64 → AreUpTo most runs → AreUpTo most others
    → join_with_byte 32 (map run_text runs) ++ 10 ∷ r ≡ join_with_byte 32 (map run_text others) ++ 10 ∷ s
    → (runs ≡ others) × (r ≡ s)
runs_tell most [] [] r s small up up' same = (refl, cc)
runs_tell most [] (other ∷ others) r s small up up' same =
    let front = starts other others (10 ∷ s) in
    let first : mark_byte other.0 ≡ 10 = cc (front.1) in
    absurd (mark_is_no_end other.0 first)
runs_tell most (run ∷ runs) [] r s small up up' same =
    let front = starts run runs (10 ∷ r) in
    let first : mark_byte run.0 ≡ 10 = cc (front.1) in
    absurd (mark_is_no_end run.0 first)
runs_tell most (run ∷ runs) (other ∷ others) r s small up up' same = joined_tells most runs others run other r s small up up' same

-- ---- the text of marks determines the marks

no_dash : (runs : List (Mark × ℕ)) (r s : List ℕ) → codes "-" ++ 10 ∷ r ≡ join_with_byte 32 (map run_text runs) ++ 10 ∷ s → ⊥
no_dash [] r s same = let first : ◌≡◌ {A = ℕ} 45 10 = cc in absurd (omega arith)
no_dash (run ∷ runs) r s same =
    let front = starts run runs (10 ∷ s) in
    let first : mark_byte run.0 ≡ 45 = cc (front.1) in
    mark_is_no_dash run.0 first

-- the text of marks, up to the end of its line, determines the marks
pub marks_tell : (marks others : List Mark) (r s : List ℕ) → length marks < 2 ^ 64 → length others < 2 ^ 64
    → runs_text marks ++ 10 ∷ r ≡ runs_text others ++ 10 ∷ s → (marks ≡ others) × (r ≡ s)
marks_tell [] [] r s small small' same = (refl, cc)
marks_tell [] (other ∷ others) r s small small' same = absurd (no_dash (runs_of (other ∷ others)) r s same)
marks_tell (mark ∷ marks) [] r s small small' same = absurd (no_dash (runs_of (mark ∷ marks)) s r (sym same))
marks_tell (mark ∷ marks) (other ∷ others) r s small small' same =
    let all = mark ∷ marks in
    let all' = other ∷ others in
    let most = max (length all) (length all') in
    let up = more_up_to (length all) most (runs_of all) (omega arith) (runs_up_to all) in
    let up' = more_up_to (length all') most (runs_of all') (omega arith) (runs_up_to all') in
    let told = runs_tell most (runs_of all) (runs_of all') r s (omega arith) up up' same in
    (sym (marks_in-runs_of all) ∙ (ap marks_in told.0 ∙ marks_in-runs_of all'), told.1)
