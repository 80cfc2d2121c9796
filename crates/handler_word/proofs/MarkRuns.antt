-- Runs of marks: the first run of a list, and how the text of runs is put together.
use Rattle.std.proofs.Common.{◌≡◌, ◌≢◌, ◌<◌, ◌≤◌, ◌+◌, ◌-◌, ℕ, zero, suc, List, [], ◌∷◌, ◌++◌, length, drop, replicate, Bool, refl, sym, ap, ◌∙◌, arith, add-one, eq-eqb}
use Rattle.std.specs.Prelude.{◌==◌, if◌then◌else◌, true, false, map, slice_get, Some, Option, Ok}
use Rattle.std.specs.List.{flat_map, join_with_byte}
use Rattle.std.proofs.Math.Seq.{drop-cons}
use Rattle.std.proofs.lemmas.Bool.{eqb-true, ne_eqb}
use Rattle.std.proofs.lemmas.List.{drop_all, append-nil}
use Rattle.std.proofs.lemmas.Option.{slice_get_within, get_or_from_slice_get}
use Rattle.handler_word.specs.declared.mark.Mark.{Mark}
use Rattle.handler_word.specs.declared.mark.Mark.TheVariants.{Skipped, NoHandler, NotLogging, Recorded, RecordedArg}
use Rattle.handler_word.specs.Runs.{mark_byte, onto_runs, runs_of, run_text, runs_text}
use Rattle.xray_io.specs.Calls.{Write}
use Rattle.xray_io.specs.Text.{AddsText}
use Rattle.xray_io.specs.declared.text.Text.{Text}

-- the mark of a character
abbrev marked : ℕ → Mark
marked byte = if byte == 46 then Skipped else if byte == 110 then NoHandler else if byte == 102 then NotLogging
    else if byte == 43 then Recorded else RecordedArg

marked_back : (mark : Mark) → marked (mark_byte mark) ≡ mark
marked_back Skipped = refl
marked_back NoHandler = refl
marked_back NotLogging = refl
marked_back Recorded = refl
marked_back RecordedArg = refl

-- marks with the same character are the same
printed_alike : (mark other : Mark) → mark_byte mark ≡ mark_byte other → mark ≡ other
printed_alike mark other alike = sym (marked_back mark) ∙ ap marked alike ∙ marked_back other

printed_apart : (mark other : Mark) → mark ≢ other → (mark_byte mark == mark_byte other) ≡ false
printed_apart mark other apart = ne_eqb (mark_byte mark) (mark_byte other) (λ alike. apart (printed_alike mark other alike))

-- a mark before a different one begins a run
apart_in_front : (mark next : Mark) (runs : List (Mark × ℕ)) → mark ≢ next → onto_runs mark (onto_runs next runs) ≡ (mark, 1) ∷ onto_runs next runs
apart_in_front mark next [] apart = rw (printed_apart mark next apart) refl
apart_in_front mark next ((other, count) ∷ runs) apart = by_next (mark_byte next == mark_byte other) refl
  where
    by_next : (alike : Bool) → (mark_byte next == mark_byte other) ≡ alike
        → onto_runs mark (onto_runs next ((other, count) ∷ runs)) ≡ (mark, 1) ∷ onto_runs next ((other, count) ∷ runs)
    by_next true is =
        let joined : mark ≢ other = λ same. apart (same ∙ sym (printed_alike next other (eqb-true (mark_byte next) (mark_byte other) is))) in
        rw (is, printed_apart mark other joined) refl
    by_next false is = rw (is, printed_apart mark next apart) refl

-- the list is empty, or begins with another mark
pub record EndsRun (mark : Mark) (marks : List Mark) : Type 0 where
  pub differs : (next : Mark) (rest : List Mark) → marks ≡ next ∷ rest → mark ≢ next

-- equal marks at the start are a run, and the runs of the rest follow it
pub run_in_front : (mark : Mark) (more : ℕ) (rest : List Mark) → EndsRun mark rest
    → runs_of (replicate (suc more) mark ++ rest) ≡ (mark, suc more) ∷ runs_of rest
run_in_front mark zero [] ends = refl
run_in_front mark zero (next ∷ rest) ends = apart_in_front mark next (runs_of rest) (ends.differs next rest refl)
run_in_front mark (suc more) rest ends =
    let alike : (mark_byte mark == mark_byte mark) ≡ true = eq-eqb (mark_byte mark) (mark_byte mark) refl in
    rw (run_in_front mark more rest ends, alike, add-one) refl

-- the n-th mark, and then those after it
pub mark_in_front : (marks : List Mark) (n : ℕ) (mark : Mark) → slice_get marks n ≡ Some mark → drop n marks ≡ mark ∷ drop (n + 1) marks
mark_in_front marks n mark there =
    rw add-one (drop-cons marks n mark (slice_get_within marks n mark there) ∙ ap (λ first. first ∷ drop (suc n) marks) (get_or_from_slice_get marks n mark mark there))

-- a run ends before another mark
pub ends_before_other : (marks : List Mark) (n : ℕ) (mark next : Mark) → slice_get marks n ≡ Some next → mark ≢ next → EndsRun mark (drop n marks)
ends_before_other marks n mark next there apart = record {
  differs = λ other rest front same. let first : other ≡ next = cc (mark_in_front marks n next there) in apart (same ∙ first);
}

-- and at the end of the list
pub ends_with_list : (marks : List Mark) (n : ℕ) (mark : Mark) → length marks ≤ n → EndsRun mark (drop n marks)
ends_with_list marks n mark past = record {
  differs = λ other rest front same. let none : drop n marks ≡ [] = drop_all n marks past in cc;
}

-- equal marks up to the end of a run are the run
pub run_there : (marks : List Mark) (start end : ℕ) (mark : Mark) → start < end → drop start marks ≡ replicate (end - start) mark ++ drop end marks → EndsRun mark (drop end marks)
    → runs_of (drop start marks) ≡ (mark, end - start) ∷ runs_of (drop (start + (end - start)) marks)
run_there marks start end mark begun same ends =
    let more : end - start ≡ suc (end - start - 1) = omega arith in
    let following : start + (end - start) ≡ end = omega arith in
    rw (same, following, more) (run_in_front mark (end - start - 1) (drop end marks) ends)

-- later runs, each with a space before it
abbrev pub later_runs : List Mark → List ℕ
later_runs marks = flat_map (λ run. 32 ∷ run_text run) (runs_of marks)

joined : (run : Mark × ℕ) (runs : List (Mark × ℕ)) → join_with_byte 32 (map run_text (run ∷ runs)) ≡ run_text run ++ flat_map (λ run. 32 ∷ run_text run) runs
joined run [] = sym (append-nil (run_text run))
joined run (next ∷ runs) = ap (λ text. run_text run ++ 32 ∷ text) (joined next runs)

-- the first run and the later ones are the text
pub first_and_later : (marks : List Mark) (run : Mark × ℕ) (following : List Mark) → 0 < length marks → runs_of marks ≡ run ∷ runs_of following
    → run_text run ++ later_runs following ≡ runs_text marks
first_and_later [] run following some front = absurd (omega arith)
first_and_later (mark ∷ marks) run following some front =
    sym (ap (λ runs. join_with_byte 32 (map run_text runs)) front ∙ joined run (runs_of following))

-- a run and the later ones
pub next_and_later : (marks : List Mark) (run : Mark × ℕ) (following : List Mark) → runs_of marks ≡ run ∷ runs_of following
    → (32 ∷ run_text run) ++ later_runs following ≡ later_runs marks
next_and_later marks run following front = sym (ap (flat_map (λ run. 32 ∷ run_text run)) front)

-- the runs of all marks before this one were added to a text
pub record HasRunsTo {S : Type 0} (written : S → Option (List ℕ)) (faults : S → ℕ) (along : S → S → List Write → Type 0) (old new : Text S) (marks : List Mark) (end : ℕ) : Type 0 where
  pub given : List ℕ
  pub adds : AddsText written faults along old new given (Ok tt)
  pub whole : given ++ later_runs (drop end marks) ≡ runs_text marks
