-- The runs of a row of marks, taken one after the other.
use Rattle.std.proofs.Common.{◌≡◌, ◌≢◌, ◌<◌, ◌≤◌, ◌+◌, ℕ, suc, true, false, List, [], ◌∷◌, ◌++◌, length, get_or, drop, Option, Some, None, is_some, refl, sym, ap, subst, ◌∙◌, arith, append_assoc, length-append}
use Rattle.std.specs.Prelude.{codes, decimal, replicate}
use Rattle.std.proofs.lemmas.Grind.{flat_map-append}
use Rattle.std.proofs.lemmas.List.{append-nil, length-replicate}
use Rattle.std.proofs.lemmas.Option.{none-some, same_Some}
use Rattle.text_lines.specs.Written.{WrittenNumbersRead}
use Rattle.handler_word.specs.declared.mark.Mark.{Mark}
use Rattle.handler_word.specs.declared.mark.Mark.TheVariants.{Skipped, NoHandler, NotLogging, Recorded, RecordedArg}
use Rattle.handler_word.specs.Runs.{mark_byte, run_text, runs_of}
use Rattle.machine_step.specs.Texts.{line_feed, marks_line}
use Rattle.audit_check.specs.private.Marks.{AreRuns, GoesOn, HasRuns, TakesRun, last_of, marks_of_runs, marks_part, spaced}
use Rattle.audit_check.specs.private.Parts.{BeginsNoDigit}
use Rattle.audit_check.specs.private.Taking.{after, run_in}
use Rattle.audit_check.specs.Statements.{most_marks}
use Rattle.audit_check.proofs.ReadParts.{after_found, after_only, first_same, rest_same, run_only}
use Rattle.audit_check.proofs.RunTexts.{part_of_marks, part_of_runs, row_of_part, runs_are, runs_marks, some_runs}

abbrev Run : Type 0
Run = Mark × ℕ

-- ---- one run

-- a row that goes on with a run is read as that run
pub refused_run : (reads : WrittenNumbersRead) (row : List ℕ) (mark : Mark) (count : ℕ) (rest : List ℕ) → run_in row ≡ None → count ≤ most_marks
    → BeginsNoDigit rest → row ≡ run_text (mark, count) ++ rest → ⊥
refused_run reads row mark count rest none few ends is =
    let some : run_in row ≡ Some ((mark, count), rest) = ap run_in is ∙ run_only reads mark count rest (omega arith) ends in
    none-some _ (sym none ∙ some)

-- what was read of it is that run
pub record IsRun (mark found : Mark) (count number : ℕ) (rest left : List ℕ) : Type 0 where
  pub mark_is : found ≡ mark
  pub count_is : number ≡ count
  pub rest_is : left ≡ rest

pub same_run : (reads : WrittenNumbersRead) (row : List ℕ) (found : Mark) (number : ℕ) (left : List ℕ) → run_in row ≡ Some ((found, number), left)
    → (mark : Mark) (count : ℕ) (rest : List ℕ) → count ≤ most_marks → BeginsNoDigit rest → row ≡ run_text (mark, count) ++ rest
    → IsRun mark found count number rest left
same_run reads row found number left is mark count rest few ends text =
    let both : ◌≡◌ {A = Option (Run × List ℕ)} (Some ((found, number), left)) (Some ((mark, count), rest)) =
    sym is ∙ (ap run_in text ∙ run_only reads mark count rest (omega arith) ends) in
    let run : ◌≡◌ {A = Run} (found, number) (mark, count) = first_same {X = Run} {Y = List ℕ} ((found, number), left) ((mark, count), rest) both in
    record {
      mark_is = ap (λ (r : Run). r.0) run;
      count_is = ap (λ (r : Run). r.1) run;
      rest_is = rest_same {X = Run} {Y = List ℕ} ((found, number), left) ((mark, count), rest) both;
    }

-- ---- one more run

are_more : (before : Option Mark) (runs : List Run) (mark : Mark) (count : ℕ) → AreRuns before runs → last_of before runs ≢ Some mark → 0 < count
    → AreRuns before (runs ++ (mark, count) ∷ [])
are_more before [] mark count are unlike some = (unlike, some, tt)
are_more before ((next, number) ∷ runs) mark count are unlike some = (are.0, are.1, are_more (Some next) runs mark count are.2 unlike some)

last_more : (before : Option Mark) (runs : List Run) (mark : Mark) (count : ℕ) → last_of before (runs ++ (mark, count) ∷ []) ≡ Some mark
last_more before [] mark count = refl
last_more before ((next, number) ∷ runs) mark count = last_more (Some next) runs mark count

pub no_runs : (row : List ℕ) → HasRuns row row [] None
no_runs row = record { runs = []; are = tt; text = refl; marks_are = refl; last_is = refl }

pub one_more : (row left run rest : List ℕ) (marks marks' : List Mark) (last : Option Mark) (mark : Mark) (count : ℕ) → HasRuns row left marks last
    → after (codes " ") left ≡ Some run → last ≢ Some mark → TakesRun run rest marks marks' mark count → HasRuns row rest marks' (Some mark)
one_more row left run rest marks marks' last mark count has space unlike takes = record {
  runs = has.runs ++ (mark, count) ∷ [];
  are = are_more None has.runs mark count has.are (λ e. unlike (has.last_is ∙ e)) takes.some;
  text = has.text ∙ (ap (λ (l : List ℕ). spaced has.runs ++ l) text ∙ sym more);
  marks_are =
      takes.added
      ∙ (ap (λ (l : List Mark). l ++ replicate count mark) has.marks_are
      ∙ (ap (λ (l : List Mark). marks_of_runs has.runs ++ l) (sym (append-nil (replicate count mark)))
      ∙ sym (flat_map-append (λ (r : Run). replicate r.1 r.0) has.runs ((mark, count) ∷ []))));
  last_is = sym (last_more None has.runs mark count);
}
  where
    text : left ≡ 32 ∷ (run_text (mark, count) ++ rest)
    text = after_found (codes " ") left run space ∙ ap (λ (l : List ℕ). 32 ∷ l) takes.text

    more : spaced (has.runs ++ (mark, count) ∷ []) ++ rest ≡ spaced has.runs ++ (32 ∷ (run_text (mark, count) ++ rest))
    more =
        ap (λ (l : List ℕ). l ++ rest) (flat_map-append (λ (r : Run). 32 ∷ run_text r) has.runs ((mark, count) ∷ [])
        ∙ ap (λ (l : List ℕ). spaced has.runs ++ l) (append-nil (32 ∷ run_text (mark, count))))
        ∙ append_assoc (spaced has.runs) (32 ∷ run_text (mark, count)) rest

-- a row that goes on is as long as its runs
pub shorter : (left run rest : List ℕ) (marks marks' : List Mark) (mark : Mark) (count : ℕ) → after (codes " ") left ≡ Some run
    → TakesRun run rest marks marks' mark count → length rest < length left
shorter left run rest marks marks' mark count space takes =
    let whole : length left ≡ suc (length run) = ap length (after_found (codes " ") left run space) in
    let text : length run ≡ suc (length (decimal count ++ rest)) = ap length takes.text in
    omega (arith, whole, text, length-append (decimal count) rest)

-- all runs of a row
pub whole_part : (row left : List ℕ) (marks : List Mark) (last : Option Mark) → HasRuns row left marks last → is_some last ≡ true
    → row ≡ marks_part marks ++ left
whole_part row left marks last has some =
    has.text ∙ ap (λ (l : List ℕ). l ++ left) (sym (ap marks_part has.marks_are ∙ part_of_runs has.runs has.are begun))
  where
    begun : has.runs ≢ []
    begun none = let both : false ≡ true = sym (ap is_some (has.last_is ∙ ap (last_of None) none)) ∙ some in cc

pub none_of : {X : Type 0} (o : Option X) → is_some o ≡ false → o ≡ None
none_of None e = refl
none_of (Some x) e = absurd cc

-- ---- a row that is printed

pub goes_on : (row : List ℕ) (runs : List Run) (rest : List ℕ) → AreRuns None runs → row ≡ spaced runs ++ 10 ∷ rest → GoesOn row [] None runs rest
goes_on row runs rest are text = record { later = runs; are = are; text = text; marks_are = refl; none_yet = λ e. refl }

no_digit : (runs : List Run) (rest : List ℕ) → BeginsNoDigit (spaced runs ++ 10 ∷ rest)
no_digit [] rest = refl
no_digit (run ∷ runs) rest = refl

-- the next run of a row that goes on
pub record NextRun (run : List ℕ) (marks : List Mark) (last : Option Mark) (runs : List Run) (rest : List ℕ) : Type 0 where
  pub mark : Mark
  pub count : ℕ
  pub later : List Run
  pub unlike : last ≢ Some mark
  pub some : 0 < count
  pub room : length marks + count ≤ length (marks_of_runs runs)
  pub ends : BeginsNoDigit (spaced later ++ 10 ∷ rest)
  pub text : run ≡ run_text (mark, count) ++ (spaced later ++ 10 ∷ rest)
  pub are : AreRuns (Some mark) later
  pub marks_are : marks_of_runs runs ≡ (marks ++ replicate count mark) ++ marks_of_runs later

pub next_run : (left run : List ℕ) (marks : List Mark) (last : Option Mark) (runs : List Run) (rest : List ℕ) → GoesOn left marks last runs rest
    → after (codes " ") left ≡ Some run → NextRun run marks last runs rest
next_run left run marks last runs rest on space = by on.later on.are on.text on.marks_are
  where
    front : left ≡ 32 ∷ run
    front = after_found (codes " ") left run space

    by : (later : List Run) → AreRuns last later → left ≡ spaced later ++ 10 ∷ rest → marks_of_runs runs ≡ marks ++ marks_of_runs later
        → NextRun run marks last runs rest
    by [] are text marks_are = absurd (omega (arith, ap (λ (l : List ℕ). get_or l 0 0) (sym text ∙ front)))
    by ((mark, count) ∷ later) are text marks_are =
        let all : marks_of_runs runs ≡ (marks ++ replicate count mark) ++ marks_of_runs later =
        marks_are ∙ sym (append_assoc marks (replicate count mark) (marks_of_runs later)) in
        record {
          mark = mark;
          count = count;
          later = later;
          unlike = are.0;
          some = are.1;
          room = omega (
            arith,
            ap length all,
            length-append (marks ++ replicate count mark) (marks_of_runs later),
            length-append marks (replicate count mark),
            length-replicate count mark,
          );
          ends = no_digit later rest;
          text =
              ap (λ (l : List ℕ). drop 1 l) (sym front ∙ text)
              ∙ ap (λ (l : List ℕ). mark_byte mark ∷ l) (append_assoc (decimal count) (spaced later) (10 ∷ rest));
          are = are.2;
          marks_are = all;
        }

-- after that run
pub still_on : (run left : List ℕ) (marks marks' : List Mark) (last : Option Mark) (runs : List Run) (rest : List ℕ) (found : Mark)
    → (next : NextRun run marks last runs rest) → found ≡ next.mark → left ≡ spaced next.later ++ 10 ∷ rest → marks' ≡ marks ++ replicate next.count next.mark
    → GoesOn left marks' (Some found) runs rest
still_on run left marks marks' last runs rest found next same text added = record {
  later = next.later;
  are = subst (λ (m : Mark). AreRuns (Some m) next.later) (sym same) next.are;
  text = text;
  marks_are = next.marks_are ∙ ap (λ (l : List Mark). l ++ marks_of_runs next.later) (sym added);
  none_yet = λ e. absurd cc;
}

-- no run is left
pub record Stops (left : List ℕ) (marks : List Mark) (last : Option Mark) (runs : List Run) (rest : List ℕ) : Type 0 where
  pub text : left ≡ 10 ∷ rest
  pub marks_are : marks ≡ marks_of_runs runs
  pub some : last ≡ None → runs ≡ []

pub stops : (left : List ℕ) (marks : List Mark) (last : Option Mark) (runs : List Run) (rest : List ℕ) → GoesOn left marks last runs rest
    → after (codes " ") left ≡ None → Stops left marks last runs rest
stops left marks last runs rest on none = by on.later on.text on.marks_are on.none_yet
  where
    by : (later : List Run) → left ≡ spaced later ++ 10 ∷ rest → marks_of_runs runs ≡ marks ++ marks_of_runs later → (last ≡ None → later ≡ runs)
        → Stops left marks last runs rest
    by [] text marks_are none_yet = record { text = text; marks_are = sym (marks_are ∙ append-nil marks); some = λ e. sym (none_yet e) }
    by ((mark, count) ∷ later) text marks_are none_yet =
        let tail : List ℕ = (run_text (mark, count) ++ spaced later) ++ 10 ∷ rest in
        let some : after (codes " ") left ≡ Some tail = ap (after (codes " ")) text ∙ after_only (codes " ") tail in
        absurd (none-some _ (sym none ∙ some))

-- ---- the row of marks

no_hyphen : (mark : Mark) → mark_byte mark ≢ 45
no_hyphen Skipped e = omega (arith, e)
no_hyphen NoHandler e = omega (arith, e)
no_hyphen NotLogging e = omega (arith, e)
no_hyphen Recorded e = omega (arith, e)
no_hyphen RecordedArg e = omega (arith, e)

-- a row of runs, each with a space before it, has a mark as its second byte
second_byte : (runs : List Run) (rest left : List ℕ) → runs ≢ [] → spaced runs ++ 10 ∷ rest ≡ codes " -" ++ left → ⊥
second_byte [] rest left some same = some refl
second_byte ((mark, count) ∷ runs) rest left some same = no_hyphen mark (ap (λ (l : List ℕ). get_or l 1 0) same)

-- a hyphen stands for no marks
pub hyphen_only : (row left : List ℕ) (all : List Mark) (rest : List ℕ) → after (codes " -") row ≡ Some left → row ≡ marks_part all ++ 10 ∷ rest
    → (left ≡ 10 ∷ rest) × ([] ≡ all)
hyphen_only row left [] rest hyphen text =
    (ap (λ (l : List ℕ). drop 2 l) (sym (after_found (codes " -") row left hyphen) ∙ text), refl)
hyphen_only row left (mark ∷ marks) rest hyphen text =
    absurd (second_byte (runs_of (mark ∷ marks)) rest left (some_runs mark marks)
    (ap (λ (l : List ℕ). l ++ 10 ∷ rest) (sym (part_of_marks mark marks)) ∙ (sym text ∙ after_found (codes " -") row left hyphen)))

-- without a hyphen a row of marks is one of runs
pub record HasSomeRuns (row : List ℕ) (all : List Mark) (rest : List ℕ) : Type 0 where
  pub runs : List Run
  pub are : AreRuns None runs
  pub some : runs ≢ []
  pub marks_are : marks_of_runs runs ≡ all
  pub text : row ≡ spaced runs ++ 10 ∷ rest

pub without_hyphen : (row : List ℕ) (all : List Mark) (rest : List ℕ) → after (codes " -") row ≡ None → row ≡ marks_part all ++ 10 ∷ rest
    → HasSomeRuns row all rest
without_hyphen row [] rest none text =
    let some : after (codes " -") row ≡ Some (10 ∷ rest) = ap (after (codes " -")) text ∙ after_only (codes " -") (10 ∷ rest) in
    absurd (none-some _ (sym none ∙ some))
without_hyphen row (mark ∷ marks) rest none text = record {
  runs = runs_of (mark ∷ marks);
  are = runs_are (mark ∷ marks);
  some = some_runs mark marks;
  marks_are = runs_marks (mark ∷ marks);
  text = text ∙ ap (λ (l : List ℕ). l ++ 10 ∷ rest) (part_of_marks mark marks);
}

-- the whole row
pub marks_found : (row part left : List ℕ) (marks : List Mark) → after (codes "marks") row ≡ Some part → part ≡ marks_part marks ++ left
    → left ≡ line_feed → row ≡ marks_line marks
marks_found row part left marks word text feed =
    after_found (codes "marks") row part word
    ∙ (ap (λ (l : List ℕ). codes "marks" ++ l) (text ∙ ap (λ (l : List ℕ). marks_part marks ++ l) feed) ∙ sym (row_of_part marks))

pub marks_none : (row : List ℕ) (all : List Mark) → after (codes "marks") row ≡ None → row ≡ marks_line all → ⊥
marks_none row all none is =
    let tail : List ℕ = marks_part all ++ line_feed in
    let some : after (codes "marks") row ≡ Some tail = ap (after (codes "marks")) (is ∙ row_of_part all) ∙ after_only (codes "marks") tail in
    none-some _ (sym none ∙ some)

pub marks_part_is : (row part : List ℕ) (all : List Mark) → after (codes "marks") row ≡ Some part → row ≡ marks_line all → part ≡ marks_part all ++ 10 ∷ []
marks_part_is row part all word is =
    let tail : List ℕ = marks_part all ++ line_feed in
    let some : after (codes "marks") row ≡ Some tail = ap (after (codes "marks")) (is ∙ row_of_part all) ∙ after_only (codes "marks") tail in
    same_Some part tail (sym word ∙ some)
