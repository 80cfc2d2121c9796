-- A thread that is taken through its plain run, one passing after the other.
use Rattle.std.proofs.Common.{◌≡◌, ℕ, zero, suc, ◌+◌, List, [], ◌∷◌, ◌++◌, length, take, Some, refl, sym, ap, subst, ◌∙◌, add-one, append-nil}
use Rattle.std.specs.Prelude.{slice_get}
use Rattle.std.proofs.lemmas.Option.{same_Some}
use Rattle.fdr_record.specs.declared.event.Event.{Event}
use Rattle.handler_word.specs.declared.mark.Mark.{Mark}
use Rattle.handler_word.specs.declared.mark.Mark.TheVariants.{Skipped}
use Rattle.machine_step.specs.declared.setup.Setup.{Setup}
use Rattle.machine_step.specs.Events.{recorded}
use Rattle.machine_step.specs.PlainStep.{Passing}
use Rattle.machine_step.specs.Traced.{sleds_passed}
use Rattle.audit_check.specs.declared.blocks.Recording.{Recording}
use Rattle.audit_check.specs.declared.blocks.TraceLeft.{TraceLeft}
use Rattle.audit_check.specs.declared.follower.Follower.{Follower}
use Rattle.audit_check.specs.private.Blocks.{HasCompared, HasNoted, kept_bytes, whole_of}
use Rattle.audit_check.specs.private.Judging.{HasJudged}
use Rattle.audit_check.specs.private.Walks.{HasWalked, Way, first_marks, mark_or_skipped}

-- ---- the first marks

first_next : (n : ℕ) (marks : List Mark) → first_marks (suc n) marks ≡ first_marks n marks ++ mark_or_skipped marks n ∷ []
first_next zero [] = refl
first_next zero (mark ∷ marks) = refl
first_next (suc n) [] = ap (λ l. Skipped ∷ l) (first_next n [])
first_next (suc n) (mark ∷ marks) = ap (λ l. mark ∷ l) (first_next n marks)

pub first_more : (n : ℕ) (marks : List Mark) → first_marks (n + 1) marks ≡ first_marks n marks ++ mark_or_skipped marks n ∷ []
first_more n marks = ap (λ m. first_marks m marks) (add-one n) ∙ first_next n marks

-- they are all marks if there are as many
pub first_all : (marks : List Mark) → first_marks (length marks) marks ≡ marks
first_all [] = refl
first_all (mark ∷ marks) = ap (λ l. mark ∷ l) (first_all marks)

-- ---- the first passings

pub take_all : {X : Type 0} (xs : List X) → take (length xs) xs ≡ xs
take_all [] = refl
take_all (x ∷ xs) = ap (λ l. x ∷ l) (take_all xs)

sleds_next : (passed : List Passing) (n : ℕ) (p : Passing) → slice_get passed n ≡ Some p
    → sleds_passed (take (suc n) passed) ≡ sleds_passed (take n passed) ++ p.sled ∷ []
sleds_next [] n p found = absurd cc
sleds_next (first ∷ passed) zero p found = ap (λ (q : Passing). q.sled ∷ []) (same_Some first p found)
sleds_next (first ∷ passed) (suc n) p found = ap (λ l. first.sled ∷ l) (sleds_next passed n p found)

pub sleds_more : (passed : List Passing) (n : ℕ) (p : Passing) → slice_get passed n ≡ Some p
    → sleds_passed (take (n + 1) passed) ≡ sleds_passed (take n passed) ++ p.sled ∷ []
sleds_more passed n p found = ap (λ m. sleds_passed (take m passed)) (add-one n) ∙ sleds_next passed n p found

-- ---- one more passing

module _ (way : Way) (passed : List Passing) (n : ℕ) (p : Passing) (found : slice_get passed n ≡ Some p) (old new : Follower) (thread : new.thread ≡ old.thread)
    (judged : HasJudged way.program way.setup.threads way.script old (sleds_passed (take n passed)) (first_marks n way.marks)
    → HasJudged way.program way.setup.threads way.script new (sleds_passed (take n passed) ++ p.sled ∷ [])
    (first_marks n way.marks ++ mark_or_skipped way.marks n ∷ [])) where
  abbrev events : ℕ → List Event
  events made = recorded passed (first_marks made way.marks)

  next_judged : HasJudged way.program way.setup.threads way.script old (sleds_passed (take n passed)) (first_marks n way.marks)
      → HasJudged way.program way.setup.threads way.script new (sleds_passed (take (n + 1) passed)) (first_marks (n + 1) way.marks)
  next_judged before =
      subst (λ (sleds : List ℕ). HasJudged way.program way.setup.threads way.script new sleds (first_marks (n + 1) way.marks)) (sym (sleds_more passed n p found))
      (subst (λ (marks : List Mark). HasJudged way.program way.setup.threads way.script new (sleds_passed (take n passed) ++ p.sled ∷ []) marks)
      (sym (first_more n way.marks)) (judged before))

  -- without an event
  pub walked_none : (r : Recording) (t : TraceLeft) → events (n + 1) ≡ events n ++ [] → HasWalked way passed n old r t → HasWalked way passed (n + 1) new r t
  walked_none r t none walked =
      let same : events n ≡ events (n + 1) = sym (none ∙ append-nil (events n)) in
      record {
        thread_is = thread ∙ walked.thread_is;
        judged = next_judged walked.judged;
        noted = subst (λ (es : List Event). HasNoted way.setup way.thread way.lost es r) same walked.noted;
        compared = subst (λ (es : List Event). HasCompared way.trace (way.before ++ kept_bytes way.setup way.lost way.thread (whole_of way.setup.size es)) t)
            same walked.compared;
      }

  -- with one
  pub walked_some : (r r' : Recording) (t t' : TraceLeft) (event : Event) → events (n + 1) ≡ events n ++ event ∷ []
      → ((setup : Setup) (thread lost : ℕ) (es : List Event) → HasNoted setup thread lost es r → HasNoted setup thread lost (es ++ event ∷ []) r')
      → ((setup : Setup) (thread lost : ℕ) (es : List Event) (all before : List ℕ) → HasNoted setup thread lost es r
      → HasCompared all (before ++ kept_bytes setup lost thread (whole_of setup.size es)) t
      → HasCompared all (before ++ kept_bytes setup lost thread (whole_of setup.size (es ++ event ∷ []))) t')
      → HasWalked way passed n old r t → HasWalked way passed (n + 1) new r' t'
  walked_some r r' t t' event more notes compares walked =
      record {
        thread_is = thread ∙ walked.thread_is;
        judged = next_judged walked.judged;
        noted = subst (λ (es : List Event). HasNoted way.setup way.thread way.lost es r') (sym more)
            (notes way.setup way.thread way.lost (events n) walked.noted);
        compared = subst (λ (es : List Event). HasCompared way.trace (way.before ++ kept_bytes way.setup way.lost way.thread (whole_of way.setup.size es)) t')
            (sym more) (compares way.setup way.thread way.lost (events n) way.trace way.before walked.noted walked.compared);
      }
