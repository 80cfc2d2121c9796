-- A walk, one passing further and at its end.
use Rattle.std.proofs.Common.{◌≡◌, ℕ, ◌+◌, ◌<◌, ◌≤◌, List, [], ◌∷◌, ◌++◌, length, take, Option, Some, None, refl, sym, ap, subst, ◌∙◌, arith, length-append}
use Rattle.std.specs.Prelude.{slice_get}
use Rattle.xray_image.specs.Program.{IsAccepted, Program}
use Rattle.fdr_record.specs.declared.event.Event.{Event}
use Rattle.handler_word.specs.declared.mark.Mark.{Mark}
use Rattle.patch_script.specs.declared.command.PatchCommand.{PatchCommand}
use Rattle.machine_step.specs.declared.end.End.{End}
use Rattle.machine_step.specs.declared.limits.Limits.{Limits}
use Rattle.machine_step.specs.declared.setup.Setup.{Setup}
use Rattle.machine_step.specs.declared.want.Want.{Want}
use Rattle.machine_step.specs.declared.want.Want.TheVariants.{Done, Gate}
use Rattle.machine_step.specs.Events.{events_in, recorded}
use Rattle.machine_step.specs.PlainStep.{Passing, PlainRun, State}
use Rattle.machine_step.specs.Traced.{IsAtEnd, IsGate, IsSameThread, StandsAs, Traced, sleds_passed, state_at}
use Rattle.audit_check.specs.declared.blocks.Recording.{Recording}
use Rattle.audit_check.specs.declared.blocks.TraceLeft.{TraceLeft}
use Rattle.audit_check.specs.declared.follower.Follower.{Follower}
use Rattle.audit_check.specs.private.Blocks.{HasCompared, HasNoted, kept_bytes, whole_of}
use Rattle.audit_check.specs.private.Judging.{HasJudged}
use Rattle.audit_check.specs.private.Walks.{HasWalked, IsWayOf, Way, first_marks, mark_or_skipped}
use Rattle.audit_check.specs.Statements.{most_marks}
use Rattle.audit_check.proofs.OneVerdict.{OneEnd}
use Rattle.audit_check.proofs.WalkedThread.{first_more, walked_none, walked_some}

-- ---- the same thread

pub same_itself : (t : Traced) → IsSameThread t t
same_itself t = record { program = refl; thread = refl; threads = refl; hold = refl; limits = refl }

pub same_thread : (s t u : Traced) → IsSameThread s t → IsSameThread t u → IsSameThread s u
same_thread s t u one two = record {
  program = two.program ∙ one.program;
  thread = two.thread ∙ one.thread;
  threads = two.threads ∙ one.threads;
  hold = two.hold ∙ one.hold;
  limits = two.limits ∙ one.limits;
}

-- its plain run
pub plain_again : (s t : Traced) (passed : List Passing) (end : End) (last : State) → IsSameThread s t → PlainRun s.program s.limits s.thread passed end last
    → PlainRun t.program t.limits t.thread passed end last
plain_again s t passed end last same run =
    subst (λ n. PlainRun t.program t.limits n passed end last) (sym same.thread)
    (subst (λ (l : Limits). PlainRun t.program l s.thread passed end last) (sym same.limits)
    (subst (λ (p : Program). PlainRun p s.limits s.thread passed end last) (sym same.program) run))

pub plain_of_way : (way : Way) (t : Traced) (marks : List Mark) (passed : List Passing) (end : End) (last : State) → IsWayOf way t marks
    → PlainRun way.program way.setup.limits way.thread passed end last → PlainRun t.program t.limits t.thread passed end last
plain_of_way way t marks passed end last is run =
    subst (λ n. PlainRun t.program t.limits n passed end last) (sym is.thread)
    (subst (λ (l : Limits). PlainRun t.program l way.thread passed end last) (sym is.limits)
    (subst (λ (p : Program). PlainRun p way.setup.limits way.thread passed end last) (sym is.program) run))

-- its image is an accepted one
pub accepted_again : (s t : Traced) → IsSameThread s t → (bytes : List ℕ) → IsAccepted bytes s.program → IsAccepted bytes t.program
accepted_again s t same bytes accepted = subst (IsAccepted bytes) (sym same.program) accepted

-- it has one mark more
pub one_more : (t u : Traced) (mark : Mark) → u.marks ≡ t.marks ++ mark ∷ [] → length u.marks ≡ length t.marks + 1
one_more t u mark more = ap length more ∙ length-append t.marks (mark ∷ [])

-- and still not too many
pub still_few : (s t u : Traced) (mark : Mark) → IsSameThread s t → s.limits.passings ≤ most_marks → length t.marks < t.limits.passings
    → u.marks ≡ t.marks ++ mark ∷ [] → length u.marks ≤ most_marks
still_few s t u mark same limit left more =
    let limits : t.limits.passings ≤ most_marks = subst (λ (l : Limits). l.passings ≤ most_marks) (sym same.limits) limit in
    omega (arith, limits, left, one_more t u mark more)

-- it is at a gate
pub at_gate : (want result : Want) (passing : ℕ) → result ≡ want → result ≡ Gate passing → IsGate want
at_gate want result passing is gate = subst IsGate (sym gate ∙ is) tt

-- ---- one passing

-- the mark of a passing
pub mark_of_way : (way : Way) (marks : List Mark) (t : Traced) (passing : ℕ) (mark : Mark) → way.marks ≡ marks → passing ≡ length t.marks
    → mark ≡ mark_or_skipped marks passing → mark ≡ mark_or_skipped way.marks (length t.marks)
mark_of_way way marks t passing mark are number is =
    is ∙ (ap (mark_or_skipped marks) number ∙ ap (λ (ms : List Mark). mark_or_skipped ms (length t.marks)) (sym are))

-- as many passings were made as a thread has marks
abbrev pub Stands : Way → List Passing → Traced → Follower → Recording → TraceLeft → Type 0
Stands way passed t f r left = (t.marks ≡ first_marks (length t.marks) way.marks) × HasWalked way passed (length t.marks) f r left

-- no passing was made
pub stands_first : (way : Way) (passed : List Passing) (t : Traced) (f : Follower) (r : Recording) (left : TraceLeft) → t.marks ≡ []
    → HasWalked way passed 0 f r left → Stands way passed t f r left
stands_first way passed t f r left none walked =
    subst (λ (ms : List Mark). (ms ≡ first_marks (length ms) way.marks) × HasWalked way passed (length ms) f r left) (sym none) (refl, walked)

module _ (way : Way) (passed : List Passing) (t u : Traced) (sled : ℕ) (mark : Mark) (f g : Follower) (p : Passing)
    (found : slice_get passed (length t.marks) ≡ Some p) (of_sled : p.sled ≡ sled) (mark_is : mark ≡ mark_or_skipped way.marks (length t.marks))
    (more : u.marks ≡ t.marks ++ mark ∷ []) (thread : g.thread ≡ f.thread)
    (judges : (program : Program) (threads : ℕ) (script : List PatchCommand) (sleds : List ℕ) (marks : List Mark) → HasJudged program threads script f sleds marks
    → HasJudged program threads script g (sleds ++ sled ∷ []) (marks ++ mark ∷ [])) where
  abbrev n : ℕ
  n = length t.marks

  count : length u.marks ≡ n + 1
  count = one_more t u mark more

  next_marks : t.marks ≡ first_marks n way.marks → u.marks ≡ first_marks (n + 1) way.marks
  next_marks same =
      more ∙ (ap (λ (m : Mark). t.marks ++ m ∷ []) mark_is
      ∙ (ap (λ (ms : List Mark). ms ++ mark_or_skipped way.marks n ∷ []) same ∙ sym (first_more n way.marks)))

  judged : HasJudged way.program way.setup.threads way.script f (sleds_passed (take n passed)) (first_marks n way.marks)
      → HasJudged way.program way.setup.threads way.script g (sleds_passed (take n passed) ++ p.sled ∷ [])
      (first_marks n way.marks ++ mark_or_skipped way.marks n ∷ [])
  judged has =
      subst (λ k. HasJudged way.program way.setup.threads way.script g (sleds_passed (take n passed) ++ k ∷ [])
      (first_marks n way.marks ++ mark_or_skipped way.marks n ∷ [])) (sym of_sled)
      (subst (λ (m : Mark). HasJudged way.program way.setup.threads way.script g (sleds_passed (take n passed) ++ sled ∷ []) (first_marks n way.marks ++ m ∷ []))
      mark_is (judges way.program way.setup.threads way.script (sleds_passed (take n passed)) (first_marks n way.marks) has))

  events_next : (event : Option Event) → t.marks ≡ first_marks n way.marks → recorded passed u.marks ≡ recorded passed t.marks ++ events_in event
      → recorded passed (first_marks (n + 1) way.marks) ≡ recorded passed (first_marks n way.marks) ++ events_in event
  events_next event same is =
      ap (recorded passed) (sym (next_marks same)) ∙ (is ∙ ap (λ (ms : List Mark). recorded passed ms ++ events_in event) same)

  at_next : (r : Recording) (left : TraceLeft) → u.marks ≡ first_marks (n + 1) way.marks → HasWalked way passed (n + 1) g r left
      → Stands way passed u g r left
  at_next r left same walked =
      subst (λ m. (u.marks ≡ first_marks m way.marks) × HasWalked way passed m g r left) (sym count) (same, walked)

  -- without an event
  pub stands_none : (r : Recording) (left : TraceLeft) → recorded passed u.marks ≡ recorded passed t.marks ++ [] → Stands way passed t f r left
      → Stands way passed u g r left
  stands_none r left is (same, walked) =
      at_next r left (next_marks same) (walked_none way passed n p found f g thread judged r left (events_next None same is) walked)

  -- with one
  pub stands_some : (r r' : Recording) (left left' : TraceLeft) (event : Event) → recorded passed u.marks ≡ recorded passed t.marks ++ event ∷ []
      → ((setup : Setup) (number lost : ℕ) (es : List Event) → HasNoted setup number lost es r → HasNoted setup number lost (es ++ event ∷ []) r')
      → ((setup : Setup) (number lost : ℕ) (es : List Event) (all before : List ℕ) → HasNoted setup number lost es r
      → HasCompared all (before ++ kept_bytes setup lost number (whole_of setup.size es)) left
      → HasCompared all (before ++ kept_bytes setup lost number (whole_of setup.size (es ++ event ∷ []))) left')
      → Stands way passed t f r left → Stands way passed u g r' left'
  stands_some r r' left left' event is notes compares (same, walked) =
      at_next r' left' (next_marks same)
      (walked_some way passed n p found f g thread judged r r' left left' event (events_next (Some event) same is) notes compares walked)

-- ---- the end

at_end : (t : Traced) (want result : Want) (end : End) → result ≡ want → result ≡ Done end → StandsAs t want → IsAtEnd t end
at_end t want result end is done stands = subst (StandsAs t) (sym is ∙ done) stands

pub ends_so : (t : Traced) (want result : Want) (end end' : End) (passed : List Passing) (last : State) → OneEnd t.program → result ≡ want → result ≡ Done end
    → StandsAs t want → PlainRun t.program t.limits t.thread passed end' last → (end ≡ end') × (length t.marks ≡ length passed)
ends_so t want result end end' passed last one is done stands run =
    let here = at_end t want result end is done stands in
    let same = one t.limits t.thread here.passed passed end end' (state_at here.address t) last here.run run in
    (same.1, sym here.count ∙ ap length same.0)

-- a plain run has one end, as `one_end` says
abbrev pub EndsOnce : Type 0
EndsOnce =
    (bytes : List ℕ) (program : Program) (limits : Limits) (thread : ℕ) (passed passed' : List Passing) (end end' : End) (last last' : State)
    → IsAccepted bytes program → PlainRun program limits thread passed end last → PlainRun program limits thread passed' end' last'
    → (passed ≡ passed') × (end ≡ end') × (last ≡ last')

-- a walk ends as the plain run of the thread that began it
pub walk_ends : (s t : Traced) (want result : Want) (end end' : End) (bytes : List ℕ) (passed : List Passing) (last : State) → EndsOnce → IsSameThread s t
    → IsAccepted bytes s.program → result ≡ want → result ≡ Done end → StandsAs t want → PlainRun s.program s.limits s.thread passed end' last
    → (end ≡ end') × (length t.marks ≡ length passed)
walk_ends s t want result end end' bytes passed last once same accepted is done stands run =
    let one : OneEnd t.program = λ limits thread before after first second state other.
    once bytes t.program limits thread before after first second state other (accepted_again s t same bytes accepted) in
    ends_so t want result end end' passed last one is done stands (plain_again s t passed end' last same run)
