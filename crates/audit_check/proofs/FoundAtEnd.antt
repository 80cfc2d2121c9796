-- What is found of a thread at the end of its plain run.
use Rattle.std.proofs.Common.{◌≡◌, ℕ, ◌==◌, ◌≤◌, Bool, true, false, List, length, take, Option, Some, None, refl, sym, ap, subst, ◌∙◌, eqb-true, eq-eqb}
use Rattle.std.specs.Prelude.{◌&&◌, ◌↔◌, IfSome, IsTrue, is_some}
use Rattle.xray_image.specs.Program.{Program}
use Rattle.handler_word.specs.declared.mark.Mark.{Mark}
use Rattle.patch_script.specs.declared.command.PatchCommand.{PatchCommand}
use Rattle.patch_script.specs.Micros.{total_of}
use Rattle.machine_step.specs.Events.{recorded}
use Rattle.machine_step.specs.Traced.{sleds_passed}
use Rattle.machine_step.proofs.LoadByLoad.{later as up_to}
use Rattle.traced_run.specs.Following.{MarksFollowScript}
use Rattle.traced_run.specs.Runs.{ThreadRun, events_of}
use Rattle.trace_flush.specs.Audit.{ThreadAudit}
use Rattle.audit_check.specs.declared.follower.Follower.{Follower}
use Rattle.audit_check.specs.private.Judging.{HasJudged}
use Rattle.audit_check.specs.private.Turns.{IsLeast}
use Rattle.audit_check.specs.private.Walks.{first_marks}
use Rattle.audit_check.specs.Rows.{EndsAgree, MarksAgree}
use Rattle.audit_check.proofs.JudgedMarks.{Follow}
use Rattle.audit_check.proofs.WalkedThread.{first_all, take_all}

-- ---- marks

-- marks that follow the script up to a place follow all of it
whole_script : (program : Program) (threads : ℕ) (script : List PatchCommand) (thread : ℕ) (sleds : List ℕ) (marks : List Mark) (place : ℕ)
    → place ≤ total_of program threads script → Follow program threads script thread sleds marks place
    → MarksFollowScript program threads script thread sleds marks
whole_script program threads script thread sleds marks place low f = record {
  loads = f.loads;
  follow = up_to f.loads place (total_of program threads script) low f.follow;
  leave = f.leave;
  released = f.released;
  each = f.each;
}

least_follows : (program : Program) (threads : ℕ) (script : List PatchCommand) (thread : ℕ) (sleds : List ℕ) (marks : List Mark) (place : Option ℕ)
    → IsLeast (Follow program threads script thread sleds marks) place → IfSome place (λ p. p ≤ total_of program threads script)
    → IsTrue (is_some place) ↔ MarksFollowScript program threads script thread sleds marks
least_follows program threads script thread sleds marks None never low =
    ((λ is. absurd (let q : false ≡ true = is in cc)), λ follow. absurd (never (total_of program threads script) follow))
least_follows program threads script thread sleds marks (Some place) (follows, least) low =
    ((λ is. whole_script program threads script thread sleds marks place low follows), λ follow. refl)

-- the first marks of a thread that has as many marks as passings
pub marks_whole : (marks : List Mark) (count : ℕ) → length marks ≡ count → first_marks count marks ≡ marks
marks_whole marks count same = ap (λ n. first_marks n marks) (sym same) ∙ first_all marks

module _ (program : Program) (threads : ℕ) (script : List PatchCommand) (thread : ℕ) (f : Follower) (thread_is : f.thread ≡ thread) (said : ThreadAudit) (run : ThreadRun)
    (judged : HasJudged program threads script f (sleds_passed (take (length run.passed) run.passed)) (first_marks (length run.passed) said.marks))
    (ends : EndsAgree said run) where
  follows_if : length said.marks ≡ said.passings
      → IsTrue (is_some f.place) ↔ MarksFollowScript program threads script thread (sleds_passed run.passed) said.marks
  follows_if each =
      let sleds : sleds_passed (take (length run.passed) run.passed) ≡ sleds_passed run.passed = ap sleds_passed (take_all run.passed) in
      let marks : first_marks (length run.passed) said.marks ≡ said.marks = marks_whole said.marks (length run.passed) (each ∙ ends.passings) in
      subst (λ (ss : List ℕ). IsTrue (is_some f.place) ↔ MarksFollowScript program threads script thread ss said.marks) sleds
      (subst (λ (ms : List Mark). IsTrue (is_some f.place) ↔ MarksFollowScript program threads script thread (sleds_passed (take (length run.passed) run.passed)) ms) marks
      (subst (λ n. IsTrue (is_some f.place) ↔ MarksFollowScript program threads script n (sleds_passed (take (length run.passed) run.passed))
      (first_marks (length run.passed) said.marks)) thread_is
      (least_follows program threads script f.thread (sleds_passed (take (length run.passed) run.passed)) (first_marks (length run.passed) said.marks)
      f.place judged.place judged.low)))

  pub marks_found : IsTrue ((length said.marks == said.passings) && is_some f.place) ↔ MarksAgree program threads script thread said run
  marks_found = (
    (λ both.
        let each : length said.marks ≡ said.passings = eqb-true (length said.marks) said.passings (left_of (length said.marks == said.passings) (is_some f.place) both) in
        record { each = each; follow = (follows_if each).0 (right_of (length said.marks == said.passings) (is_some f.place) both) }),
    (λ agree. both_of (length said.marks == said.passings) (is_some f.place) (eq-eqb (length said.marks) said.passings agree.each)
        ((follows_if agree.each).1 agree.follow)),
  )
    where
      left_of : (a b : Bool) → IsTrue (a && b) → a ≡ true
      left_of true b both = refl
      left_of false b both = absurd (let q : false ≡ true = both in cc)

      right_of : (a b : Bool) → IsTrue (a && b) → IsTrue b
      right_of true b both = both
      right_of false b both = absurd (let q : false ≡ true = both in cc)

      both_of : (a b : Bool) → a ≡ true → IsTrue b → IsTrue (a && b)
      both_of true b e both = both
      both_of false b e both = absurd (let q : false ≡ true = e in cc)

-- ---- events

-- the events that the first marks record are those of the run
pub events_are : (said : ThreadAudit) (run : ThreadRun) → run.marks ≡ said.marks → length said.marks ≡ length run.passed
    → recorded run.passed (first_marks (length run.passed) said.marks) ≡ events_of run
events_are said run same each = ap (recorded run.passed) (marks_whole said.marks (length run.passed) each ∙ sym same)
