-- There is one answer to an audit, and always some answer.
use Rattle.std.proofs.Common.{◌≡◌, ◌+◌, ◌-◌, Bool, true, false, List, [], Some, None, Option, refl, sym, ap, subst, ◌∙◌, arith, map}
use Rattle.std.specs.Prelude.{Result, Ok, Err, option_map, slice_get}
use Rattle.std.proofs.lemmas.Option.{slice_get-map, slice_get_within}
use Rattle.xray_image.specs.Program.{Program}
use Rattle.handler_word.specs.declared.mark.Mark.{Mark}
use Rattle.patch_script.specs.declared.command.PatchCommand.{PatchCommand}
use Rattle.machine_step.specs.Buffers.{spare_of}
use Rattle.machine_step.specs.declared.setup.Setup.{Setup}
use Rattle.machine_step.specs.Traced.{sleds_passed}
use Rattle.traced_run.specs.Following.{AllMarksFollow, MarksFollowScript}
use Rattle.traced_run.specs.Losses.{AreLost}
use Rattle.traced_run.specs.Runs.{IsRun, ThreadRun}
use Rattle.trace_flush.specs.Audit.{ThreadAudit}
use Rattle.step_sim.specs.declared.turns.Turns.{Turns}
use Rattle.audit_check.specs.declared.verdict.Verdict.{Verdict}
use Rattle.audit_check.specs.declared.verdict.Verdict.TheVariants as verdicts
use Rattle.audit_check.specs.Rows.{AreRunsOf}
use Rattle.audit_check.specs.Statements.{NamesThreads, AuditStatement, run_statement}
use Rattle.audit_check.specs.Verdicts.{IsJudged}
use Rattle.audit_check.proofs.LawfulRuns.{ends_stated, marks_stated, runs_stated}
use Rattle.audit_check.proofs.OneVerdict.{OneEnd, first_same, not_first, runs_same}
use Rattle.run_order.specs.declared.fault.OrderFault.{OrderFault}
use Rattle.run_order.specs.declared.fault.OrderFault.TheVariants.{Ends, Marks, Long, NoMemory}
use Rattle.run_order.specs.Answers.{AllEndsAgree, AnswersOrder, IsOrderOrLong, IsOrdered, AllMarksAgree}
use Rattle.run_order.specs.Orders.{is_long}
use Rattle.run_order.specs.RunOrders.{IsOrderOf}
use Rattle.run_order.proofs.OrderLeavesRun.{BoundsWithin, one_order, some_order}

-- ---- one answer

abbrev Answer : Type 0
Answer = Result (List Turns) OrderFault

module _ (program : Program) (script : List PatchCommand) (s : AuditStatement) (runs : List ThreadRun) where
  same_length : (one other : List Turns) → IsOrderOf program s.setup.threads script runs one → IsOrderOf program s.setup.threads script runs other
      → is_long one ≡ true → is_long other ≡ false → ⊥
  same_length one other a b long short =
      let same = one_order program s.setup.threads script runs one other a b in
      let e : true ≡ false = sym long ∙ ap is_long same ∙ short in
      absurd cc

  answers_same : (v w : Answer) → AnswersOrder program script s runs v → AnswersOrder program script s runs w → v ≡ w
  answers_same (Err (Ends t)) (Err (Ends u)) a b = ap (λ n. let x : Answer = Err (Ends n) in x) (first_same _ _ t u a b)
  answers_same (Err (Ends t)) (Err (Marks u)) a b = absurd (not_first _ _ t b.0 a)
  answers_same (Err (Ends t)) (Err Long) a b = absurd (not_first _ _ t b.0 a)
  answers_same (Err (Ends t)) (Err NoMemory) a b = absurd b
  answers_same (Err (Ends t)) (Ok other) a b = absurd (not_first _ _ t b.0 a)
  answers_same (Err (Marks t)) (Err (Ends u)) a b = absurd (not_first _ _ u a.0 b)
  answers_same (Err (Marks t)) (Err (Marks u)) a b = ap (λ n. let x : Answer = Err (Marks n) in x) (first_same _ _ t u a.1 b.1)
  answers_same (Err (Marks t)) (Err Long) a b = absurd (not_first _ _ t b.1 a.1)
  answers_same (Err (Marks t)) (Err NoMemory) a b = absurd b
  answers_same (Err (Marks t)) (Ok other) a b = absurd (not_first _ _ t b.1 a.1)
  answers_same (Err Long) (Err (Ends u)) a b = absurd (not_first _ _ u a.0 b)
  answers_same (Err Long) (Err (Marks u)) a b = absurd (not_first _ _ u a.1 b.1)
  answers_same (Err Long) (Err Long) a b = refl
  answers_same (Err Long) (Err NoMemory) a b = absurd b
  answers_same (Err Long) (Ok other) a b = absurd (same_length a.2.0 other a.2.1 b.2 a.2.2 b.3)
  answers_same (Err NoMemory) w a b = absurd a
  answers_same (Ok one) (Err (Ends u)) a b = absurd (not_first _ _ u a.0 b)
  answers_same (Ok one) (Err (Marks u)) a b = absurd (not_first _ _ u a.1 b.1)
  answers_same (Ok one) (Err Long) a b = absurd (same_length b.2.0 one b.2.1 a.2 b.2.2 a.3)
  answers_same (Ok one) (Err NoMemory) a b = absurd b
  answers_same (Ok one) (Ok other) a b = ap (λ (o : List Turns). let x : Answer = Ok o in x) (one_order program s.setup.threads script runs one other a.2 b.2)

pub ordered_same : (program : Program) → OneEnd program → (script : List PatchCommand) (s : AuditStatement) (v w : Answer)
    → IsOrdered program script s v → IsOrdered program script s w → v ≡ w
ordered_same program one script s v w a b =
    let same = runs_same program one s a.runs b.runs a.are b.are in
    answers_same program script s b.runs v w (subst (λ (rs : List ThreadRun). AnswersOrder program script s rs v) same a.answer_is) b.answer_is

-- ---- some answer

-- marks that agree follow the script
marks_follow : (program : Program) (script : List PatchCommand) (s : AuditStatement) (runs : List ThreadRun) → NamesThreads s → AreRunsOf program s runs
    → AllMarksAgree program script s runs → AllMarksFollow program s.setup.threads script runs
marks_follow program script s runs names are agree i run e = by_said (slice_get s.threads i) refl
  where
    by_said : (said : Option ThreadAudit) → slice_get s.threads i ≡ said
        → MarksFollowScript program s.setup.threads script (i + 1) (sleds_passed run.passed) run.marks
    by_said None f =
        let same : slice_get (map (λ (r : ThreadRun). r.marks) runs) i ≡ slice_get (map (λ (t : ThreadAudit). t.marks) s.threads) i =
        ap (λ (ms : List (List Mark)). slice_get ms i) are.marks in
        let own : Some run.marks ≡ None =
        sym (slice_get-map (λ (r : ThreadRun). r.marks) runs i ∙ ap (option_map (λ (r : ThreadRun). r.marks)) e) ∙ same
        ∙ slice_get-map (λ (t : ThreadAudit). t.marks) s.threads i ∙ ap (option_map (λ (t : ThreadAudit). t.marks)) f in
        absurd cc
    by_said (Some said) f =
        let within = slice_get_within runs i run e in
        let back : i + 1 - 1 ≡ i = omega arith in
        let row = agree (i + 1) (omega arith) (omega (arith, within, are.run.count)) said run (ap (slice_get s.threads) back ∙ f) (ap (slice_get runs) back ∙ e) in
        let same : slice_get (map (λ (r : ThreadRun). r.marks) runs) i ≡ slice_get (map (λ (t : ThreadAudit). t.marks) s.threads) i =
        ap (λ (ms : List (List Mark)). slice_get ms i) are.marks in
        let own : ◌≡◌ {A = Option (List Mark)} (Some run.marks) (Some said.marks) =
        sym (slice_get-map (λ (r : ThreadRun). r.marks) runs i ∙ ap (option_map (λ (r : ThreadRun). r.marks)) e) ∙ same
        ∙ slice_get-map (λ (t : ThreadAudit). t.marks) s.threads i ∙ ap (option_map (λ (t : ThreadAudit). t.marks)) f in
        let marks : run.marks ≡ said.marks = cc in
        subst (λ (ms : List Mark). MarksFollowScript program s.setup.threads script (i + 1) (sleds_passed run.passed) ms) (sym marks) row.follow

some_long : BoundsWithin → (program : Program) (script : List PatchCommand) (s : AuditStatement) (runs : List ThreadRun) (are : AreRunsOf program s runs) → NamesThreads s
    → AllEndsAgree program script s runs → AllMarksAgree program script s runs → (answer : Answer) × IsOrdered program script s answer
some_long bounds program script s runs are names ends marks =
    let order = some_order bounds program s.setup script runs are.run (marks_follow program script s runs names are marks) in
    by_length order.0 order.1 (is_long order.0) refl
  where
    by_length : (schedule : List Turns) → IsOrderOf program s.setup.threads script runs schedule → (long : Bool) → is_long schedule ≡ long
        → (answer : Answer) × IsOrdered program script s answer
    by_length schedule order true long =
        (Err Long, record { runs = runs; are = are; answer_is = (ends, marks, (schedule, order, long)) })
    by_length schedule order false short =
        (Ok schedule, record { runs = runs; are = are; answer_is = (ends, marks, order, short) })

-- the audit of a lawful run has an order, or one that is too long
pub lawful_answer : BoundsWithin → (program : Program) (script : List PatchCommand) (setup : Setup) (runs : List ThreadRun) → IsRun program setup runs
    → AllMarksFollow program setup.threads script runs → AreLost setup.size (spare_of setup) runs
    → (answer : Answer) × IsOrdered program script (run_statement setup runs) answer × IsOrderOrLong answer
lawful_answer bounds program script setup runs is follow lost =
    let order = some_order bounds program setup script runs is follow in
    by_length order.0 order.1 (is_long order.0) refl
  where
    by_length : (schedule : List Turns) → IsOrderOf program setup.threads script runs schedule → (long : Bool) → is_long schedule ≡ long
        → (answer : Answer) × IsOrdered program script (run_statement setup runs) answer × IsOrderOrLong answer
    by_length schedule order true long = (
      Err Long,
      record {
        runs = runs;
        are = runs_stated program setup runs is;
        answer_is = (ends_stated program script setup runs is follow lost, marks_stated program script setup runs is follow lost, (schedule, order, long));
      },
      tt,
    )
    by_length schedule order false short = (
      Ok schedule,
      record {
        runs = runs;
        are = runs_stated program setup runs is;
        answer_is = (ends_stated program script setup runs is follow lost, marks_stated program script setup runs is follow lost, order, short);
      },
      tt,
    )

-- what is judged has an answer
pub some_answer : BoundsWithin → (program : Program) (script : List PatchCommand) (s : AuditStatement) (verdict : Verdict) → NamesThreads s → IsJudged program script s [] verdict
    → (answer : Answer) × IsOrdered program script s answer
some_answer bounds program script s (verdicts.Ends t) names judged = (Err (Ends t), record { runs = judged.runs; are = judged.are; answer_is = judged.verdict_is })
some_answer bounds program script s (verdicts.Marks t) names judged = (Err (Marks t), record { runs = judged.runs; are = judged.are; answer_is = judged.verdict_is })
some_answer bounds program script s (verdicts.Counts t) names judged =
    some_long bounds program script s judged.runs judged.are names judged.verdict_is.0 judged.verdict_is.1
some_answer bounds program script s verdicts.Recycled names judged =
    some_long bounds program script s judged.runs judged.are names judged.verdict_is.0 judged.verdict_is.1
some_answer bounds program script s verdicts.Trace names judged =
    some_long bounds program script s judged.runs judged.are names judged.verdict_is.0 judged.verdict_is.1
some_answer bounds program script s verdicts.Yes names judged =
    some_long bounds program script s judged.runs judged.are names judged.verdict_is.0 judged.verdict_is.1
