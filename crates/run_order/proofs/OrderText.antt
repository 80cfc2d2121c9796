-- The text of an order reads as the order.
use Rattle.std.proofs.Common.{◌≡◌, ℕ, zero, suc, ◌+◌, ◌-◌, ◌≤◌, ◌∙◌, false, List, [], ◌∷◌, Some, Ok, refl, sym, ap, subst, arith, length, map}
use Rattle.std.specs.Prelude.{All, slice_get}
use Rattle.std.proofs.lemmas.List.Elements.{All-cons, All-head, All-nil, All-tail}
use Rattle.std.proofs.lemmas.Option.{slice_get_within}
use Rattle.machine_step.specs.Traced.{sleds_passed}
use Rattle.patch_script.specs.Plans.{Plan, plan_of}
use Rattle.patch_script.specs.Refusals.{commands_of}
use Rattle.step_sim.specs.declared.turns.Turns.{Turns}
use Rattle.step_sim.specs.Schedules.{AreTurnsOf}
use Rattle.step_sim.specs.WrittenSchedules.{HasWords}
use Rattle.trace_flush.specs.Audit.{ThreadAudit}
use Rattle.traced_run.specs.Runs.{ThreadRun}
use Rattle.xray_image.specs.Program.{IsAccepted, Program}
use Rattle.audit_check.specs.Statements.{HasCounts, MayState, AuditStatement}
use Rattle.run_order.specs.Answers.{IsOrdered}
use Rattle.run_order.specs.Orders.{is_long}
use Rattle.run_order.proofs.FewLoads.{free_few}
use Rattle.run_order.proofs.FreeReading.{free_plan}
use Rattle.run_order.proofs.OrderLeavesRun.{BoundsWithin, schedule_free}
use Rattle.run_order.proofs.OrderWords.{HasFew, ordered_words}
use Rattle.run_order.proofs.ScriptSizes.{total_few}
use Rattle.run_order.proofs.TurnsOf.{ordered_turns}

-- the marks of each thread are no more than an audit may have
marks_few : (runs : List ThreadRun) (said : List ThreadAudit) → map (λ run. run.marks) runs ≡ map (λ s. s.marks) said → All HasCounts said
    → (i : ℕ) (run : ThreadRun) → slice_get runs i ≡ Some run → length run.marks ≤ 1048576
marks_few [] said e all i run found = absurd (omega (arith, slice_get_within [] i run found))
marks_few (one ∷ runs) [] e all i run found = absurd cc
marks_few (one ∷ runs) (own ∷ said) e all zero run found =
    let same : one ≡ run = cc in
    let marks : one.marks ≡ own.marks = cc in
    let few = All-head HasCounts own said all in
    omega (arith, ap (λ (r : ThreadRun). length r.marks) same, ap length marks, few.marks)
marks_few (one ∷ runs) (own ∷ said) e all (suc i) run found =
    let rest : map (λ (r : ThreadRun). r.marks) runs ≡ map (λ (s : ThreadAudit). s.marks) said = cc in
    marks_few runs said rest (All-tail HasCounts own said all) i run found

-- so are the places of all threads
places_few : (runs : List ThreadRun) (places : List (List ℕ)) → length places ≡ length runs
    → ((i : ℕ) (run : ThreadRun) (own : List ℕ) → slice_get runs i ≡ Some run → slice_get places i ≡ Some own → HasFew own) → All HasFew places
places_few [] [] count each = All-nil HasFew
places_few [] (own ∷ places) count each = absurd (omega (arith, count))
places_few (run ∷ runs) [] count each = absurd (omega (arith, count))
places_few (run ∷ runs) (own ∷ places) count each =
    All-cons HasFew own places (each 0 run own refl refl)
    (places_few runs places (omega (arith, count)) (λ i r o found there. each (suc i) r o found there))

-- what a schedule has to be, so that it reads as it is written
pub record MayBeWritten (threads : ℕ) (schedule : List Turns) : Type 0 where
  pub turns : All (AreTurnsOf threads) schedule
  pub words : All HasWords schedule
  pub short : is_long schedule ≡ false

pub order_written : BoundsWithin → (bytes : List ℕ) (program : Program) (text : List ℕ) (plan : Plan) (statement : AuditStatement) (schedule : List Turns)
    → IsAccepted bytes program → MayState statement → plan_of program statement.setup.threads text ≡ Ok plan
    → IsOrdered program (commands_of plan.lines) statement (Ok schedule) → MayBeWritten statement.setup.threads schedule
order_written bounds bytes program text plan statement schedule accepted may e ordered =
    let runs = ordered.runs in
    let order = ordered.answer_is.2 in
    let script = commands_of plan.lines in
    let threads : ℕ = statement.setup.threads in
    let places = order.places in
    let made =
    schedule_free program statement.setup threads script runs (bounds program threads script) ordered.are.run
    (free_plan program threads text plan e).releases schedule order in
    let few : All HasFew places =
    places_few runs places order.are.count (λ i run own found there.
    let back : i + 1 - 1 ≡ i = omega arith in
    let is = order.are.each i run found ∙ ap (slice_get places) back ∙ there in
    omega (
      arith,
      free_few program threads script (i + 1) (sleds_passed run.passed) run.marks own is,
      marks_few runs statement.threads ordered.are.marks may.counts i run found,
    )) in
    record {
      turns =
          subst (λ (s : List Turns). All (AreTurnsOf threads) s) (sym made)
          (ordered_turns threads _ _ places (omega (arith, order.are.count, ordered.are.run.count)));
      words =
          subst (λ (s : List Turns). All HasWords s) (sym made)
          (ordered_words _ _ places (total_few bytes program threads text plan accepted e) few);
      short = ordered.answer_is.3;
    }
