-- The runs of which an audit speaks.
use Rattle.std.proofs.Common.{◌≡◌, ℕ, zero, suc, ◌+◌, List, [], ◌∷◌, length, map, Some, refl, ap, subst, ◌∙◌, arith}
use Rattle.std.specs.Prelude.{slice_get}
use Rattle.std.proofs.lemmas.Option.{same_Some}
use Rattle.xray_image.specs.Program.{Program}
use Rattle.machine_step.specs.declared.end.End.{End}
use Rattle.machine_step.specs.declared.limits.Limits.{Limits}
use Rattle.machine_step.specs.PlainStep.{Passing, PlainRun, State}
use Rattle.traced_run.specs.Runs.{ThreadRun}
use Rattle.trace_flush.specs.Audit.{ThreadAudit}
use Rattle.audit_check.specs.Rows.{AreRunsOf}
use Rattle.audit_check.specs.Statements.{AuditStatement}

module _ (program : Program) (limits : Limits)
    (ends : (thread : ℕ) → (passed : List Passing) × (end : End) × (last : State) × PlainRun program limits thread passed end last) where
  abbrev run_of : ℕ → ThreadAudit → ThreadRun
  run_of thread said =
      let e = ends thread in record { passed = e.0; end = e.1; last = e.2; marks = said.marks; lost = said.first }

  pub runs_from : ℕ → List ThreadAudit → List ThreadRun
  runs_from thread [] = []
  runs_from thread (said ∷ all) = run_of thread said ∷ runs_from (thread + 1) all

  as_many : (thread : ℕ) (all : List ThreadAudit) → length (runs_from thread all) ≡ length all
  unfolding runs_from
  as_many thread [] = refl
  as_many thread (said ∷ all) = ap suc (as_many (thread + 1) all)

  plain : (thread : ℕ) (all : List ThreadAudit) (i : ℕ) (run : ThreadRun) → slice_get (runs_from thread all) i ≡ Some run
      → PlainRun program limits (thread + i) run.passed run.end run.last
  unfolding runs_from
  plain thread [] i run at = absurd cc
  plain thread (said ∷ all) zero run at =
      let here : thread ≡ thread + 0 = omega arith in
      subst (λ (r : ThreadRun). PlainRun program limits (thread + 0) r.passed r.end r.last) (same_Some (run_of thread said) run at)
      (subst (λ n. PlainRun program limits n (run_of thread said).passed (run_of thread said).end (run_of thread said).last) here (ends thread).3)
  plain thread (said ∷ all) (suc i) run at =
      let number : thread + 1 + i ≡ thread + suc i = omega arith in
      subst (λ n. PlainRun program limits n run.passed run.end run.last) number (plain (thread + 1) all i run at)

  marks_are : (thread : ℕ) (all : List ThreadAudit) → map (λ run. run.marks) (runs_from thread all) ≡ map (λ said. said.marks) all
  unfolding runs_from
  marks_are thread [] = refl
  marks_are thread (said ∷ all) = ap (λ l. said.marks ∷ l) (marks_are (thread + 1) all)

  lost_are : (thread : ℕ) (all : List ThreadAudit) → map (λ run. run.lost) (runs_from thread all) ≡ map (λ said. said.first) all
  unfolding runs_from
  lost_are thread [] = refl
  lost_are thread (said ∷ all) = ap (λ l. said.first ∷ l) (lost_are (thread + 1) all)

pub some_runs : (program : Program) (statement : AuditStatement) → length statement.threads ≡ statement.setup.threads
    → ((thread : ℕ) → (passed : List Passing) × (end : End) × (last : State) × PlainRun program statement.setup.limits thread passed end last)
    → (runs : List ThreadRun) × AreRunsOf program statement runs
some_runs program statement count ends = (
  runs_from program statement.setup.limits ends 1 statement.threads,
  record {
    run = record {
      count = as_many program statement.setup.limits ends 1 statement.threads ∙ count;
      plain = λ i run at.
          let number : 1 + i ≡ i + 1 = omega arith in
          subst (λ n. PlainRun program statement.setup.limits n run.passed run.end run.last) number
          (plain program statement.setup.limits ends 1 statement.threads i run at);
    };
    marks = marks_are program statement.setup.limits ends 1 statement.threads;
    lost = lost_are program statement.setup.limits ends 1 statement.threads;
  },
)
