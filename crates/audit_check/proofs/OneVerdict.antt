-- There is one verdict.
use Rattle.std.proofs.Common.{◌≡◌, ℕ, suc, ◌+◌, List, [], ◌∷◌, Some, refl, sym, ap, subst, ◌∙◌, arith, inl, inr}
use Rattle.std.specs.Prelude.{map, slice_get}
use Rattle.std.proofs.lemmas.Bool.{cases_order}
use Rattle.xray_image.specs.Program.{Program}
use Rattle.handler_word.specs.declared.mark.Mark.{Mark}
use Rattle.patch_script.specs.declared.command.PatchCommand.{PatchCommand}
use Rattle.machine_step.specs.declared.end.End.{End}
use Rattle.machine_step.specs.declared.limits.Limits.{Limits}
use Rattle.machine_step.specs.PlainStep.{Passing, PlainRun, State}
use Rattle.traced_run.specs.Runs.{ThreadRun}
use Rattle.audit_check.specs.declared.verdict.Verdict.{Verdict}
use Rattle.audit_check.specs.declared.verdict.Verdict.TheVariants.{Yes, Ends, Marks, Counts, Recycled, Trace}
use Rattle.audit_check.specs.Rows.{AreRunsOf}
use Rattle.audit_check.specs.Statements.{AuditStatement}
use Rattle.audit_check.specs.Verdicts.{AllAgree, FirstToDiffer, IsJudged, IsVerdict}

-- ---- one thread

module _ (threads : ℕ) (Row : ℕ → Type 0) where
  pub first_same : (t u : ℕ) → FirstToDiffer threads Row t → FirstToDiffer threads Row u → t ≡ u
  first_same t u a b = elim (cases_order t u) [
    | inl same ↦ same
    | inr (inl less) ↦ absurd (a.differs (b.earlier t a.some less))
    | inr (inr more) ↦ absurd (b.differs (a.earlier u b.some more))
  ]

  pub not_first : (t : ℕ) → AllAgree threads Row → FirstToDiffer threads Row t → ⊥
  not_first t all first = first.differs (all t first.some first.within)

-- ---- one verdict on some runs

pub verdicts_same : (program : Program) (script : List PatchCommand) (s : AuditStatement) (trace : List ℕ) (runs : List ThreadRun) (v w : Verdict)
    → IsVerdict program script s trace runs v → IsVerdict program script s trace runs w → v ≡ w
verdicts_same program script s trace runs (Ends t) (Ends u) a b = ap Ends (first_same _ _ t u a b)
verdicts_same program script s trace runs (Ends t) (Marks u) a b = absurd (not_first _ _ t b.0 a)
verdicts_same program script s trace runs (Ends t) (Counts u) a b = absurd (not_first _ _ t b.0 a)
verdicts_same program script s trace runs (Ends t) Recycled a b = absurd (not_first _ _ t b.0 a)
verdicts_same program script s trace runs (Ends t) Trace a b = absurd (not_first _ _ t b.0 a)
verdicts_same program script s trace runs (Ends t) Yes a b = absurd (not_first _ _ t b.0 a)
verdicts_same program script s trace runs (Marks t) (Ends u) a b = absurd (not_first _ _ u a.0 b)
verdicts_same program script s trace runs (Marks t) (Marks u) a b = ap Marks (first_same _ _ t u a.1 b.1)
verdicts_same program script s trace runs (Marks t) (Counts u) a b = absurd (not_first _ _ t b.1 a.1)
verdicts_same program script s trace runs (Marks t) Recycled a b = absurd (not_first _ _ t b.1 a.1)
verdicts_same program script s trace runs (Marks t) Trace a b = absurd (not_first _ _ t b.1 a.1)
verdicts_same program script s trace runs (Marks t) Yes a b = absurd (not_first _ _ t b.1 a.1)
verdicts_same program script s trace runs (Counts t) (Ends u) a b = absurd (not_first _ _ u a.0 b)
verdicts_same program script s trace runs (Counts t) (Marks u) a b = absurd (not_first _ _ u a.1 b.1)
verdicts_same program script s trace runs (Counts t) (Counts u) a b = ap Counts (first_same _ _ t u a.2 b.2)
verdicts_same program script s trace runs (Counts t) Recycled a b = absurd (not_first _ _ t b.2 a.2)
verdicts_same program script s trace runs (Counts t) Trace a b = absurd (not_first _ _ t b.2 a.2)
verdicts_same program script s trace runs (Counts t) Yes a b = absurd (not_first _ _ t b.2 a.2)
verdicts_same program script s trace runs Recycled (Ends u) a b = absurd (not_first _ _ u a.0 b)
verdicts_same program script s trace runs Recycled (Marks u) a b = absurd (not_first _ _ u a.1 b.1)
verdicts_same program script s trace runs Recycled (Counts u) a b = absurd (not_first _ _ u a.2 b.2)
verdicts_same program script s trace runs Recycled Recycled a b = refl
verdicts_same program script s trace runs Recycled Trace a b = absurd (a.3 b.3)
verdicts_same program script s trace runs Recycled Yes a b = absurd (a.3 b.3)
verdicts_same program script s trace runs Trace (Ends u) a b = absurd (not_first _ _ u a.0 b)
verdicts_same program script s trace runs Trace (Marks u) a b = absurd (not_first _ _ u a.1 b.1)
verdicts_same program script s trace runs Trace (Counts u) a b = absurd (not_first _ _ u a.2 b.2)
verdicts_same program script s trace runs Trace Recycled a b = absurd (b.3 a.3)
verdicts_same program script s trace runs Trace Trace a b = refl
verdicts_same program script s trace runs Trace Yes a b = absurd (a.4 b.4)
verdicts_same program script s trace runs Yes (Ends u) a b = absurd (not_first _ _ u a.0 b)
verdicts_same program script s trace runs Yes (Marks u) a b = absurd (not_first _ _ u a.1 b.1)
verdicts_same program script s trace runs Yes (Counts u) a b = absurd (not_first _ _ u a.2 b.2)
verdicts_same program script s trace runs Yes Recycled a b = absurd (b.3 a.3)
verdicts_same program script s trace runs Yes Trace a b = absurd (b.4 a.4)
verdicts_same program script s trace runs Yes Yes a b = refl

-- ---- one list of runs

abbrev pub OneEnd : Program → Type 0
OneEnd program =
    (limits : Limits) (thread : ℕ) (passed passed' : List Passing) (end end' : End) (last last' : State)
    → PlainRun program limits thread passed end last → PlainRun program limits thread passed' end' last'
    → (passed ≡ passed') × (end ≡ end') × (last ≡ last')

-- the runs from a number on go as plain runs
abbrev ArePlain : Program → Limits → ℕ → List ThreadRun → Type 0
ArePlain program limits next runs =
    (i : ℕ) (run : ThreadRun) → slice_get runs i ≡ Some run → PlainRun program limits (next + i) run.passed run.end run.last

abbrev of_parts : List Passing → End → State → List Mark → ℕ → ThreadRun
of_parts passed end last marks lost = record { passed = passed; end = end; last = last; marks = marks; lost = lost }

runs_from : (program : Program) → OneEnd program → (limits : Limits) (next : ℕ) (runs others : List ThreadRun)
    → ArePlain program limits next runs → ArePlain program limits next others
    → map (λ (r : ThreadRun). r.marks) runs ≡ map (λ (r : ThreadRun). r.marks) others
    → map (λ (r : ThreadRun). r.lost) runs ≡ map (λ (r : ThreadRun). r.lost) others → runs ≡ others
runs_from program one limits next [] [] plain plain' marks lost = refl
runs_from program one limits next [] (other ∷ others) plain plain' marks lost = absurd cc
runs_from program one limits next (run ∷ runs) [] plain plain' marks lost = absurd cc
runs_from program one limits next (run ∷ runs) (other ∷ others) plain plain' marks lost =
    let same = one limits (next + 0) run.passed other.passed run.end other.end run.last other.last (plain 0 run refl) (plain' 0 other refl) in
    let passed = same.0 in
    let end = same.1 in
    let last = same.2 in
    let own_marks : run.marks ≡ other.marks = cc in
    let own_lost : run.lost ≡ other.lost = cc in
    let more_marks : map (λ (r : ThreadRun). r.marks) runs ≡ map (λ (r : ThreadRun). r.marks) others = cc in
    let more_lost : map (λ (r : ThreadRun). r.lost) runs ≡ map (λ (r : ThreadRun). r.lost) others = cc in
    let later = runs_from program one limits (next + 1) runs others
    (λ i r is. subst (λ n. PlainRun program limits n r.passed r.end r.last) (omega arith) (plain (suc i) r is))
    (λ i r is. subst (λ n. PlainRun program limits n r.passed r.end r.last) (omega arith) (plain' (suc i) r is)) more_marks more_lost in
    let first : run ≡ other = whole run other passed end last own_marks own_lost in
    ap (λ (r : ThreadRun). r ∷ runs) first ∙ ap (λ (rs : List ThreadRun). other ∷ rs) later
  where
    whole : (r s : ThreadRun) → r.passed ≡ s.passed → r.end ≡ s.end → r.last ≡ s.last → r.marks ≡ s.marks → r.lost ≡ s.lost → r ≡ s
    whole r s p e l m n =
        ap (λ (x : List Passing). of_parts x r.end r.last r.marks r.lost) p ∙ (ap (λ (x : End). of_parts s.passed x r.last r.marks r.lost) e
        ∙ (ap (λ (x : State). of_parts s.passed s.end x r.marks r.lost) l ∙ (ap (λ (x : List Mark). of_parts s.passed s.end s.last x r.lost) m
        ∙ ap (of_parts s.passed s.end s.last s.marks) n)))

plain_from : (program : Program) (limits : Limits) (runs : List ThreadRun) (threads : ℕ)
    → ((i : ℕ) (run : ThreadRun) → slice_get runs i ≡ Some run → PlainRun program limits (i + 1) run.passed run.end run.last)
    → ArePlain program limits 1 runs
plain_from program limits runs threads plain = λ i r is.
    subst (λ n. PlainRun program limits n r.passed r.end r.last) (omega arith) (plain i r is)

pub runs_same : (program : Program) → OneEnd program → (s : AuditStatement) (runs others : List ThreadRun)
    → AreRunsOf program s runs → AreRunsOf program s others → runs ≡ others
runs_same program one s runs others a b =
    runs_from program one s.setup.limits 1 runs others (plain_from program s.setup.limits runs s.setup.threads a.run.plain)
    (plain_from program s.setup.limits others s.setup.threads b.run.plain) (a.marks ∙ sym b.marks) (a.lost ∙ sym b.lost)

pub judged_same : (program : Program) → OneEnd program → (script : List PatchCommand) (s : AuditStatement) (trace : List ℕ) (v w : Verdict)
    → IsJudged program script s trace v → IsJudged program script s trace w → v ≡ w
judged_same program one script s trace v w a b =
    let same = runs_same program one s a.runs b.runs a.are b.are in
    verdicts_same program script s trace b.runs v w
    (subst (λ (rs : List ThreadRun). IsVerdict program script s trace rs v) same a.verdict_is) b.verdict_is
