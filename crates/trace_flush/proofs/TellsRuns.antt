-- The audit of a run determines the run.
use Rattle.std.proofs.Common.{◌≡◌, ◌+◌, ℕ, zero, suc, List, [], ◌∷◌, Some, refl, sym, ap, subst, arith, map}
use Rattle.std.specs.Prelude.{slice_get}
use Rattle.std.specs.List.{enumerate_from}
use Rattle.xray_image.specs.Program.{IsAccepted, Program}
use Rattle.handler_word.specs.declared.mark.Mark.{Mark}
use Rattle.machine_step.specs.declared.end.End.{End}
use Rattle.machine_step.specs.declared.limits.Limits.{Limits}
use Rattle.machine_step.specs.declared.setup.Setup.{Setup}
use Rattle.machine_step.specs.PlainStep.{Passing, PlainRun, State}
use Rattle.traced_run.specs.Losses.{recycled_of}
use Rattle.traced_run.specs.Runs.{IsRun, ThreadRun}
use Rattle.trace_flush.specs.Audit.{ThreadAudit}
use Rattle.trace_flush.specs.Flush.{trace_bytes}
use Rattle.trace_flush.specs.Lines.{audit_of, audit_of_run, audits_of}
use Rattle.trace_flush.specs.Telling.{HasRunNumbers}
use Rattle.trace_flush.proofs.TellsAll.{audit_tells_setup, audit_tells_threads}

-- the law that a thread reaches one end
abbrev pub HasOneEnd : Type 0
HasOneEnd =
    (bytes : List ℕ) (program : Program) (limits : Limits) (thread : ℕ) (passed passed' : List Passing) (end end' : End) (last last' : State)
    → IsAccepted bytes program → PlainRun program limits thread passed end last → PlainRun program limits thread passed' end' last'
    → (passed ≡ passed') × (end ≡ end') × (last ≡ last')

-- a run by its parts
run_with : List Passing → End → State → List Mark → ℕ → ThreadRun
run_with passed end last marks lost = record { passed = passed; end = end; last = last; marks = marks; lost = lost }

is_run_with : (run : ThreadRun) → run ≡ run_with run.passed run.end run.last run.marks run.lost
unfolding run_with
is_run_with run = refl

-- the runs of threads from a number on go as their plain runs do
abbrev ArePlain : Program → Limits → ℕ → List ThreadRun → Type 0
ArePlain program limits k runs = (i : ℕ) (run : ThreadRun) → slice_get runs i ≡ Some run → PlainRun program limits (k + i) run.passed run.end run.last

later_plain : (program : Program) (limits : Limits) (k : ℕ) (run : ThreadRun) (runs : List ThreadRun) → ArePlain program limits k (run ∷ runs)
    → ArePlain program limits (k + 1) runs
later_plain program limits k run runs plain i r found =
    let there : k + suc i ≡ k + 1 + i = omega arith in
    subst (λ (n : ℕ). PlainRun program limits n r.passed r.end r.last) there (plain (suc i) r found)

-- what is said of two runs is the same, and both are of one image: they are the same
same_run : HasOneEnd → (bytes : List ℕ) (program : Program) (limits : Limits) (setup : Setup) (number : ℕ) (run other : ThreadRun) → IsAccepted bytes program
    → PlainRun program limits number run.passed run.end run.last → PlainRun program limits number other.passed other.end other.last
    → audit_of setup (number, run) ≡ audit_of setup (number, other) → run ≡ other
same_run one bytes program limits setup number run other accepted plain plain' same =
    let marks : run.marks ≡ other.marks = ap (λ (said : ThreadAudit). said.marks) same in
    let lost : run.lost ≡ other.lost = ap (λ (said : ThreadAudit). said.first) same in
    let ends = one bytes program limits number run.passed other.passed run.end other.end run.last other.last accepted plain plain' in
    let passed = ends.0 in
    let end = ends.1 in
    let last = ends.2 in
    cc (is_run_with run, is_run_with other)

first_alike : (a b : ThreadAudit) (as' bs : List ThreadAudit) → a ∷ as' ≡ b ∷ bs → a ≡ b
first_alike a b as' bs e = cc

rest_alike : (a b : ThreadAudit) (as' bs : List ThreadAudit) → a ∷ as' ≡ b ∷ bs → as' ≡ bs
rest_alike a b as' bs e = cc

same_runs : HasOneEnd → (bytes : List ℕ) (program : Program) (limits : Limits) (setup : Setup) (k : ℕ) (runs others : List ThreadRun) → IsAccepted bytes program
    → ArePlain program limits k runs → ArePlain program limits k others
    → map (audit_of setup) (enumerate_from k runs) ≡ map (audit_of setup) (enumerate_from k others) → runs ≡ others
same_runs one bytes program limits setup k [] [] accepted plain plain' same = refl
same_runs one bytes program limits setup k [] (other ∷ others) accepted plain plain' same = absurd cc
same_runs one bytes program limits setup k (run ∷ runs) [] accepted plain plain' same = absurd cc
same_runs one bytes program limits setup k (run ∷ runs) (other ∷ others) accepted plain plain' same =
    let here : k + zero ≡ k = omega arith in
    let at : (r : ThreadRun) (rs : List ThreadRun) → ArePlain program limits k (r ∷ rs) → PlainRun program limits k r.passed r.end r.last =
    (λ r rs p. subst (λ (n : ℕ). PlainRun program limits n r.passed r.end r.last) here (p zero r refl)) in
    let first : run ≡ other =
    same_run one bytes program limits setup k run other accepted (at run runs plain) (at other others plain') (first_alike _ _ _ _ same) in
    let rest : runs ≡ others =
    same_runs one bytes program limits setup (k + 1) runs others accepted (later_plain program limits k run runs plain)
    (later_plain program limits k other others plain') (rest_alike _ _ _ _ same) in
    cc

of_run : (program : Program) (setup : Setup) (runs : List ThreadRun) → IsRun program setup runs → ArePlain program setup.limits 1 runs
of_run program setup runs is i run found =
    let flipped : i + 1 ≡ 1 + i = omega arith in
    subst (λ (n : ℕ). PlainRun program setup.limits n run.passed run.end run.last) flipped (is.plain i run found)

-- of one setup
of_one_setup : HasOneEnd → (bytes : List ℕ) (program : Program) (setup : Setup) (runs others : List ThreadRun) → IsAccepted bytes program
    → IsRun program setup runs → IsRun program setup others → HasRunNumbers setup runs → HasRunNumbers setup others
    → audit_of_run setup runs ≡ audit_of_run setup others → runs ≡ others
of_one_setup one bytes program setup runs others accepted is is' small small' same =
    same_runs one bytes program setup.limits setup 1 runs others accepted (of_run program setup runs is) (of_run program setup others is')
    (audit_tells_threads setup setup (audits_of setup runs) (audits_of setup others) (recycled_of runs) (recycled_of others)
    small.threads_have small'.threads_have same)

pub one_run : HasOneEnd → (bytes : List ℕ) (program : Program) (setup other : Setup) (runs others : List ThreadRun) → IsAccepted bytes program
    → IsRun program setup runs → IsRun program other others → HasRunNumbers setup runs → HasRunNumbers other others
    → audit_of_run setup runs ≡ audit_of_run other others
    → (setup ≡ other) × (runs ≡ others) × (trace_bytes setup runs ≡ trace_bytes other others)
one_run one bytes program setup other runs others accepted is is' small small' same =
    let alike : setup ≡ other =
    audit_tells_setup setup other (audits_of setup runs) (audits_of other others) (recycled_of runs) (recycled_of others)
    small.setup_has small'.setup_has same in
    let all : runs ≡ others =
    of_one_setup one bytes program setup runs others accepted is
    (subst (λ (s : Setup). IsRun program s others) (sym alike) is') small
    (subst (λ (s : Setup). HasRunNumbers s others) (sym alike) small')
    (subst (λ (s : Setup). audit_of_run setup runs ≡ audit_of_run s others) (sym alike) same) in
    (alike, all, cc)
