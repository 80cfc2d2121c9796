-- The audit of a run.
use Rattle.std.proofs.Common.{◌≡◌, ℕ, zero, suc, ◌+◌, List, [], ◌∷◌, ◌++◌, Option, Some, refl, subst, sym, ap, ◌∙◌, arith, length, map, take}
use Rattle.std.specs.Prelude.{slice_get}
use Rattle.std.specs.List.{enumerate_from}
use Rattle.std.proofs.lemmas.List.Sums.{sum_by-cons}
use Rattle.machine_step.specs.declared.setup.Setup.{Setup}
use Rattle.machine_step.specs.Traced.{Traced}
use Rattle.fdr_buffer.specs.Filled.{Filled}
use Rattle.traced_run.specs.Kept.{segment_count}
use Rattle.traced_run.specs.Left.{HasRun, Leaves}
use Rattle.traced_run.specs.Losses.{recycled_of}
use Rattle.traced_run.specs.Runs.{ThreadRun}
use Rattle.trace_flush.specs.declared.line.AuditLine.{AuditLine}
use Rattle.trace_flush.specs.Audit.{ThreadAudit, recycled_by, thread_audit, thread_audits}
use Rattle.trace_flush.specs.Lines.{audit_of, audits_of, audit_line_of, audit_lines_of}

one_account : (setup : Setup) (number : ℕ) (run : ThreadRun) (t : Traced) → HasRun number run t
    → thread_audit (audit_line_of t (segment_count setup.size run) run.lost) t.marks ≡ audit_of setup (number, run)
one_account setup number run t has = rw (has.thread, has.ends.done, has.marks) refl

all_accounts : (setup : Setup) (k : ℕ) (runs : List ThreadRun) (cpus : List Traced) → length cpus ≡ length runs
    → ((i : ℕ) (run : ThreadRun) (t : Traced) → slice_get runs i ≡ Some run → slice_get cpus i ≡ Some t → HasRun (k + i) run t)
    → thread_audits (audit_lines_of cpus (map (segment_count setup.size) runs) (map (λ run. run.lost) runs)) cpus ≡ map (audit_of setup) (enumerate_from k runs)
all_accounts setup k [] [] same has = refl
all_accounts setup k [] (t ∷ cpus) same has = absurd (omega (arith, same))
all_accounts setup k (run ∷ runs) [] same has = absurd (omega (arith, same))
all_accounts setup k (run ∷ runs) (t ∷ cpus) same has =
    let here : k + zero ≡ k = omega arith in
    let after_it = thread_audits (audit_lines_of cpus (map (segment_count setup.size) runs) (map (λ r. r.lost) runs)) cpus in
    ap (λ (a : ThreadAudit). a ∷ after_it) (one_account setup k run t (subst (λ (n : ℕ). HasRun n run t) here (has zero run t refl refl)))
    ∙ ap (λ (rest : List ThreadAudit). audit_of setup (k, run) ∷ rest)
    (all_accounts setup (k + 1) runs cpus (omega (arith, same))
    (λ i r u found there. subst (λ (n : ℕ). HasRun n r u) (following i) (has (suc i) r u found there)))
  where
    following : (i : ℕ) → k + suc i ≡ k + 1 + i
    following i = omega arith

-- so many segments are lost
all_lost : (size : ℕ) (runs : List ThreadRun) (cpus : List Traced) → length cpus ≡ length runs
    → recycled_by (audit_lines_of cpus (map (segment_count size) runs) (map (λ run. run.lost) runs)) ≡ recycled_of runs
all_lost size [] [] same = refl
all_lost size [] (t ∷ cpus) same = absurd (omega (arith, same))
all_lost size (run ∷ runs) [] same = absurd (omega (arith, same))
all_lost size (run ∷ runs) (t ∷ cpus) same =
    let rest = audit_lines_of cpus (map (segment_count size) runs) (map (λ r. r.lost) runs) in
    sum_by-cons (λ (line : AuditLine). line.first) (audit_line_of t (segment_count size run) run.lost) rest
    ∙ ap (λ (n : ℕ). run.lost + n) (all_lost size runs cpus (omega (arith, same)))
    ∙ sym (sum_by-cons (λ (r : ThreadRun). r.lost) run runs)

-- the segments and the losses of what a run leaves are those of the run
numbers_alike : {X : Type 0} (f : List ℕ → List ℕ → X) (setup : Setup) (runs : List ThreadRun) (cpus : List Traced) (segments first : List ℕ)
    (buffers : List Filled) → Leaves setup runs cpus segments first buffers
    → f segments first ≡ f (map (segment_count setup.size) runs) (map (λ run. run.lost) runs)
numbers_alike f setup runs cpus segments first buffers left =
    ap (λ (ns : List ℕ). f ns first) left.segments_are ∙ ap (f (map (segment_count setup.size) runs)) left.first_are

pub run_is_audited : (setup : Setup) (runs : List ThreadRun) (cpus : List Traced) (segments first : List ℕ) (buffers : List Filled)
    → Leaves setup runs cpus segments first buffers → thread_audits (audit_lines_of cpus segments first) cpus ≡ audits_of setup runs
run_is_audited setup runs cpus segments first buffers left =
    numbers_alike (λ ns ms. thread_audits (audit_lines_of cpus ns ms) cpus) setup runs cpus segments first buffers left
    ∙ all_accounts setup 1 runs cpus left.count
    (λ i run t found there. let flipped : i + 1 ≡ 1 + i = omega arith in subst (λ (n : ℕ). HasRun n run t) flipped (left.cpus_are i run t found there))

pub run_recycles : (setup : Setup) (runs : List ThreadRun) (cpus : List Traced) (segments first : List ℕ) (buffers : List Filled)
    → Leaves setup runs cpus segments first buffers → recycled_by (audit_lines_of cpus segments first) ≡ recycled_of runs
run_recycles setup runs cpus segments first buffers left =
    numbers_alike (λ ns ms. recycled_by (audit_lines_of cpus ns ms)) setup runs cpus segments first buffers left
    ∙ all_lost setup.size runs cpus left.count

-- ---- lines, one after the other

some_thread : (t u : Traced) → ◌≡◌ {A = Option Traced} (Some t) (Some u) → t ≡ u
some_thread t u e = cc

some_number : (n m : ℕ) → ◌≡◌ {A = Option ℕ} (Some n) (Some m) → n ≡ m
some_number n m e = cc

pub lines_more : (cpus : List Traced) (segments first : List ℕ) (i : ℕ) (t : Traced) (n m : ℕ) → slice_get cpus i ≡ Some t
    → slice_get segments i ≡ Some n → slice_get first i ≡ Some m
    → audit_lines_of (take (suc i) cpus) (take (suc i) segments) (take (suc i) first)
    ≡ audit_lines_of (take i cpus) (take i segments) (take i first) ++ audit_line_of t n m ∷ []
lines_more [] segments first zero t n m at_t at_n at_m = absurd cc
lines_more [] segments first (suc i) t n m at_t at_n at_m = absurd cc
lines_more (u ∷ cpus) [] first zero t n m at_t at_n at_m = absurd cc
lines_more (u ∷ cpus) [] first (suc i) t n m at_t at_n at_m = absurd cc
lines_more (u ∷ cpus) (k ∷ segments) [] zero t n m at_t at_n at_m = absurd cc
lines_more (u ∷ cpus) (k ∷ segments) [] (suc i) t n m at_t at_n at_m = absurd cc
lines_more (u ∷ cpus) (k ∷ segments) (j ∷ first) zero t n m at_t at_n at_m =
    ap (λ (x : Traced). audit_line_of x k j ∷ []) (some_thread u t at_t)
    ∙ ap (λ (x : ℕ). audit_line_of t x j ∷ []) (some_number k n at_n) ∙ ap (λ (x : ℕ). audit_line_of t n x ∷ []) (some_number j m at_m)
lines_more (u ∷ cpus) (k ∷ segments) (j ∷ first) (suc i) t n m at_t at_n at_m =
    ap (λ (lines : List AuditLine). audit_line_of u k j ∷ lines) (lines_more cpus segments first i t n m at_t at_n at_m)
