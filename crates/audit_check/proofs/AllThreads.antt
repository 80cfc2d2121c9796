-- The verdict on all threads.
use Rattle.std.proofs.Common.{◌≡◌, ℕ, ◌+◌, ◌-◌, ◌<◌, ◌≤◌, Bool, List, [], ◌∷◌, length, map, Some, refl, sym, ap, subst, ◌∙◌, arith, inl, inr}
use Rattle.std.specs.Prelude.{◌↔◌, IsTrue, get_or, option_map, slice_get, sum_by}
use Rattle.std.proofs.lemmas.List.{length-map}
use Rattle.std.proofs.lemmas.List.Sums.{sum_by-cons}
use Rattle.std.proofs.lemmas.Option.{slice_get-map, slice_get_cases, slice_get_read, slice_get_within}
use Rattle.xray_image.specs.Program.{Program}
use Rattle.patch_script.specs.declared.command.PatchCommand.{PatchCommand}
use Rattle.machine_step.specs.PlainStep.{PlainRun}
use Rattle.traced_run.specs.Runs.{ThreadRun}
use Rattle.trace_flush.specs.Audit.{ThreadAudit}
use Rattle.trace_flush.specs.Flush.{trace_bytes}
use Rattle.audit_check.specs.declared.audit.Audit.{Audit}
use Rattle.audit_check.specs.declared.audit.AuditEntry.{AuditEntry}
use Rattle.audit_check.specs.declared.blocks.TraceLeft.{TraceLeft}
use Rattle.audit_check.specs.declared.judging.Agreement.{Agreement}
use Rattle.audit_check.specs.declared.judging.FirstThreads.{FirstThreads}
use Rattle.audit_check.specs.private.Blocks.{HasCompared}
use Rattle.audit_check.specs.private.Walks.{IsFound, first_of, verdict_by}
use Rattle.audit_check.specs.Rows.{AreRunsOf, RecycledAgrees}
use Rattle.audit_check.specs.Statements.{NamesThreads, AuditStatement, said_by, statement_of}
use Rattle.audit_check.specs.Verdicts.{IsVerdict}
use Rattle.audit_check.proofs.SameRows.{Judged, all_bytes, first_bytes, judged_next, same_at, way_of}
use Rattle.audit_check.proofs.FirstDifferences.{verdict_is}

-- ---- an entry of an audit

module _ (audit : Audit) (names : NamesThreads (statement_of audit)) (i : ℕ) (entry : AuditEntry) (at : slice_get audit.entries.items i ≡ Some entry) where
  pub said_at : slice_get (statement_of audit).threads i ≡ Some (said_by entry)
  said_at = slice_get-map said_by audit.entries.items i ∙ ap (option_map said_by) at

  pub entry_number : entry.thread ≡ i + 1
  entry_number = names.numbered i (said_by entry) said_at

  pub entry_within : i + 1 ≤ audit.setup.threads
  entry_within =
      let low = slice_get_within (statement_of audit).threads i (said_by entry) said_at in
      let count = names.count in omega (arith, low, count)

  pub entry_named : (1 ≤ entry.thread) × (entry.thread ≤ audit.setup.threads)
  entry_named =
      let number = entry_number in
      let within = entry_within in
      (omega (arith, number), omega (arith, number, within))

-- an entry that was read from all of them
pub entry_here : (audit : Audit) (entries : List AuditEntry) (i : ℕ) (entry : AuditEntry) → entries ≡ audit.entries.items → i < length entries
    → entry ≡ get_or entries i entry → slice_get audit.entries.items i ≡ Some entry
entry_here audit entries i entry all within is =
    sym (ap (λ (es : List AuditEntry). slice_get es i) all) ∙ slice_get_read entries (length entries) i entry refl within is

-- as many entries as threads
pub entry_count : (audit : Audit) → NamesThreads (statement_of audit) → length audit.entries.items ≡ audit.setup.threads
entry_count audit names = sym (length-map audit.entries.items said_by) ∙ names.count

-- ---- one more thread

-- what is found of a thread, whatever the bytes before it are
abbrev pub Finds : Program → List PatchCommand → Audit → List ℕ → AuditEntry → Agreement → TraceLeft → TraceLeft → Type 0
Finds program script audit trace entry agreement t t' =
    (before : List ℕ) (run : ThreadRun) → PlainRun program audit.setup.limits entry.thread run.passed run.end run.last → run.marks ≡ entry.marks.items
    → run.lost ≡ entry.first → IsFound (record {
      program = program;
      script = script;
      setup = audit.setup;
      thread = entry.thread;
      lost = entry.first;
      marks = entry.marks.items;
      trace = trace;
      before = before;
    }) (said_by entry) run agreement t t'

module _ (program : Program) (script : List PatchCommand) (audit : Audit) (names : NamesThreads (statement_of audit)) (trace : List ℕ) (runs : List ThreadRun)
    (are : AreRunsOf program (statement_of audit) runs) where
  abbrev statement : AuditStatement
  statement = statement_of audit

  pub run_at : (i : ℕ) → i < audit.setup.threads → (run : ThreadRun) × (slice_get runs i ≡ Some run)
  run_at i low = elim ((slice_get_cases runs i).1) [
    | inl (run, within, at, _) ↦ (run, at)
    | inr (past, none) ↦ let count = are.run.count in absurd (omega (arith, past, count, low))
  ]

  pub judged_entry : (i : ℕ) (entry : AuditEntry) (agreement : Agreement) (old new : FirstThreads) (t t' : TraceLeft)
      → slice_get audit.entries.items i ≡ Some entry → Finds program script audit trace entry agreement t t'
      → new.ends ≡ first_of old.ends entry.thread agreement.ends → new.marks ≡ first_of old.marks entry.thread agreement.marks
      → new.counts ≡ first_of old.counts entry.thread agreement.counts → Judged program script statement trace runs i old t
      → Judged program script statement trace runs (i + 1) new t'
  judged_entry i entry agreement old new t t' at finds ends marks counts before =
      let said = said_at audit names i entry at in
      let number = entry_number audit names i entry at in
      let within = entry_within audit names i entry at in
      let run = run_at i (omega (arith, within)) in
      let own_marks : run.0.marks ≡ entry.marks.items =
      same_at (λ (r : ThreadRun). r.marks) (λ (s : ThreadAudit). s.marks) runs statement.threads are.marks i run.0 (said_by entry) run.1 said in
      let own_lost : run.0.lost ≡ entry.first =
      same_at (λ (r : ThreadRun). r.lost) (λ (s : ThreadAudit). s.first) runs statement.threads are.lost i run.0 (said_by entry) run.1 said in
      let plain : PlainRun program audit.setup.limits entry.thread run.0.passed run.0.end run.0.last =
      subst (λ n. PlainRun program audit.setup.limits n run.0.passed run.0.end run.0.last) (sym number) (are.run.plain i run.0 run.1) in
      let found : IsFound (way_of program script statement trace runs i (said_by entry)) (said_by entry) run.0 agreement t t' =
      subst (λ n. IsFound (record {
        program = program;
        script = script;
        setup = audit.setup;
        thread = n;
        lost = entry.first;
        marks = entry.marks.items;
        trace = trace;
        before = first_bytes audit.setup runs i;
      }) (said_by entry) run.0 agreement t t') number (finds (first_bytes audit.setup runs i) run.0 plain own_marks own_lost) in
      judged_next program script statement trace runs i (said_by entry) run.0 agreement old new t t' said run.1 own_lost found
      (ends ∙ ap (λ n. first_of old.ends n agreement.ends) number) (marks ∙ ap (λ n. first_of old.marks n agreement.marks) number)
      (counts ∙ ap (λ n. first_of old.counts n agreement.counts) number) before

  -- ---- all threads

  pub verdict_of_all : (first : FirstThreads) (t : TraceLeft) (recycled same : Bool) → Judged program script statement trace runs audit.setup.threads first t
      → IsTrue recycled ↔ RecycledAgrees statement → ((all bytes : List ℕ) → HasCompared all bytes t → IsTrue same ↔ (all ≡ bytes))
      → IsVerdict program script statement trace runs (verdict_by first.ends first.marks first.counts recycled same)
  verdict_of_all first t recycled same judged by_recycled by_trace =
      verdict_is program script statement trace runs first.ends first.marks first.counts recycled same judged.ends judged.marks judged.counts by_recycled
      (λ ends marks. by_trace trace (trace_bytes audit.setup runs)
      (subst (λ (l : List ℕ). HasCompared trace l t) (all_bytes program script statement trace runs audit.setup.threads are.run.count)
      (judged.compared ends marks)))

-- ---- segments

sum_of_said : (f : ThreadAudit → ℕ) (entries : List AuditEntry) → sum_by f (map said_by entries) ≡ sum_by (λ (e : AuditEntry). f (said_by e)) entries
sum_of_said f [] = refl
sum_of_said f (entry ∷ entries) =
    sum_by-cons f (said_by entry) (map said_by entries)
    ∙ (ap (λ n. f (said_by entry) + n) (sum_of_said f entries) ∙ sym (sum_by-cons (λ (e : AuditEntry). f (said_by e)) entry entries))

-- as many segments are recycled as are lost, and as there were no spare buffers for
pub recycled_so : (audit : Audit) (lost queued : ℕ) → lost ≡ sum_by (λ (e : AuditEntry). e.first) audit.entries.items
    → queued ≡ sum_by (λ (e : AuditEntry). e.segments - 1) audit.entries.items
    → ((audit.recycled ≡ lost) × (audit.recycled ≡ queued - (audit.setup.max - audit.setup.threads))) ↔ RecycledAgrees (statement_of audit)
recycled_so audit lost queued lost_is queued_is =
    let sum : lost ≡ sum_by (λ (s : ThreadAudit). s.first) (map said_by audit.entries.items) =
    lost_is ∙ sym (sum_of_said (λ (s : ThreadAudit). s.first) audit.entries.items) in
    let all : queued ≡ sum_by (λ (s : ThreadAudit). s.segments - 1) (map said_by audit.entries.items) =
    queued_is ∙ sym (sum_of_said (λ (s : ThreadAudit). s.segments - 1) audit.entries.items) in
    let spare : ℕ = audit.setup.max - audit.setup.threads in (
      (λ both. record { sum = both.0 ∙ sum; queue = both.1 ∙ ap (λ n. n - spare) all }),
      (λ agrees. (agrees.sum ∙ sym sum, agrees.queue ∙ sym (ap (λ n. n - spare) all))),
    )
