-- What is written of what a run leaves.
use Rattle.std.proofs.Common.{◌≡◌, ◌<◌, ◌+◌, ◌++◌, ◌∙◌, ℕ, zero, suc, List, [], ◌∷◌, drop, length, map, Some, refl, sym, ap, arith, subst}
use Rattle.std.specs.Prelude.{IsTrue, Vec}
use Rattle.std.specs.declared.alloc.Global.{Global}
use Rattle.std.specs.List.{All, AllByRecursion, enumerate_from, flat_map, slice_get}
use Rattle.std.proofs.lemmas.List.{length-map}
use Rattle.std.proofs.lemmas.List.Concat.{flat_map-cons}
use Rattle.std.proofs.lemmas.List.Elements.{All-cons, All-from_recursion, All-nil}
use Rattle.std.proofs.lemmas.Option.{slice_get_within}
use Rattle.fdr_record.specs.declared.event.Event.{Event}
use Rattle.fdr_buffer.specs.Filled.{Filled}
use Rattle.machine_step.specs.declared.setup.Setup.{Setup}
use Rattle.machine_step.specs.Texts.{state_text}
use Rattle.machine_step.specs.Traced.{IsDone, Traced}
use Rattle.fdr_file.specs.Files.{file_bytes}
use Rattle.trace_flush.specs.Audit.{ThreadAudit, audit_text, recycled_by, thread_audits}
use Rattle.trace_flush.specs.Flush.{run_header, trace_bytes}
use Rattle.trace_flush.specs.Lines.{audits_of, audit_lines_of}
use Rattle.trace_flush.specs.declared.line.AuditLine.{AuditLine}
use Rattle.traced_run.specs.Kept.{buffer_of, kept_buffers, segment_count, segments_of, stamp_of, thread_buffers}
use Rattle.traced_run.specs.Left.{HasRun, Leaves, LeavesInAnyOrder}
use Rattle.traced_run.specs.Losses.{recycled_of}
use Rattle.traced_run.specs.Runs.{ThreadRun}
use Rattle.machine_step.specs.EndedText.{thread_text}
use Rattle.xray_program.specs.Traced.{state_texts, written_of}

-- the text of a thread that has run is its state text
thread_printed : (number : ℕ) (run : ThreadRun) (t : Traced) → HasRun number run t → thread_text t ≡ state_text number run.end run.last run.marks
thread_printed number run t has =
    let ends = has.ends in
    rw (ends.done, has.thread, sym ends.registers, sym ends.zero_flag, sym ends.output, sym ends.instructions, sym ends.passings, sym has.marks) refl

-- the threads, numbered from a number on, have run in this way
abbrev HaveRun : ℕ → List ThreadRun → List Traced → Type 0
HaveRun number runs ts = (i : ℕ) (run : ThreadRun) (t : Traced) → slice_get runs i ≡ Some run → slice_get ts i ≡ Some t → HasRun (number + i) run t

all_printed : (number : ℕ) (runs : List ThreadRun) (ts : List Traced) → length ts ≡ length runs → HaveRun number runs ts
    → flat_map thread_text ts ≡ state_texts number runs
all_printed number [] [] same have = refl
all_printed number [] (t ∷ ts) same have = absurd (omega (arith, same))
all_printed number (run ∷ runs) [] same have = absurd (omega (arith, same))
all_printed number (run ∷ runs) (t ∷ ts) same have =
    let first : number + zero ≡ number = omega arith in
    ap (λ (text : List ℕ). text ++ flat_map thread_text ts)
    (thread_printed number run t (subst (λ (n : ℕ). HasRun n run t) first (have zero run t refl refl)))
    ∙ ap (λ (text : List ℕ). state_text number run.end run.last run.marks ++ text)
    (all_printed (number + 1) runs ts (omega (arith, same)) (λ i r u found at. subst (λ (n : ℕ). HasRun n r u) (later i) (have (suc i) r u found at)))
  where
    later : (i : ℕ) → number + suc i ≡ number + 1 + i
    later i = omega arith

-- threads have run so, thread 1 first
abbrev HaveRunAll : List ThreadRun → List Traced → Type 0
HaveRunAll runs ts = (i : ℕ) (run : ThreadRun) (t : Traced) → slice_get runs i ≡ Some run → slice_get ts i ≡ Some t → HasRun (i + 1) run t

pub threads_printed : (runs : List ThreadRun) (ts : List Traced) → length ts ≡ length runs → HaveRunAll runs ts
    → flat_map thread_text ts ≡ state_texts 1 runs
threads_printed runs ts count have = all_printed 1 runs ts count (λ i run t found at.
    let flipped : i + 1 ≡ 1 + i = omega arith in
    subst (λ (n : ℕ). HasRun n run t) flipped (have i run t found at))

pub run_printed : (setup : Setup) (runs : List ThreadRun) (ts : List Traced) (segments first : List ℕ) (buffers : List Filled)
    → Leaves setup runs ts segments first buffers → flat_map thread_text ts ≡ state_texts 1 runs
run_printed setup runs ts segments first buffers leaves = threads_printed runs ts leaves.count leaves.cpus_are

-- each of its threads has ended
run_at : (runs : List ThreadRun) (i : ℕ) → i < length runs → (run : ThreadRun) × (slice_get runs i ≡ Some run)
run_at [] i within = absurd (omega (arith, within))
run_at (run ∷ runs) zero within = (run, refl)
run_at (run ∷ runs) (suc i) within = run_at runs i (omega (arith, within))

each_one : (P : Traced → Type 0) (ts : List Traced) → ((i : ℕ) (t : Traced) → slice_get ts i ≡ Some t → P t) → All P ts
each_one P [] each = All-nil P
each_one P (t ∷ ts) each = All-cons P t ts (each zero t refl) (each_one P ts (λ i u at. each (suc i) u at))

pub threads_ended : (runs : List ThreadRun) (ts : List Traced) → length ts ≡ length runs → HaveRunAll runs ts → All (λ t. IsDone t.want) ts
threads_ended runs ts count have =
    each_one (λ t. IsDone t.want) ts (λ i t at.
    let found = run_at runs i (subst (λ (n : ℕ). i < n) count (slice_get_within ts i t at)) in
    let has = have i found.0 t found.1 at in
    rw has.ends.done tt)

pub run_ended : (setup : Setup) (runs : List ThreadRun) (ts : List Traced) (segments first : List ℕ) (buffers : List Filled)
    → Leaves setup runs ts segments first buffers → All (λ t. IsDone t.want) ts
run_ended setup runs ts segments first buffers leaves = threads_ended runs ts leaves.count leaves.cpus_are

-- each has a count of segments, and one of lost segments
pub segment_counts : (setup : Setup) (runs : List ThreadRun) (ts : List Traced) (segments first : List ℕ) (buffers : List Filled)
    → Leaves setup runs ts segments first buffers → length segments ≡ length ts
segment_counts setup runs ts segments first buffers leaves =
    ap length leaves.segments_are ∙ length-map runs (segment_count setup.size) ∙ sym leaves.count

pub lost_counts : (setup : Setup) (runs : List ThreadRun) (ts : List Traced) (segments first : List ℕ) (buffers : List Filled)
    → Leaves setup runs ts segments first buffers → length first ≡ length ts
lost_counts setup runs ts segments first buffers leaves =
    ap length leaves.first_are ∙ length-map runs (λ (run : ThreadRun). run.lost) ∙ sym leaves.count

-- and so each has a line
pub lines_count : (ts : List Traced) (segments first : List ℕ) → length segments ≡ length ts → length first ≡ length ts
    → length (audit_lines_of ts segments first) ≡ length ts
lines_count [] segments first p q = refl
lines_count (t ∷ ts) [] first p q = absurd (omega (arith, p))
lines_count (t ∷ ts) (n ∷ segments) [] p q = absurd (omega (arith, q))
lines_count (t ∷ ts) (n ∷ segments) (m ∷ first) p q = ap suc (lines_count ts segments first (omega (arith, p)) (omega (arith, q)))

-- ---- all that is written

-- the audit of what a run leaves
abbrev pub AuditsRuns : Type 0
AuditsRuns = (setup : Setup) (runs : List ThreadRun) (cpus : List Traced) (segments first : List ℕ) (buffers : List Filled)
    → Leaves setup runs cpus segments first buffers → thread_audits (audit_lines_of cpus segments first) cpus ≡ audits_of setup runs

abbrev pub CountsLosses : Type 0
CountsLosses = (setup : Setup) (runs : List ThreadRun) (cpus : List Traced) (segments first : List ℕ) (buffers : List Filled)
    → Leaves setup runs cpus segments first buffers → recycled_by (audit_lines_of cpus segments first) ≡ recycled_of runs

-- if lines are added to an empty list, they are all its lines
pub only_lines : (lines old : List AuditLine) (ts us : List Traced) (segments ns first ms : List ℕ) → lines ≡ old ++ audit_lines_of us ns ms → old ≡ []
    → us ≡ ts → ns ≡ segments → ms ≡ first → lines ≡ audit_lines_of ts segments first
only_lines lines old ts us segments ns first ms is none same_threads same_segments same_first =
    is ∙ ap (λ (l : List AuditLine). l ++ audit_lines_of us ns ms) none ∙ ap (λ (l : List Traced). audit_lines_of l ns ms) same_threads
    ∙ ap (λ (l : List ℕ). audit_lines_of ts l ms) same_segments ∙ ap (audit_lines_of ts segments) same_first

-- what is written of the threads, of their lines and of the buffers in order is what is written of the run
pub run_written : AuditsRuns → CountsLosses → (trace audit : List ℕ) (setup : Setup) (runs : List ThreadRun) (cpus : List Traced) (segments first : List ℕ)
    (buffers : List Filled) → Leaves setup runs cpus segments first buffers → (ts : List Traced) (lines : List AuditLine) (kept : List Filled)
    → ts ≡ cpus → lines ≡ audit_lines_of cpus segments first → kept ≡ kept_buffers setup runs → (P : List (List ℕ × List ℕ) → List ℕ → Type 0)
    → P ((trace, file_bytes (run_header setup) kept) ∷ (audit, audit_text setup (thread_audits lines ts) (recycled_by lines)) ∷ []) (flat_map thread_text ts)
    → P (written_of trace audit setup runs) (state_texts 1 runs)
run_written law counts trace audit setup runs cpus segments first buffers leaves ts lines kept same_threads same_lines same_buffers P holds =
    let accounted : thread_audits lines ts ≡ audits_of setup runs =
    ap (λ (l : List AuditLine). thread_audits l ts) same_lines ∙ ap (thread_audits (audit_lines_of cpus segments first)) same_threads
    ∙ law setup runs cpus segments first buffers leaves in
    let printed : flat_map thread_text ts ≡ state_texts 1 runs =
    ap (flat_map thread_text) same_threads ∙ run_printed setup runs cpus segments first buffers leaves in
    let Q : List Filled → Type 0 = λ l. P ((trace, file_bytes (run_header setup) l) ∷ (audit, audit_text setup (thread_audits lines ts) (recycled_by lines)) ∷ []) (flat_map thread_text ts) in
    let lost : recycled_by lines ≡ recycled_of runs = ap recycled_by same_lines ∙ counts setup runs cpus segments first buffers leaves in
    let R : List ThreadAudit → Type 0 = λ l. P ((trace, trace_bytes setup runs) ∷ (audit, audit_text setup l (recycled_by lines)) ∷ []) (flat_map thread_text ts) in
    let T : ℕ → Type 0 = λ n. P ((trace, trace_bytes setup runs) ∷ (audit, audit_text setup (audits_of setup runs) n) ∷ []) (flat_map thread_text ts) in
    let S : List ℕ → Type 0 = λ l. P (written_of trace audit setup runs) l in
    subst S printed (subst T lost (subst R accounted (subst Q same_buffers holds)))

-- each buffer of a run was begun
thread_begun : (setup : Setup) (thread : ℕ) (pairs : List (ℕ × List Event)) → AllByRecursion (λ b. IsTrue b.begun) (map (buffer_of (stamp_of setup) thread) pairs)
thread_begun setup thread [] = tt
thread_begun setup thread (pair ∷ pairs) = (refl, thread_begun setup thread pairs)

both_begun : (xs ys : List Filled) → AllByRecursion (λ b. IsTrue b.begun) xs → AllByRecursion (λ b. IsTrue b.begun) ys
    → AllByRecursion (λ b. IsTrue b.begun) (xs ++ ys)
both_begun [] ys first second = second
both_begun (x ∷ xs) ys (here, first) second = (here, both_begun xs ys first second)

runs_begun : (setup : Setup) (pairs : List (ℕ × ThreadRun)) → AllByRecursion (λ b. IsTrue b.begun) (flat_map (thread_buffers setup) pairs)
runs_begun setup [] = tt
runs_begun setup ((thread, run) ∷ pairs) =
    subst (AllByRecursion (λ b. IsTrue b.begun)) (sym (flat_map-cons (thread_buffers setup) (thread, run) pairs))
    (both_begun (thread_buffers setup (thread, run)) (flat_map (thread_buffers setup) pairs)
    (thread_begun setup thread (drop run.lost (enumerate_from 0 (segments_of setup.size run)))) (runs_begun setup pairs))

pub all_begun : (setup : Setup) (runs : List ThreadRun) (buffers : List Filled) → buffers ≡ kept_buffers setup runs
    → All (λ b. IsTrue b.begun) buffers
all_begun setup runs buffers is =
    subst (All (λ b. IsTrue b.begun)) (sym is)
    (All-from_recursion (λ (b : Filled). IsTrue b.begun) (kept_buffers setup runs) (runs_begun setup (enumerate_from 1 runs)))

-- what a run leaves, in other hands
pub leaves_same : (setup : Setup) (runs : List ThreadRun) (ts us : Vec Traced Global) (segments ns first ms : Vec ℕ Global) (buffers kept : Vec Filled Global)
    → (us ≡ ts) × (ns ≡ segments) × (ms ≡ first) × (kept ≡ buffers)
    → LeavesInAnyOrder setup runs ts.items segments.items first.items buffers.items
    → LeavesInAnyOrder setup runs us.items ns.items ms.items kept.items
leaves_same setup runs ts us segments ns first ms buffers kept same left =
    subst (λ (v : Vec Filled Global). LeavesInAnyOrder setup runs us.items ns.items ms.items v.items) (sym same.3)
    (subst (λ (v : Vec ℕ Global). LeavesInAnyOrder setup runs us.items ns.items v.items buffers.items) (sym same.2)
    (subst (λ (v : Vec ℕ Global). LeavesInAnyOrder setup runs us.items v.items first.items buffers.items) (sym same.1)
    (subst (λ (v : Vec Traced Global). LeavesInAnyOrder setup runs v.items segments.items first.items buffers.items) (sym same.0) left)))
