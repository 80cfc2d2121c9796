-- How long an audit can be.
use Rattle.std.proofs.Common.{◌≡◌, ℕ, ◌+◌, ◌*◌, ◌<◌, ◌≤◌, ◌^◌, List, [], ◌∷◌, ◌++◌, length, replicate, Option, Some, None, inl, inr, ap, ◌∙◌, arith, codes, length-append, suc-mul}
use Rattle.std.specs.Prelude.{All, decimal}
use Rattle.std.specs.List.{flat_map}
use Rattle.std.proofs.lemmas.Fmt.{length-decimal-le, length-decimal-le_succ}
use Rattle.std.proofs.lemmas.Bool.{cases_lt}
use Rattle.std.proofs.lemmas.List.{length-replicate}
use Rattle.std.proofs.lemmas.List.Elements.{All-head, All-tail}
use Rattle.std.proofs.lemmas.Option.{slice_get-get_or}
use Rattle.handler_word.specs.declared.mark.Mark.{Mark}
use Rattle.handler_word.specs.Runs.{run_text, runs_of}
use Rattle.machine_step.specs.declared.end.End.{End}
use Rattle.machine_step.specs.declared.end.End.TheVariants.{BadTarget, Fuel, OutputFull, Passings, Returned, StackEmpty, StackFull}
use Rattle.machine_step.specs.declared.limits.Limits.{Limits}
use Rattle.machine_step.specs.declared.setup.Setup.{Setup}
use Rattle.machine_step.specs.Setups.{IsSetup}
use Rattle.machine_step.specs.Texts.{end_text, line_feed, marks_line}
use Rattle.trace_flush.specs.Audit.{ThreadAudit, buffers_text, limits_text, recycled_line, setup_lines, stamps_text, thread_line, thread_lines}
use Rattle.audit_check.specs.private.Marks.{AreRuns, marks_of_runs, marks_part, spaced}
use Rattle.audit_check.specs.Statements.{HasCounts, MayState, AuditStatement, most_marks, text_of}
use Rattle.audit_check.proofs.RunTexts.{part_of_marks, row_of_part, runs_are, runs_marks}
use Rattle.xray_program.specs.Inputs.{audit_limit}

-- a word and a number
first : (word : List ℕ) (n : ℕ) → length word ≤ 16 → n < 2 ^ 64 → length (word ++ decimal n) ≤ 36
first word n short small =
    let digits : length (decimal n) ≤ 20 = length-decimal-le 20 n (omega arith) (omega (arith, small)) small in
    omega (arith, short, digits, length-append word (decimal n))

-- one more word
word : (text more : List ℕ) (most : ℕ) → length text ≤ most → length more ≤ 16 → length (text ++ more) ≤ most + 16
word text more most low short = omega (arith, low, short, length-append text more)

-- one more word and a number
field : (text more : List ℕ) (n most : ℕ) → length text ≤ most → length more ≤ 16 → n < 2 ^ 64 → length (text ++ more ++ decimal n) ≤ most + 36
field text more n most low short small =
    let digits : length (decimal n) ≤ 20 = length-decimal-le 20 n (omega arith) (omega (arith, small)) small in
    omega (arith, low, short, digits, length-append (text ++ more) (decimal n), length-append text more)

-- ---- the setup

limits_short : (l : Limits) → l.fuel < 2 ^ 64 → l.passings < 2 ^ 64 → l.tick < 2 ^ 64 → l.tsc < 2 ^ 64 → l.cpus < 2 ^ 64 → l.migrate < 2 ^ 64
    → length (limits_text l) ≤ 216
limits_short l fuel passings tick tsc cpus migrate =
    let t1 : List ℕ = codes " fuel=" ++ decimal l.fuel in
    let t2 : List ℕ = t1 ++ codes " passings=" ++ decimal l.passings in
    let t3 : List ℕ = t2 ++ codes " tick=" ++ decimal l.tick in
    let t4 : List ℕ = t3 ++ codes " tsc=" ++ decimal l.tsc in
    let t5 : List ℕ = t4 ++ codes " cpus=" ++ decimal l.cpus in
    field t5 (codes " migrate=") l.migrate 180
    (field t4 (codes " cpus=") l.cpus 144
    (field t3 (codes " tsc=") l.tsc 108
    (field t2 (codes " tick=") l.tick 72
    (field t1 (codes " passings=") l.passings 36 (first (codes " fuel=") l.fuel (omega arith) fuel) (omega arith) passings)
    (omega arith) tick) (omega arith) tsc) (omega arith) cpus) (omega arith) migrate

setup_short : (s : Setup) → IsSetup s → length (setup_lines s) ≤ 516
setup_short s is =
    let are = is.limits_are in
    let few = is.few_threads in
    let most = is.most in
    let buffers = is.few_buffers in
    let pid = is.pid in
    let micros = is.wall_is.micros in
    let fuel = are.fuel in
    let passings = are.passings in
    let cpus = are.few_cpus in
    let stay = are.short_stay in
    let b1 : List ℕ = codes "xray-audit 1" ++ line_feed in
    let b2 : List ℕ = b1 ++ codes "threads=" ++ decimal s.threads in
    let b3 : List ℕ = b2 ++ codes " buffer-size=" ++ decimal s.size in
    let head : length (buffers_text s) ≤ 140 =
    field b3 (codes " buffer-max=") s.max 104
    (field b2 (codes " buffer-size=") s.size 68
    (field b1 (codes "threads=") s.threads 32 (omega arith) (omega arith) (omega (arith, few))) (omega arith) (omega (arith, most)))
    (omega arith) (omega (arith, buffers)) in
    let limits =
    limits_short s.limits (omega (arith, fuel)) (omega (arith, passings)) are.tick are.tsc (omega (arith, cpus)) (omega (arith, stay)) in
    let t1 : List ℕ = codes " pid=" ++ decimal s.pid in
    let t2 : List ℕ = t1 ++ codes " wall=" ++ decimal s.wall.secs in
    let t3 : List ℕ = t2 ++ codes "." ++ decimal s.wall.micros in
    let t4 : List ℕ = t3 ++ codes " frequency=" ++ decimal s.frequency in
    let stamps : length (stamps_text s) ≤ 160 =
    word t4 line_feed 144
    (field t3 (codes " frequency=") s.frequency 108
    (field t2 (codes ".") s.wall.micros 72
    (field t1 (codes " wall=") s.wall.secs 36 (first (codes " pid=") s.pid (omega arith) (omega (arith, pid))) (omega arith) is.wall_is.secs)
    (omega arith) (omega (arith, micros))) (omega arith) is.frequency) (omega arith) in
    omega (
      arith,
      head,
      limits,
      stamps,
      length-append (buffers_text s ++ limits_text s.limits) (stamps_text s),
      length-append (buffers_text s) (limits_text s.limits),
    )

-- ---- a thread

end_short : (end : End) → length (end_text end) ≤ 16
end_short Returned = omega arith
end_short Fuel = omega arith
end_short Passings = omega arith
end_short OutputFull = omega arith
end_short StackFull = omega arith
end_short StackEmpty = omega arith
end_short BadTarget = omega arith

thread_short : (said : ThreadAudit) → said.thread < 2 ^ 64 → HasCounts said → length (thread_line said) ≤ 228
thread_short said thread has =
    let passings = has.passings in
    let recorded = has.recorded in
    let segments = has.segments in
    let lost = has.first in
    let t1 : List ℕ = codes "thread " ++ decimal said.thread in
    let t2 : List ℕ = t1 ++ codes " " in
    let t3 : List ℕ = t2 ++ end_text said.end in
    let t4 : List ℕ = t3 ++ codes " passings " ++ decimal said.passings in
    let t5 : List ℕ = t4 ++ codes " recorded " ++ decimal said.recorded in
    let t6 : List ℕ = t5 ++ codes " segments " ++ decimal said.segments in
    let t7 : List ℕ = t6 ++ codes " first " ++ decimal said.first in
    word t7 line_feed 212
    (field t6 (codes " first ") said.first 176
    (field t5 (codes " segments ") said.segments 140
    (field t4 (codes " recorded ") said.recorded 104
    (field t3 (codes " passings ") said.passings 68
    (word t2 (end_text said.end) 52 (word t1 (codes " ") 36 (first (codes "thread ") said.thread (omega arith) thread) (omega arith)) (end_short said.end))
    (omega arith) (omega (arith, passings))) (omega arith) (omega (arith, recorded))) (omega arith) (omega (arith, segments)))
    (omega arith) (omega (arith, lost))) (omega arith)

-- a run of marks has at most three bytes for each of them
run_short : (count : ℕ) → 0 < count → count < 2 ^ 64 → length (decimal count) + 2 ≤ 3 * count
run_short count some small = elim (cases_lt 1 count) [
  | inl more ↦ let low = length-decimal-le_succ count small in omega (arith, low, more)
  | inr one ↦ let low = length-decimal-le 1 count (omega arith) (omega (arith, one)) small in omega (arith, low, some)
]

runs_short : (before : Option Mark) (runs : List (Mark × ℕ)) → AreRuns before runs → length (marks_of_runs runs) < 2 ^ 64
    → length (spaced runs) ≤ 3 * length (marks_of_runs runs)
runs_short before [] are small = omega arith
runs_short before ((mark, count) ∷ runs) are small =
    let all : length (marks_of_runs ((mark, count) ∷ runs)) ≡ count + length (marks_of_runs runs) =
    length-append (replicate count mark) (marks_of_runs runs) ∙ ap (λ n. n + length (marks_of_runs runs)) (length-replicate count mark) in
    let rest = runs_short (Some mark) runs are.2 (omega (arith, small, all)) in
    let here = run_short count are.1 (omega (arith, small, all)) in
    let text : length (spaced ((mark, count) ∷ runs)) ≡ (length (decimal count) + 2) + length (spaced runs) =
    length-append (32 ∷ run_text (mark, count)) (spaced runs) ∙ omega arith in
    omega (arith, rest, here, text, all)

marks_short : (marks : List Mark) → length marks ≤ most_marks → length (marks_line marks) ≤ 3 * most_marks + 32
marks_short [] few = omega arith
marks_short (mark ∷ marks) few =
    let same : length (marks_of_runs (runs_of (mark ∷ marks))) ≡ length (mark ∷ marks) = ap length (runs_marks (mark ∷ marks)) in
    let runs = runs_short None (runs_of (mark ∷ marks)) (runs_are (mark ∷ marks)) (omega (arith, same, few)) in
    let part : length (marks_part (mark ∷ marks)) ≡ length (spaced (runs_of (mark ∷ marks))) = ap length (part_of_marks mark marks) in
    let line : length (marks_line (mark ∷ marks)) ≡ 5 + (length (marks_part (mark ∷ marks)) + 1) =
    ap length (row_of_part (mark ∷ marks))
    ∙ (length-append (codes "marks") (marks_part (mark ∷ marks) ++ line_feed)
    ∙ ap (λ n. 5 + n) (length-append (marks_part (mark ∷ marks)) line_feed)) in
    omega (arith, line, part, runs, same, few)

-- ---- the audit

lines_short : (said : ThreadAudit) → said.thread < 2 ^ 64 → HasCounts said → length (thread_lines said) ≤ 3146000
lines_short said thread has =
    let first = thread_short said thread has in
    let second = marks_short said.marks has.marks in
    omega (arith, first, second, length-append (thread_line said) (marks_line said.marks))

threads_short : (threads : List ThreadAudit) → All (λ said. length (thread_lines said) ≤ 3146000) threads
    → length (flat_map thread_lines threads) ≤ length threads * 3146000
threads_short [] all = omega arith
threads_short (said ∷ threads) all =
    let rest = threads_short threads (All-tail (λ s. length (thread_lines s) ≤ 3146000) said threads all) in
    let here = All-head (λ s. length (thread_lines s) ≤ 3146000) said threads all in
    let product : length (said ∷ threads) * 3146000 ≡ length threads * 3146000 + 3146000 = suc-mul (length threads) 3146000 in
    omega (arith, rest, here, product, length-append (thread_lines said) (flat_map thread_lines threads))

-- an audit is within the limit of `check`
pub statement_short : (s : AuditStatement) → MayState s → length (text_of s) ≤ audit_limit
statement_short s may =
    let few = may.names.setup_is.few_threads in
    let count = may.names.count in
    let setup = setup_short s.setup may.names.setup_is in
    let threads = threads_short s.threads (λ i d low.
    let number = may.names.numbered i _ (slice_get-get_or s.threads i d low) in
    lines_short _ (omega (arith, number, low, count, few)) (may.counts i d low)) in
    let last : length (recycled_line s.recycled) ≤ 52 =
    word (codes "recycled " ++ decimal s.recycled) line_feed 36 (first (codes "recycled ") s.recycled (omega arith) may.recycled) (omega arith) in
    omega (
      arith,
      setup,
      threads,
      last,
      few,
      count,
      length-append (setup_lines s.setup ++ flat_map thread_lines s.threads) (recycled_line s.recycled),
      length-append (setup_lines s.setup) (flat_map thread_lines s.threads),
    )
