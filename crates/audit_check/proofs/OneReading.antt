-- Bytes read as one statement, or are refused at one line.
use Rattle.std.proofs.Common.{◌≡◌, ℕ, ◌+◌, ◌<◌, ◌^◌, List, [], ◌∷◌, length, get_or, take, Ok, Err, Result, sym, ap, ◌∙◌, arith, inl, inr}
use Rattle.std.specs.Prelude.{All}
use Rattle.std.proofs.lemmas.Bool.{cases_lt}
use Rattle.std.proofs.lemmas.List.Elements.{All-cons, All-nil}
use Rattle.std.proofs.lemmas.Option.{slice_get-get_or}
use Rattle.machine_step.specs.declared.setup.Setup.{Setup}
use Rattle.machine_step.specs.Setups.{IsSetup}
use Rattle.trace_flush.specs.Audit.{ThreadAudit, audit_text}
use Rattle.trace_flush.specs.Telling.{HasNumbers, HasSetupNumbers}
use Rattle.audit_check.specs.declared.fault.AuditFault.{AuditFault}
use Rattle.audit_check.specs.declared.fault.AuditFault.TheVariants.{Form, NoMemory}
use Rattle.audit_check.specs.Reading.{IsRefused, ReadsAsAudit, whole_lines}
use Rattle.audit_check.specs.Statements.{HasCounts, MayState, AuditStatement, text_of}

-- ---- the numbers of a statement have 64 bits

thread_has : (said : ThreadAudit) (i : ℕ) → HasCounts said → said.thread ≡ i + 1 → i < 16 → HasNumbers said
thread_has said i has number low = record {
  number = omega (arith, number, low);
  passings = let small = has.passings in omega arith;
  recorded = let small = has.recorded in omega arith;
  segments = let small = has.segments in omega arith;
  first = let small = has.first in omega arith;
  marks = let small = has.marks in omega arith;
}

threads_have : (s : AuditStatement) → MayState s → All HasNumbers s.threads
threads_have s may = λ i d low.
    let count : length s.threads ≡ s.setup.threads = may.names.count in
    let few = may.names.setup_is.few_threads in
    thread_has (get_or s.threads i d) i (may.counts i d low) (may.names.numbered i (get_or s.threads i d) (slice_get-get_or s.threads i d low))
    (omega (arith, low, count, few))

one : (n : ℕ) (ns : List ℕ) → n < 2 ^ 64 → All (λ m. m < 2 ^ 64) ns → All (λ m. m < 2 ^ 64) (n ∷ ns)
one n ns low all = All-cons (λ m. m < 2 ^ 64) n ns low all

setup_has : (s : Setup) → IsSetup s → HasSetupNumbers s
setup_has s is =
    let l = s.limits in
    let are = is.limits_are in
    let n12 : List ℕ = s.frequency ∷ [] in
    let n11 : List ℕ = s.wall.micros ∷ n12 in
    let n10 : List ℕ = s.wall.secs ∷ n11 in
    let n9 : List ℕ = s.pid ∷ n10 in
    let n8 : List ℕ = l.migrate ∷ n9 in
    let n7 : List ℕ = l.cpus ∷ n8 in
    let n6 : List ℕ = l.tsc ∷ n7 in
    let n5 : List ℕ = l.tick ∷ n6 in
    let n4 : List ℕ = l.passings ∷ n5 in
    let n3 : List ℕ = l.fuel ∷ n4 in
    let n2 : List ℕ = s.max ∷ n3 in
    let n1 : List ℕ = s.size ∷ n2 in
    one s.threads n1 (let low = is.few_threads in omega (arith, low))
    (one s.size n2 (let low = is.most in omega (arith, low))
    (one s.max n3 (let low = is.few_buffers in omega (arith, low))
    (one l.fuel n4 (let low = are.fuel in omega (arith, low))
    (one l.passings n5 (let low = are.passings in omega (arith, low))
    (one l.tick n6 are.tick
    (one l.tsc n7 are.tsc
    (one l.cpus n8 (let low = are.few_cpus in omega (arith, low))
    (one l.migrate n9 (let low = are.short_stay in omega (arith, low))
    (one s.pid n10 (let low = is.pid in omega (arith, low))
    (one s.wall.secs n11 is.wall_is.secs
    (one s.wall.micros n12 (let low = is.wall_is.micros in omega (arith, low))
    (one s.frequency [] is.frequency (All-nil (λ m. m < 2 ^ 64))))))))))))))

-- ---- readings

-- what the texts of audits tell
abbrev pub TellsThreads : Type 0
TellsThreads =
    (setup other : Setup) (threads others : List ThreadAudit) (n m : ℕ) → All HasNumbers threads → All HasNumbers others
    → audit_text setup threads n ≡ audit_text other others m → threads ≡ others

abbrev pub TellsRecycled : Type 0
TellsRecycled =
    (setup other : Setup) (threads others : List ThreadAudit) (n m : ℕ) → All HasNumbers threads → All HasNumbers others → n < 2 ^ 64 → m < 2 ^ 64
    → audit_text setup threads n ≡ audit_text other others m → n ≡ m

abbrev pub TellsItsSetup : Type 0
TellsItsSetup =
    (setup other : Setup) (threads others : List ThreadAudit) (n m : ℕ) → HasSetupNumbers setup → HasSetupNumbers other
    → audit_text setup threads n ≡ audit_text other others m → setup ≡ other

abbrev stated : Setup → List ThreadAudit → ℕ → AuditStatement
stated setup threads recycled = record { setup = setup; threads = threads; recycled = recycled }

same_statement : TellsThreads → TellsRecycled → TellsItsSetup → (s t : AuditStatement) → MayState s → MayState t → text_of s ≡ text_of t → s ≡ t
same_statement threads recycled setup s t may may' same =
    let each = threads s.setup t.setup s.threads t.threads s.recycled t.recycled (threads_have s may) (threads_have t may') same in
    let count = recycled s.setup t.setup s.threads t.threads s.recycled t.recycled (threads_have s may) (threads_have t may') may.recycled may'.recycled same in
    let made = setup s.setup t.setup s.threads t.threads s.recycled t.recycled (setup_has s.setup may.names.setup_is) (setup_has t.setup may'.names.setup_is) same in
    ap (λ (x : Setup). stated x s.threads s.recycled) made
    ∙ (ap (λ (x : List ThreadAudit). stated t.setup x s.recycled) each ∙ ap (λ (x : ℕ). stated t.setup t.threads x) count)

-- what is read isn't refused
not_both : (bytes : List ℕ) (s : AuditStatement) (line : ℕ) → MayState s → bytes ≡ text_of s → IsRefused bytes line → ⊥
not_both bytes s line may is refused =
    refused.fails (record { statement = s; may = may; same = ap (λ (b : List ℕ). take line (whole_lines b)) (sym is) })

same_line : (bytes : List ℕ) (line other : ℕ) → IsRefused bytes line → IsRefused bytes other → line ≡ other
same_line bytes line other a b = elim (cases_lt line other) [
  | inl before ↦ absurd (a.fails (b.before line before))
  | inr past ↦ elim (cases_lt other line) [
    | inl before ↦ absurd (b.fails (a.before other before))
    | inr up ↦ omega (arith, past, up)
  ]
]

pub one_reading : TellsThreads → TellsRecycled → TellsItsSetup → (bytes : List ℕ) (reading other : Result AuditStatement AuditFault)
    → ReadsAsAudit bytes reading → ReadsAsAudit bytes other → reading ≡ other
one_reading threads recycled setup bytes (Ok s) (Ok t) a b = ap Ok (same_statement threads recycled setup s t a.0 b.0 (sym a.1 ∙ b.1))
one_reading threads recycled setup bytes (Ok s) (Err (Form line)) a b = absurd (not_both bytes s line a.0 a.1 b)
one_reading threads recycled setup bytes (Ok s) (Err NoMemory) a b = absurd b
one_reading threads recycled setup bytes (Err (Form line)) (Ok t) a b = absurd (not_both bytes t line b.0 b.1 a)
one_reading threads recycled setup bytes (Err (Form line)) (Err (Form other)) a b = ap (λ (n : ℕ). Err (Form n)) (same_line bytes line other a b)
one_reading threads recycled setup bytes (Err (Form line)) (Err NoMemory) a b = absurd b
one_reading threads recycled setup bytes (Err NoMemory) other a b = absurd a
