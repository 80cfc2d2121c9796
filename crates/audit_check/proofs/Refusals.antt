-- Where rows stop being those of an audit.
use Rattle.std.proofs.Common.{◌≡◌, ℕ, zero, suc, ◌+◌, ◌-◌, ◌*◌, ◌<◌, ◌≤◌, ◌^◌, List, [], ◌∷◌, ◌++◌, length, get_or, take, Some, refl, sym, ap, subst, ◌∙◌, arith, inl, inr, append_assoc, length-append, lit<}
use Rattle.std.specs.Prelude.{◌⊎◌, All, slice_get}
use Rattle.std.specs.List.{flat_map}
use Rattle.std.proofs.lemmas.List.Elements.{All-append, All-cons, All-nil}
use Rattle.std.proofs.lemmas.List.{append-nil}
use Rattle.std.proofs.lemmas.Option.{get_or_from_slice_get, slice_get_within}
use Rattle.machine_step.specs.declared.end.End.TheVariants.{Returned}
use Rattle.machine_step.specs.declared.setup.Setup.{Setup}
use Rattle.machine_step.specs.Setups.{IsSetup}
use Rattle.machine_step.specs.Texts.{line_feed, marks_line}
use Rattle.trace_flush.specs.Audit.{ThreadAudit, limits_text, recycled_line, setup_lines, thread_line, thread_lines}
use Rattle.handler_word.specs.declared.mark.Mark.{Mark}
use Rattle.audit_check.specs.declared.thread_rows.Counts.{Counts}
use Rattle.audit_check.specs.private.Lines.{AreFirst, all_rows, counts_row, first_rows, rows_of}
use Rattle.audit_check.specs.private.Parts.{HasShortCounts, buffers_part, format_row, setup_row, stamps_part}
use Rattle.audit_check.specs.Reading.{BeginsAudit, IsRefused, whole_lines}
use Rattle.audit_check.specs.Statements.{HasCounts, MayState, AuditStatement, most_marks, text_of}
use Rattle.audit_check.proofs.RowLines.{joined_lines, lines_of_text}
use Rattle.audit_check.proofs.RowTexts.{rows_are}

-- ---- the text of rows

abbrev join : List (List ℕ) → List ℕ
join lines = flat_map (λ line. line) lines

join-append : (xs ys : List (List ℕ)) → join (xs ++ ys) ≡ join xs ++ join ys
join-append [] ys = refl
join-append (x ∷ xs) ys = ap (λ (l : List ℕ). x ++ l) (join-append xs ys) ∙ sym (append_assoc x (join xs) (join ys))

pub setup_joined : (setup : Setup) → setup_lines setup ≡ format_row ++ setup_row setup
setup_joined s =
    ap (λ (l : List ℕ). format_row ++ l)
    (sym (append_assoc (buffers_part s.threads s.size s.max ++ limits_text s.limits) (stamps_part s.pid s.wall s.frequency) line_feed))

threads_joined : (threads : List ThreadAudit) → join (flat_map rows_of threads) ≡ flat_map thread_lines threads
threads_joined [] = refl
threads_joined (said ∷ threads) =
    ap (λ (l : List ℕ). thread_line said ++ (marks_line said.marks ++ l)) (threads_joined threads)
    ∙ sym (append_assoc (thread_line said) (marks_line said.marks) (flat_map thread_lines threads))

pub rows_joined : (statement : AuditStatement) → join (all_rows statement) ≡ text_of statement
rows_joined s =
    let each : List ℕ = flat_map thread_lines s.threads in
    let last : List ℕ = recycled_line s.recycled in
    join-append (first_rows s.setup s.threads) (last ∷ [])
    ∙ (ap (λ (l : List ℕ). (format_row ++ (setup_row s.setup ++ l)) ++ (last ++ [])) (threads_joined s.threads)
    ∙ (ap (λ (l : List ℕ). (format_row ++ (setup_row s.setup ++ each)) ++ l) (append-nil last)
    ∙ ap (λ (l : List ℕ). l ++ last) (sym (append_assoc format_row (setup_row s.setup) each) ∙ ap (λ (l : List ℕ). l ++ each) (sym (setup_joined s.setup)))))

pub rows_of_text : (statement : AuditStatement) → whole_lines (text_of statement) ≡ all_rows statement
rows_of_text statement = ap whole_lines (sym (rows_joined statement)) ∙ lines_of_text (all_rows statement) (rows_are statement)

pub text_by_rows : (bytes : List ℕ) (statement : AuditStatement) → whole_lines bytes ≡ all_rows statement → bytes ≡ text_of statement
text_by_rows bytes statement same = sym (joined_lines bytes) ∙ (ap (λ (ls : List (List ℕ)). flat_map (λ line. line) ls) same ∙ rows_joined statement)

-- ---- lists of rows

take_front : {X : Type 0} (xs ys : List X) (count : ℕ) → count ≤ length xs → take count (xs ++ ys) ≡ take count xs
take_front xs ys zero low = refl
take_front [] ys (suc count) low = absurd (omega arith)
take_front {X} (x ∷ xs) ys (suc count) low = ap (λ (l : List X). x ∷ l) (take_front xs ys count (omega arith))

-- equal front parts have the same next item
next_same : {X : Type 0} (xs taken : List X) (item : X) (more : List X) → take (suc (length taken)) xs ≡ take (suc (length taken)) (taken ++ item ∷ more)
    → (slice_get xs (length taken) ≡ Some item) × (take (length taken) xs ≡ taken)
next_same [] [] item more same = absurd cc
next_same [] (t ∷ taken) item more same = absurd cc
next_same (x ∷ xs) [] item more same = let is : x ≡ item = cc in (ap Some is, refl)
next_same {X} (x ∷ xs) (t ∷ taken) item more same =
    let first : x ≡ t = cc in
    let rest : take (suc (length taken)) xs ≡ take (suc (length taken)) (taken ++ item ∷ more) = cc in
    let later = next_same xs taken item more rest in
    (later.0, ap (λ (y : X). y ∷ take (length taken) xs) first ∙ ap (λ (l : List X). t ∷ l) later.1)

-- a list whose front part is shorter ends there
ends_same : {X : Type 0} (xs taken : List X) → take (suc (length taken)) xs ≡ take (suc (length taken)) taken → length xs ≡ length taken
ends_same [] [] same = refl
ends_same [] (t ∷ taken) same = absurd cc
ends_same (x ∷ xs) [] same = absurd cc
ends_same (x ∷ xs) (t ∷ taken) same =
    let rest : take (suc (length taken)) xs ≡ take (suc (length taken)) taken = cc in
    let later = ends_same xs taken rest in omega (arith, later)

-- ---- an audit that begins with some rows

blank : ℕ → ThreadAudit
blank number = record { thread = number; end = Returned; passings = 0; recorded = 0; segments = 0; first = 0; marks = [] }

blanks : ℕ → ℕ → List ThreadAudit
blanks next zero = []
blanks next (suc count) = blank next ∷ blanks (next + 1) count

length-blanks : (next count : ℕ) → length (blanks next count) ≡ count
unfolding blanks
length-blanks next zero = refl
length-blanks next (suc count) = ap suc (length-blanks (next + 1) count)

blanks_count : (next count : ℕ) → All HasCounts (blanks next count)
unfolding blank blanks
blanks_count next zero = All-nil HasCounts
blanks_count next (suc count) =
    All-cons HasCounts (blank next) (blanks (next + 1) count)
    (record { passings = lit< tt; recorded = lit< tt; segments = lit< tt; first = lit< tt; marks = omega arith }) (blanks_count (next + 1) count)

blanks_numbered : (next count i : ℕ) (said : ThreadAudit) → slice_get (blanks next count) i ≡ Some said → said.thread ≡ next + i
unfolding blank blanks
blanks_numbered next zero i said is = absurd cc
blanks_numbered next (suc count) zero said is = let same : blank next ≡ said = cc in sym (ap (λ (s : ThreadAudit). s.thread) same) ∙ omega arith
blanks_numbered next (suc count) (suc i) said is = let later = blanks_numbered (next + 1) count i said is in omega arith

completed : Setup → List ThreadAudit → AuditStatement
completed setup threads = record {
  setup = setup;
  threads = threads ++ blanks (length threads + 1) (setup.threads - length threads);
  recycled = 0;
}

get_cases : (xs ys : List ThreadAudit) (i : ℕ) (said : ThreadAudit) → slice_get (xs ++ ys) i ≡ Some said
    → (slice_get xs i ≡ Some said) ⊎ ((j : ℕ) × (i ≡ length xs + j) × (slice_get ys j ≡ Some said))
get_cases [] ys i said is = inr (i, omega arith, is)
get_cases (x ∷ xs) ys zero said is = inl is
get_cases (x ∷ xs) ys (suc i) said is = elim (get_cases xs ys i said is) [
  | inl here ↦ inl here
  | inr (j, at, there) ↦ inr (j, omega (arith, at), there)
]

completed_may : (setup : Setup) (threads : List ThreadAudit) → AreFirst setup threads → length threads ≤ setup.threads → MayState (completed setup threads)
unfolding completed
completed_may setup threads are low = record {
  names = record {
    setup_is = are.setup_is;
    count = omega (arith, length-append threads (blanks (length threads + 1) (setup.threads - length threads)), length-blanks (length threads + 1) (setup.threads - length threads));
    numbered = λ i said is. elim (get_cases threads (blanks (length threads + 1) (setup.threads - length threads)) i said is) [
      | inl here ↦ are.numbered i said here
      | inr (j, at, there) ↦ let number = blanks_numbered (length threads + 1) (setup.threads - length threads) j said there in omega arith
    ];
  };
  counts = All-append HasCounts threads (blanks (length threads + 1) (setup.threads - length threads)) are.counts
      (blanks_count (length threads + 1) (setup.threads - length threads));
  recycled = lit< tt;
}

rows-append : (xs ys : List ThreadAudit) → flat_map rows_of (xs ++ ys) ≡ flat_map rows_of xs ++ flat_map rows_of ys
rows-append [] ys = refl
rows-append (x ∷ xs) ys = ap (λ (ls : List (List ℕ)). thread_line x ∷ marks_line x.marks ∷ ls) (rows-append xs ys)

-- rows that an audit begins with
begins_by : (bytes : List ℕ) (s : AuditStatement) (taken rest others : List (List ℕ)) → MayState s → all_rows s ≡ taken ++ others
    → whole_lines bytes ≡ taken ++ rest → (count : ℕ) → count ≤ length taken → BeginsAudit bytes count
begins_by bytes s taken rest others may rows lines count within = record {
  statement = s;
  may = may;
  same =
      ap (take count) (rows_of_text s)
      ∙ (ap (take count) rows ∙ (take_front taken others count within ∙ (sym (take_front taken rest count within) ∙ ap (take count) (sym lines))));
}

later_rows : Setup → List ThreadAudit → List (List ℕ)
later_rows setup threads = flat_map rows_of (blanks (length threads + 1) (setup.threads - length threads)) ++ recycled_line 0 ∷ []

completed_rows : (setup : Setup) (threads : List ThreadAudit) → all_rows (completed setup threads) ≡ first_rows setup threads ++ later_rows setup threads
unfolding completed later_rows
completed_rows setup threads =
    ap (λ (ls : List (List ℕ)). format_row ∷ setup_row setup ∷ (ls ++ recycled_line 0 ∷ []))
    (rows-append threads (blanks (length threads + 1) (setup.threads - length threads)))
    ∙ ap (λ (ls : List (List ℕ)). format_row ∷ setup_row setup ∷ ls)
    (append_assoc (flat_map rows_of threads) (flat_map rows_of (blanks (length threads + 1) (setup.threads - length threads))) (recycled_line 0 ∷ []))

-- the first rows begin an audit
pub first_begin : (bytes : List ℕ) (setup : Setup) (threads : List ThreadAudit) (rest : List (List ℕ)) → AreFirst setup threads
    → length threads ≤ setup.threads → whole_lines bytes ≡ first_rows setup threads ++ rest
    → (count : ℕ) → count ≤ length (first_rows setup threads) → BeginsAudit bytes count
first_begin bytes setup threads rest are low lines =
    begins_by bytes (completed setup threads) (first_rows setup threads) rest (later_rows setup threads) (completed_may setup threads are low)
    (completed_rows setup threads) lines

-- ---- the rows of an audit by their numbers

length-rows : (threads : List ThreadAudit) → length (flat_map rows_of threads) ≡ 2 * length threads
length-rows [] = refl
length-rows (x ∷ threads) = let later = length-rows threads in omega (arith, later)

pub length-first : (setup : Setup) (threads : List ThreadAudit) → length (first_rows setup threads) ≡ 2 + 2 * length threads
length-first setup threads = omega (arith, length-rows threads)

pub length-all : (s : AuditStatement) → length (all_rows s) ≡ 3 + 2 * length s.threads
length-all s = omega (arith, length-append (first_rows s.setup s.threads) (recycled_line s.recycled ∷ []), length-first s.setup s.threads)

-- the two rows of a thread
thread_rows : (threads : List ThreadAudit) (tail : List (List ℕ)) (k i : ℕ) (said : ThreadAudit) → i ≡ 2 * k → slice_get threads k ≡ Some said
    → (slice_get (flat_map rows_of threads ++ tail) i ≡ Some (thread_line said)) × (slice_get (flat_map rows_of threads ++ tail) (suc i) ≡ Some (marks_line said.marks))
thread_rows [] tail k i said at is = absurd cc
thread_rows (x ∷ threads) tail zero i said at is =
    let none : i ≡ 0 = omega (arith, at) in
    let same : x ≡ said = cc in
    let rows = flat_map rows_of (x ∷ threads) ++ tail in (
      ap (slice_get rows) none ∙ ap (λ (s : ThreadAudit). Some (thread_line s)) same,
      ap (λ n. slice_get rows (suc n)) none ∙ ap (λ (s : ThreadAudit). Some (marks_line s.marks)) same,
    )
thread_rows (x ∷ threads) tail (suc k) i said at is =
    let j : ℕ = 2 * k in
    let place : i ≡ suc (suc j) = omega (arith, at) in
    let later = thread_rows threads tail k j said refl is in
    let rows = flat_map rows_of (x ∷ threads) ++ tail in (
      ap (slice_get rows) place ∙ later.0,
      ap (λ n. slice_get rows (suc n)) place ∙ later.1,
    )

last_row : (threads : List ThreadAudit) (row : List ℕ) (i : ℕ) → i ≡ 2 * length threads → slice_get (flat_map rows_of threads ++ row ∷ []) i ≡ Some row
last_row [] row i at = let none : i ≡ 0 = omega (arith, at) in ap (slice_get (row ∷ [])) none
last_row (x ∷ threads) row i at =
    let j : ℕ = 2 * length threads in
    let place : i ≡ suc (suc j) = omega (arith, at) in
    ap (slice_get (flat_map rows_of (x ∷ threads) ++ row ∷ [])) place ∙ last_row threads row j refl

all_get : (xs : List ThreadAudit) (i : ℕ) (x : ThreadAudit) → All HasCounts xs → slice_get xs i ≡ Some x → HasCounts x
all_get xs i x all is = subst HasCounts (get_or_from_slice_get xs i x x is) (all i x (slice_get_within xs i x is))

pub some_item : {X : Type 0} (xs : List X) (i : ℕ) → i < length xs → (x : X) × (slice_get xs i ≡ Some x)
some_item [] i low = absurd (omega arith)
some_item (x ∷ xs) zero low = (x, refl)
some_item (x ∷ xs) (suc i) low = some_item xs i (omega arith)

-- ---- refusals

-- the next row isn't such a row, or is missing
abbrev pub Unlike : (List ℕ → Type 0) → List (List ℕ) → Type 0
Unlike IsRow [] = Unit {0}
Unlike IsRow (row ∷ more) = IsRow row → ⊥

same_row : (x y : List ℕ) → Some x ≡ Some y → x ≡ y
same_row x y e = cc

all_same : (xs ys : List (List ℕ)) → take (suc (length ys)) xs ≡ take (suc (length ys)) ys → take (length ys) xs ≡ ys
all_same [] [] same = refl
all_same [] (y ∷ ys) same = absurd cc
all_same (x ∷ xs) [] same = refl
all_same (x ∷ xs) (y ∷ ys) same =
    let first : x ≡ y = cc in
    let more : take (suc (length ys)) xs ≡ take (suc (length ys)) ys = cc in
    ap (λ (l : List ℕ). l ∷ take (length ys) xs) first ∙ ap (λ (ls : List (List ℕ)). y ∷ ls) (all_same xs ys more)

-- Rows were taken that begin an audit. In each audit that begins with them the next row is a certain row. The next row isn't.
pub refused_next : (bytes : List ℕ) (taken rest : List (List ℕ)) (IsRow : List ℕ → Type 0) → whole_lines bytes ≡ taken ++ rest → Unlike IsRow rest
    → ((count : ℕ) → count ≤ length taken → BeginsAudit bytes count)
    → ((s : AuditStatement) → MayState s → take (length taken) (all_rows s) ≡ taken
    → (row : List ℕ) × (slice_get (all_rows s) (length taken) ≡ Some row) × IsRow row)
    → IsRefused bytes (length taken + 1)
refused_next bytes taken rest IsRow lines other begins next = record {
  fails = λ b. fail rest lines other b;
  before = λ count less. begins count (omega arith);
}
  where
    fail : (rest : List (List ℕ)) → whole_lines bytes ≡ taken ++ rest → Unlike IsRow rest → BeginsAudit bytes (length taken + 1) → ⊥
    fail [] is unlike b =
        let count : length taken + 1 ≡ suc (length taken) = omega arith in
        let none : taken ++ [] ≡ taken = simp append-nil in
        let same : take (suc (length taken)) (all_rows b.statement) ≡ take (suc (length taken)) taken =
        ap (take (suc (length taken))) (sym (rows_of_text b.statement))
        ∙ (subst (λ n. take n (whole_lines (text_of b.statement)) ≡ take n (whole_lines bytes)) count b.same
        ∙ ap (take (suc (length taken))) (is ∙ none)) in
        let long = ends_same (all_rows b.statement) taken same in
        let row = next b.statement b.may (all_same (all_rows b.statement) taken same) in
        let within = slice_get_within (all_rows b.statement) (length taken) row.0 row.1 in
        omega (arith, within, long)
    fail (row ∷ more) is unlike b =
        let count : length taken + 1 ≡ suc (length taken) = omega arith in
        let same : take (suc (length taken)) (all_rows b.statement) ≡ take (suc (length taken)) (taken ++ row ∷ more) =
        ap (take (suc (length taken))) (sym (rows_of_text b.statement))
        ∙ (subst (λ n. take n (whole_lines (text_of b.statement)) ≡ take n (whole_lines bytes)) count b.same
        ∙ ap (take (suc (length taken))) is) in
        let parts = next_same (all_rows b.statement) taken row more same in
        let found = next b.statement b.may parts.1 in
        let equal : found.0 ≡ row = same_row found.0 row (sym found.1 ∙ parts.0) in
        unlike (subst IsRow equal found.2)

-- ---- row by row

-- the setup of some audit
some_setup : Setup
some_setup = record {
  threads = 1;
  size = 88;
  max = 1;
  limits = record { fuel = 0; passings = 0; tick = 0; tsc = 0; cpus = 1; migrate = 1 };
  pid = 0;
  wall = record { secs = 0; micros = 0 };
  frequency = 0;
}

some_setup_is : IsSetup some_setup
unfolding some_setup
some_setup_is = record {
  some_thread = omega arith;
  few_threads = omega arith;
  least = omega arith;
  most = omega arith;
  enough = omega arith;
  few_buffers = omega arith;
  room = omega arith;
  limits_are = record {
    fuel = omega arith;
    passings = omega arith;
    tick = lit< tt;
    tsc = lit< tt;
    some_cpu = omega arith;
    few_cpus = omega arith;
    some_stay = omega arith;
    short_stay = omega arith;
  };
  pid = lit< tt;
  wall_is = record { secs = lit< tt; micros = omega arith };
  frequency = lit< tt;
}

some_statement : AuditStatement
some_statement = completed some_setup []

some_may : MayState some_statement
unfolding some_statement some_setup
some_may = completed_may some_setup [] (record { setup_is = some_setup_is; numbered = λ i said is. absurd cc; counts = All-nil HasCounts }) (omega arith)

abbrev pub IsFormatRow : List ℕ → Type 0
IsFormatRow row = row ≡ format_row

pub refused_format : (bytes : List ℕ) (rest : List (List ℕ)) → whole_lines bytes ≡ rest → Unlike IsFormatRow rest → IsRefused bytes 1
refused_format bytes rest lines other =
    refused_next bytes [] rest IsFormatRow lines other
    (λ count low. let none : count ≡ 0 = omega arith in
    subst (λ n. BeginsAudit bytes n) (sym none) (record { statement = some_statement; may = some_may; same = refl }))
    (λ s may same. (format_row, refl, refl))

abbrev pub IsSetupRow : List ℕ → Type 0
IsSetupRow row = (setup : Setup) × IsSetup setup × (row ≡ setup_row setup)

pub refused_setup : (bytes : List ℕ) (rest : List (List ℕ)) → whole_lines bytes ≡ format_row ∷ rest → Unlike IsSetupRow rest → IsRefused bytes 2
refused_setup bytes rest lines other =
    refused_next bytes (format_row ∷ []) rest IsSetupRow lines other (λ count low. begins count low)
    (λ s may same. (setup_row s.setup, refl, (s.setup, may.names.setup_is, refl)))
  where
    begins : (count : ℕ) → count ≤ length (format_row ∷ []) → BeginsAudit bytes count
    begins zero low = record { statement = some_statement; may = some_may; same = refl }
    begins (suc zero) low = record {
      statement = some_statement;
      may = some_may;
      same = ap (take 1) (rows_of_text some_statement) ∙ sym (ap (take 1) lines);
    }
    begins (suc (suc count)) low = absurd (omega arith)

-- a setup's row determines how many threads there are
abbrev pub TellsSetup : Type 0
TellsSetup = (s t : Setup) → IsSetup s → IsSetup t → setup_row s ≡ setup_row t → s ≡ t

same_setup : TellsSetup → (setup : Setup) (threads : List ThreadAudit) (more : List (List ℕ)) (s : AuditStatement) → IsSetup setup → MayState s
    → take (suc (suc (length more))) (all_rows s) ≡ format_row ∷ setup_row setup ∷ more → length s.threads ≡ setup.threads
same_setup tells setup threads more s is may same =
    let row : setup_row s.setup ≡ setup_row setup = ap (λ (rows : List (List ℕ)). get_or rows 1 []) same in
    may.names.count ∙ ap (λ (t : Setup). t.threads) (tells s.setup setup may.names.setup_is is row)

-- the first row of the thread of a number
abbrev pub IsCountsRow : ℕ → List ℕ → Type 0
IsCountsRow number row = (said : ThreadAudit) × HasCounts said × (said.thread ≡ number) × (row ≡ thread_line said)

pub refused_counts : TellsSetup → (bytes : List ℕ) (setup : Setup) (threads : List ThreadAudit) (rest : List (List ℕ)) → AreFirst setup threads
    → length threads < setup.threads → whole_lines bytes ≡ first_rows setup threads ++ rest → Unlike (IsCountsRow (length threads + 1)) rest
    → IsRefused bytes (length (first_rows setup threads) + 1)
refused_counts tells bytes setup threads rest are low lines other =
    refused_next bytes (first_rows setup threads) rest (IsCountsRow (length threads + 1)) lines other
    (first_begin bytes setup threads rest are (omega arith) lines) next
  where
    next : (s : AuditStatement) → MayState s → take (length (first_rows setup threads)) (all_rows s) ≡ first_rows setup threads
        → (row : List ℕ) × (slice_get (all_rows s) (length (first_rows setup threads)) ≡ Some row) × IsCountsRow (length threads + 1) row
    next s may same =
        let count = same_setup tells setup threads (flat_map rows_of threads) s are.setup_is may same in
        let item = some_item s.threads (length threads) (omega (arith, count)) in
        let rows = thread_rows s.threads (recycled_line s.recycled ∷ []) (length threads) (2 * length threads) item.0 refl item.1 in
        let place : length (first_rows setup threads) ≡ suc (suc (2 * length threads)) = omega (arith, length-first setup threads) in (
          thread_line item.0,
          ap (slice_get (all_rows s)) place ∙ rows.0,
          (item.0, all_get s.threads (length threads) item.0 may.counts item.1, may.names.numbered (length threads) item.0 item.1, refl),
        )

-- ---- the marks of a thread

-- what is said of a thread by its two rows
abbrev pub said_of : ℕ → Counts → List Mark → ThreadAudit
said_of thread counts marks = record {
  thread = thread;
  end = counts.end;
  passings = counts.passings;
  recorded = counts.recorded;
  segments = counts.segments;
  first = counts.first;
  marks = marks;
}

-- what is said of a thread with these counts and no marks
abbrev unmarked : ℕ → Counts → ThreadAudit
unmarked thread counts = said_of thread counts []

-- the rows with the counts of one more thread
abbrev pub counted_rows : Setup → List ThreadAudit → ℕ → Counts → List (List ℕ)
counted_rows setup threads thread counts = first_rows setup threads ++ counts_row thread counts ∷ []

-- one more thread
pub one_more : (setup : Setup) (threads : List ThreadAudit) (said : ThreadAudit) → AreFirst setup threads → HasCounts said
    → said.thread ≡ length threads + 1 → AreFirst setup (threads ++ said ∷ [])
one_more setup threads said are has number = record {
  setup_is = are.setup_is;
  numbered = λ i other is. elim (get_cases threads (said ∷ []) i other is) [
    | inl here ↦ are.numbered i other here
    | inr (j, at, there) ↦ last i j other at there
  ];
  counts = All-append HasCounts threads (said ∷ []) are.counts (All-cons HasCounts said [] has (All-nil HasCounts));
}
  where
    last : (i j : ℕ) (other : ThreadAudit) → i ≡ length threads + j → slice_get (said ∷ []) j ≡ Some other → other.thread ≡ i + 1
    last i zero other at there =
        let same : said ≡ other = cc in
        sym (ap (λ (s : ThreadAudit). s.thread) same) ∙ (number ∙ omega (arith, at))
    last i (suc j) other at there = absurd cc

-- the threads with one that has these counts and no marks
abbrev with_unmarked : List ThreadAudit → Counts → List ThreadAudit
with_unmarked threads counts = threads ++ unmarked (length threads + 1) counts ∷ []

unmarked_may : (setup : Setup) (threads : List ThreadAudit) (counts : Counts) → AreFirst setup threads → length threads < setup.threads
    → HasShortCounts counts → MayState (completed setup (with_unmarked threads counts))
unmarked_may setup threads counts are low short =
    completed_may setup (with_unmarked threads counts)
    (one_more setup threads (unmarked (length threads + 1) counts) are
    (record { passings = short.passings; recorded = short.recorded; segments = short.segments; first = short.first; marks = omega arith }) refl)
    (omega (arith, low, length-append threads (unmarked (length threads + 1) counts ∷ [])))

unmarked_rows : (setup : Setup) (threads : List ThreadAudit) (counts : Counts) → all_rows (completed setup (with_unmarked threads counts))
    ≡ counted_rows setup threads (length threads + 1) counts ++ marks_line [] ∷ later_rows setup (with_unmarked threads counts)
unmarked_rows setup threads counts =
    let said : ThreadAudit = unmarked (length threads + 1) counts in
    let later : List (List ℕ) = later_rows setup (with_unmarked threads counts) in
    let counted : List ℕ = counts_row (length threads + 1) counts in
    completed_rows setup (with_unmarked threads counts)
    ∙ (ap (λ (ls : List (List ℕ)). (format_row ∷ setup_row setup ∷ ls) ++ later) (rows-append threads (said ∷ []))
    ∙ ap (λ (ls : List (List ℕ)). format_row ∷ setup_row setup ∷ ls)
    (append_assoc (flat_map rows_of threads) (counted ∷ marks_line [] ∷ []) later
    ∙ sym (append_assoc (flat_map rows_of threads) (counted ∷ []) (marks_line [] ∷ later))))

abbrev pub IsMarksRow : List ℕ → Type 0
IsMarksRow row = (marks : List Mark) × (length marks ≤ most_marks) × (row ≡ marks_line marks)

pub refused_marks : TellsSetup → (bytes : List ℕ) (setup : Setup) (threads : List ThreadAudit) (counts : Counts) (rest : List (List ℕ))
    → AreFirst setup threads → length threads < setup.threads → HasShortCounts counts
    → whole_lines bytes ≡ counted_rows setup threads (length threads + 1) counts ++ rest → Unlike IsMarksRow rest
    → IsRefused bytes (length (counted_rows setup threads (length threads + 1) counts) + 1)
refused_marks tells bytes setup threads counts rest are low short lines other =
    refused_next bytes (counted_rows setup threads (length threads + 1) counts) rest IsMarksRow lines other
    (begins_by bytes (completed setup (with_unmarked threads counts)) (counted_rows setup threads (length threads + 1) counts) rest
    (marks_line [] ∷ later_rows setup (with_unmarked threads counts)) (unmarked_may setup threads counts are low short) (unmarked_rows setup threads counts) lines)
    next
  where
    next : (s : AuditStatement) → MayState s → take (length (counted_rows setup threads (length threads + 1) counts)) (all_rows s)
        ≡ counted_rows setup threads (length threads + 1) counts
        → (row : List ℕ) × (slice_get (all_rows s) (length (counted_rows setup threads (length threads + 1) counts)) ≡ Some row) × IsMarksRow row
    next s may same =
        let count = same_setup tells setup threads (flat_map rows_of threads ++ counts_row (length threads + 1) counts ∷ []) s are.setup_is may same in
        let item = some_item s.threads (length threads) (omega (arith, low, count)) in
        let rows = thread_rows s.threads (recycled_line s.recycled ∷ []) (length threads) (2 * length threads) item.0 refl item.1 in
        let long = length-append (first_rows setup threads) (counts_row (length threads + 1) counts ∷ []) in
        let place : length (counted_rows setup threads (length threads + 1) counts) ≡ suc (suc (suc (2 * length threads))) =
        omega (arith, length-first setup threads, long) in
        let has = all_get s.threads (length threads) item.0 may.counts item.1 in (
          marks_line item.0.marks,
          ap (slice_get (all_rows s)) place ∙ rows.1,
          (item.0.marks, has.marks, refl),
        )

-- ---- the end

abbrev pub IsRecycledRow : List ℕ → Type 0
IsRecycledRow row = (recycled : ℕ) × (recycled < 2 ^ 64) × (row ≡ recycled_line recycled)

pub refused_recycled : TellsSetup → (bytes : List ℕ) (setup : Setup) (threads : List ThreadAudit) (rest : List (List ℕ)) → AreFirst setup threads
    → length threads ≡ setup.threads → whole_lines bytes ≡ first_rows setup threads ++ rest → Unlike IsRecycledRow rest
    → IsRefused bytes (length (first_rows setup threads) + 1)
refused_recycled tells bytes setup threads rest are all lines other =
    refused_next bytes (first_rows setup threads) rest IsRecycledRow lines other
    (first_begin bytes setup threads rest are (omega (arith, all)) lines) next
  where
    next : (s : AuditStatement) → MayState s → take (length (first_rows setup threads)) (all_rows s) ≡ first_rows setup threads
        → (row : List ℕ) × (slice_get (all_rows s) (length (first_rows setup threads)) ≡ Some row) × IsRecycledRow row
    next s may same =
        let count = same_setup tells setup threads (flat_map rows_of threads) s are.setup_is may same in
        let place : length (first_rows setup threads) ≡ suc (suc (2 * length s.threads)) = omega (arith, length-first setup threads, count, all) in (
          recycled_line s.recycled,
          ap (slice_get (all_rows s)) place ∙ last_row s.threads (recycled_line s.recycled) (2 * length s.threads) refl,
          (s.recycled, may.recycled, refl),
        )

-- rows after all of an audit
pub refused_end : TellsSetup → (bytes : List ℕ) (statement : AuditStatement) (row : List ℕ) (more : List (List ℕ)) → MayState statement
    → whole_lines bytes ≡ all_rows statement ++ row ∷ more → IsRefused bytes (length (all_rows statement) + 1)
refused_end tells bytes statement row more may lines = record {
  fails = λ b.
      let count : length (all_rows statement) + 1 ≡ suc (length (all_rows statement)) = omega arith in
      let same : take (suc (length (all_rows statement))) (all_rows b.statement) ≡ take (suc (length (all_rows statement))) (all_rows statement ++ row ∷ more) =
      ap (take (suc (length (all_rows statement)))) (sym (rows_of_text b.statement))
      ∙ (subst (λ n. take n (whole_lines (text_of b.statement)) ≡ take n (whole_lines bytes)) count b.same
      ∙ ap (take (suc (length (all_rows statement)))) lines) in
      let parts = next_same (all_rows b.statement) (all_rows statement) row more same in
      let within = slice_get_within (all_rows b.statement) (length (all_rows statement)) row parts.0 in
      let threads = same_setup tells statement.setup statement.threads (flat_map rows_of statement.threads ++ recycled_line statement.recycled ∷ []) b.statement
      may.names.setup_is b.may parts.1 in
      omega (arith, within, threads, may.names.count, length-all b.statement, length-all statement);
  before = λ count less.
      let none : all_rows statement ≡ all_rows statement ++ [] = simp append-nil in
      begins_by bytes statement (all_rows statement) (row ∷ more) [] may none lines count (omega arith);
}
