-- The trace of a run whose counters don't fall, and whose segments differ, is imported as itself.
use Rattle.std.proofs.Common.{◌≡◌, ◌<◌, Ok, Result, ◌≤◌, ℕ, zero, suc, ◌+◌, Bool, true, cond, eqb, List, [], ◌∷◌, ◌++◌, Some, drop, inl, inr, length, map, refl, sym, ap, subst, ◌∙◌, arith}
use Rattle.std.specs.Prelude.{◌≢◌, ◌⊎◌, All, AllPairs, IsTrue, nat_lt, slice_get, slice_index_or}
use Rattle.std.specs.List.{AllByRecursion, enumerate_from, flat_map}
use Rattle.std.specs.Cmp.Lexicographic.{slice_cmp}
use Rattle.std.specs.declared.cmp.Ordering.{Ordering}
use Rattle.std.specs.declared.cmp.Ordering.TheVariants.{Less, Equal, Greater}
use Rattle.std.specs.Ordering.{nat_cmp, ordering_then}
use Rattle.std.proofs.lemmas.Bool.{cases_lt, lt-ltb}
use Rattle.std.proofs.lemmas.Cmp.{nat_cmp_total, tied_itself}
use Rattle.std.proofs.lemmas.List.Concat.{flat_map-cons}
use Rattle.std.proofs.lemmas.List.Elements.{All-append, All-cons, All-from_recursion, All-head, All-nil, All-tail}
use Rattle.std.proofs.lemmas.List.Kept.{AllPairs-cons}
use Rattle.fdr_record.specs.declared.event.Event.{Event}
use Rattle.fdr_buffer.specs.Filled.{Filled, has_event, used_bytes}
use Rattle.fdr_buffer.specs.Fits.{BufferFits}
use Rattle.fdr_buffer.specs.Segments.{segments}
use Rattle.fdr_file.specs.declared.fault.TraceFault.{TraceFault}
use Rattle.fdr_file.specs.declared.header.Header.{Header}
use Rattle.fdr_file.specs.declared.trace.Block.{Block}
use Rattle.fdr_file.specs.declared.trace.Trace.{Trace}
use Rattle.fdr_file.specs.Files.{BlockFits, HeaderFits, block_bytes, block_told, file_bytes, header_bytes, trace_told}
use Rattle.fdr_file.specs.Traces.{trace_of}
use Rattle.fdr_record.specs.declared.rec.Rec.TheVariants.{Extents}
use Rattle.fdr_record.specs.Records.{record_bytes}
use Rattle.machine_step.specs.Setups.{IsSetup}
use Rattle.machine_step.specs.declared.setup.Setup.{Setup}
use Rattle.runtime_log.specs.Laws.{AreInOrder, ImportsItself, MayStandBefore, buffer_key}
use Rattle.runtime_log.specs.Taken.{first_counter}
use Rattle.trace_flush.specs.Flush.{run_header}
use Rattle.traced_run.specs.Kept.{buffer_of, kept_buffers, kept_of, segments_of, stamp_of, thread_buffers}
use Rattle.traced_run.specs.Runs.{IsRun, ThreadRun, events_of}
use Rattle.xray_image.specs.Program.{IsAccepted, Program}
use Rattle.xray_program.specs.Import.{CountersDontFall, RunsImportThemselves, SegmentsDiffer}

-- ---- keys

key_first : (x y : ℕ) (xs ys : List ℕ) → x < y → slice_cmp nat_cmp (x ∷ xs) (y ∷ ys) ≡ Less
key_first x y xs ys below = ap (λ (b : Bool). ordering_then (cond b Less (cond (eqb x y) Equal Greater)) (slice_cmp nat_cmp xs ys)) (lt-ltb x y below)

key_same : (x : ℕ) (xs ys : List ℕ) → slice_cmp nat_cmp (x ∷ xs) (x ∷ ys) ≡ slice_cmp nat_cmp xs ys
key_same x xs ys = ap (λ (o : Ordering). ordering_then o (slice_cmp nat_cmp xs ys)) (tied_itself nat_cmp_total x)

-- A buffer comes before another one. If both are level, they have different events.
abbrev IsFirst : Filled → Filled → Type 0
IsFirst buffer later =
    (slice_cmp nat_cmp (buffer_key buffer) (buffer_key later) ≡ Less)
    ⊎ ((slice_cmp nat_cmp (buffer_key buffer) (buffer_key later) ≡ Equal) × (buffer.events ≢ later.events))

by_thread : (buffer later : Filled) → buffer.thread < later.thread → IsFirst buffer later
by_thread buffer later below =
    inl (key_first buffer.thread later.thread (buffer.wall.secs ∷ buffer.wall.micros ∷ first_counter buffer.events ∷ [])
    (later.wall.secs ∷ later.wall.micros ∷ first_counter later.events ∷ []) below)

by_counter : (thread secs micros n m : ℕ) → n < m → slice_cmp nat_cmp (thread ∷ secs ∷ micros ∷ n ∷ []) (thread ∷ secs ∷ micros ∷ m ∷ []) ≡ Less
by_counter thread secs micros n m below =
    key_same thread (secs ∷ micros ∷ n ∷ []) (secs ∷ micros ∷ m ∷ [])
    ∙ key_same secs (micros ∷ n ∷ []) (micros ∷ m ∷ [])
    ∙ key_same micros (n ∷ []) (m ∷ [])
    ∙ key_first n m [] [] below

by_none : (thread secs micros n m : ℕ) → n ≡ m → slice_cmp nat_cmp (thread ∷ secs ∷ micros ∷ n ∷ []) (thread ∷ secs ∷ micros ∷ m ∷ []) ≡ Equal
by_none thread secs micros n m same =
    key_same thread (secs ∷ micros ∷ n ∷ []) (secs ∷ micros ∷ m ∷ [])
    ∙ key_same secs (micros ∷ n ∷ []) (micros ∷ m ∷ [])
    ∙ key_same micros (n ∷ []) (m ∷ [])
    ∙ ap (λ (k : ℕ). slice_cmp nat_cmp (n ∷ []) (k ∷ [])) (sym same)
    ∙ key_same n [] []

-- ---- segments of events whose counter doesn't fall

abbrev Higher : Event → Event → Type 0
Higher event later = event.tsc ≤ later.tsc

abbrev IsSome : List Event → Type 0
IsSome events = events ≢ []

pairs_tail : (x : Event) (xs : List Event) → AllPairs Higher (x ∷ xs) → AllPairs Higher xs
pairs_tail x xs rise = λ i j d ahead within. rise (suc i) (suc j) d (omega arith) (omega arith)

pairs_rest : (xs ys : List Event) → AllPairs Higher (xs ++ ys) → AllPairs Higher ys
pairs_rest [] ys rise = rise
pairs_rest (x ∷ xs) ys rise = pairs_rest xs ys (pairs_tail x (xs ++ ys) rise)

all_rest : (P : Event → Type 0) (xs ys : List Event) → All P (xs ++ ys) → All P ys
all_rest P [] ys all = all
all_rest P (x ∷ xs) ys all = all_rest P xs ys (All-tail P x (xs ++ ys) all)

higher_first : (x : Event) (xs : List Event) → AllPairs Higher (x ∷ xs) → All (Higher x) xs
higher_first x xs rise = λ k d within. rise 0 (suc k) d (omega arith) (omega arith)

-- the events of segments, one after the other
abbrev events_in : List (List Event) → List Event
events_in segs = flat_map (λ (s : List Event). s) segs

-- segments begin with no lower counter than this one
abbrev BeginHigher : List Event → List (List Event) → Type 0
BeginHigher events segs = AllByRecursion (λ (s : List Event). first_counter events ≤ first_counter s) segs

abbrev SegmentsRise : List (List Event) → Type 0
SegmentsRise [] = Unit {0}
SegmentsRise (events ∷ segs) = BeginHigher events segs × SegmentsRise segs

begin_higher : (event : Event) (events : List Event) (segs : List (List Event)) → All IsSome segs → All (Higher event) (events_in segs) → BeginHigher (event ∷ events) segs
begin_higher event events [] some high = tt
begin_higher event events ([] ∷ segs) some high = absurd (All-head IsSome [] segs some refl)
begin_higher event events ((next ∷ more) ∷ segs) some high =
    let all = subst (All (Higher event)) (flat_map-cons (λ (s : List Event). s) (next ∷ more) segs) high in (
      All-head (Higher event) next (more ++ events_in segs) all,
      begin_higher event events segs (All-tail IsSome (next ∷ more) segs some) (all_rest (Higher event) (next ∷ more) (events_in segs) all),
    )

segments_rise : (segs : List (List Event)) → All IsSome segs → AllPairs Higher (events_in segs) → SegmentsRise segs
segments_rise [] some rise = tt
segments_rise ([] ∷ segs) some rise = absurd (All-head IsSome [] segs some refl)
segments_rise ((event ∷ events) ∷ segs) some rise =
    let all = subst (AllPairs Higher) (flat_map-cons (λ (s : List Event). s) (event ∷ events) segs) rise in
    let others = All-tail IsSome (event ∷ events) segs some in (
      begin_higher event events segs others (all_rest (Higher event) events (events_in segs) (higher_first event (events ++ events_in segs) all)),
      segments_rise segs others (pairs_rest (event ∷ events) (events_in segs) all),
    )

-- segments with other events than these
abbrev AreOthers : List Event → List (List Event) → Type 0
AreOthers events segs = AllByRecursion (λ (s : List Event). events ≢ s) segs

abbrev SegmentsApart : List (List Event) → Type 0
SegmentsApart [] = Unit {0}
SegmentsApart (events ∷ segs) = AreOthers events segs × SegmentsApart segs

others_are : (events : List Event) (segs : List (List Event)) → All (λ (s : List Event). events ≢ s) segs → AreOthers events segs
others_are events [] all = tt
others_are events (s ∷ segs) all =
    (All-head (λ (x : List Event). events ≢ x) s segs all, others_are events segs (All-tail (λ (x : List Event). events ≢ x) s segs all))

apart_are : (segs : List (List Event)) → AllPairs (λ (s later : List Event). s ≢ later) segs → SegmentsApart segs
apart_are [] differ = tt
apart_are (s ∷ segs) differ = (
  others_are s segs (λ k d within. differ 0 (suc k) d (omega arith) (omega arith)),
  apart_are segs (λ i j d ahead within. differ (suc i) (suc j) d (omega arith) (omega arith)),
)

-- ---- buffers in order

abbrev Ordered : List Filled → Type 0
Ordered [] = Unit {0}
Ordered (b ∷ buffers) = AllByRecursion (IsFirst b) buffers × Ordered buffers

to_pairs : (buffers : List Filled) → Ordered buffers → AllPairs IsFirst buffers
to_pairs [] is = λ i j d ahead within. absurd (omega (arith, within))
to_pairs (b ∷ buffers) (here, rest) = AllPairs-cons IsFirst b buffers (All-from_recursion (IsFirst b) buffers here) (to_pairs buffers rest)

joined_all : (P : Filled → Type 0) (xs ys : List Filled) → AllByRecursion P xs → AllByRecursion P ys → AllByRecursion P (xs ++ ys)
joined_all P [] ys first second = second
joined_all P (x ∷ xs) ys (here, first) second = (here, joined_all P xs ys first second)

joined : (xs ys : List Filled) → Ordered xs → Ordered ys → AllByRecursion (λ (x : Filled). AllByRecursion (IsFirst x) ys) xs → Ordered (xs ++ ys)
joined [] ys first second before = second
joined (x ∷ xs) ys (here, first) second (its, before) = (joined_all (IsFirst x) xs ys here its, joined xs ys first second before)

-- of one thread
later_segment : (setup : Setup) (thread n k : ℕ) (events next : List Event) → first_counter events ≤ first_counter next → events ≢ next
    → IsFirst (buffer_of (stamp_of setup) thread (n, events)) (buffer_of (stamp_of setup) thread (k, next))
later_segment setup thread n k events next high other = by_first (cases_lt (first_counter events) (first_counter next))
  where
    by_first : (first_counter events < first_counter next) ⊎ (first_counter next ≤ first_counter events)
        → IsFirst (buffer_of (stamp_of setup) thread (n, events)) (buffer_of (stamp_of setup) thread (k, next))
    by_first (inl below) = inl (by_counter thread setup.wall.secs setup.wall.micros (first_counter events) (first_counter next) below)
    by_first (inr above) =
        inr (by_none thread setup.wall.secs setup.wall.micros (first_counter events) (first_counter next) (omega (arith, high, above)), other)

later_segments : (setup : Setup) (thread n k : ℕ) (events : List Event) (segs : List (List Event)) → BeginHigher events segs → AreOthers events segs
    → AllByRecursion (IsFirst (buffer_of (stamp_of setup) thread (n, events))) (map (buffer_of (stamp_of setup) thread) (enumerate_from k segs))
later_segments setup thread n k events [] high others = tt
later_segments setup thread n k events (next ∷ segs) high others =
    (later_segment setup thread n k events next high.0 others.0, later_segments setup thread n (k + 1) events segs high.1 others.1)

segments_ordered : (setup : Setup) (thread first k : ℕ) (segs : List (List Event)) → SegmentsRise segs → SegmentsApart (drop first segs)
    → Ordered (map (buffer_of (stamp_of setup) thread) (drop first (enumerate_from k segs)))
segments_ordered setup thread zero k [] rise apart = tt
segments_ordered setup thread zero k (events ∷ segs) rise apart =
    (later_segments setup thread k (k + 1) events segs rise.0 apart.0, segments_ordered setup thread zero (k + 1) segs rise.1 apart.1)
segments_ordered setup thread (suc first) k [] rise apart = tt
segments_ordered setup thread (suc first) k (events ∷ segs) rise apart = segments_ordered setup thread first (k + 1) segs rise.1 apart

-- all are of threads from this one on
abbrev FromThread : ℕ → List Filled → Type 0
FromThread k buffers = AllByRecursion (λ (b : Filled). k ≤ b.thread) buffers

abbrev OfThread : ℕ → List Filled → Type 0
OfThread thread buffers = AllByRecursion (λ (b : Filled). b.thread ≡ thread) buffers

from_lower : (k n : ℕ) (buffers : List Filled) → k ≤ n → FromThread n buffers → FromThread k buffers
from_lower k n [] low from = tt
from_lower k n (b ∷ buffers) low (here, from) = (omega (arith, low, here), from_lower k n buffers low from)

own_from : (setup : Setup) (thread first k : ℕ) (segs : List (List Event)) → OfThread thread (map (buffer_of (stamp_of setup) thread) (drop first (enumerate_from k segs)))
own_from setup thread zero k [] = tt
own_from setup thread zero k (events ∷ segs) = (refl, own_from setup thread zero (k + 1) segs)
own_from setup thread (suc first) k [] = tt
own_from setup thread (suc first) k (events ∷ segs) = own_from setup thread first (k + 1) segs

are_from : (thread : ℕ) (buffers : List Filled) → OfThread thread buffers → FromThread thread buffers
are_from thread [] own = tt
are_from thread (b ∷ buffers) (here, own) = (omega (arith, here), are_from thread buffers own)

-- the buffers of the threads from this one on
abbrev buffers_from : Setup → ℕ → List ThreadRun → List Filled
buffers_from setup k runs = flat_map (thread_buffers setup) (enumerate_from k runs)

all_from : (setup : Setup) (k : ℕ) (runs : List ThreadRun) → FromThread k (buffers_from setup k runs)
all_from setup k [] = tt
all_from setup k (run ∷ runs) =
    subst (FromThread k) (sym (flat_map-cons (thread_buffers setup) (k, run) (enumerate_from (k + 1) runs)))
    (joined_all (λ (b : Filled). k ≤ b.thread) (thread_buffers setup (k, run)) (buffers_from setup (k + 1) runs)
    (are_from k (thread_buffers setup (k, run)) (own_from setup k run.lost 0 (segments_of setup.size run)))
    (from_lower k (k + 1) (buffers_from setup (k + 1) runs) (omega arith) (all_from setup (k + 1) runs)))

one_before : (thread : ℕ) (b : Filled) (buffers : List Filled) → b.thread ≡ thread → FromThread (thread + 1) buffers → AllByRecursion (IsFirst b) buffers
one_before thread b [] own later = tt
one_before thread b (c ∷ buffers) own (here, later) = (by_thread b c (omega (arith, own, here)), one_before thread b buffers own later)

before_later : (thread : ℕ) (xs ys : List Filled) → OfThread thread xs → FromThread (thread + 1) ys → AllByRecursion (λ (x : Filled). AllByRecursion (IsFirst x) ys) xs
before_later thread [] ys own later = tt
before_later thread (x ∷ xs) ys (here, own) later = (one_before thread x ys here later, before_later thread xs ys own later)

-- of all threads
abbrev RunsRise : Setup → List ThreadRun → Type 0
RunsRise setup [] = Unit {0}
RunsRise setup (run ∷ runs) = SegmentsRise (segments_of setup.size run) × SegmentsApart (kept_of setup.size run) × RunsRise setup runs

all_ordered : (setup : Setup) (k : ℕ) (runs : List ThreadRun) → RunsRise setup runs → Ordered (buffers_from setup k runs)
all_ordered setup k [] rise = tt
all_ordered setup k (run ∷ runs) rise =
    let first = thread_buffers setup (k, run) in
    let rest = buffers_from setup (k + 1) runs in
    subst Ordered (sym (flat_map-cons (thread_buffers setup) (k, run) (enumerate_from (k + 1) runs)))
    (joined first rest (segments_ordered setup k run.lost 0 (segments_of setup.size run) rise.0 rise.1) (all_ordered setup (k + 1) runs rise.2)
    (before_later k first rest (own_from setup k run.lost 0 (segments_of setup.size run)) (all_from setup (k + 1) runs)))

-- ---- buffers that were begun, with events

abbrev HasEvent : Filled → Type 0
HasEvent buffer = IsTrue (has_event buffer)

abbrev IsBegun : Filled → Type 0
IsBegun buffer = IsTrue buffer.begun

some_event : (events : List Event) → IsSome events → nat_lt 0 (length events) ≡ true
some_event [] some = absurd (some refl)
some_event (event ∷ events) some = lt-ltb 0 (length (event ∷ events)) (omega arith)

-- of each buffer holds what holds of a buffer of each segment
each_of : (P : Filled → Type 0) (Q : List Event → Type 0) (setup : Setup) (thread : ℕ) → ((k : ℕ) (events : List Event) → Q events → P (buffer_of (stamp_of setup) thread (k, events)))
    → (first k : ℕ) (segs : List (List Event)) → All Q segs → All P (map (buffer_of (stamp_of setup) thread) (drop first (enumerate_from k segs)))
each_of P Q setup thread makes zero k [] all = All-nil P
each_of P Q setup thread makes zero k (events ∷ segs) all =
    All-cons P (buffer_of (stamp_of setup) thread (k, events)) (map (buffer_of (stamp_of setup) thread) (enumerate_from (k + 1) segs)) (makes k events (All-head Q events segs all))
    (each_of P Q setup thread makes zero (k + 1) segs (All-tail Q events segs all))
each_of P Q setup thread makes (suc first) k [] all = All-nil P
each_of P Q setup thread makes (suc first) k (events ∷ segs) all = each_of P Q setup thread makes first (k + 1) segs (All-tail Q events segs all)

-- no segment is empty
abbrev pub NoneEmpty : Type 0
NoneEmpty = (size : ℕ) (events : List Event) → All (λ s. s ≢ []) (segments size events)

all_begun : NoneEmpty → (P : Filled → Type 0) (setup : Setup) → ((thread k : ℕ) (events : List Event) → IsSome events → P (buffer_of (stamp_of setup) thread (k, events)))
    → (k : ℕ) (runs : List ThreadRun) → All P (buffers_from setup k runs)
all_begun none P setup makes k [] = All-nil P
all_begun none P setup makes k (run ∷ runs) =
    subst (All P) (sym (flat_map-cons (thread_buffers setup) (k, run) (enumerate_from (k + 1) runs)))
    (All-append P (thread_buffers setup (k, run)) (buffers_from setup (k + 1) runs)
    (each_of P IsSome setup k (makes k) run.lost 0 (segments_of setup.size run) (none setup.size (events_of run)))
    (all_begun none P setup makes (k + 1) runs))

-- ---- the law

-- the laws of the crates below
abbrev pub AllHeld : Type 0
AllHeld = (size : ℕ) (events : List Event) → flat_map (λ s. s) (segments size events) ≡ events

abbrev pub RunsFit : Type 0
RunsFit = (bytes : List ℕ) (program : Program) (setup : Setup) (runs : List ThreadRun) → IsAccepted bytes program → IsSetup setup → IsRun program setup runs → All BufferFits (kept_buffers setup runs)

abbrev pub Reads : Type 0
Reads = (header : Header) (buffers : List Filled) → HeaderFits header → All BlockFits buffers → trace_of (file_bytes header buffers) ≡ Ok (trace_told header buffers)

runs_rise : AllHeld → NoneEmpty → (setup : Setup) (runs : List ThreadRun)
    → ((i : ℕ) (run : ThreadRun) → slice_get runs i ≡ Some run → CountersDontFall (events_of run) × SegmentsDiffer setup run) → RunsRise setup runs
runs_rise held none setup [] rise = tt
runs_rise held none setup (run ∷ runs) rise = (
  segments_rise (segments_of setup.size run) (none setup.size (events_of run)) (subst (AllPairs Higher) (sym (held setup.size (events_of run))) (rise 0 run refl).0),
  apart_are (kept_of setup.size run) (rise 0 run refl).1,
  runs_rise held none setup runs (λ i other is. rise (suc i) other is),
)

header_fits : (setup : Setup) → IsSetup setup → HeaderFits (run_header setup)
header_fits setup is = record { version = refl; frequency = is.frequency; size = omega (arith, is.most) }

-- buffers with the same bytes have the same events
abbrev ok : Trace → Result Trace TraceFault
ok trace = Ok trace

same_events : Reads → (header : Header) → HeaderFits header → (b c : Filled) → BlockFits b → BlockFits c → used_bytes b ≡ used_bytes c → b.events ≡ c.events
same_events reads header fits b c fit other same =
    let block : block_bytes b ≡ block_bytes c = ap (λ (x : List ℕ). record_bytes (Extents (length x)) ++ x) same in
    let file : file_bytes header (b ∷ []) ≡ file_bytes header (c ∷ []) =
    ap (λ (x : List ℕ). header_bytes header ++ x)
    (flat_map-cons block_bytes b [] ∙ ap (λ (x : List ℕ). x ++ flat_map block_bytes []) block ∙ sym (flat_map-cons block_bytes c [])) in
    let both : ok (trace_told header (b ∷ [])) ≡ ok (trace_told header (c ∷ [])) =
    sym (reads header (b ∷ []) fits (All-cons BlockFits b [] fit (All-nil BlockFits)))
    ∙ ap trace_of file ∙ reads header (c ∷ []) fits (All-cons BlockFits c [] other (All-nil BlockFits)) in
    let trace : trace_told header (b ∷ []) ≡ trace_told header (c ∷ []) = cc in
    let blocks : block_told b ∷ [] ≡ block_told c ∷ [] = ap (λ (t : Trace). t.blocks) trace in
    let one : block_told b ≡ block_told c = cc in
    ap (λ (x : Block). x.events) one

may_stand : Reads → (header : Header) → HeaderFits header → (buffer later : Filled) → BlockFits buffer → BlockFits later → IsFirst buffer later
    → MayStandBefore (slice_cmp nat_cmp (buffer_key buffer) (buffer_key later)) buffer later
may_stand reads header fits buffer later fit other (inl first) = subst (λ (o : Ordering). MayStandBefore o buffer later) (sym first) tt
may_stand reads header fits buffer later fit other (inr (level, differ)) =
    subst (λ (o : Ordering). MayStandBefore o buffer later) (sym level)
    (λ same. differ (same_events reads header fits buffer later fit other same))

in_order : Reads → (header : Header) → HeaderFits header → (buffers : List Filled) → All BlockFits buffers → AllPairs IsFirst buffers → AreInOrder buffers
in_order reads header fits buffers fit first = λ i j d ahead within.
    may_stand reads header fits (slice_index_or buffers i d) (slice_index_or buffers j d) (fit i d (omega (arith, ahead, within))) (fit j d within) (first i j d ahead within)

blocks_fit : (buffers : List Filled) → All IsBegun buffers → All BufferFits buffers → All BlockFits buffers
blocks_fit buffers begun fit = λ k d within. record { begun = begun k d within; fits = fit k d within }

pub run_imported : ImportsItself → AllHeld → NoneEmpty → RunsFit → Reads → RunsImportThemselves
run_imported imported held none fit reads image program setup runs file facts accepted is run rise made =
    let buffers = kept_buffers setup runs in
    let header = header_fits setup is in
    let begun = all_begun none IsBegun setup (λ thread k events some. refl) 1 runs in
    let events = all_begun none HasEvent setup (λ thread k events some. some_event events some) 1 runs in
    let blocks = blocks_fit buffers begun (fit image program setup runs accepted is run) in
    imported (run_header setup) buffers file facts header blocks events
    (in_order reads (run_header setup) header buffers blocks (to_pairs buffers (all_ordered setup 1 runs (runs_rise held none setup runs rise)))) made
