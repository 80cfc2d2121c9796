-- What is imported of a log: all events of each thread, and what is printed of them.
use Rattle.std.proofs.Common.{◌≡◌, ℕ, suc, ◌+◌, ◌-◌, ◌<◌, ◌≤◌, Bool, true, false, cond, eqb, List, [], ◌∷◌, ◌++◌, All, length, map, Option, Some, None, Result, Ok, refl, sym, ap, subst, ◌∙◌, append-nil, inl, inr, arith}
use Rattle.std.specs.Prelude.{◌⊎◌, Contains, MatchOption, count_by, filter, min, max}
use Rattle.std.specs.List.{AllByRecursion, flat_map, sum_by}
use Rattle.std.specs.Option.{option_map_or}
use Rattle.std.proofs.lemmas.List.{length-map, map-append}
use Rattle.std.proofs.lemmas.List.Concat.{flat_map-cons}
use Rattle.std.proofs.lemmas.Bool.{cases_lt, lt-ltb}
use Rattle.std.proofs.lemmas.List.Elements.{All-from_recursion, filter-append}
use Rattle.std.proofs.lemmas.List.Sums.{count_by-le-length, length-filter, sum_by-cons}
use Rattle.std.proofs.lemmas.List.Sorted.{sum_by-IsPermutation}
use Rattle.fdr_buffer.specs.Segments.{segments}
use Rattle.fdr_record.specs.declared.event.Event.{Event}
use Rattle.fdr_file.specs.declared.fault.TraceFault.{TraceFault}
use Rattle.fdr_file.specs.declared.trace.Block.{Block}
use Rattle.fdr_file.specs.declared.header.Header.{Header}
use Rattle.fdr_file.specs.declared.trace.Trace.{Trace}
use Rattle.fdr_file.specs.ThreadEvents.{ThreadEvent, block_events, thread_events}
use Rattle.fdr_file.specs.Traces.{trace_of, type_in}
use Rattle.runtime_log.specs.declared.facts.Facts.{Facts}
use Rattle.runtime_log.specs.declared.blocks.Mode.{Mode}
use Rattle.runtime_log.specs.Facts.{facts_of, greatest_of, least_of}
use Rattle.runtime_log.specs.Imports.{AreTakenOf, IsImport, trace_taken}
use Rattle.runtime_log.specs.Laws.{ImportsRead}
use Rattle.runtime_log.specs.LogLaws.{IsGreatest, IsLeast, NumbersAreMeant, NumbersAreOf, NumbersAreOfEvents, ThreadsAreKept, blocks_of_thread, pool_events}
use Rattle.runtime_log.specs.Logs.{Log, LogBlock, logged}
use Rattle.runtime_log.specs.Threads.{AreByThread, recorded_by}
use Rattle.runtime_log.specs.Taken.{AreTaken, chosen, comes_before, first_ones, has_events, is_doubled, order_key, undoubled}
use Rattle.runtime_log.proofs.ByThread.{none_by_thread}
use Rattle.runtime_log.proofs.CountedThreads.{AtMost, DontFall, back_counted, threads_counted, threads_of}
use Rattle.runtime_log.proofs.LeftOut.{doubled_count, empty_places}
use Rattle.runtime_log.proofs.LogDescribed.{header_read}
use Rattle.runtime_log.proofs.OneOrder.{NoneBefore, Rises, rises_from_sorted}
use Rattle.runtime_log.proofs.TakenBlocks.{empty_count}
use Rattle.runtime_log.proofs.ThreadsKept.{pieces_events}
use Rattle.runtime_log.proofs.WholeLogs.{HasParts, log_parts}

-- the segments of events hold all of them
abbrev pub AllHeld : Type 0
AllHeld = (size : ℕ) (events : List Event) → flat_map (λ s. s) (segments size events) ≡ events

-- ---- the events of a trace

-- events with the thread and the process of a block
abbrev of_block : Block → List Event → List ThreadEvent
of_block block events = map (λ (event : Event). let e : ThreadEvent = record { thread = block.thread; pid = block.pid; event = event } in e) events

abbrev ok : Trace → Result Trace TraceFault
ok trace = Ok trace

-- of a log of this type only blocks of the pool are taken
pool_alone : (bytes : List ℕ) (log : Log) (taken : List Block) → type_in bytes ≡ 1 → logged bytes ≡ Ok log → (takes : AreTakenOf log taken) → taken ≡ map (λ (b : LogBlock). b.block) takes.pool
pool_alone bytes log taken form says takes =
    let parts = log_parts bytes log says in
    let h = header_read bytes parts.mode form parts.headed in
    let has = subst (λ (m : Mode). HasParts m bytes log) h.1 parts.has in
    let none : takes.threads ≡ [] = none_by_thread takes.threads (subst (λ (es : List ThreadEvent). AreByThread es takes.threads) has.1 takes.by_thread) in
    takes.parts
    ∙ ap (λ (bs : List Block). map (λ (b : LogBlock). b.block) takes.pool ++ bs) none
    ∙ append-nil (map (λ (b : LogBlock). b.block) takes.pool)

-- no argument of such a log has lost its entry
none_lost : (bytes : List ℕ) (log : Log) → type_in bytes ≡ 1 → logged bytes ≡ Ok log → log.lost ≡ 0
none_lost bytes log form says =
    let parts = log_parts bytes log says in
    let h = header_read bytes parts.mode form parts.headed in
    (subst (λ (m : Mode). HasParts m bytes log) h.1 parts.has).2

-- the header of a trace is that of its log
pub trace_header : ImportsRead → (bytes file : List ℕ) (facts : Facts) (trace : Trace) → All (λ b. b < 256) bytes → (made : IsImport bytes file facts) → trace_of file ≡ Ok trace
    → trace.header ≡ made.log.header
trace_header reads bytes file facts trace all made is =
    let both : ok trace ≡ ok (trace_taken made.log.header made.taken) = sym is ∙ reads bytes file facts all made in
    let same : trace ≡ trace_taken made.log.header made.taken = cc in
    ap (λ (t : Trace). t.header) same

pub trace_events : ImportsRead → AllHeld → (bytes file : List ℕ) (facts : Facts) (trace : Trace) → All (λ b. b < 256) bytes → type_in bytes ≡ 1 → (made : IsImport bytes file facts)
    → trace_of file ≡ Ok trace → thread_events trace.blocks ≡ pool_events made.takes.pool
trace_events reads held bytes file facts trace all form made is =
    let both : ok trace ≡ ok (trace_taken made.log.header made.taken) = sym is ∙ reads bytes file facts all made in
    let same : trace ≡ trace_taken made.log.header made.taken = cc in
    ap (λ (t : Trace). thread_events t.blocks) same
    ∙ pieces_events held made.taken
    ∙ ap thread_events (pool_alone bytes made.log made.taken form made.says made.takes)

-- ---- those of a thread

abbrev IsOf : ℕ → ThreadEvent → Bool
IsOf thread e = eqb e.thread thread

all_own : (block : Block) (thread : ℕ) (events : List Event) → eqb block.thread thread ≡ true → filter (IsOf thread) (of_block block events) ≡ of_block block events
all_own block thread [] is = refl
all_own block thread (event ∷ events) is = rw is (ap (λ (es : List ThreadEvent). record { thread = block.thread; pid = block.pid; event = event } ∷ es) (all_own block thread events is))

none_own : (block : Block) (thread : ℕ) (events : List Event) → eqb block.thread thread ≡ false → filter (IsOf thread) (of_block block events) ≡ []
none_own block thread [] is = refl
none_own block thread (event ∷ events) is = rw is (none_own block thread events is)

of_thread : (thread : ℕ) (taken : List LogBlock) → filter (IsOf thread) (pool_events taken) ≡ pool_events (blocks_of_thread thread taken)
of_thread thread [] = refl
of_thread thread (b ∷ taken) =
    ap (filter (IsOf thread)) (flat_map-cons block_events b.block (map (λ (x : LogBlock). x.block) taken))
    ∙ filter-append (IsOf thread) (block_events b.block) (pool_events taken)
    ∙ ap (λ (es : List ThreadEvent). filter (IsOf thread) (block_events b.block) ++ es) (of_thread thread taken)
    ∙ by_own (eqb b.block.thread thread) refl
  where
    by_own : (own : Bool) → eqb b.block.thread thread ≡ own
        → filter (IsOf thread) (block_events b.block) ++ pool_events (blocks_of_thread thread taken) ≡ pool_events (cond own (b ∷ blocks_of_thread thread taken) (blocks_of_thread thread taken))
    by_own true e =
        ap (λ (es : List ThreadEvent). es ++ pool_events (blocks_of_thread thread taken)) (all_own b.block thread b.block.events e)
        ∙ sym (flat_map-cons block_events b.block (map (λ (x : LogBlock). x.block) (blocks_of_thread thread taken)))
    by_own false e = ap (λ (es : List ThreadEvent). es ++ pool_events (blocks_of_thread thread taken)) (none_own b.block thread b.block.events e)

pub threads_kept : ImportsRead → AllHeld → ThreadsAreKept
threads_kept reads held bytes file facts trace thread all form made is =
    ap (recorded_by thread) (trace_events reads held bytes file facts trace all form made is) ∙ of_thread thread made.takes.pool

-- ---- how many blocks

ones : {X : Type 0} (xs : List X) → sum_by (λ (x : X). 1) xs ≡ length xs
ones [] = refl
ones {X} (x ∷ xs) = sum_by-cons (λ (y : X). 1) x xs ∙ ap (λ (n : ℕ). 1 + n) (ones xs) ∙ omega arith

first_few : (before : List (List ℕ)) (blocks : List LogBlock) → length (first_ones before blocks) ≤ length blocks
first_few before [] = omega arith
first_few before (b ∷ blocks) = by_test (first_few (b.content ∷ before) blocks) (is_doubled before b.content)
  where
    others : List LogBlock
    others = first_ones (b.content ∷ before) blocks

    by_test : length others ≤ length blocks → (doubled : Bool) → length (cond doubled others (b ∷ others)) ≤ length (b ∷ blocks)
    by_test few true = omega (arith, few)
    by_test few false = omega (arith, few)

each_counted : (blocks taken : List LogBlock) → AreTaken blocks taken
    → length taken + (length blocks - length (undoubled blocks)) + count_by (λ (b : LogBlock). eqb (length b.block.events) 0) (undoubled blocks) ≡ length blocks
each_counted blocks taken are =
    let same : length (chosen blocks) ≡ length taken = sym (ones (chosen blocks)) ∙ sym (sum_by-IsPermutation (λ (x : LogBlock). 1) (chosen blocks) taken are.all) ∙ ones taken in
    let kept : length (chosen blocks) ≤ length (undoubled blocks) = omega (arith, length-filter has_events (undoubled blocks), count_by-le-length has_events (undoubled blocks)) in
    omega (arith, same, kept, empty_count (undoubled blocks), first_few [] blocks)

-- ---- the least and the greatest

contains_more : (n m : ℕ) (ns : List ℕ) → Contains ns m → Contains (n ∷ ns) m
contains_more n m ns (k, within, is) = (suc k, omega (arith, within), is)

abbrev Least : List ℕ → ℕ → Type 0
Least ns n = Contains ns n × AllByRecursion (λ (m : ℕ). n ≤ m) ns

least_more : (n m : ℕ) (ns : List ℕ) → Least ns m → Least (n ∷ ns) (min n m)
least_more n m ns (one, all) = by_order (cases_lt n m)
  where
    below : (k : ℕ) (xs : List ℕ) → k ≤ m → AllByRecursion (λ (x : ℕ). m ≤ x) xs → AllByRecursion (λ (x : ℕ). k ≤ x) xs
    below k [] low is = tt
    below k (x ∷ xs) low is = (omega (arith, low, is.0), below k xs low is.1)

    by_order : (n < m) ⊎ (m ≤ n) → Least (n ∷ ns) (min n m)
    by_order (inl less) =
        let is : n ≡ min n m = omega (arith, less) in
        subst (Least (n ∷ ns)) is ((0, omega arith, refl), (omega arith, below n ns (omega (arith, less)) all))
    by_order (inr more) =
        let is : m ≡ min n m = omega (arith, more) in
        subst (Least (n ∷ ns)) is (contains_more n m ns one, (more, all))

is_least : (ns : List ℕ) → MatchOption (least_of ns) (ns ≡ []) (Least ns)
is_least [] = refl
is_least (n ∷ ns) = by_rest (least_of ns) (is_least ns)
  where
    by_rest : (o : Option ℕ) → MatchOption o (ns ≡ []) (Least ns) → Least (n ∷ ns) (option_map_or (min n) o n)
    by_rest None none = subst (λ (xs : List ℕ). Least (n ∷ xs) n) (sym none) ((0, omega arith, refl), (omega arith, tt))
    by_rest (Some m) is = least_more n m ns is

abbrev Greatest : List ℕ → ℕ → Type 0
Greatest ns n = Contains ns n × AllByRecursion (λ (m : ℕ). m ≤ n) ns

greatest_more : (n m : ℕ) (ns : List ℕ) → Greatest ns m → Greatest (n ∷ ns) (max n m)
greatest_more n m ns (one, all) = by_order (cases_lt n m)
  where
    above : (k : ℕ) (xs : List ℕ) → m ≤ k → AllByRecursion (λ (x : ℕ). x ≤ m) xs → AllByRecursion (λ (x : ℕ). x ≤ k) xs
    above k [] high is = tt
    above k (x ∷ xs) high is = (omega (arith, high, is.0), above k xs high is.1)

    by_order : (n < m) ⊎ (m ≤ n) → Greatest (n ∷ ns) (max n m)
    by_order (inl less) =
        let is : m ≡ max n m = omega (arith, less) in
        subst (Greatest (n ∷ ns)) is (contains_more n m ns one, (omega (arith, less), all))
    by_order (inr more) =
        let is : n ≡ max n m = omega (arith, more) in
        subst (Greatest (n ∷ ns)) is ((0, omega arith, refl), (omega arith, above n ns more all))

is_greatest : (ns : List ℕ) → MatchOption (greatest_of ns) (ns ≡ []) (Greatest ns)
is_greatest [] = refl
is_greatest (n ∷ ns) = by_rest (greatest_of ns) (is_greatest ns)
  where
    by_rest : (o : Option ℕ) → MatchOption o (ns ≡ []) (Greatest ns) → Greatest (n ∷ ns) (option_map_or (max n) o n)
    by_rest None none = subst (λ (xs : List ℕ). Greatest (n ∷ xs) n) (sym none) ((0, omega arith, refl), (omega arith, tt))
    by_rest (Some m) is = greatest_more n m ns is

least_is : (ns : List ℕ) (o : Option ℕ) → MatchOption o (ns ≡ []) (Least ns) → IsLeast ns o
least_is ns None is = is
least_is ns (Some n) is = (is.0, All-from_recursion (λ (m : ℕ). n ≤ m) ns is.1)

greatest_is : (ns : List ℕ) (o : Option ℕ) → MatchOption o (ns ≡ []) (Greatest ns) → IsGreatest ns o
greatest_is ns None is = is
greatest_is ns (Some n) is = (is.0, All-from_recursion (λ (m : ℕ). m ≤ n) ns is.1)

-- ---- threads

thread_low : (b other : LogBlock) → comes_before other b ≡ false → b.block.thread ≤ other.block.thread
thread_low b other after = by_order (cases_lt other.block.thread b.block.thread)
  where
    by_order : (other.block.thread < b.block.thread) ⊎ (b.block.thread ≤ other.block.thread) → b.block.thread ≤ other.block.thread
    by_order (inr low) = low
    by_order (inl less) =
        let first : comes_before other b ≡ true = rw (lt-ltb other.block.thread b.block.thread less) refl in
        let wrong : true ≡ false = sym first ∙ after in
        absurd cc

abbrev threads_in : List LogBlock → List ℕ
threads_in taken = map (λ (e : ThreadEvent). e.thread) (pool_events taken)

pub at_most_join : (n : ℕ) (xs ys : List ℕ) → AtMost n xs → AtMost n ys → AtMost n (xs ++ ys)
at_most_join n [] ys one two = two
at_most_join n (x ∷ xs) ys one two = (one.0, at_most_join n xs ys one.1 two)

pub own_threads : (block : Block) (events : List Event) (rest : List ℕ) → AtMost block.thread rest → DontFall rest
    → AtMost block.thread (map (λ (e : ThreadEvent). e.thread) (of_block block events) ++ rest) × DontFall (map (λ (e : ThreadEvent). e.thread) (of_block block events) ++ rest)
own_threads block [] rest low rise = (low, rise)
own_threads block (event ∷ events) rest low rise =
    let again = own_threads block events rest low rise in
    ((omega arith, again.0), (again.0, again.1))

threads_first : (b : LogBlock) (taken : List LogBlock) → threads_in (b ∷ taken) ≡ map (λ (e : ThreadEvent). e.thread) (of_block b.block b.block.events) ++ threads_in taken
threads_first b taken =
    ap (map (λ (e : ThreadEvent). e.thread)) (flat_map-cons block_events b.block (map (λ (x : LogBlock). x.block) taken))
    ∙ map-append (λ (e : ThreadEvent). e.thread) (block_events b.block) (pool_events taken)

lower : (n m : ℕ) (ns : List ℕ) → n ≤ m → AtMost m ns → AtMost n ns
lower n m [] low is = tt
lower n m (x ∷ ns) low is = (omega (arith, low, is.0), lower n m ns low is.1)

pub threads_high : (n : ℕ) (block : Block) (events : List Event) → n ≤ block.thread → AtMost n (map (λ (e : ThreadEvent). e.thread) (of_block block events))
threads_high n block [] low = tt
threads_high n block (event ∷ events) low = (low, threads_high n block events low)

later_threads : (b : LogBlock) (taken : List LogBlock) → NoneBefore order_key b taken → AtMost b.block.thread (threads_in taken)
later_threads b [] none = tt
later_threads b (other ∷ taken) none =
    subst (AtMost b.block.thread) (sym (threads_first other taken))
    (at_most_join b.block.thread (map (λ (e : ThreadEvent). e.thread) (of_block other.block other.block.events)) (threads_in taken)
    (threads_high b.block.thread other.block other.block.events (thread_low b other none.0)) (later_threads b taken none.1))

threads_rise : (taken : List LogBlock) → Rises order_key taken → DontFall (threads_in taken)
threads_rise [] rise = tt
threads_rise (b ∷ taken) rise =
    subst DontFall (sym (threads_first b taken)) (own_threads b.block b.block.events (threads_in taken) (later_threads b taken rise.0) (threads_rise taken rise.1)).1

-- ---- what is printed

-- what is printed of the events of blocks, thread by thread
pub events_printed : (log : Log) (taken : List Block) → DontFall (threads_of (thread_events taken)) → NumbersAreOfEvents (thread_events taken) (facts_of log taken)
events_printed log taken rise =
    let ns = map (λ (e : ThreadEvent). e.event.tsc) (thread_events taken) in record {
      events = refl;
      arguments = refl;
      threads = threads_counted (threads_of (thread_events taken)) rise;
      first = least_is ns (least_of ns) (is_least ns);
      last = greatest_is ns (greatest_of ns) (is_greatest ns);
      back = back_counted (thread_events taken) rise;
    }

printed : (log : Log) (trace : Trace) (taken : List LogBlock) → AreTaken log.blocks taken → log.lost ≡ 0 → trace.header ≡ log.header → thread_events trace.blocks ≡ pool_events taken → NumbersAreOf log trace (facts_of log (map (λ (b : LogBlock). b.block) taken))
printed log trace taken are none header events =
    let blocks = map (λ (b : LogBlock). b.block) taken in record {
      blocks = ap (λ (n : ℕ). n + (length log.blocks - length (undoubled log.blocks)) + count_by (λ (b : LogBlock). eqb (length b.block.events) 0) (undoubled log.blocks)) (length-map taken (λ (b : LogBlock). b.block)) ∙ each_counted log.blocks taken are;
      doubled = doubled_count log.blocks;
      empty = empty_places log.blocks;
      custom = refl;
      typed = refl;
      lost = none;
      cut = refl;
      frequency = ap (λ (h : Header). h.frequency) (sym header);
      of_events = subst (λ (es : List ThreadEvent). NumbersAreOfEvents es (facts_of log blocks)) (sym events) (events_printed log blocks (threads_rise taken (rises_from_sorted order_key taken are.sorted)));
    }

pub numbers_meant : ImportsRead → AllHeld → NumbersAreMeant
numbers_meant reads held bytes file facts trace all form made is =
    let alone = pool_alone bytes made.log made.taken form made.says made.takes in
    subst (NumbersAreOf made.log trace) (sym (made.facts_are ∙ ap (facts_of made.log) alone))
    (printed made.log trace made.takes.pool made.takes.chosen (none_lost bytes made.log form made.says) (trace_header reads bytes file facts trace all made is) (trace_events reads held bytes file facts trace all form made is))
