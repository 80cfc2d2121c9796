-- Events as runs of one thread and one process, and events put in the order of their threads.
use Rattle.std.proofs.Common.{◌≡◌, ℕ, ◌<◌, ◌≤◌, Bool, true, false, cond, eqb, ltb, List, [], ◌∷◌, ◌++◌, map, drop, take, refl, sym, ap, ◌∙◌, inl, inr, arith}
use Rattle.std.specs.Prelude.{◌≢◌, ◌⊎◌, ◌&&◌, ⊤, All}
use Rattle.std.proofs.lemmas.Bool.{eqb-true, eqb-false, ltb-true, ltb-false, ne_eqb}
use Rattle.std.proofs.lemmas.List.{take-append-drop}
use Rattle.std.proofs.lemmas.List.Elements.{All-cons, All-head, All-nil, All-tail}
use Rattle.fdr_record.specs.declared.event.Event.{Event}
use Rattle.fdr_file.specs.declared.trace.Block.{Block}
use Rattle.fdr_file.specs.ThreadEvents.{ThreadEvent, thread_events}
use Rattle.runtime_log.specs.declared.basic.Passing.{Passing}
use Rattle.runtime_log.specs.Threads.{AreByThread, AscendByThread, StandsBehind, recorded_by}
use Rattle.runtime_log.specs.declared.version.BasicVersion.{BasicVersion}
use Rattle.runtime_log.specs.private.Passings.{BeginsOther, IsOfRun, IsRunOf, RiseFrom, event_at, event_of_passing, events_of_passings, is_of, joined_to, run_from, runs_of}
use Rattle.runtime_log.proofs.AddedBlocks.{event_of}
use Rattle.runtime_log.proofs.ByThread.{eqb_same}

-- ---- the runs of events

both_true : (a b : Bool) → (a && b) ≡ true → (a ≡ true) × (b ≡ true)
both_true true true e = (refl, refl)
both_true true false e = absurd cc
both_true false b e = absurd cc

-- they have exactly the events
joined_events : (e : ThreadEvent) (blocks : List Block) → thread_events (joined_to e blocks) ≡ e ∷ thread_events blocks
joined_events e [] = refl
joined_events e (block ∷ blocks) = by_test (is_of e block) refl
  where
    by_test : (b : Bool) → is_of e block ≡ b → thread_events (cond b (run_from e block.events ∷ blocks) (run_from e [] ∷ block ∷ blocks)) ≡ e ∷ thread_events (block ∷ blocks)
    by_test true own =
        let same = both_true (eqb block.thread e.thread) (eqb block.pid e.pid) own in
        ap (λ (t : ℕ). e ∷ (map (event_of t e.pid) block.events ++ thread_events blocks)) (sym (eqb-true block.thread e.thread same.0))
        ∙ ap (λ (p : ℕ). e ∷ (map (event_of block.thread p) block.events ++ thread_events blocks)) (sym (eqb-true block.pid e.pid same.1))
    by_test false own = refl

runs_events : (events : List ThreadEvent) → thread_events (runs_of events) ≡ events
runs_events [] = refl
runs_events (e ∷ events) = joined_events e (runs_of events) ∙ ap (λ (es : List ThreadEvent). e ∷ es) (runs_events events)

-- what holds of a run that begins with an event holds of all of them
joined_all : (P : Block → Type 0) → ((e : ThreadEvent) (later : List Event) → P (run_from e later)) → (e : ThreadEvent) (blocks : List Block) → All P blocks → All P (joined_to e blocks)
joined_all P holds e [] all = All-cons P (run_from e []) [] (holds e []) (All-nil P)
joined_all P holds e (block ∷ blocks) all = by_test (is_of e block)
  where
    by_test : (b : Bool) → All P (cond b (run_from e block.events ∷ blocks) (run_from e [] ∷ block ∷ blocks))
    by_test true = All-cons P (run_from e block.events) blocks (holds e block.events) (All-tail P block blocks all)
    by_test false = All-cons P (run_from e []) (block ∷ blocks) (holds e []) all

runs_all : (P : Block → Type 0) → ((e : ThreadEvent) (later : List Event) → P (run_from e later)) → (events : List ThreadEvent) → All P (runs_of events)
runs_all P holds [] = All-nil P
runs_all P holds (e ∷ events) = joined_all P holds e (runs_of events) (runs_all P holds events)

-- the first block is of no lower thread than this one
abbrev BeginsFrom : ℕ → List Block → Type 0
BeginsFrom thread [] = ⊤
BeginsFrom thread (block ∷ blocks) = thread ≤ block.thread

joined_from : (e : ThreadEvent) (blocks : List Block) (thread : ℕ) → thread ≤ e.thread → BeginsFrom thread (joined_to e blocks)
joined_from e [] thread low = low
joined_from e (block ∷ blocks) thread low = by_test (is_of e block)
  where
    by_test : (b : Bool) → BeginsFrom thread (cond b (run_from e block.events ∷ blocks) (run_from e [] ∷ block ∷ blocks))
    by_test true = low
    by_test false = low

runs_from : (events : List ThreadEvent) (thread : ℕ) → RiseFrom thread events → BeginsFrom thread (runs_of events)
runs_from [] thread rise = tt
runs_from (e ∷ events) thread rise = joined_from e (runs_of events) thread rise.0

-- a block stands behind an event
behind_event : (e : ThreadEvent) (block : Block) → e.thread ≤ block.thread → is_of e block ≡ false → StandsBehind (run_from e []) block
behind_event e block low other = by_test (eqb block.thread e.thread) refl
  where
    by_pid : block.thread ≡ e.thread → eqb block.thread e.thread ≡ true → (b : Bool) → eqb block.pid e.pid ≡ b → StandsBehind (run_from e []) block
    by_pid same t true p = let own : is_of e block ≡ true = ap (λ (x : Bool). x && eqb block.pid e.pid) t ∙ p in absurd cc
    by_pid same t false p = inr (sym same, λ q. eqb-false block.pid e.pid p (sym q))

    by_test : (b : Bool) → eqb block.thread e.thread ≡ b → StandsBehind (run_from e []) block
    by_test true t = by_pid (eqb-true block.thread e.thread t) t (eqb block.pid e.pid) refl
    by_test false t =
        let apart : block.thread ≢ e.thread = eqb-false block.thread e.thread t in
        by_lower (ltb e.thread block.thread) refl apart
      where
        by_lower : (b : Bool) → ltb e.thread block.thread ≡ b → block.thread ≢ e.thread → StandsBehind (run_from e []) block
        by_lower true l apart = inl (ltb-true e.thread block.thread l)
        by_lower false l apart = absurd (apart (omega (arith, ltb-false e.thread block.thread l, low)))

joined_ascend : (e : ThreadEvent) (blocks : List Block) → AscendByThread blocks → BeginsFrom e.thread blocks → AscendByThread (joined_to e blocks)
joined_ascend e [] ascend from = tt
joined_ascend e (block ∷ blocks) ascend from = by_test (is_of e block) refl
  where
    by_next : (next : List Block) → eqb block.thread e.thread ≡ true → eqb block.pid e.pid ≡ true → AscendByThread (block ∷ next) → AscendByThread (run_from e block.events ∷ next)
    by_next [] t p up = tt
    by_next (next ∷ later) t p up = (moved up.0, up.1)
      where
        moved : StandsBehind block next → StandsBehind (run_from e block.events) next
        moved (inl lower) = inl (omega (arith, lower, eqb-true block.thread e.thread t))
        moved (inr same) = inr (sym (eqb-true block.thread e.thread t) ∙ same.0, λ q. same.1 (eqb-true block.pid e.pid p ∙ q))

    by_test : (b : Bool) → is_of e block ≡ b → AscendByThread (cond b (run_from e block.events ∷ blocks) (run_from e [] ∷ block ∷ blocks))
    by_test true own =
        let same = both_true (eqb block.thread e.thread) (eqb block.pid e.pid) own in
        by_next blocks same.0 same.1 ascend
    by_test false other = (behind_event e block from other, ascend)

runs_ascend : (events : List ThreadEvent) (thread : ℕ) → RiseFrom thread events → AscendByThread (runs_of events)
runs_ascend [] thread rise = tt
runs_ascend (e ∷ events) thread rise = joined_ascend e (runs_of events) (runs_ascend events e.thread rise.1) (runs_from events e.thread rise.1)

-- the runs of events that were put in the order of their threads
pub runs_by_thread : (events ordered : List ThreadEvent) → ((thread : ℕ) → recorded_by thread ordered ≡ recorded_by thread events) → RiseFrom 0 ordered → AreByThread events (runs_of ordered)
runs_by_thread events ordered same rise = record {
  same = λ thread. ap (recorded_by thread) (runs_events ordered) ∙ same thread;
  ascend = runs_ascend ordered 0 rise;
  some = runs_all (λ (b : Block). b.events ≢ []) (λ e later none. absurd cc) ordered;
  wall = runs_all (λ (b : Block). b.wall ≡ record { secs = 0; micros = 0 }) (λ e later. refl) ordered;
}

-- ---- some order

-- an event, put in before the first one of no lower thread
abbrev put_in : ThreadEvent → List ThreadEvent → List ThreadEvent
put_in e [] = e ∷ []
put_in e (x ∷ xs) = cond (ltb x.thread e.thread) (x ∷ put_in e xs) (e ∷ x ∷ xs)

abbrev pub in_threads : List ThreadEvent → List ThreadEvent
in_threads [] = []
in_threads (e ∷ events) = put_in e (in_threads events)

put_rise : (thread : ℕ) (e : ThreadEvent) (xs : List ThreadEvent) → thread ≤ e.thread → RiseFrom thread xs → RiseFrom thread (put_in e xs)
put_rise thread e [] low rise = (low, tt)
put_rise thread e (x ∷ xs) low rise = by_test (λ below. put_rise x.thread e xs below rise.1) (ltb x.thread e.thread) refl
  where
    by_test : (x.thread ≤ e.thread → RiseFrom x.thread (put_in e xs)) → (b : Bool) → ltb x.thread e.thread ≡ b → RiseFrom thread (cond b (x ∷ put_in e xs) (e ∷ x ∷ xs))
    by_test again true l = (rise.0, again (omega (arith, ltb-true x.thread e.thread l)))
    by_test again false l = (low, (ltb-false x.thread e.thread l, rise.1))

put_same : (thread : ℕ) (e : ThreadEvent) (xs : List ThreadEvent) → recorded_by thread (put_in e xs) ≡ recorded_by thread (e ∷ xs)
put_same thread e [] = refl
put_same thread e (x ∷ xs) = by_test (put_same thread e xs) (ltb x.thread e.thread) refl
  where
    rest : List ThreadEvent
    rest = recorded_by thread xs

    by_threads : x.thread < e.thread → (b c : Bool) → eqb x.thread thread ≡ b → eqb e.thread thread ≡ c
        → cond b (x ∷ cond c (e ∷ rest) rest) (cond c (e ∷ rest) rest) ≡ cond c (e ∷ cond b (x ∷ rest) rest) (cond b (x ∷ rest) rest)
    by_threads lower true true p q = absurd (omega (arith, lower, eqb-true x.thread thread p, eqb-true e.thread thread q))
    by_threads lower true false p q = refl
    by_threads lower false true p q = refl
    by_threads lower false false p q = refl

    by_test : recorded_by thread (put_in e xs) ≡ recorded_by thread (e ∷ xs) → (b : Bool) → ltb x.thread e.thread ≡ b → recorded_by thread (cond b (x ∷ put_in e xs) (e ∷ x ∷ xs)) ≡ recorded_by thread (e ∷ x ∷ xs)
    by_test again true l =
        ap (λ (es : List ThreadEvent). cond (eqb x.thread thread) (x ∷ es) es) again
        ∙ by_threads (ltb-true x.thread e.thread l) (eqb x.thread thread) (eqb e.thread thread) refl refl
    by_test again false l = refl

in_threads_rise : (events : List ThreadEvent) → RiseFrom 0 (in_threads events)
in_threads_rise [] = tt
in_threads_rise (e ∷ events) = put_rise 0 e (in_threads events) (omega arith) (in_threads_rise events)

in_threads_same : (thread : ℕ) (events : List ThreadEvent) → recorded_by thread (in_threads events) ≡ recorded_by thread events
in_threads_same thread [] = refl
in_threads_same thread (e ∷ events) =
    put_same thread e (in_threads events) ∙ ap (λ (es : List ThreadEvent). cond (eqb e.thread thread) (e ∷ es) es) (in_threads_same thread events)

pub some_by_thread : (events : List ThreadEvent) → AreByThread events (runs_of (in_threads events))
some_by_thread events = runs_by_thread events (in_threads events) (λ thread. in_threads_same thread events) (in_threads_rise events)

-- ---- the first run of passings

-- the block of a run
abbrev pub run_block : Passing → List Event → Block
run_block first events = record { thread = first.thread; wall = record { secs = 0; micros = 0 }; pid = first.pid; events = events }

pub run_some : (first : Passing) (event : Event) (events : List Event) → (let b : Block = run_block first (event ∷ events) in b.events) ≢ []
run_some first event events none = absurd cc

abbrev events_at : BasicVersion → List ℕ → List Passing → List Event
events_at version bytes run = map (λ p. event_at version bytes p.at) run

run_is : (version : BasicVersion) (bytes : List ℕ) (first p : Passing) (events : List Event) → IsOfRun first p → run_from (event_of_passing version bytes p) events ≡ run_block first (event_at version bytes p.at ∷ events)
run_is version bytes first p events own =
    let made : ℕ → ℕ → Block = λ thread pid. record { thread = thread; wall = record { secs = 0; micros = 0 }; pid = pid; events = event_at version bytes p.at ∷ events } in
    ap (λ (t : ℕ). made t p.pid) own.0 ∙ ap (λ (n : ℕ). made first.thread n) own.1

-- an event of the run before the others of it
run_joined : (version : BasicVersion) (bytes : List ℕ) (first p : Passing) (events : List Event) (blocks : List Block) → IsOfRun first p
    → joined_to (event_of_passing version bytes p) (run_block first events ∷ blocks) ≡ run_block first (event_at version bytes p.at ∷ events) ∷ blocks
run_joined version bytes first p events blocks own =
    let e = event_of_passing version bytes p in
    let is : is_of e (run_block first events) ≡ true =
    ap (λ (b : Bool). b && eqb first.pid p.pid) (eqb_same first.thread p.thread (sym own.0)) ∙ eqb_same first.pid p.pid (sym own.1) in
    ap (λ (b : Bool). cond b (run_from e events ∷ blocks) (run_from e [] ∷ run_block first events ∷ blocks)) is
    ∙ ap (λ (b : Block). b ∷ blocks) (run_is version bytes first p events own)

-- the last event of the run, before what begins with another thread or process
other_false : (thread own pid other : ℕ) → (thread ≢ own) ⊎ (pid ≢ other) → (eqb thread own && eqb pid other) ≡ false
other_false thread own pid other (inl apart) = ap (λ (b : Bool). b && eqb pid other) (ne_eqb thread own apart)
other_false thread own pid other (inr apart) = by_test (eqb thread own)
  where
    by_test : (b : Bool) → (b && eqb pid other) ≡ false
    by_test true = ne_eqb pid other apart
    by_test false = refl

-- a first block that is of the thread and the process of an event
abbrev Heads : ThreadEvent → List Block → Type 0
Heads e [] = ⊥
Heads e (block ∷ blocks) = (block.thread ≡ e.thread) × (block.pid ≡ e.pid)

joined_heads : (e : ThreadEvent) (blocks : List Block) → Heads e (joined_to e blocks)
joined_heads e [] = (refl, refl)
joined_heads e (block ∷ blocks) = by_test (is_of e block)
  where
    by_test : (b : Bool) → Heads e (cond b (run_from e block.events ∷ blocks) (run_from e [] ∷ block ∷ blocks))
    by_test true = (refl, refl)
    by_test false = (refl, refl)

apart_from : (e next : ThreadEvent) (blocks : List Block) → Heads next blocks → (next.thread ≢ e.thread) ⊎ (next.pid ≢ e.pid) → joined_to e blocks ≡ run_from e [] ∷ blocks
apart_from e next [] heads apart = absurd heads
apart_from e next (block ∷ blocks) heads apart =
    let other : is_of e block ≡ false =
    ap (λ (t : ℕ). eqb t e.thread && eqb block.pid e.pid) heads.0 ∙ ap (λ (p : ℕ). eqb next.thread e.thread && eqb p e.pid) heads.1
    ∙ other_false next.thread e.thread next.pid e.pid apart in
    ap (λ (b : Bool). cond b (run_from e block.events ∷ blocks) (run_from e [] ∷ block ∷ blocks)) other

run_ends : (version : BasicVersion) (bytes : List ℕ) (first p : Passing) (later : List Passing) → IsOfRun first p → BeginsOther first later
    → joined_to (event_of_passing version bytes p) (runs_of (events_of_passings version bytes later)) ≡ run_block first (event_at version bytes p.at ∷ []) ∷ runs_of (events_of_passings version bytes later)
run_ends version bytes first p [] own other = ap (λ (b : Block). b ∷ []) (run_is version bytes first p [] own)
run_ends version bytes first p (q ∷ later) own other =
    let e = event_of_passing version bytes p in
    let blocks = runs_of (events_of_passings version bytes (q ∷ later)) in
    apart_from e (event_of_passing version bytes q) blocks (joined_heads (event_of_passing version bytes q) (runs_of (events_of_passings version bytes later))) (moved other)
    ∙ ap (λ (b : Block). b ∷ blocks) (run_is version bytes first p [] own)
  where
    moved : (q.thread ≢ first.thread) ⊎ (q.pid ≢ first.pid) → (q.thread ≢ p.thread) ⊎ (q.pid ≢ p.pid)
    moved (inl apart) = inl (λ s. apart (s ∙ own.0))
    moved (inr apart) = inr (λ s. apart (s ∙ own.1))

run_split : (version : BasicVersion) (bytes : List ℕ) (first p : Passing) (run later : List Passing) → IsOfRun first p → All (IsOfRun first) run → BeginsOther first later
    → runs_of (events_of_passings version bytes (p ∷ run ++ later)) ≡ run_block first (events_at version bytes (p ∷ run)) ∷ runs_of (events_of_passings version bytes later)
run_split version bytes first p [] later own all other = run_ends version bytes first p later own other
run_split version bytes first p (q ∷ run) later own all other =
    ap (joined_to (event_of_passing version bytes p)) (run_split version bytes first q run later (All-head (IsOfRun first) q run all) (All-tail (IsOfRun first) q run all) other)
    ∙ run_joined version bytes first p (events_at version bytes (q ∷ run)) (runs_of (events_of_passings version bytes later)) own

pub run_first : (version : BasicVersion) (bytes : List ℕ) (first : Passing) (others : List Passing) (count : ℕ) → IsRunOf first others count
    → runs_of (events_of_passings version bytes (first ∷ others)) ≡ run_block first (events_at version bytes (first ∷ take count others)) ∷ runs_of (events_of_passings version bytes (drop count others))
run_first version bytes first others count is =
    ap (λ (ps : List Passing). runs_of (events_of_passings version bytes (first ∷ ps))) (sym (take-append-drop count others))
    ∙ run_split version bytes first first (take count others) (drop count others) (refl, refl) is.same is.ends
