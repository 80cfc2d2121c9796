-- The stacks of blocks are those of their threads.
use Rattle.std.proofs.Common.{◌≡◌, ◌+◌, ◌++◌, ◌<◌, ◌∙◌, ℕ, Bool, true, false, cond, List, [], ◌∷◌, map, reverse, refl, ap, sym, subst, arith, nat_eq, inl, inr, sum_by}
use Rattle.std.specs.Prelude.{Contains, filter}
use Rattle.std.specs.Option.{option_to_list}
use Rattle.std.specs.List.{AllByRecursion, IsDistinct, flat_map}
use Rattle.std.specs.Cmp.Lexicographic.{nat_list_cmp_total}
use Rattle.std.proofs.lemmas.Bool.{eqb-true, eq-eqb}
use Rattle.std.proofs.lemmas.List.{reverse-append}
use Rattle.std.proofs.lemmas.List.Sums.{sum_by-append, sum_by-cons}
use Rattle.fdr_record.specs.declared.event.Event.{Event}
use Rattle.fdr_file.specs.declared.trace.Block.{Block}
use Rattle.fdr_file.specs.ThreadEvents.{ThreadEvent, block_events, thread_events}
use Rattle.stack_rebuild.specs.declared.call.Pair.{Pair}
use Rattle.stack_rebuild.specs.Ascending.{each_once}
use Rattle.stack_rebuild.specs.Calls.{pairs_of}
use Rattle.stack_rebuild.specs.Histories.{ThreadPair, events_of_thread, history_of, pair_after, pairs_after, pairs_of_blocks, pairs_of_thread, thread_event, thread_pair}
use Rattle.stack_rebuild.specs.Stacks.{AreThreadsOf, PathRow, Timed, all_timed, has_path, path_cmp, path_row, rows_of_pairs, stack_of, stack_of_threads, timed, timed_pairs}
use Rattle.stack_rebuild.proofs.AscendingLists.{each_once-in, in-each_once, is_each_once, strict-each_once}
use Rattle.stack_rebuild.proofs.Items.{IsIn, all_in, in_from_Contains}
use Rattle.stack_rebuild.proofs.RowsOf.{counted-in, in-counted}
use Rattle.stack_rebuild.proofs.Sums.{path_cmp_equal}
use Rattle.stack_rebuild.proofs.Views.{thread_makes}

-- ---- rows depend only on sums over the pairs

abbrev paths_of_pairs : List Timed → List (List ℕ)
paths_of_pairs pairs = map (λ (pair : Timed). pair.path) pairs

map_same : {X Y : Type 0} (f g : X → Y) → ((x : X) → f x ≡ g x) → (xs : List X) → map f xs ≡ map g xs
map_same f g same [] = refl
map_same {Y} f g same (x ∷ xs) = ap (λ (y : Y). y ∷ map f xs) (same x) ∙ ap (λ (ys : List Y). g x ∷ ys) (map_same f g same xs)

same_row : (x y : PathRow) → x.path ≡ y.path → x.count ≡ y.count → x.sum ≡ y.sum → x.own ≡ y.own → x ≡ y
same_row x y p c s o =
    ap (λ (l : List ℕ). row_as l x.count x.sum x.own) p
    ∙ (ap (λ (n : ℕ). row_as y.path n x.sum x.own) c ∙ (ap (λ (n : ℕ). row_as y.path y.count n x.own) s ∙ ap (λ (n : ℕ). row_as y.path y.count y.sum n) o))
  where
    row_as : List ℕ → ℕ → ℕ → ℕ → PathRow
    row_as path count sum own = record { path = path; count = count; sum = sum; own = own }

rows_same : (ps qs : List Timed) → ((f : Timed → ℕ) → sum_by f ps ≡ sum_by f qs) → rows_of_pairs ps ≡ rows_of_pairs qs
rows_same ps qs same =
    map_same (path_row ps) (path_row qs) each (each_once path_cmp (paths_of_pairs ps))
    ∙ ap (map (path_row qs)) paths
  where
    each : (path : List ℕ) → path_row ps path ≡ path_row qs path
    each path =
        same_row (path_row ps path) (path_row qs path) refl (same (λ p. cond (has_path path p) 1 0)) (same (λ p. cond (has_path path p) p.duration 0))
        (same (λ p. cond (has_path path p) p.own 0))

    moved : (xs ys : List Timed) → ((f : Timed → ℕ) → sum_by f xs ≡ sum_by f ys) → (path : List ℕ) → IsIn path (paths_of_pairs xs) → IsIn path (paths_of_pairs ys)
    moved xs ys equal path is =
        counted-in path ys (subst (λ (n : ℕ). 0 < n) (equal (λ p. cond (has_path path p) 1 0)) (in-counted path xs is))

    paths : each_once path_cmp (paths_of_pairs ps) ≡ each_once path_cmp (paths_of_pairs qs)
    paths =
        is_each_once path_cmp nat_list_cmp_total path_cmp_equal (each_once path_cmp (paths_of_pairs ps)) (paths_of_pairs qs)
        (strict-each_once path_cmp nat_list_cmp_total (paths_of_pairs ps))
        (λ path is. moved ps qs same path (in-each_once path_cmp (paths_of_pairs ps) path is))
        (λ path is. each_once-in path_cmp path_cmp_equal (paths_of_pairs ps) path (moved qs ps (λ f. sym (same f)) path is))

-- ---- sums over the pairs of threads

sum_by-map : {X Y : Type 0} (f : Y → ℕ) (g : X → Y) (xs : List X) → sum_by f (map g xs) ≡ sum_by (λ (x : X). f (g x)) xs
sum_by-map f g [] = refl
sum_by-map {X} f g (x ∷ xs) =
    omega (arith, sum_by-cons f (g x) (map g xs), sum_by-cons (λ (y : X). f (g y)) x xs, sum_by-map f g xs)

-- what the pairs of one thread have of a sum
abbrev share : (ThreadPair → ℕ) → ℕ → ThreadPair → ℕ
share f thread made = cond (nat_eq made.thread thread) (f made) 0

-- the sum over the pairs of a thread
of_thread : (f : ThreadPair → ℕ) (g : Pair → ℕ) (thread : ℕ) → ((made : ThreadPair) → made.thread ≡ thread → f made ≡ g made.pair) → (pairs : List ThreadPair)
    → sum_by g (pairs_of_thread thread pairs) ≡ sum_by (share f thread) pairs
of_thread f g thread same [] = refl
of_thread f g thread same (made ∷ pairs) = by_thread (nat_eq made.thread thread) refl (of_thread f g thread same pairs)
  where
    by_thread : (b : Bool) → nat_eq made.thread thread ≡ b → sum_by g (pairs_of_thread thread pairs) ≡ sum_by (share f thread) pairs
        → sum_by g (map (λ (m : ThreadPair). m.pair) (cond b (made ∷ filter (λ (m : ThreadPair). nat_eq m.thread thread) pairs) (filter (λ (m : ThreadPair). nat_eq m.thread thread) pairs)))
        ≡ sum_by (share f thread) (made ∷ pairs)
    by_thread true is later =
        omega (
          arith,
          sum_by-cons g made.pair (pairs_of_thread thread pairs),
          sum_by-cons (share f thread) made pairs,
          ap {B = ℕ} (λ b. cond b (f made) 0) is,
          same made (eqb-true made.thread thread is),
          later,
        )
    by_thread false is later = omega (arith, sum_by-cons (share f thread) made pairs, ap {B = ℕ} (λ b. cond b (f made) 0) is, later)

-- the shares of threads
shares : (ThreadPair → ℕ) → List ThreadPair → List ℕ → ℕ
shares f pairs [] = 0
shares f pairs (thread ∷ threads) = sum_by (share f thread) pairs + shares f pairs threads

-- the shares of one pair
parts : (ThreadPair → ℕ) → ThreadPair → List ℕ → ℕ
parts f made [] = 0
parts f made (thread ∷ threads) = share f thread made + parts f made threads

shares_none : (f : ThreadPair → ℕ) (threads : List ℕ) → shares f [] threads ≡ 0
unfolding shares
shares_none f [] = refl
shares_none f (thread ∷ threads) = let later : shares f [] threads ≡ 0 = shares_none f threads in omega (arith, later)

shares_more : (f : ThreadPair → ℕ) (made : ThreadPair) (pairs : List ThreadPair) (threads : List ℕ) → shares f (made ∷ pairs) threads ≡ parts f made threads + shares f pairs threads
unfolding shares parts
shares_more f made pairs [] = refl
shares_more f made pairs (thread ∷ threads) =
    omega (arith, sum_by-cons (share f thread) made pairs, shares_more f made pairs threads)

-- a thread that isn't among them has no part
no_parts : (f : ThreadPair → ℕ) (made : ThreadPair) (threads : List ℕ) → AllByRecursion (λ (thread : ℕ). nat_eq made.thread thread ≡ false) threads → parts f made threads ≡ 0
unfolding parts
no_parts f made [] none = refl
no_parts f made (thread ∷ threads) none =
    omega (arith, ap {B = ℕ} (λ b. cond b (f made) 0) none.0, no_parts f made threads none.1)

its_part : (f : ThreadPair → ℕ) (made : ThreadPair) (threads : List ℕ) → IsDistinct nat_eq threads → IsIn made.thread threads → parts f made threads ≡ f made
unfolding parts IsDistinct
its_part f made [] once is = absurd is
its_part f made (thread ∷ threads) once (inl is) =
    let none : AllByRecursion (λ (t : ℕ). nat_eq made.thread t ≡ false) threads =
    subst (λ (n : ℕ). AllByRecursion (λ (t : ℕ). nat_eq n t ≡ false) threads) (sym is) once.0 in
    omega (arith, ap {B = ℕ} (λ b. cond b (f made) 0) (eq-eqb made.thread thread is), no_parts f made threads none)
its_part f made (thread ∷ threads) once (inr is) =
    let apart : nat_eq made.thread thread ≡ false = other (nat_eq made.thread thread) refl in
    omega (arith, ap {B = ℕ} (λ b. cond b (f made) 0) apart, its_part f made threads once.1 is)
  where
    never : (ts : List ℕ) → AllByRecursion (λ (t : ℕ). nat_eq thread t ≡ false) ts → IsIn thread ts → ⊥
    never [] all there = there
    never (t ∷ ts) all (inl same) = let e : true ≡ false = sym (eq-eqb thread t same) ∙ all.0 in (let n : ⊥ = cc in n)
    never (t ∷ ts) all (inr there) = never ts all.1 there

    other : (b : Bool) → nat_eq made.thread thread ≡ b → nat_eq made.thread thread ≡ false
    other true same = absurd (never threads once.0 (subst (λ (n : ℕ). IsIn n threads) (eqb-true made.thread thread same) is))
    other false same = same

-- each of these pairs is of one of these threads
abbrev AreOf : List ℕ → List ThreadPair → Type 0
AreOf threads [] = Unit {0}
AreOf threads (made ∷ pairs) = IsIn made.thread threads × AreOf threads pairs

shares_all : (f : ThreadPair → ℕ) (threads : List ℕ) (pairs : List ThreadPair) → IsDistinct nat_eq threads → AreOf threads pairs → sum_by f pairs ≡ shares f pairs threads
shares_all f threads [] once all = sym (shares_none f threads)
shares_all f threads (made ∷ pairs) once all =
    omega (arith, sum_by-cons f made pairs, shares_more f made pairs threads, its_part f made threads once all.0, shares_all f threads pairs once all.1)

-- ---- the threads of pairs are those of blocks

abbrev EventsAreOf : List ℕ → List ThreadEvent → Type 0
EventsAreOf threads [] = Unit {0}
EventsAreOf threads (e ∷ events) = IsIn e.thread threads × EventsAreOf threads events

events_append : (threads : List ℕ) (first later : List ThreadEvent) → EventsAreOf threads first → EventsAreOf threads later → EventsAreOf threads (first ++ later)
events_append threads [] later all also = also
events_append threads (e ∷ first) later all also = (all.0, events_append threads first later all.1 also)

events_reverse : (threads : List ℕ) (events : List ThreadEvent) → EventsAreOf threads events → EventsAreOf threads (reverse events)
events_reverse threads [] all = tt
events_reverse threads (e ∷ events) all =
    subst (EventsAreOf threads) (sym (reverse-append (e ∷ []) events))
    (events_append threads (reverse events) (e ∷ []) (events_reverse threads events all.1) (all.0, tt))

events_of_block : (threads : List ℕ) (thread pid : ℕ) (events : List Event) → IsIn thread threads → EventsAreOf threads (map (thread_event thread pid) events)
events_of_block threads thread pid [] is = tt
events_of_block threads thread pid (e ∷ events) is = (is, events_of_block threads thread pid events is)

events_of_blocks : (threads : List ℕ) (blocks : List Block) → ((block : Block) → IsIn block blocks → IsIn block.thread threads) → EventsAreOf threads (thread_events blocks)
events_of_blocks threads [] all = tt
events_of_blocks threads (block ∷ blocks) all =
    events_append threads (block_events block) (thread_events blocks)
    (events_of_block threads block.thread block.pid block.events (all block (inl refl)))
    (events_of_blocks threads blocks (λ other is. all other (inr is)))

pairs_append : (threads : List ℕ) (first later : List ThreadPair) → AreOf threads first → AreOf threads later → AreOf threads (first ++ later)
pairs_append threads [] later all also = also
pairs_append threads (made ∷ first) later all also = (all.0, pairs_append threads first later all.1 also)

pairs_are_of : (threads : List ℕ) (h : List ThreadEvent) → EventsAreOf threads h → AreOf threads (pairs_after h)
pairs_are_of threads [] all = tt
pairs_are_of threads (e ∷ h) all =
    pairs_append threads (pairs_after h) (map (thread_pair e.thread) (option_to_list (pair_after e h))) (pairs_are_of threads h all.1)
    (of_one (option_to_list (pair_after e h)))
  where
    of_one : (pairs : List Pair) → AreOf threads (map (thread_pair e.thread) pairs)
    of_one [] = tt
    of_one (pair ∷ pairs) = (all.0, of_one pairs)

-- ---- the law

-- the sum over the pairs of all threads, thread by thread
by_threads : (f : Timed → ℕ) (blocks : List Block) (threads : List ℕ)
    → sum_by f (flat_map timed_pairs (map (λ (thread : ℕ). events_of_thread thread blocks) threads))
    ≡ shares (λ made. f (timed (events_of_thread made.thread blocks) made.pair)) (pairs_of_blocks blocks) threads
unfolding shares
by_threads f blocks [] = refl
by_threads f blocks (thread ∷ threads) =
    let events = events_of_thread thread blocks in
    let own : sum_by f (timed_pairs events) ≡ sum_by (share (λ made. f (timed (events_of_thread made.thread blocks) made.pair)) thread) (pairs_of_blocks blocks) =
    sum_by-map f (timed events) (pairs_of events)
    ∙ (ap (sum_by (λ (pair : Pair). f (timed events pair))) (sym (thread_makes thread blocks))
    ∙ of_thread (λ made. f (timed (events_of_thread made.thread blocks) made.pair)) (λ pair. f (timed events pair)) thread
    (λ made is. ap (λ (t : ℕ). f (timed (events_of_thread t blocks) made.pair)) is) (pairs_of_blocks blocks)) in
    omega (
      arith,
      own,
      sum_by-append f (timed_pairs events) (flat_map timed_pairs (map (λ (t : ℕ). events_of_thread t blocks) threads)),
      by_threads f blocks threads,
    )

pub stacks_of_threads : (blocks : List Block) (threads : List ℕ) → AreThreadsOf blocks threads
    → stack_of blocks ≡ stack_of_threads (map (λ (thread : ℕ). events_of_thread thread blocks) threads)
stacks_of_threads blocks threads own =
    rows_same (all_timed blocks) (flat_map timed_pairs (map (λ (thread : ℕ). events_of_thread thread blocks) threads)) same
  where
    within : (block : Block) → IsIn block blocks → IsIn block.thread threads
    within block is =
        let there = all_in (λ (b : Block). Contains threads b.thread) blocks own.all block is in
        in_from_Contains threads block.thread there.0 there.1 there.2

    same : (f : Timed → ℕ) → sum_by f (all_timed blocks) ≡ sum_by f (flat_map timed_pairs (map (λ (thread : ℕ). events_of_thread thread blocks) threads))
    same f =
        sum_by-map f (λ (made : ThreadPair). timed (events_of_thread made.thread blocks) made.pair) (pairs_of_blocks blocks)
        ∙ (shares_all (λ made. f (timed (events_of_thread made.thread blocks) made.pair)) threads (pairs_of_blocks blocks) own.once
        (pairs_are_of threads (history_of blocks) (events_reverse threads (thread_events blocks) (events_of_blocks threads blocks within)))
        ∙ sym (by_threads f blocks threads))
