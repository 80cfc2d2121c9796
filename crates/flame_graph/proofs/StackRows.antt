-- The rows of a stack report are in ascending order of their paths, each path once, and each path has a function.
use Rattle.std.proofs.Common.{◌≡◌, ◌⊎◌, ◌∙◌, ◌<◌, ℕ, List, [], ◌∷◌, ◌++◌, length, map, refl, ap, sym, arith, inl, inr}
use Rattle.std.specs.Prelude.{All}
use Rattle.std.specs.declared.cmp.Ordering.{Ordering}
use Rattle.std.specs.declared.cmp.Ordering.TheVariants.{Less, Equal, Greater}
use Rattle.std.specs.List.{AllByRecursion, flat_map}
use Rattle.std.specs.Ordering.{nat_cmp, ordering_then}
use Rattle.std.proofs.lemmas.Cmp.{nat_list_cmp_total, ranked}
use Rattle.std.proofs.lemmas.List.{length-append}
use Rattle.std.proofs.lemmas.List.Elements.{All-cons, All-nil}
use Rattle.fdr_record.specs.declared.event.Event.{Event}
use Rattle.fdr_file.specs.declared.trace.Block.{Block}
use Rattle.stack_rebuild.specs.Ascending.{each_once}
use Rattle.stack_rebuild.specs.Calls.{pairs_of}
use Rattle.stack_rebuild.specs.declared.call.Pair.{Pair}
use Rattle.stack_rebuild.specs.Histories.{ThreadPair, events_of_thread, pairs_of_blocks}
use Rattle.stack_rebuild.specs.Stacks.{PathRow, Timed, all_timed, open_before, pair_path, path_cmp, path_of, path_row, rows_of_pairs, stack_of, stack_of_threads, timed, timed_pairs}
use Rattle.stack_rebuild.proofs.AscendingLists.{Strict, in-each_once, strict-each_once}
use Rattle.stack_rebuild.proofs.Items.{IsIn, map-in}
use Rattle.flame_graph.specs.Frames.{AreAscending, AreStacks, Precedes}
use Rattle.flame_graph.proofs.Orders.{Ascends, IsBefore, ascending_from}

pub precedes : (path other : List ℕ) → path_cmp path other ≡ Less → Precedes path other
precedes [] [] is = absurd (cc)
precedes [] (g ∷ other) is = tt
precedes (f ∷ path) [] is = absurd (cc)
precedes (f ∷ path) (g ∷ other) is = by_order (nat_cmp f g) refl is (precedes path other)
  where
    by_order : (o : Ordering) → nat_cmp f g ≡ o → ordering_then o (path_cmp path other) ≡ Less → (path_cmp path other ≡ Less → Precedes path other)
        → (f < g) ⊎ ((f ≡ g) × Precedes path other)
    by_order Less so is again = inl (ranked f g Less (sym so))
    by_order Equal so is again = inr (ranked f g Equal (sym so), again is)
    by_order Greater so is again = absurd (cc)

rows_ascend : (pairs : List Timed) (paths : List (List ℕ)) → Strict path_cmp paths → Ascends (map (path_row pairs) paths)
rows_ascend pairs [] strict = tt
rows_ascend pairs (path ∷ paths) strict = (each paths strict.0, rows_ascend pairs paths strict.1)
  where
    each : (others : List (List ℕ)) → ((z : List ℕ) → IsIn z others → path_cmp path z ≡ Less)
        → AllByRecursion (IsBefore (path_row pairs path)) (map (path_row pairs) others)
    each [] before = tt
    each (other ∷ others) before = (precedes path other (before other (inl refl)), each others (λ z there. before z (inr there)))

rows_ascending : (pairs : List Timed) → AreAscending (rows_of_pairs pairs)
rows_ascending pairs =
    ascending_from (rows_of_pairs pairs)
    (rows_ascend pairs (each_once path_cmp (map (λ pair. pair.path) pairs)) (strict-each_once path_cmp nat_list_cmp_total (map (λ pair. pair.path) pairs)))

-- the path of each pair has a function
abbrev HavePaths : List Timed → Type 0
HavePaths pairs = (path : List ℕ) → IsIn path (map (λ (pair : Timed). pair.path) pairs) → 0 < length path

-- the path of a pair ends with its own function
path_some : (events : List Event) (pair : Pair) (path : List ℕ) → pair_path events pair ≡ path → 0 < length path
path_some events pair path whole =
    let same = ap (λ (p : List ℕ). length p) whole in
    let size = length-append (path_of (open_before events pair.entry)) (pair.func ∷ []) in
    omega (arith, same, size)

blocks_some : (blocks : List Block) → HavePaths (all_timed blocks)
blocks_some blocks path is =
    let pair = map-in (λ (pair : Timed). pair.path) (all_timed blocks) path is in
    let made = map-in (λ (made : ThreadPair). timed (events_of_thread made.thread blocks) made.pair) (pairs_of_blocks blocks) pair.0 pair.1 in
    path_some (events_of_thread made.0.thread blocks) made.0.pair path (ap (λ (t : Timed). t.path) made.2 ∙ pair.2)

thread_some : (events : List Event) (pairs : List Pair) (later : List Timed) → HavePaths later → HavePaths (map (timed events) pairs ++ later)
thread_some events [] later some path is = some path is
thread_some events (pair ∷ pairs) later some path (inl is) = path_some events pair path (sym is)
thread_some events (pair ∷ pairs) later some path (inr is) = thread_some events pairs later some path is

threads_some : (threads : List (List Event)) → HavePaths (flat_map timed_pairs threads)
threads_some [] path is = absurd is
threads_some (events ∷ threads) path is = thread_some events (pairs_of events) (flat_map timed_pairs threads) (threads_some threads) path is

-- so each row has one
rows_some : (pairs : List Timed) (paths : List (List ℕ)) → ((path : List ℕ) → IsIn path paths → 0 < length path) → All (λ (row : PathRow). 0 < length row.path) (map (path_row pairs) paths)
rows_some pairs [] some = All-nil (λ (row : PathRow). 0 < length row.path)
rows_some pairs (path ∷ paths) some =
    All-cons (λ (row : PathRow). 0 < length row.path) (path_row pairs path) (map (path_row pairs) paths) (some path (inl refl)) (rows_some pairs paths (λ other there. some other (inr there)))

rows_are : (pairs : List Timed) → HavePaths pairs → AreStacks (rows_of_pairs pairs)
rows_are pairs has = record {
  ascending = rows_ascending pairs;
  some =
      let paths = map (λ (pair : Timed). pair.path) pairs in
      rows_some pairs (each_once path_cmp paths) (λ path is. has path (in-each_once path_cmp paths path is));
}

pub stacks_are : (blocks : List Block) → AreStacks (stack_of blocks)
stacks_are blocks = rows_are (all_timed blocks) (blocks_some blocks)

pub stacks_of_threads_are : (threads : List (List Event)) → AreStacks (stack_of_threads threads)
stacks_of_threads_are threads = rows_are (flat_map timed_pairs threads) (threads_some threads)
