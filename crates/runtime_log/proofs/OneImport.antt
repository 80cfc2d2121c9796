-- A log is imported in one way, and only in one.
use Rattle.std.proofs.Common.{◌≡◌, ℕ, ◌+◌, ◌≤◌, Bool, true, false, cond, List, [], ◌∷◌, ◌++◌, length, get_or, map, Result, Ok, refl, sym, ap, subst, ◌∙◌, inl, inr, arith}
use Rattle.std.specs.Prelude.{◌⊎◌, All}
use Rattle.std.specs.List.{AllByRecursion}
use Rattle.std.specs.declared.cmp.Ordering.TheVariants.{Equal}
use Rattle.std.specs.Cmp.Lexicographic.{slice_cmp}
use Rattle.std.specs.Ordering.{nat_cmp}
use Rattle.std.proofs.lemmas.List.Elements.{All-cons, All-filter, All-head, All-nil, All-tail, All-weaker, recursion_from_All}
use Rattle.std.proofs.lemmas.List.Sorted.{All-permutation, sum_by-IsPermutation}
use Rattle.std.proofs.lemmas.Map.Lookups.{exact_bytes}
use Rattle.fdr_file.specs.declared.trace.Block.{Block}
use Rattle.runtime_log.specs.declared.fault.LogFault.{LogFault}
use Rattle.runtime_log.specs.Facts.{facts_of}
use Rattle.runtime_log.specs.Imports.{AreTakenOf, trace_file, trace_taken}
use Rattle.runtime_log.specs.Laws.{OneImport, SomeImport}
use Rattle.runtime_log.specs.Logs.{Log, LogBlock, logged}
use Rattle.runtime_log.specs.Taken.{AreTaken, chosen, first_ones, has_events, is_doubled, order_key, undoubled}
use Rattle.runtime_log.specs.private.Choices.{AreInFileOrder}
use Rattle.runtime_log.specs.private.Passings.{runs_of}
use Rattle.runtime_log.proofs.ByThread.{only_by_thread}
use Rattle.runtime_log.proofs.FileOrder.{logged_order}
use Rattle.runtime_log.proofs.ThreadRuns.{in_threads, some_by_thread}
use Rattle.runtime_log.proofs.OneOrder.{in_order, in_order_moves, in_order_sorted, one_order, rises_from_sorted}

-- ---- blocks among others

-- a block is one of these
abbrev pub IsOneOf : List LogBlock → LogBlock → Type 0
IsOneOf [] b = ⊥
IsOneOf (other ∷ blocks) b = (b ≡ other) ⊎ IsOneOf blocks b

pub each_is_one : (blocks : List LogBlock) → All (IsOneOf blocks) blocks
each_is_one [] = All-nil (IsOneOf [])
each_is_one (b ∷ blocks) = All-cons (IsOneOf (b ∷ blocks)) b blocks (inl refl) (All-weaker (IsOneOf blocks) (IsOneOf (b ∷ blocks)) (λ x one. inr one) blocks (each_is_one blocks))

-- it stands after a place
stands_after : (from to : ℕ) (blocks : List LogBlock) (b : LogBlock) → AreInFileOrder from to blocks → IsOneOf blocks b → from ≤ b.place
stands_after from to [] b order one = absurd one
stands_after from to (other ∷ blocks) b order (inl same) = omega (arith, order.0, ap (λ (x : LogBlock). x.place) same)
stands_after from to (other ∷ blocks) b order (inr one) = omega (arith, order.0, stands_after (1 + other.place) to blocks b order.1 one)

-- no two of them have the same place
one_at_place : (from to : ℕ) (blocks : List LogBlock) (b other : LogBlock) → AreInFileOrder from to blocks → IsOneOf blocks b → IsOneOf blocks other → b.place ≡ other.place → b ≡ other
one_at_place from to [] b other order one another same = absurd one
one_at_place from to (x ∷ blocks) b other order (inl p) (inl q) same = p ∙ sym q
one_at_place from to (x ∷ blocks) b other order (inl p) (inr q) same =
    absurd (omega (arith, ap (λ (y : LogBlock). y.place) p, stands_after (1 + x.place) to blocks other order.1 q, same))
one_at_place from to (x ∷ blocks) b other order (inr p) (inl q) same =
    absurd (omega (arith, ap (λ (y : LogBlock). y.place) q, stands_after (1 + x.place) to blocks b order.1 p, same))
one_at_place from to (x ∷ blocks) b other order (inr p) (inr q) same = one_at_place (1 + x.place) to blocks b other order.1 p q same

-- ---- those that are taken

-- what holds of all blocks holds of those whose bytes come for the first time
pub first_ones_hold : (P : LogBlock → Type 0) (before : List (List ℕ)) (blocks : List LogBlock) → All P blocks → All P (first_ones before blocks)
first_ones_hold P before [] all = All-nil P
first_ones_hold P before (b ∷ blocks) all = by_test (first_ones_hold P (b.content ∷ before) blocks (All-tail P b blocks all)) (is_doubled before b.content)
  where
    others : List LogBlock
    others = first_ones (b.content ∷ before) blocks

    by_test : All P others → (doubled : Bool) → All P (cond doubled others (b ∷ others))
    by_test again true = again
    by_test again false = All-cons P b others (All-head P b blocks all) again

pub chosen_hold : (P : LogBlock → Type 0) (blocks : List LogBlock) → All P blocks → All P (chosen blocks)
chosen_hold P blocks all = All-filter has_events P (undoubled blocks) (first_ones_hold P [] blocks all)

pub taken_hold : (P : LogBlock → Type 0) (blocks taken : List LogBlock) → AreTaken blocks taken → All P blocks → All P taken
taken_hold P blocks taken are all = All-permutation P (chosen blocks) taken are.all (chosen_hold P blocks all)

-- only one order
pub one_taken : (end : ℕ) (blocks taken other : List LogBlock) → AreInFileOrder 0 end blocks → AreTaken blocks taken → AreTaken blocks other → taken ≡ other
one_taken end blocks taken other order one another =
    one_order order_key (IsOneOf blocks) same taken other (all_one taken one) (all_one other another)
    (rises_from_sorted order_key taken one.sorted) (rises_from_sorted order_key other another.sorted)
    (λ f. sum_by-IsPermutation f (chosen blocks) taken one.all ∙ sym (sum_by-IsPermutation f (chosen blocks) other another.all))
  where
    same : (b c : LogBlock) → IsOneOf blocks b → IsOneOf blocks c → slice_cmp nat_cmp (order_key b) (order_key c) ≡ Equal → b ≡ c
    same b c p q e = one_at_place 0 end blocks b c order p q (ap (λ (key : List ℕ). get_or key 4 0) (exact_bytes (order_key b) (order_key c) e))

    all_one : (xs : List LogBlock) → AreTaken blocks xs → AllByRecursion (IsOneOf blocks) xs
    all_one xs are = recursion_from_All (IsOneOf blocks) xs (taken_hold (IsOneOf blocks) blocks xs are (each_is_one blocks))

-- and some order
pub some_taken : (blocks : List LogBlock) → AreTaken blocks (in_order order_key (chosen blocks))
some_taken blocks = record { all = in_order_moves order_key (chosen blocks); sorted = in_order_sorted order_key (chosen blocks) }

-- ---- imports

-- the blocks that are taken of a log, in one way only
one_taken_of : (bytes : List ℕ) (log : Log) (taken other : List Block) → logged bytes ≡ Ok log → AreTakenOf log taken → AreTakenOf log other → taken ≡ other
one_taken_of bytes log taken other says one another =
    let pool = one_taken (length bytes) log.blocks one.pool another.pool (logged_order bytes log says) one.chosen another.chosen in
    let threads = only_by_thread log.events one.threads another.threads one.by_thread another.by_thread in
    one.parts
    ∙ ap (λ (bs : List LogBlock). map (λ (b : LogBlock). b.block) bs ++ one.threads) pool
    ∙ ap (λ (bs : List Block). map (λ (b : LogBlock). b.block) another.pool ++ bs) threads
    ∙ sym another.parts

pub import_is_one : OneImport
import_is_one bytes file other facts others one another =
    let log : one.log ≡ another.log = same_log one.log another.log (sym one.says ∙ another.says) in
    let again = subst (λ (l : Log). AreTakenOf l another.taken) (sym log) another.takes in
    let taken : one.taken ≡ another.taken = one_taken_of bytes one.log one.taken another.taken one.says one.takes again in (
      another.file_is
          ∙ ap (λ (l : Log). trace_file (trace_taken l.header another.taken)) (sym log)
          ∙ ap (λ (bs : List Block). trace_file (trace_taken one.log.header bs)) (sym taken)
          ∙ sym one.file_is,
      another.facts_are
          ∙ ap (λ (l : Log). facts_of l another.taken) (sym log)
          ∙ ap (λ (bs : List Block). facts_of one.log bs) (sym taken)
          ∙ sym one.facts_are,
    )
  where
    same_log : (l m : Log) → ◌≡◌ {A = Result Log LogFault} (Ok l) (Ok m) → l ≡ m
    same_log l m e = cc

pub import_is_some : SomeImport
import_is_some bytes log says =
    let pool = in_order order_key (chosen log.blocks) in
    let threads = runs_of (in_threads log.events) in
    let taken : List Block = map (λ (b : LogBlock). b.block) pool ++ threads in (
      trace_file (trace_taken log.header taken),
      facts_of log taken,
      record {
        log = log;
        says = says;
        taken = taken;
        takes = record { pool = pool; chosen = some_taken log.blocks; threads = threads; by_thread = some_by_thread log.events; parts = refl };
        file_is = refl;
        facts_are = refl;
      },
    )
