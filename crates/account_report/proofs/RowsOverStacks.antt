-- The rows of an account: the events of their functions, and the stacks that end in them.
use Rattle.std.proofs.Common.{◌≡◌, ◌++◌, ◌∙◌, ℕ, Bool, true, false, cond, List, [], ◌∷◌, map, reverse, refl, ap, sym, arith, nat_eq, count_by}
use Rattle.std.specs.Prelude.{All, filter, sum_by}
use Rattle.std.specs.Cmp.Lexicographic.{nat_list_cmp_total}
use Rattle.std.proofs.lemmas.List.{length-map, reverse-append}
use Rattle.std.proofs.lemmas.List.Elements.{All-cons, All-nil}
use Rattle.std.proofs.lemmas.List.Sorted.{IsPermutation-reverse, sum_by-IsPermutation}
use Rattle.std.proofs.lemmas.List.Sums.{length-filter, sum-map}
use Rattle.fdr_file.specs.declared.trace.Block.{Block}
use Rattle.fdr_file.specs.ThreadEvents.{ThreadEvent, thread_events}
use Rattle.stack_rebuild.specs.Ascending.{each_once}
use Rattle.stack_rebuild.specs.Histories.{ThreadPair, events_of_thread, history_of, pairs_of_blocks}
use Rattle.stack_rebuild.specs.Stacks.{PathRow, Timed, all_timed, has_path, open_before, path_cmp, path_of, path_row, timed}
use Rattle.stack_rebuild.proofs.AscendingLists.{each_once-in, strict-each_once}
use Rattle.stack_rebuild.proofs.Groups.{IsGrouped, counts_once, sum_by-filter, sum_by-groups, sum_by-map, sum_by-none, sum_by-same}
use Rattle.stack_rebuild.proofs.Items.{in-map}
use Rattle.stack_rebuild.proofs.PairFacts.{entries_apart, pairs_are_whole}
use Rattle.stack_rebuild.proofs.Sums.{has_own, has_path-same, path_cmp_equal}
use Rattle.account_report.specs.declared.row.AccountRow.{AccountRow}
use Rattle.account_report.specs.Account.{account_of, durations_of, function_row, functions_in, is_entry_of, is_exit_of}
use Rattle.account_report.specs.AccountLaws.{CountsEach, SumsStacks, begins_in, ends_in}
use Rattle.account_report.proofs.PairsAndLone.{Laws, each_entry, each_exit}
use Rattle.account_report.proofs.AscendingLists.{length-ascending, sum-ascending}

-- what holds of the row of each function holds of each row
each_row : (P : AccountRow → Type 0) (h : List ThreadEvent) → ((func : ℕ) → P (function_row h func)) → (funcs : List ℕ) → All P (map (function_row h) funcs)
each_row P h own [] = All-nil P
each_row P h own (func ∷ funcs) = All-cons P (function_row h func) (map (function_row h) funcs) (own func) (each_row P h own funcs)

-- ---- the events of a function

laws : Laws
laws = record { apart = λ events. entries_apart (reverse events); whole = pairs_are_whole }

-- a history has as many events of a kind as are listed in the order of the file
counted_turned : (test : ThreadEvent → Bool) (events : List ThreadEvent) → count_by test (reverse events) ≡ count_by test events
counted_turned test events = sum_by-IsPermutation (λ e. cond (test e) 1 0) events (reverse events) (IsPermutation-reverse events)

counts_each : (blocks : List Block) (func : ℕ) → CountsEach blocks (function_row (history_of blocks) func)
counts_each blocks func =
    let h = history_of blocks in
    let many = length-ascending (durations_of func h) in record {
      entries = omega (arith, many, each_entry laws func h, counted_turned (is_entry_of func) (thread_events blocks));
      exits = omega (arith, many, each_exit func h, counted_turned (is_exit_of func) (thread_events blocks));
    }

pub all_counted : (blocks : List Block) → All (CountsEach blocks) (account_of blocks)
all_counted blocks = each_row (CountsEach blocks) (history_of blocks) (counts_each blocks) (functions_in (history_of blocks))

-- ---- the stacks of a function

abbrev timed_made : List Block → ThreadPair → Timed
timed_made blocks made = timed (events_of_thread made.thread blocks) made.pair

-- the path of a pair ends in its function
path_ends : (func : ℕ) (outer : List ℕ) (own : ℕ) → ends_in func (outer ++ own ∷ []) ≡ nat_eq own func
path_ends func outer own = ap (begins_in func) (reverse-append outer (own ∷ []))

-- a weight of the pairs whose path ends in a function
abbrev ending : ℕ → (Timed → ℕ) → Timed → ℕ
ending func weight pair = cond (ends_in func pair.path) (weight pair) 0

-- the pairs of one path, if it ends in the function
of_path : (func : ℕ) (weight : Timed → ℕ) (pairs : List Timed) (path : List ℕ)
    → cond (ends_in func path) (sum_by (λ p. cond (has_path path p) (weight p) 0) pairs) 0 ≡ sum_by (λ p. cond (has_path path p) (ending func weight p) 0) pairs
of_path func weight pairs path = by_end (ends_in func path) refl
  where
    kept : (p : Timed) (b : Bool) → has_path path p ≡ b → (d : Bool) → ends_in func path ≡ d → cond b (ending func weight p) 0 ≡ cond b (cond d (weight p) 0) 0
    kept p true is d end = ap {B = ℕ} (λ c. cond c (weight p) 0) (ap (ends_in func) (has_path-same path p is) ∙ end)
    kept p false is d end = refl

    by_end : (d : Bool) → ends_in func path ≡ d
        → cond d (sum_by (λ p. cond (has_path path p) (weight p) 0) pairs) 0 ≡ sum_by (λ p. cond (has_path path p) (ending func weight p) 0) pairs
    by_end true end =
        sym (sum_by-same (λ p. cond (has_path path p) (ending func weight p) 0) (λ p. cond (has_path path p) (weight p) 0) pairs
        (λ p is. kept p (has_path path p) refl true end))
    by_end false end =
        sym (sum_by-same (λ p. cond (has_path path p) (ending func weight p) 0) (λ p. 0) pairs
        (λ p is. kept p (has_path path p) refl false end ∙ none (has_path path p)) ∙ sum_by-none pairs)
      where
        none : (b : Bool) → ◌≡◌ {A = ℕ} (cond b 0 0) 0
        none true = refl
        none false = refl

abbrev paths_of : List Timed → List (List ℕ)
paths_of pairs = each_once path_cmp (map (λ pair. pair.path) pairs)

-- each pair has one path
by_paths : (pairs : List Timed) → IsGrouped (λ (path : List ℕ) (pair : Timed). has_path path pair) (paths_of pairs) pairs
by_paths pairs = record {
  once = λ pair is n.
      counts_once path_cmp nat_list_cmp_total (λ path. has_path path pair) pair.path (has_own pair) (λ path so. sym (has_path-same path pair so)) (paths_of pairs)
      (strict-each_once path_cmp nat_list_cmp_total (map (λ (p : Timed). p.path) pairs))
      (each_once-in path_cmp path_cmp_equal (map (λ (p : Timed). p.path) pairs) pair.path (in-map (λ (p : Timed). p.path) pairs pair is)) n;
}

-- a weight of a function's pairs, over the paths that end in it
over_paths : (blocks : List Block) (func : ℕ) (weight : Timed → ℕ)
    → sum_by (λ path. cond (ends_in func path) (sum_by (λ p. cond (has_path path p) (weight p) 0) (all_timed blocks)) 0) (paths_of (all_timed blocks))
    ≡ sum_by (λ made. cond (nat_eq made.pair.func func) (weight (timed_made blocks made)) 0) (pairs_of_blocks blocks)
over_paths blocks func weight =
    let pairs = all_timed blocks in
    sum_by-same (λ path. cond (ends_in func path) (sum_by (λ p. cond (has_path path p) (weight p) 0) pairs) 0)
    (λ path. sum_by (λ p. cond (has_path path p) (ending func weight p) 0) pairs) (paths_of pairs) (λ path is. of_path func weight pairs path)
    ∙ (sum_by-groups (λ (path : List ℕ) (pair : Timed). has_path path pair) (ending func weight) (paths_of pairs) pairs (by_paths pairs)
    ∙ (sum_by-map (timed_made blocks) (ending func weight) (pairs_of_blocks blocks)
    ∙ sum_by-same (λ made. ending func weight (timed_made blocks made)) (λ made. cond (nat_eq made.pair.func func) (weight (timed_made blocks made)) 0)
    (pairs_of_blocks blocks)
    (λ made is. ap {B = ℕ} (λ b. cond b (weight (timed_made blocks made)) 0)
    (path_ends func (path_of (open_before (events_of_thread made.thread blocks) made.pair.entry)) made.pair.func))))

sums_stacks : (blocks : List Block) (func : ℕ) → SumsStacks blocks (function_row (history_of blocks) func)
sums_stacks blocks func =
    let h = history_of blocks in
    let made = pairs_of_blocks blocks in
    let pairs = all_timed blocks in
    let test : ThreadPair → Bool = λ m. nat_eq m.pair.func func in
    let duration : ThreadPair → ℕ = λ m. m.pair.duration in record {
      count =
          length-ascending (durations_of func h)
          ∙ (length-map (filter test made) duration
          ∙ (length-filter test made
          ∙ sym (sum_by-map (path_row pairs) (λ (s : PathRow). cond (ends_in func s.path) s.count 0) (paths_of pairs) ∙ over_paths blocks func (λ p. 1))));
      sum =
          sum-ascending (durations_of func h)
          ∙ (sum-map duration (filter test made)
          ∙ (sum_by-filter test duration made
          ∙ sym (sum_by-map (path_row pairs) (λ (s : PathRow). cond (ends_in func s.path) s.sum 0) (paths_of pairs) ∙ over_paths blocks func (λ p. p.duration))));
    }

pub all_summed : (blocks : List Block) → All (SumsStacks blocks) (account_of blocks)
all_summed blocks = each_row (SumsStacks blocks) (history_of blocks) (sums_stacks blocks) (functions_in (history_of blocks))
