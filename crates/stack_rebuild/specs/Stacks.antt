-- The stacks of blocks: on which paths their functions were called, and for how long.
use Rattle.std.specs.Prelude.{◌≡◌, ◌-◌, ◌==◌, ◌||◌, Bool, false, ℕ, List, [], ◌∷◌, ◌++◌, length, map, filter, reverse, take, sum_by, count_by, nat_eq, nat_lt, All, Contains, if◌then◌else◌, Option, None, Some}
use Rattle.std.specs.declared.cmp.Ordering.{Ordering}
use Rattle.std.specs.List.{IsDistinct, flat_map}
use Rattle.std.specs.Ordering.{is_eq, nat_cmp}
use Rattle.std.specs.Cmp.Lexicographic.{slice_cmp}
use Rattle.fdr_record.specs.declared.event.Event.{Event}
use Rattle.fdr_file.specs.declared.trace.Block.{Block}
use Rattle.stack_rebuild.specs.declared.call.Call.{Call}
use Rattle.stack_rebuild.specs.declared.call.Pair.{Pair}
use Rattle.stack_rebuild.specs.declared.stack_row.StackRow.{StackRow}
use Rattle.stack_rebuild.specs.declared.stack_row.StackFault.{StackFault}
use Rattle.stack_rebuild.specs.declared.stack_row.StackFault.TheVariants.{Deep, NoMemory}
use Rattle.stack_rebuild.specs.Calls.{open_calls, pairs_of}
use Rattle.stack_rebuild.specs.Histories.{events_of_thread, pairs_of_blocks}
use Rattle.stack_rebuild.specs.Ascending.{each_once}

-- the calls that are open just before the event at a position, from the innermost to the outermost
abbrev pub open_before : List Event → ℕ → List Call
open_before events at = open_calls (reverse (take at events))

-- the functions of calls, from the outermost to the innermost
abbrev pub path_of : List Call → List ℕ
path_of calls = reverse (map (λ call. call.func) calls)

-- the path of a pair: the functions of the calls that are open just before its entry, and then its own
abbrev pub pair_path : List Event → Pair → List ℕ
pair_path events pair = path_of (open_before events pair.entry) ++ pair.func ∷ []

-- whether the innermost of some calls is the one with its entry at a position
abbrev pub is_innermost : ℕ → List Call → Bool
is_innermost at [] = false
is_innermost at (call ∷ outer) = call.entry == at

-- the durations of the pairs that were made directly in the call with its entry at a position
abbrev pub spent_in : List Event → ℕ → ℕ
spent_in events at = sum_by (λ pair. if is_innermost at (open_before events pair.entry) then pair.duration else 0) (pairs_of events)

-- a pair with its path: its duration, and what is left of it without its direct children, at least 0
pub record Timed : Type 0 where
  pub path : List ℕ
  pub duration : ℕ
  pub own : ℕ

abbrev pub timed : List Event → Pair → Timed
timed events pair = record { path = pair_path events pair; duration = pair.duration; own = pair.duration - spent_in events pair.entry }

-- the pairs of a thread with their paths, in the order of their exits
abbrev pub timed_pairs : List Event → List Timed
timed_pairs events = map (timed events) (pairs_of events)

-- the pairs of blocks, in the order of their exits
abbrev pub all_timed : List Block → List Timed
all_timed blocks = map (λ made. timed (events_of_thread made.thread blocks) made.pair) (pairs_of_blocks blocks)

-- the order of paths as lists of numbers
abbrev pub path_cmp : List ℕ → List ℕ → Ordering
path_cmp = slice_cmp nat_cmp

-- the numbers of a path: how many pairs it has, and the sums of their durations and of what is left of them
pub record PathRow : Type 0 where
  pub path : List ℕ
  pub count : ℕ
  pub sum : ℕ
  pub own : ℕ

-- whether a pair has a path
abbrev pub has_path : List ℕ → Timed → Bool
has_path path pair = is_eq (path_cmp pair.path path)

-- the row of a path
abbrev pub path_row : List Timed → List ℕ → PathRow
path_row pairs path = record {
  path = path;
  count = count_by (has_path path) pairs;
  sum = sum_by (λ pair. if has_path path pair then pair.duration else 0) pairs;
  own = sum_by (λ pair. if has_path path pair then pair.own else 0) pairs;
}

-- the rows of pairs: one for each path that a pair has, in ascending order
abbrev pub rows_of_pairs : List Timed → List PathRow
rows_of_pairs pairs = map (path_row pairs) (each_once path_cmp (map (λ pair. pair.path) pairs))

-- the stacks of blocks
abbrev pub stack_of : List Block → List PathRow
stack_of blocks = rows_of_pairs (all_timed blocks)

-- the stacks of threads, by the events of each
abbrev pub stack_of_threads : List (List Event) → List PathRow
stack_of_threads threads = rows_of_pairs (flat_map timed_pairs threads)

-- these threads are those of blocks, each once; some may have no block
pub record AreThreadsOf (blocks : List Block) (threads : List ℕ) : Type 0 where
  pub once : IsDistinct nat_eq threads
  pub all : All (λ block. Contains threads block.thread) blocks

-- what a row says
abbrev pub told : StackRow → PathRow
told row = record { path = row.path.items; count = row.count; sum = row.sum; own = row.own }

-- how many calls of a thread may be open at once
abbrev pub most_open : ℕ
most_open = 4096

-- whether after some event of a history more calls are open than a limit
abbrev pub gets_deep : ℕ → List Event → Bool
gets_deep limit [] = false
gets_deep limit (e ∷ before) = nat_lt limit (length (open_calls (e ∷ before))) || gets_deep limit before

-- the first item of a list
abbrev pub first_item : List ℕ → Option ℕ
first_item [] = None
first_item (n ∷ ns) = Some n

-- the threads of blocks, in ascending order
abbrev pub threads_of : List Block → List ℕ
threads_of blocks = each_once nat_cmp (map (λ block. block.thread) blocks)

-- the least thread that has more calls open than a limit, after some event
abbrev pub deep_in : ℕ → List Block → Option ℕ
deep_in limit blocks = first_item (filter (λ thread. gets_deep limit (reverse (events_of_thread thread blocks))) (threads_of blocks))

-- a fault is out of memory, or it names this thread
abbrev pub IsDeepFault : StackFault → Option ℕ → Type 0
IsDeepFault NoMemory deep = Unit {0}
IsDeepFault (Deep thread) deep = deep ≡ Some thread
