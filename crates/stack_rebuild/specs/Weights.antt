-- The weight of a path: the time that was spent in the calls themselves of all rows on it and below it. It is the sum of
-- the row of the path, and what is in no sum. The events of a thread are listed from the first one to the last.
use Rattle.std.specs.Prelude.{◌≡◌, ◌≤◌, ◌<◌, ◌-◌, ◌+◌, ◌==◌, ◌&&◌, All, Bool, IsTrue, true, false, not, ℕ, List, [], ◌∷◌, ◌++◌, length, sum_by, if◌then◌else◌}
use Rattle.std.specs.List.{flat_map, list_any}
use Rattle.fdr_record.specs.declared.event.Event.{Event}
use Rattle.stack_rebuild.specs.declared.call.Call.{Call}
use Rattle.stack_rebuild.specs.declared.call.Pair.{Pair}
use Rattle.stack_rebuild.specs.Calls.{enters, pairs_of}
use Rattle.stack_rebuild.specs.PairLaws.{event_at}
use Rattle.stack_rebuild.specs.Stacks.{PathRow, open_before, pair_path, path_of, path_row, spent_in, stack_of_threads, timed_pairs}

-- whether a path begins with the functions of another one
abbrev pub begins : List ℕ → List ℕ → Bool
begins [] path = true
begins (f ∷ frame) [] = false
begins (f ∷ frame) (g ∷ path) = (f == g) && begins frame path

-- the weight of a path: the time that was spent in the calls themselves, of the rows whose paths begin with it
abbrev pub weight_of : List PathRow → List ℕ → ℕ
weight_of rows frame = sum_by (λ row. if begins frame row.path then row.own else 0) rows

-- the sum of a path's row, or 0 if the path has no row
abbrev pub sum_on : List (List Event) → List ℕ → ℕ
sum_on threads path = (path_row (flat_map timed_pairs threads) path).sum

-- ---- what is in no sum

-- whether the call with its entry at a position has its exit, and so is in a pair
abbrev pub has_ended : List Event → ℕ → Bool
has_ended events at = list_any (λ pair. pair.entry == at) (pairs_of events)

-- whether the innermost of some calls has its exit
abbrev pub innermost_ended : List Event → List Call → Bool
innermost_ended events [] = false
innermost_ended events (call ∷ outer) = has_ended events call.entry

-- whether a pair was made directly in a call on a path or below it, and this call has no exit
abbrev pub is_left_over : List Event → List ℕ → Pair → Bool
is_left_over events path pair =
    begins path (path_of (open_before events pair.entry)) && not (innermost_ended events (open_before events pair.entry))

-- the time of these pairs
abbrev pub left_over : List Event → List ℕ → ℕ
left_over events path = sum_by (λ pair. if is_left_over events path pair then pair.duration else 0) (pairs_of events)

-- how much longer than a call the calls made directly in it took, of all calls on a path and below it
abbrev pub overrun : List Event → List ℕ → ℕ
overrun events path = sum_by (λ pair. if begins path (pair_path events pair) then spent_in events pair.entry - pair.duration else 0) (pairs_of events)

-- a path weighs as much as its sum, and what is in no sum
abbrev pub WeighsSum : List (List Event) → List ℕ → Type 0
WeighsSum threads path =
    weight_of (stack_of_threads threads) path ≡ sum_on threads path + sum_by (λ events. left_over events path + overrun events path) threads

-- ---- when nothing is

-- the path of the call that an entry at a position opens
abbrev pub entry_path : List Event → ℕ → List ℕ
entry_path events at = path_of (open_before events at) ++ (event_at events at).func ∷ []

-- each call on a path and below it has its exit, and the calls made directly in it took no longer than it
pub record IsAllTimed (path : List ℕ) (events : List Event) : Type 0 where
  pub ended : (at : ℕ) → at < length events → IsTrue (enters (event_at events at).kind) → IsTrue (begins path (entry_path events at))
      → IsTrue (has_ended events at)
  pub held : All (λ pair. IsTrue (begins path (pair_path events pair)) → spent_in events pair.entry ≤ pair.duration) (pairs_of events)

-- if this is so in each thread, a path weighs as much as its sum
abbrev pub WeighsNoMore : List (List Event) → List ℕ → Type 0
WeighsNoMore threads path = 0 < length path → All (IsAllTimed path) threads → weight_of (stack_of_threads threads) path ≡ sum_on threads path
