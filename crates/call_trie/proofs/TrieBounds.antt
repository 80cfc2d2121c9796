-- How great the numbers of a trie may be.
use Rattle.std.proofs.Common.{◌≡◌, ◌+◌, ◌-◌, ◌*◌, ◌^◌, ◌++◌, ◌<◌, ◌≤◌, ℕ, Bool, true, false, cond, List, [], ◌∷◌, length, map, reverse, sym, subst, arith, length-append, sum_by}
use Rattle.std.specs.Prelude.{All}
use Rattle.std.specs.Option.{option_to_list}
use Rattle.std.proofs.lemmas.List.{length-map, length-reverse}
use Rattle.std.proofs.lemmas.List.Elements.{All-cons, All-nil}
use Rattle.std.proofs.lemmas.List.Sums.{sum_by-cons}
use Rattle.std.proofs.lemmas.Nat.{mod_below}
use Rattle.fdr_record.specs.declared.event.Event.{Event}
use Rattle.fdr_record.specs.declared.event.Kind.{Kind}
use Rattle.fdr_record.specs.declared.event.Kind.TheVariants.{Entry, Exit, TailExit, EntryArgs}
use Rattle.stack_rebuild.specs.declared.call.Call.{Call}
use Rattle.stack_rebuild.specs.declared.call.Pair.{Pair}
use Rattle.stack_rebuild.specs.declared.tally.Tally.{Tally}
use Rattle.stack_rebuild.specs.Calls.{from_innermost, open_calls, pair_at, pair_at_kind, pair_of_call, pairs_in, pairs_of}
use Rattle.stack_rebuild.specs.OpenPaths.{OpenPath, open_paths}
use Rattle.stack_rebuild.specs.PathSums.{tally_of}
use Rattle.stack_rebuild.specs.Stacks.{Timed, has_path, is_innermost, open_before, timed, timed_pairs}
use Rattle.call_trie.specs.declared.state.TrieState.TheVariants.{Live}
use Rattle.call_trie.specs.private.Steps.{AreRoomy, IsRoomy}
use Rattle.call_trie.specs.Tries.{StandsFor, Trie, paths_opened}

-- ---- pairs

-- durations are numbers of 64 bits
abbrev AllShort : List Pair → Type 0
AllShort [] = Unit {0}
AllShort (pair ∷ pairs) = (pair.duration < 2 ^ 64) × AllShort pairs

short_append : (pairs more : List Pair) → AllShort pairs → AllShort more → AllShort (pairs ++ more)
short_append [] more all also = also
short_append (pair ∷ pairs) more all also = (all.0, short_append pairs more all.1 also)

-- an event makes at most one pair, and its duration is short
record IsFew (made : List Pair) : Type 0 where
  short : AllShort made
  few : length made ≤ 1

few_of_call : (e : Event) (at : ℕ) (calls : List Call) → IsFew (option_to_list (pair_of_call e at calls))
few_of_call e at [] = record { short = tt; few = omega arith }
few_of_call e at (call ∷ outer) = record { short = (mod_below (e.tsc + (2 ^ 64 - call.tsc)) (2 ^ 64) (omega arith), tt); few = omega arith }

few_at : (k : Kind) (e : Event) (at : ℕ) (calls : List Call) → IsFew (option_to_list (pair_at_kind k e at calls))
few_at Entry e at calls = record { short = tt; few = omega arith }
few_at EntryArgs e at calls = record { short = tt; few = omega arith }
few_at Exit e at calls = few_of_call e at (from_innermost e.func calls)
few_at TailExit e at calls = few_of_call e at (from_innermost e.func calls)

record ArePairs (h : List Event) : Type 0 where
  short : AllShort (pairs_in h)
  few : length (pairs_in h) ≤ length h

are_pairs : (h : List Event) → ArePairs h
are_pairs [] = record { short = tt; few = omega arith }
are_pairs (e ∷ h) =
    let before = are_pairs h in
    let made = option_to_list (pair_at e (length h) (open_calls h)) in
    let now = few_at e.kind e (length h) (open_calls h) in record {
      short = short_append (pairs_in h) made before.short now.short;
      few = omega (arith, length-append (pairs_in h) made, before.few, now.few);
    }

-- ---- pairs with their paths

abbrev AllTimed : List Timed → Type 0
AllTimed [] = Unit {0}
AllTimed (pair ∷ pairs) = (pair.duration < 2 ^ 64) × (pair.own < 2 ^ 64) × AllTimed pairs

timed_short : (events : List Event) (pairs : List Pair) → AllShort pairs → AllTimed (map (timed events) pairs)
timed_short events [] all = tt
timed_short events (pair ∷ pairs) all = (all.0, omega (arith, all.0), timed_short events pairs all.1)

-- what pairs say of a path
record AreLow (pairs : List Timed) (tally : Tally) : Type 0 where
  count : tally.count ≤ length pairs
  sum : tally.sum ≤ length pairs * 2 ^ 64
  own : tally.own ≤ length pairs * 2 ^ 64

part_low : (b : Bool) (n : ℕ) → cond b n 0 ≤ n
part_low true n = omega arith
part_low false n = omega arith

tally_low : (path : List ℕ) (pairs : List Timed) → AllTimed pairs → AreLow pairs (tally_of pairs path)
tally_low path [] all = record { count = omega arith; sum = omega arith; own = omega arith }
tally_low path (pair ∷ pairs) all =
    let later = tally_low path pairs all.2 in record {
      count = omega (arith, later.count, sum_by-cons (λ (p : Timed). cond (has_path path p) 1 0) pair pairs, part_low (has_path path pair) 1);
      sum = omega (arith, later.sum, sum_by-cons (λ (p : Timed). cond (has_path path p) p.duration 0) pair pairs, part_low (has_path path pair) pair.duration, all.0);
      own = omega (arith, later.own, sum_by-cons (λ (p : Timed). cond (has_path path p) p.own 0) pair pairs, part_low (has_path path pair) pair.own, all.1);
    }

-- what was spent in a call
spent_low : (events : List Event) (at : ℕ) (pairs : List Pair) → AllShort pairs
    → sum_by (λ (pair : Pair). cond (is_innermost at (open_before events pair.entry)) pair.duration 0) pairs ≤ length pairs * 2 ^ 64
spent_low events at [] all = omega arith
spent_low events at (pair ∷ pairs) all =
    omega (
      arith,
      spent_low events at pairs all.1,
      sum_by-cons (λ (p : Pair). cond (is_innermost at (open_before events p.entry)) p.duration 0) pair pairs,
      part_low (is_innermost at (open_before events pair.entry)) pair.duration,
      all.0,
    )

-- ---- tries

tallies_roomy : (events : List Event) (paths : List (List ℕ)) → length events < 2 ^ 32 - 1 → AllTimed (timed_pairs events) → length (timed_pairs events) ≤ length events
    → All IsRoomy (map (tally_of (timed_pairs events)) paths)
tallies_roomy events [] short all few = All-nil IsRoomy
tallies_roomy events (path ∷ paths) short all few =
    let low = tally_low path (timed_pairs events) all in
    All-cons IsRoomy (tally_of (timed_pairs events) path) (map (tally_of (timed_pairs events)) paths)
    (record { count = omega (arith, low.count, few, short); sum = omega (arith, low.sum, few, short); own = omega (arith, low.own, few, short) })
    (tallies_roomy events paths short all few)

open_roomy : (events : List Event) (calls : List Call) → length events < 2 ^ 32 - 1 → AllShort (pairs_of events) → length (pairs_of events) ≤ length events
    → All (λ (call : OpenPath). call.spent < 2 ^ 127) (open_paths events calls)
open_roomy events [] short all few = All-nil (λ (call : OpenPath). call.spent < 2 ^ 127)
open_roomy events (call ∷ outer) short all few =
    All-cons (λ (c : OpenPath). c.spent < 2 ^ 127) _ (open_paths events outer)
    (omega (arith, spent_low events call.entry (pairs_of events) all, few, short)) (open_roomy events outer short all few)

pub roomy : (trie : Trie) (events : List Event) → trie.state ≡ Live → StandsFor trie events → length events < 2 ^ 32 - 1 → AreRoomy trie
roomy trie events live own short =
    let pairs = are_pairs (reverse events) in
    let few : length (pairs_of events) ≤ length events = omega (arith, pairs.few, length-reverse events) in record {
      tallies = subst (All IsRoomy) (sym (own.tallies live))
          (tallies_roomy events (paths_opened events) short (timed_short events (pairs_of events) pairs.short) (omega (arith, few, length-map (pairs_of events) (timed events))));
      calls = subst (All (λ (call : OpenPath). call.spent < 2 ^ 127)) (sym (own.calls live)) (open_roomy events (open_calls (reverse events)) short pairs.short few);
    }
