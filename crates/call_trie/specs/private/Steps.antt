-- What one event changes in a trie.
use Rattle.std.specs.Prelude.{◌≡◌, ◌<◌, ◌≤◌, ◌-◌, ◌+◌, ◌^◌, ◌++◌, All, ℕ, List, [], ◌∷◌, length, slice_index_or, slice_set}
use Rattle.stack_rebuild.specs.declared.tally.Tally.{Tally}
use Rattle.stack_rebuild.specs.Calls.{cycles_between}
use Rattle.stack_rebuild.specs.OpenPaths.{OpenPath, open_from, with_spent}
use Rattle.stack_rebuild.specs.PathSums.{no_tally, with_pair}
use Rattle.stack_rebuild.specs.Stacks.{most_open}
use Rattle.call_trie.specs.declared.state.TrieState.TheVariants.{Full, Deep}
use Rattle.call_trie.specs.private.Paths.{IsAt, IsNew}
use Rattle.call_trie.specs.Tries.{Trie}

-- An entry opens this call. If as many calls are open as may be, or if the call's path is new and each node is in use,
-- the trie stops instead. If the path is new and there is a node for it, the path gets the next number.
pub data Enters (call : OpenPath) (old new : Trie) : Type 0 where
  deep : most_open ≤ length old.calls → new ≡ record old { state = Deep } → Enters call old new
  full : length old.calls < most_open → IsNew old.paths call.path → length old.paths ≡ old.room + 1 → new ≡ record old { state = Full } → Enters call old new
  known : length old.calls < most_open → (n : ℕ) → IsAt old.paths call.path n → new ≡ record old { calls = call ∷ old.calls } → Enters call old new
  fresh : length old.calls < most_open → IsNew old.paths call.path → length old.paths ≤ old.room
      → new ≡ record old { paths = old.paths ++ call.path ∷ []; tallies = old.tallies ++ no_tally ∷ []; calls = call ∷ old.calls } → Enters call old new

-- An exit of a function at a counter ends its innermost open call, if there is one. The pair is added to the tally of the
-- call's path, and its duration was spent in the call outside it.
pub data Leaves (func tsc : ℕ) (old new : Trie) : Type 0 where
  none : open_from func old.calls ≡ [] → new ≡ old → Leaves func tsc old new
  ended : (call : OpenPath) → (outer : List OpenPath) → (n : ℕ) → open_from func old.calls ≡ call ∷ outer → 0 < n → IsAt old.paths call.path n
      → new ≡ record old {
        tallies = slice_set old.tallies (n - 1)
            (with_pair (cycles_between call.tsc tsc) (cycles_between call.tsc tsc - call.spent) (slice_index_or old.tallies (n - 1) no_tally));
        calls = with_spent (cycles_between call.tsc tsc) outer;
      } → Leaves func tsc old new

-- a tally's numbers are far from the ends of their types
pub record IsRoomy (tally : Tally) : Type 0 where
  pub count : tally.count < 2 ^ 63
  pub sum : tally.sum < 2 ^ 127
  pub own : tally.own < 2 ^ 127

-- so are all numbers of a trie
pub record AreRoomy (trie : Trie) : Type 0 where
  pub tallies : All IsRoomy trie.tallies
  pub calls : All (λ call. call.spent < 2 ^ 127) trie.calls
