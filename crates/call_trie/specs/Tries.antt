-- What a recorder keeps of the events of a thread: a live call trie. The events are listed from the first one to the
-- last.
use Rattle.std.specs.Prelude.{◌≡◌, ◌&&◌, Bool, not, ℕ, suc, List, [], ◌∷◌, filter, length, map, nat_lt, reverse, take, refl, if◌then◌else◌}
use Rattle.std.specs.List.{list_any, range_with_len}
use Rattle.std.specs.Ordering.{is_eq}
use mathlib.Core.Path.{◌∙◌}
use Rattle.fdr_record.specs.declared.event.Event.{Event}
use Rattle.stack_rebuild.specs.declared.tally.Tally.{Tally}
use Rattle.stack_rebuild.specs.Calls.{enters, open_calls}
use Rattle.stack_rebuild.specs.OpenPaths.{OpenPath, open_of}
use Rattle.stack_rebuild.specs.PairLaws.{event_at}
use Rattle.stack_rebuild.specs.PathSums.{tally_of}
use Rattle.stack_rebuild.specs.Stacks.{most_open, path_cmp, timed_pairs}
use Rattle.stack_rebuild.specs.Weights.{entry_path}
use Rattle.call_trie.specs.declared.state.TrieState.{TrieState}
use Rattle.call_trie.specs.declared.state.TrieState.TheVariants.{Live, Full, Deep}

-- What a recorder holds: for how many paths it has nodes; its state; the paths by their numbers, of which number 0 is the
-- empty path; what pairs say of each of the others; and the open calls, from the innermost to the outermost.
pub record Trie : Type 0 where
  pub room : ℕ
  pub state : TrieState
  pub paths : List (List ℕ)
  pub tallies : List Tally
  pub calls : List OpenPath

-- ---- the paths that entries opened

-- whether a path is among others
abbrev pub is_among_paths : List (List ℕ) → List ℕ → Bool
is_among_paths paths path = list_any (λ other. is_eq (path_cmp other path)) paths

-- whether the event at a position is an entry
abbrev pub enters_at : List Event → ℕ → Bool
enters_at events at = enters (event_at events at).kind

-- the paths that the entries before a position opened
abbrev pub paths_before : List Event → ℕ → List (List ℕ)
paths_before events end = map (entry_path events) (filter (enters_at events) (range_with_len 0 end))

-- whether the event at a position is an entry that opens a path which no earlier one opened
abbrev pub opens_first : List Event → ℕ → Bool
opens_first events at = enters_at events at && not (is_among_paths (paths_before events at) (entry_path events at))

-- the paths that the entries of events opened, each once, in the order in which they were first opened
abbrev pub paths_opened : List Event → List (List ℕ)
paths_opened events = map (entry_path events) (filter (opens_first events) (range_with_len 0 (length events)))

-- ---- the state

-- What is too much after some events: more calls are open than may be at once, or else more paths were opened than there
-- are nodes for. If neither is, the state is `Live`.
abbrev pub excess : ℕ → List Event → TrieState
excess room events =
    if nat_lt most_open (length (open_calls (reverse events))) then Deep else if nat_lt room (length (paths_opened events)) then Full else Live

-- the first of some states that isn't `Live`, or `Live` if all are
abbrev pub first_stop : List TrieState → TrieState
first_stop [] = Live
first_stop (Live ∷ later) = first_stop later
first_stop (Full ∷ later) = Full
first_stop (Deep ∷ later) = Deep

-- the state after events: what is too much after the fewest first events after which anything is
abbrev pub state_after : ℕ → List Event → TrieState
state_after room events = first_stop (map (λ n. excess room (take n events)) (range_with_len 0 (suc (length events))))

-- ---- what a recorder stands for

-- The recorder has the state of these events. As long as it is live, its nodes are the distinct paths that their entries
-- opened, each with what the pairs of the events say of it; and its open calls are those after the events, each with its
-- path, the counter at its entry, and the durations of the pairs that were made directly in it so far.
pub record StandsFor (trie : Trie) (events : List Event) : Type 0 where
  pub state : trie.state ≡ state_after trie.room events
  pub paths : trie.state ≡ Live → trie.paths ≡ [] ∷ paths_opened events
  pub tallies : trie.state ≡ Live → trie.tallies ≡ map (tally_of (timed_pairs events)) (paths_opened events)
  pub calls : trie.state ≡ Live → trie.calls ≡ open_of events

-- it has nodes for as many paths as before
pub record HasSameRoom (old new : Trie) : Type 0 where
  pub room : new.room ≡ old.room

pub same_itself : (trie : Trie) → HasSameRoom trie trie
same_itself trie = record { room = refl }

pub same_along : (first second third : Trie) → HasSameRoom first second → HasSameRoom second third → HasSameRoom first third
same_along first second third p q = record { room = q.room ∙ p.room }
