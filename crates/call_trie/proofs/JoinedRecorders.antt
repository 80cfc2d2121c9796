-- The recorders of several threads: one more.
use Rattle.std.proofs.Common.{◌≡◌, ◌++◌, ◌∙◌, ℕ, List, [], ◌∷◌, refl, ap, sym, subst}
use Rattle.std.specs.List.{flat_map}
use Rattle.std.proofs.lemmas.List.{append-nil}
use Rattle.std.proofs.lemmas.List.Concat.{flat_map-append}
use Rattle.fdr_record.specs.declared.event.Event.{Event}
use Rattle.stack_rebuild.specs.declared.tally.Tally.{Tally}
use Rattle.stack_rebuild.specs.PathSums.{AreSums}
use Rattle.stack_rebuild.specs.Stacks.{Timed, timed_pairs}
use Rattle.call_trie.specs.Merging.{AllStandFor}
use Rattle.call_trie.specs.Tries.{StandsFor, Trie}

-- the threads of recorders and one more
pub record IsJoined (tries : List Trie) (trie : Trie) (threads : List (List Event)) : Type 0 where
  pub front : List (List Event)
  pub events : List Event
  pub is : threads ≡ front ++ events ∷ []
  pub all : AllStandFor tries front
  pub last : StandsFor trie events

pub joined : (tries : List Trie) (trie : Trie) (threads : List (List Event)) → AllStandFor (tries ++ trie ∷ []) threads → IsJoined tries trie threads
joined [] trie [] all = absurd all
joined [] trie (events ∷ []) all = record { front = []; events = events; is = refl; all = tt; last = all.0 }
joined [] trie (events ∷ other ∷ threads) all = absurd all.1
joined (first ∷ tries) trie [] all = absurd all
joined (first ∷ tries) trie (events ∷ threads) all =
    let rest = joined tries trie threads all.1 in record {
      front = events ∷ rest.front;
      events = rest.events;
      is = ap (λ (l : List (List Event)). events ∷ l) rest.is;
      all = (all.0, rest.all);
      last = rest.last;
    }

-- their pairs
pub pairs_joined : (front : List (List Event)) (events : List Event) → flat_map timed_pairs (front ++ events ∷ []) ≡ flat_map timed_pairs front ++ timed_pairs events
pairs_joined front events =
    flat_map-append timed_pairs front (events ∷ []) ∙ ap (λ (ps : List Timed). flat_map timed_pairs front ++ ps) (append-nil (timed_pairs events))

-- no recorder stands for no thread
pub no_threads : (threads : List (List Event)) → AllStandFor [] threads → threads ≡ []
no_threads [] all = refl
no_threads (events ∷ threads) all = absurd all

-- ---- their sums

pub sums_none : (paths : List (List ℕ)) (tallies : List Tally) (threads : List (List Event)) → AllStandFor [] threads → AreSums paths tallies []
    → AreSums paths tallies (flat_map timed_pairs threads)
sums_none paths tallies threads all sums =
    subst (λ (ts : List (List Event)). AreSums paths tallies (flat_map timed_pairs ts)) (sym (no_threads threads all)) sums

-- one more recorder was added
pub sums_joined : (tries : List Trie) (trie : Trie) (threads : List (List Event)) → AllStandFor (tries ++ trie ∷ []) threads
    → (paths : List (List ℕ)) (tallies : List Tally) (paths' : List (List ℕ)) (tallies' : List Tally)
    → ((front : List (List Event)) → AllStandFor tries front → AreSums paths tallies (flat_map timed_pairs front))
    → ((before : List Timed) (events : List Event) → AreSums paths tallies before → StandsFor trie events → AreSums paths' tallies' (before ++ timed_pairs events))
    → AreSums paths' tallies' (flat_map timed_pairs threads)
sums_joined tries trie threads all paths tallies paths' tallies' sums added =
    let both = joined tries trie threads all in
    subst (AreSums paths' tallies') (sym (ap (flat_map timed_pairs) both.is ∙ pairs_joined both.front both.events))
    (added (flat_map timed_pairs both.front) both.events (sums both.front both.all) both.last)
