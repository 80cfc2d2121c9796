-- What decides the state of a recorder.
use Rattle.std.specs.Prelude.{◌≡◌, ◌<◌, ◌≤◌, ℕ, List, length, take}
use Rattle.fdr_record.specs.declared.event.Event.{Event}
use Rattle.call_trie.specs.declared.state.TrieState.TheVariants.{Live}
use Rattle.call_trie.specs.Tries.{excess, state_after}

-- so many first events are the fewest after which anything is too much
pub record IsFirstExcess (room : ℕ) (events : List Event) (n : ℕ) : Type 0 where
  pub within : n ≤ length events
  pub much : excess room (take n events) ≡ Live → ⊥
  pub least : (m : ℕ) → m < n → excess room (take m events) ≡ Live

-- they decide the state
abbrev pub FirstExcessDecides : ℕ → List Event → Type 0
FirstExcessDecides room events = (n : ℕ) → IsFirstExcess room events n → state_after room events ≡ excess room (take n events)

-- if there are none, the state is `Live`
abbrev pub StaysLive : ℕ → List Event → Type 0
StaysLive room events = ((n : ℕ) → n ≤ length events → excess room (take n events) ≡ Live) → state_after room events ≡ Live
