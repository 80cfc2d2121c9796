-- The recorders of several threads.
use Rattle.std.specs.Prelude.{List, [], ◌∷◌}
use Rattle.fdr_record.specs.declared.event.Event.{Event}
use Rattle.call_trie.specs.Tries.{StandsFor, Trie}

-- recorders stand for the events of threads, each for those of its own
abbrev pub AllStandFor : List Trie → List (List Event) → Type 0
AllStandFor [] [] = Unit {0}
AllStandFor [] (events ∷ threads) = ⊥
AllStandFor (trie ∷ tries) [] = ⊥
AllStandFor (trie ∷ tries) (events ∷ threads) = StandsFor trie events × AllStandFor tries threads
