use Rattle.std.proofs.Common.{◌≡◌, List, length}
use Rattle.fdr_record.specs.declared.event.Event.{Event}
use Rattle.call_trie.specs.Tries.{StandsFor}
use Rattle.layer_tests.proofs.call_tries.merged_text.Given as goal

abbrev pub invariant-noting : goal.invariant-noting
invariant-noting l = record {
  first : (events : List Event) × StandsFor l.first.trie events × (length events ≡ l.first.count);
  second : (events : List Event) × StandsFor l.second.trie events × (length events ≡ l.second.count);
}
