use Rattle.std.proofs.Common.{List, take}
use Rattle.std.specs.List.{flat_map}
use Rattle.fdr_record.specs.declared.event.Event.{Event}
use Rattle.stack_rebuild.specs.PathSums.{AreSums}
use Rattle.stack_rebuild.specs.Stacks.{timed_pairs}
use Rattle.call_trie.specs.Merging.{AllStandFor}
use Rattle.call_trie.specs.private.Paths.{HasRoot}
use Rattle.call_trie.proofs.merging.merged.Given as goal

abbrev pub invariant-merging : goal.invariant-merging
invariant-merging l = record {
  root : HasRoot l.sums.paths;
  sums : (threads : List (List Event)) → AllStandFor (take l.trie-index l.tries) threads → AreSums l.sums.paths l.sums.tallies (flat_map timed_pairs threads);
}
