use Rattle.std.proofs.Common.{◌≡◌, [], length}
use Rattle.std.specs.Prelude.{All}
use Rattle.call_trie.specs.Tries.{StandsFor}
use Rattle.xray_program.proofs.profile.new_recorders.Given as goal

abbrev pub invariant-loop : goal.invariant-loop
invariant-loop l = record {
  count : length l.recorders.items ≡ l.counter;
  room : All (λ trie. trie.room ≡ l.nodes) l.recorders.items;
  no_events : All (λ trie. StandsFor trie []) l.recorders.items;
}
