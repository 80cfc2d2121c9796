use Rattle.std.proofs.Common.{[], refl}
use Rattle.layer_tests.proofs.call_tries.Noted.new.Goals as goal

pub returns : goal.returns
returns c = ([], c.in_ok-trie.ensures.no_events, refl)
