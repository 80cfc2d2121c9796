use Rattle.std.proofs.Common.{length}
use Rattle.call_trie.proofs.FrameLemmas.{AreLeft}
use Rattle.call_trie.proofs.frames.Frames.end.Given as goal

abbrev pub invariant-ending : goal.invariant-ending
invariant-ending l = AreLeft l.fn.self l.self l.place

abbrev pub decreases-ending : goal.decreases-ending
decreases-ending l = length l.self
