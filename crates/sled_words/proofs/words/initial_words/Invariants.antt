-- the words after the first sleds are those of these sleds
use Rattle.std.proofs.Common.{◌≡◌, take}
use Rattle.std.specs.List.{flat_map}
use Rattle.sled_words.specs.Parts.{sled_words}
use Rattle.sled_words.proofs.words.initial_words.Given as goal

abbrev pub invariant-loop-k : goal.invariant-loop-k
invariant-loop-k l = l.words.items ≡ flat_map sled_words (take l.k l.image.sleds)
