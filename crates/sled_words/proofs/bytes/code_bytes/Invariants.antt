-- the bytes after the first units are those of these units
use Rattle.std.proofs.Common.{◌≡◌, take}
use Rattle.std.specs.List.{flat_map}
use Rattle.sled_words.specs.CodeBytes.{unit_bytes}
use Rattle.sled_words.proofs.bytes.code_bytes.Given as goal

abbrev pub invariant-loop-i : goal.invariant-loop-i
invariant-loop-i l = l.bytes.items ≡ flat_map (λ unit. unit_bytes l.words unit.what) (take l.i l.image.units)
