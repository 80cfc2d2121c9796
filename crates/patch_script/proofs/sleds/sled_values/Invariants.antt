-- what the patcher has to know of the first sleds
use Rattle.std.proofs.Common.{◌≡◌, take, map}
use Rattle.patch_script.specs.private.Sleds.{values_of}
use Rattle.patch_script.proofs.sleds.sled_values.Given as goal

abbrev pub invariant-loop-number : goal.invariant-loop-number
invariant-loop-number l = l.sleds.items ≡ map (values_of l.image.trampolines) (take l.number l.image.sleds)
