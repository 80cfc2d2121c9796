use Rattle.std.proofs.Common.{◌≡◌, map, take}
use Rattle.std.specs.List.{zip}
use Rattle.xray_image.specs.Program.{sled_of}
use Rattle.xray_image.specs.private.Views.{entry_of, place_of}
use Rattle.xray_image.proofs.sled_map.read_sleds.Given as goal

abbrev pub invariant-loop-number : goal.invariant-loop-number
invariant-loop-number l = l.sleds.items ≡ take l.number (map (sled_of (map entry_of l.entries)) (zip (map place_of l.spots) (map entry_of l.entries)))
