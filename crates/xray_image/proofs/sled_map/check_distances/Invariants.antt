use Rattle.std.proofs.Common.{◌<◌, ℕ, map}
use Rattle.xray_image.specs.Program.{Reaches}
use Rattle.xray_image.specs.Table.{FitsAt}
use Rattle.xray_image.specs.private.Views.{place_of, entry_of, trampolines_of}
use Rattle.xray_image.proofs.sled_map.check_distances.Given as goal

abbrev pub invariant-loop-number : goal.invariant-loop-number
invariant-loop-number l = (j : ℕ) → j < l.number → FitsAt (map place_of l.spots) (map entry_of l.entries) (Reaches (trampolines_of l.trampolines)) j
