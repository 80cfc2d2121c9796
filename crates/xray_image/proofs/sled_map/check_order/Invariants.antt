use Rattle.std.proofs.Common.{◌<◌, ◌≤◌, ℕ, length, map}
use Rattle.xray_image.specs.Table.{HasOneAddress}
use Rattle.xray_image.specs.private.Views.{place_of, entry_of}
use Rattle.xray_image.proofs.sled_map.check_order.Given as goal

abbrev pub invariant-loop-number : goal.invariant-loop-number
invariant-loop-number l = ((j : ℕ) → j < l.number → HasOneAddress (map place_of l.spots) (map entry_of l.entries) j) × (l.number ≤ length l.spots)
