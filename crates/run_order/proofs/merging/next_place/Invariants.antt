use Rattle.std.proofs.Common.{◌≤◌, ℕ, take}
use Rattle.run_order.specs.private.Stops.{AllFrom}
use Rattle.run_order.proofs.merging.next_place.Given as goal

-- none of the first threads has loads before it, and it isn't before all of theirs
abbrev pub invariant-loop-stops : goal.invariant-loop-stops
invariant-loop-stops l = record {
  next : (from : ℕ) → AllFrom from (take l.stops-index l.left) → AllFrom l.next (take l.stops-index l.left);
  late : (from : ℕ) → from ≤ 4294967295 → AllFrom from (take l.stops-index l.left) → from ≤ l.next;
}
