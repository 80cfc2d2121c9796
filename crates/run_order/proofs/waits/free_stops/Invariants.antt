use Rattle.std.proofs.Common.{◌≡◌, map, take}
use Rattle.audit_check.specs.Stops.{AreJoined, places_of}
use Rattle.run_order.specs.private.Waits.{freed}
use Rattle.run_order.proofs.waits.free_stops.Given as goal

-- the stops so far
abbrev pub invariant-loop-stop : goal.invariant-loop-stop
invariant-loop-stop l = record {
  places : places_of l.free.items ≡ map (freed l.waits.places.items) (places_of (take l.stop-index l.stops));
  joined : AreJoined l.free.items;
}
