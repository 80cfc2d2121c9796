use Rattle.std.proofs.Common.{◌≡◌, map, take}
use Rattle.std.specs.Prelude.{All}
use Rattle.audit_check.specs.Stops.{AreJoined, places_of}
use Rattle.run_order.specs.private.Waits.{freed}
use Rattle.run_order.proofs.waits.free_threads.Given as goal

-- the threads so far
abbrev pub invariant-loop-stops : goal.invariant-loop-stops
invariant-loop-stops l = record {
  places : map (λ stops. places_of stops.items) l.free.items
      ≡ map (λ stops. map (freed l.waits.places.items) (places_of stops.items)) (take l.stops-index l.threads);
  joined : All (λ stops. AreJoined stops.items) l.free.items;
}
