use Rattle.std.proofs.Common.{◌≡◌, map, take}
use Rattle.run_order.proofs.merging.all_left.Given as goal

abbrev pub invariant-loop-stops : goal.invariant-loop-stops
invariant-loop-stops l = map (λ stops. stops.now) l.left.items ≡ map (λ stops. stops.items) (take l.stops-index l.threads)
