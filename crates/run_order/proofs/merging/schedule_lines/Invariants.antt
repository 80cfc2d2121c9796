use Rattle.std.proofs.Common.{◌≡◌, ◌≤◌, ◌+◌, ◌-◌, length, map}
use Rattle.audit_check.specs.Stops.{places_of}
use Rattle.run_order.specs.private.Stops.{AllFrom, IsUpTo}
use Rattle.run_order.proofs.merging.schedule_lines.Given as goal

abbrev pub invariant-stops : goal.invariant-stops
invariant-stops l = record {
  count : length l.left.items ≡ length l.threads;
  low : l.start ≤ l.place;
  high : l.place ≤ l.total;
  after : l.place ≤ l.next;
  up : IsUpTo l.start l.place l.total (map (λ stops. places_of stops.items) l.threads) l.left.items l.lines;
  none : AllFrom l.next l.left.items;
}

abbrev pub decreases-stops : goal.decreases-stops
decreases-stops l = l.total + 1 - l.next
