use Rattle.std.proofs.Common.{◌≤◌}
use Rattle.run_order.specs.private.Stops.{ArePassed, HaveAdded}
use Rattle.run_order.proofs.merging.add_turns.Given as goal

abbrev pub invariant-loop-i : goal.invariant-loop-i
invariant-loop-i l = record {
  passed : ArePassed l.place l.i l.fn.left.items l.left.items;
  added : HaveAdded l.place l.i l.fn.left.items l.fn.lines l.lines;
  steps : l.lines.steps ≤ l.fn.lines.steps;
}
