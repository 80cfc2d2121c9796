use Rattle.std.proofs.Common.{◌≤◌, length}
use Rattle.stack_rebuild.proofs.path_order.add_next.Given as goal

abbrev pub invariant-adding : goal.invariant-adding
invariant-adding l = l.start ≤ length l.ahead.items
