use Rattle.std.proofs.Common.{length}
use Rattle.std.specs.Prelude.{IsPermutation}
use Rattle.std.specs.List.{range_with_len}
use Rattle.stack_rebuild.proofs.path_order.in_order.Given as goal

abbrev pub invariant-walking : goal.invariant-walking
invariant-walking l = IsPermutation (range_with_len 0 (length l.nodes)) l.order.items
