use Rattle.std.proofs.Common.{◌≡◌}
use Rattle.std.specs.List.{range_with_len}
use Rattle.stack_rebuild.proofs.path_order.numbers_below.Given as goal

abbrev pub invariant-listing : goal.invariant-listing
invariant-listing l = l.numbers.items ≡ range_with_len 0 l.number
