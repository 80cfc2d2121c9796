-- no thread is given a seat
use Rattle.std.proofs.Common.{◌≡◌}
use Rattle.sled_rule.specs.Seats.{patch_view, IsPatcherOf}
use Rattle.layer_tests.proofs.code_table.store.Given as goal

abbrev pub invariant-loop : goal.invariant-loop
invariant-loop g l = IsPatcherOf l.table l.seat × ((patch_view l.seat).given ≡ (patch_view l.fn.seat).given)
