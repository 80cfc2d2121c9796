-- this many micro steps were made
use Rattle.std.proofs.Common.{◌≡◌}
use Rattle.sled_rule.specs.Seats.{patch_view, IsPatcherOf}
use Rattle.sled_patch.specs.Runs.{at_place}
use Rattle.sled_patch.proofs.run.run_prefix.Given as goal

abbrev pub invariant-loop : goal.invariant-loop
invariant-loop l = IsPatcherOf l.table l.seat × (patch_view l.seat ≡ at_place (patch_view l.fn.seat) l.counter)
