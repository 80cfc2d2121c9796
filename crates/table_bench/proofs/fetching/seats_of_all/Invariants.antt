-- the patcher stands where threads start, and each seat so far is fresh
use Rattle.std.proofs.Common.{◌≡◌}
use Rattle.std.specs.Prelude.{All}
use Rattle.sled_rule.specs.Plans.{start_in}
use Rattle.sled_rule.specs.Seats.{patch_view, script_of, IsPatcherOf}
use Rattle.table_bench.specs.private.Fetchers.{IsFresh}
use Rattle.table_bench.proofs.fetching.seats_of_all.Given as goal

abbrev pub invariant-seats : goal.invariant-seats
invariant-seats l =
    IsPatcherOf l.table l.patcher × ((patch_view l.patcher).place ≡ start_in (script_of l.table)) × ((patch_view l.patcher).given ≡ l.given)
    × All (IsFresh l.table) l.fetchers.items
