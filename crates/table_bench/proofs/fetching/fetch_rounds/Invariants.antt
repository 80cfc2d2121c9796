-- as many passings as rounds
use Rattle.std.proofs.Common.{◌≡◌}
use Rattle.sled_rule.specs.Seats.{work_view, IsWorkerOf}
use Rattle.table_bench.proofs.fetching.fetch_rounds.Given as goal

abbrev pub invariant-rounds : goal.invariant-rounds
invariant-rounds l = IsWorkerOf l.table l.fetcher.seat × ((work_view l.fetcher.seat).count ≡ l.round)
