-- a fetch counts no passing
use Rattle.std.proofs.Common.{◌≡◌}
use Rattle.sled_rule.specs.Seats.{work_view, IsWorkerOf}
use Rattle.table_bench.proofs.fetching.fetch_each.Given as goal

abbrev pub invariant-words : goal.invariant-words
invariant-words l = IsWorkerOf l.table l.seat × ((work_view l.seat).count ≡ (work_view l.fn.seat).count)

abbrev pub invariant-fours : goal.invariant-fours
invariant-fours l = IsWorkerOf l.table l.seat × ((work_view l.seat).count ≡ (work_view l.fn.seat).count)
