-- Threads that have made no passing.
use Rattle.std.specs.Prelude.{◌≡◌}
use Rattle.sled_rule.specs.declared.table.CodeTable.{CodeTable}
use Rattle.sled_rule.specs.Seats.{work_view, IsWorkerOf}
use Rattle.table_bench.specs.declared.fetching.Fetcher.{Fetcher}

-- the fetcher has a seat of the table, and has made no passing
pub record IsFresh (table : CodeTable) (fetcher : Fetcher) : Type 0 where
  pub own : IsWorkerOf table fetcher.seat
  pub count : (work_view fetcher.seat).count ≡ 0
