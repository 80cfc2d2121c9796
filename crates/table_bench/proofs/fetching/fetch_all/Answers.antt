use denote.Param.Send.{sendable}
use Rattle.sled_patch.proofs.Crossing.{table_sync}
use Rattle.table_bench.proofs.fetching.fetch_all.Goals as goal

pub for_each_mut-requires-sync-F : goal.for_each_mut-requires-sync-F
for_each_mut-requires-sync-F g c κs within = search (sendable, table_sync) depth 30
