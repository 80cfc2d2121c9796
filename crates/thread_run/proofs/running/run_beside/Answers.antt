use denote.Param.Send.{sendable}
use Rattle.sled_rule.proofs.seats.PatchSeat.TheSendSync.{the_send}
use Rattle.sled_patch.proofs.Crossing.{table_sync}
use Rattle.thread_run.proofs.running.run_beside.Goals as goal

pub join_mut-requires-send-F : goal.join_mut-requires-send-F
join_mut-requires-send-F g c κs within = search (sendable, table_sync, the_send) depth 30
