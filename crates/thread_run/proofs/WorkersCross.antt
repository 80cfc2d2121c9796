-- A worker may go to another thread, if its recorder may.
use denote.Ref.{NamedLft}
use denote.Builtin.{Array, u64}
use denote.RattleType.{RattleType}
use denote.Param.Send.{IsSend, sendable}
use denote.Hole.{as_row}
use denote.Struct.Field.{row_field, shr_ref_field}
use denote.Param.SendFields.{as_row_send, declared_send}
use Rattle.machine_step.proofs.cpu.Cpu.TheSendSync.{the_send as cpu_send}
use Rattle.sled_rule.proofs.seats.WorkSeat.TheSendSync.{the_send as seat_send}
use Rattle.sled_patch.proofs.Crossing.{table_sync}
use Rattle.machine_step.specs.contracts.cpu.Cpu as cpu
use Rattle.sled_rule.specs.contracts.table.CodeTable as table
use Rattle.sled_rule.specs.contracts.seats.WorkSeat as seat
use Rattle.thread_run.specs.contracts.worker.Worker as worker

a_cpu : (κ : NamedLft) → IsSend (as_row (cpu.the_field κ))
a_cpu κ = search (sendable, cpu_send, as_row_send) depth 30

a_seat : IsSend (as_row seat.the_field)
a_seat = search (sendable, seat_send, as_row_send) depth 30

a_table : (κ : NamedLft) → IsSend (as_row (shr_ref_field κ table.the_row tt))
a_table κ = search (sendable, table_sync, as_row_send) depth 30

an_array : IsSend (as_row (row_field (Array u64 tt 16)))
an_array = search (sendable, as_row_send) depth 30

pub worker_send : (κ ν : NamedLft) (R : RattleType) → IsSend R → IsSend (worker.the_row κ ν R)
worker_send κ ν R r = declared_send (worker.the_type κ ν R) (a_cpu κ, (a_seat, (a_table ν, (as_row_send (row_field R) r, (an_array, tt)))))
