use Rattle.std.proofs.Common.{◌≡◌, ◌++◌, map}
use Rattle.std.specs.Prelude.{vec_capacity}
use Rattle.thread_run.specs.Workers.{cpu_of, recorder_of, seat_of}
use Rattle.thread_run.proofs.recorded.gather.Given as goal

abbrev pub invariant-loop-worker : goal.invariant-loop-worker
invariant-loop-worker g l = record {
  order : l.yielded ++ l.worker-iterator.rest.items ≡ l.fn.workers.items;
  cpus : l.room.cpus.items ≡ map (λ w. cpu_of w) l.yielded;
  seats : l.room.seats.items ≡ map (λ w. seat_of w) l.yielded;
  recorders : l.room.recorders.items ≡ map (λ w. recorder_of w) l.yielded;
  cpus_room : vec_capacity l.room.cpus ≡ vec_capacity l.fn.room.cpus;
  seats_room : vec_capacity l.room.seats ≡ vec_capacity l.fn.room.seats;
  recorders_room : vec_capacity l.room.recorders ≡ vec_capacity l.fn.room.recorders;
}
