use Rattle.std.proofs.Common.{◌≡◌, ◌++◌, [], length, map}
use Rattle.std.specs.Prelude.{vec_capacity}
use Rattle.machine_step.specs.declared.limits.Limits.{Limits}
use Rattle.sled_rule.specs.Plans.{start_in}
use Rattle.sled_rule.specs.Seats.{patch_view, script_of, IsPatcherOf}
use Rattle.thread_run.specs.Workers.{recorder_of}
use Rattle.thread_run.specs.private.Starting.{AreFreshThreads, AreStarted}
use Rattle.thread_run.proofs.recorded.start_workers.Given as goal

abbrev pub invariant-loop-cpu : goal.invariant-loop-cpu
invariant-loop-cpu g l = record {
  order : l.yielded ++ l.cpu-iterator.rest.items ≡ l.fn.cpus.items;
  own : IsPatcherOf l.table l.patcher;
  place : (patch_view l.patcher).place ≡ start_in (script_of l.table);
  given : (patch_view l.patcher).given ≡ length l.yielded;
  none_met : (patch_view l.patcher).met ≡ [];
  count : length l.workers.items ≡ length l.yielded;
  room : vec_capacity l.workers ≡ vec_capacity l.fn.workers;
  workers : (limits : Limits) → AreFreshThreads (script_of l.table) limits l.fn.cpus.items
      → AreStarted g.R.Recorder.stands l.table limits l.workers.items;
  recorders : map (λ w. recorder_of w) l.workers.items ++ l.recorders.rest.items ≡ l.fn.recorders.items;
}
