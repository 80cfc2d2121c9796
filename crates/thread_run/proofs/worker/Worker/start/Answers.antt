use Rattle.sled_rule.specs.Seats.{patch_view, script_of, work_view}
use Rattle.thread_run.proofs.LoadAndSeat.{fresh_in}
use Rattle.thread_run.proofs.worker.Worker.start.Goals as goal

pub new-requires-clause-fresh : goal.new-requires-clause-fresh
new-requires-clause-fresh g c =
    fresh_in (script_of c.args.table.now) c.args.cpu (patch_view c.args.patcher.now) (work_view c.split-seat.result) c.requires.own.1 c.requires.fresh
    c.requires.next c.split-seat.ensures.worker
