use mir.Syntax.{named}
use denote.Exit.{no as none_kept}
use denote.Ref.{NamedLft}
use denote.Param.{param}
use denote.Param.Send.{arg_send, param_send}
use Rattle.thread_run.specs.contracts.worker.Worker as worker
use Rattle.thread_run.proofs.WorkersCross.{worker_send}
use Rattle.thread_run.proofs.running.run_threads.Goals as goal

pub run_beside-requires-send-W : goal.run_beside-requires-send-W
run_beside-requires-send-W g c κs within =
    let steps : NamedLft = record { mir = named 8; lft = κs.1.1.1.1.1.1.1.1.0 } in
    let table : NamedLft = record { mir = named 9; lft = κs.1.1.1.1.1.1.1.1.1.0 } in
    param_send 1 _
    (arg_send _ none_kept (worker.the_row steps table (param 1 g.row.R)) (worker_send steps table (param 1 g.row.R) c.type_bounds.send-R))
