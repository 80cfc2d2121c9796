use Rattle.std.proofs.Common.{subst}
use Rattle.std.specs.Prelude.{All}
use Rattle.sled_rule.specs.declared.table.CodeTable.{CodeTable}
use Rattle.sled_rule.specs.Seats.{IsWorkerOf}
use Rattle.thread_run.proofs.recorded.run_recorded.Goals as goal

pub returns-clause-seats : goal.returns-clause-seats
returns-clause-seats g c =
    subst (λ (t : CodeTable). All (IsWorkerOf t) c.go.result.seats.items) c.in_ok-ready.ensures.table c.go.ensures.seats
