-- Threads that are ready: all memory of their run is taken, and none of them has run.
use Rattle.machine_step.specs.declared.limits.Limits.{Limits}
use Rattle.machine_step.specs.declared.setup.Setup.{Setup}
use Rattle.sled_rule.specs.declared.table.CodeTable.{CodeTable}

-- whatever records their events: the table with the script that they run beside, and the limits of each
pub record ReadyThreads : Type 0 where
  pub table : CodeTable
  pub limits : Limits

-- with recorders over a pool: the table, and what the run is made with
pub record ReadyRun : Type 0 where
  pub table : CodeTable
  pub setup : Setup
