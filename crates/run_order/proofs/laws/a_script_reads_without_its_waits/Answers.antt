use Rattle.run_order.proofs.FreeLengths.{free_short}
use Rattle.run_order.proofs.FreeReading.{free_plan, free_waits}
use Rattle.run_order.proofs.laws.a_script_reads_without_its_waits.Goals as goal

pub returns-clause-reads : goal.returns-clause-reads
returns-clause-reads c program threads text plan e =
    let free = free_plan program threads text plan e in
    (free.free, free.reads, free.commands_are, free_waits program threads text plan free)

pub returns-clause-short : goal.returns-clause-short
returns-clause-short c text = free_short text
