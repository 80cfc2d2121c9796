use Rattle.patch_script.specs.Refusals.{commands_of}
use Rattle.run_order.proofs.FreeReading.{free_plan}
use Rattle.run_order.proofs.OneMerge.{one_merge}
use Rattle.run_order.proofs.OrderIsMerge.{order_is_merge}
use Rattle.run_order.proofs.laws.an_order_is_a_merge.Goals as goal

pub returns-clause-merge : goal.returns-clause-merge
returns-clause-merge c program text plan setup runs schedule e is order =
    let free = free_plan program setup.threads text plan e in
    order_is_merge program (commands_of plan.lines) setup runs schedule free.releases order

pub returns-clause-one : goal.returns-clause-one
returns-clause-one c start total places schedule other a b = one_merge start total places schedule other a b
