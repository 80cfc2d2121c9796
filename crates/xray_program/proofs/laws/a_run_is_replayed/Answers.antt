use Rattle.xray_program.proofs.OrderReplays.{ReplayedOrders}
use Rattle.xray_program.proofs.RunReplays.{RunReplays, ordered_or_long, text_again, whole_again}
use Rattle.xray_program.proofs.laws.a_run_is_replayed.Goals as goal

pub returns-clause-ordered : goal.returns-clause-ordered
returns-clause-ordered c = λ held after i s t a f o options image trace audit text left.
    let orders : ReplayedOrders = record {
      lawful = c.what_runs_leave.ensures;
      reading = c.one_reading.ensures;
      free = c.a_script_reads_without_its_waits.ensures.reads;
      short = c.a_script_reads_without_its_waits.ensures.short;
      leaves = c.an_order_leaves_its_run.ensures.leaves;
      reads = c.an_order_is_a_schedule.ensures.reads;
      few = c.an_order_is_a_schedule.ensures.short;
    } in
    let laws : RunReplays = record {
      orders = orders;
      read = c.a_lawful_run_is_accepted.ensures.read;
      ordered = c.a_lawful_run_is_ordered.ensures;
      image = c.one_reading-2.ensures;
      end = λ bytes program accepted limits thread passed passed' end end' last last'.
          c.one_end.ensures bytes program limits thread passed passed' end end' last last' accepted;
    } in
    ordered_or_long laws held after i s t a options image trace audit text left f o

pub returns-clause-replayed : goal.returns-clause-replayed
returns-clause-replayed c = λ held after last i s t a f o u b options other image trace audit text free schedule left order alike.
    let orders : ReplayedOrders = record {
      lawful = c.what_runs_leave.ensures;
      reading = c.one_reading.ensures;
      free = c.a_script_reads_without_its_waits.ensures.reads;
      short = c.a_script_reads_without_its_waits.ensures.short;
      leaves = c.an_order_leaves_its_run.ensures.leaves;
      reads = c.an_order_is_a_schedule.ensures.reads;
      few = c.an_order_is_a_schedule.ensures.short;
    } in
    let laws : RunReplays = record {
      orders = orders;
      read = c.a_lawful_run_is_accepted.ensures.read;
      ordered = c.a_lawful_run_is_ordered.ensures;
      image = c.one_reading-2.ensures;
      end = λ bytes program accepted limits thread passed passed' end end' last last'.
          c.one_end.ensures bytes program limits thread passed passed' end end' last last' accepted;
    } in
    text_again laws held after i s t a options image trace audit text left last f o free schedule order u b other alike

pub returns-clause-whole : goal.returns-clause-whole
returns-clause-whole c = λ held after last i s t a f o u b options other image trace audit text free schedule statement left order equal reads none.
    let orders : ReplayedOrders = record {
      lawful = c.what_runs_leave.ensures;
      reading = c.one_reading.ensures;
      free = c.a_script_reads_without_its_waits.ensures.reads;
      short = c.a_script_reads_without_its_waits.ensures.short;
      leaves = c.an_order_leaves_its_run.ensures.leaves;
      reads = c.an_order_is_a_schedule.ensures.reads;
      few = c.an_order_is_a_schedule.ensures.short;
    } in
    let laws : RunReplays = record {
      orders = orders;
      read = c.a_lawful_run_is_accepted.ensures.read;
      ordered = c.a_lawful_run_is_ordered.ensures;
      image = c.one_reading-2.ensures;
      end = λ bytes program accepted limits thread passed passed' end end' last last'.
          c.one_end.ensures bytes program limits thread passed passed' end end' last last' accepted;
    } in
    whole_again laws held after i s t a options image trace audit text left last f o free schedule order u b other equal statement reads none
