use Rattle.xray_program.proofs.OrderReplays.{order_replays}
use Rattle.xray_program.proofs.laws.what_is_ordered_is_replayed.Goals as goal

pub returns : goal.returns
returns c = λ held after i s a f o t b options image audit free schedule statement image_held audit_held reads alike order.
    order_replays
    (record {
      lawful = c.what_runs_leave.ensures;
      reading = c.one_reading.ensures;
      free = c.a_script_reads_without_its_waits.ensures.reads;
      short = c.a_script_reads_without_its_waits.ensures.short;
      leaves = c.an_order_leaves_its_run.ensures.leaves;
      reads = c.an_order_is_a_schedule.ensures.reads;
      few = c.an_order_is_a_schedule.ensures.short;
    })
    after i f o t b options held s a image audit free schedule statement image_held audit_held reads alike order.meant order.image_stays
    order.free_held order.schedule_held
