use Rattle.xray_program.proofs.CommandLaws.{accepted_order}
use Rattle.xray_program.proofs.laws.accepted_orders_are_written.Goals as goal

pub returns : goal.returns
returns c = accepted_order c.one_order_of_an_audit.ensures.one c.one_order_of_an_audit.ensures.some
