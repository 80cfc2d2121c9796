use Rattle.call_rows.proofs.FirstInOrder.{first_in_order}
use Rattle.call_rows.proofs.order.FirstRows.into_rows.Goals as goal

pub returns : goal.returns
returns c = λ events rows keeps. first_in_order c.args.self events rows _ c.order_calls.ensures keeps
