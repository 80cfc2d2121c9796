use Rattle.run_order.proofs.OrderKept.{order_kept}
use Rattle.run_order.proofs.laws.an_order_keeps_the_waits.Goals as goal

pub returns : goal.returns
returns c program script setup runs schedule is order =
    order_kept program script setup runs schedule (λ thread passing. c.awaits_bound_passings.ensures.within program setup.threads script thread passing) is order
