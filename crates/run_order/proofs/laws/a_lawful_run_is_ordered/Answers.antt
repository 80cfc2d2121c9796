use Rattle.run_order.proofs.OneAnswer.{lawful_answer}
use Rattle.run_order.proofs.laws.a_lawful_run_is_ordered.Goals as goal

pub returns : goal.returns
returns c program script setup runs is follow lost =
    lawful_answer (λ p n s thread passing. c.awaits_bound_passings.ensures.within p n s thread passing) program script setup runs is follow lost
