use Rattle.xray_program.proofs.RunNumbers.{has_run_numbers}
use Rattle.xray_program.proofs.laws.a_lawful_run_has_small_numbers.Goals as goal

pub returns : goal.returns
returns c = λ program script setup runs is run follow lost.
    has_run_numbers setup runs (c.a_lawful_run_is_accepted.ensures.read program script setup runs is run follow lost).0
