use Rattle.machine_step.specs.PlainStep.{opening}
use Rattle.machine_step.proofs.OneUnit.{accepted_units}
use Rattle.machine_step.proofs.OneEnd.{same_run}
use Rattle.machine_step.proofs.laws.one_end.Goals as goal

pub returns : goal.returns
returns c bytes program limits thread passed passed' end end' last last' accepted (n, run) (n', run') =
    let same = same_run program (accepted_units bytes program accepted) limits thread n n' (opening program thread)
    passed passed' end end' last last' run run' in
    (same.passings, same.ends, same.lasts)
