use Rattle.std.proofs.Common.{append_assoc}
use Rattle.xray_program.proofs.stop.say_of.Goals as goal

pub returns : goal.returns
returns g c =
    let says = rw c.as_bytes.ensures.value at c.say.ensures in
    simp append_assoc says
