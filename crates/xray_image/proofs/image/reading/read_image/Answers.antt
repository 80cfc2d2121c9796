use Rattle.xray_image.proofs.ReadOnce.{exactly, accepts}
use Rattle.xray_image.proofs.image.reading.read_image.Goals as goal

pub returns-clause-exact : goal.returns-clause-exact
returns-clause-exact c = λ verdict reads. exactly c.one_verdict.ensures.one c.args.bytes.now c.read_program.result verdict c.read_program.ensures reads

pub returns-clause-found : goal.returns-clause-found
returns-clause-found c = accepts c.one_verdict.ensures.accepted c.args.bytes.now c.read_program.result c.read_program.ensures

pub returns-clause-complete : goal.returns-clause-complete
returns-clause-complete c = λ program is. exactly c.one_verdict.ensures.one c.args.bytes.now c.read_program.result _ c.read_program.ensures ((c.one_verdict.ensures.accepted c.args.bytes.now program).0 is)
