use Rattle.xray_program.proofs.InputReaders.{image_refuses}
use Rattle.xray_program.proofs.inputs.ImageKindKind.judge.Goals as goal

pub returns-clause-refuses : goal.returns-clause-refuses
returns-clause-refuses c = image_refuses c.args.bytes.now c.read_image.result c.read_image.ensures.reads
