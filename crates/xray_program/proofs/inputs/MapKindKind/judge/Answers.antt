use Rattle.xray_program.proofs.InputReaders.{map_refuses}
use Rattle.xray_program.proofs.inputs.MapKindKind.judge.Goals as goal

pub returns-clause-refuses : goal.returns-clause-refuses
returns-clause-refuses c = map_refuses c.args.bytes.now c.read_map.result c.read_map.ensures.reads
