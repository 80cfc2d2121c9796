use Rattle.xray_program.proofs.InputReaders.{few_lines}
use Rattle.xray_program.proofs.inputs.TextKindKind.judge.Goals as goal

pub assemble-requires : goal.assemble-requires
assemble-requires c = few_lines c.args.bytes.now c.requires
