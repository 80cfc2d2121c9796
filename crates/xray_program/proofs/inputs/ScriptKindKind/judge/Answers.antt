use Rattle.std.proofs.Common.{arith}
use Rattle.xray_program.proofs.InputReaders.{few_lines}
use Rattle.xray_program.proofs.inputs.ScriptKindKind.judge.Goals as goal

pub read_script-requires-clause-few_lines : goal.read_script-requires-clause-few_lines
read_script-requires-clause-few_lines c = few_lines c.args.bytes.now (omega (arith, c.requires))
