use Rattle.std.proofs.Common.{arith}
use Rattle.std.proofs.lemmas.Map.Text.{text_keys}
use mathlib.Core.Path.{fun_ext}
use Rattle.xray_io.specs.Faults.{at_fault}
use Rattle.xray_io.proofs.memory.MemDesk.add.Goals as goal

pub returns-in_err-extend_from_slice-clause-others : goal.returns-in_err-extend_from_slice-clause-others
returns-in_err-extend_from_slice-clause-others c = λ other differs. grind (arith, text_keys)

pub returns-in_err-extend_from_slice-clause-same : goal.returns-in_err-extend_from_slice-clause-same
returns-in_err-extend_from_slice-clause-same c = at_fault c.from_residual.result (fun_ext (λ other. grind (arith, text_keys)))

pub returns-in-Some-clause-others : goal.returns-in-Some-clause-others
returns-in-Some-clause-others c = λ other differs. grind (arith, text_keys)
