use Rattle.std.proofs.Common.{arith}
use Rattle.xray_image.proofs.Nops.{nop_found}
use Rattle.xray_image.proofs.unit_reader.nop_shift.Goals as goal

pub returns-clause-found : goal.returns-clause-found
returns-clause-found c =
    nop_found c.args.bytes.now c.in_ok-field.field.now c.u32_at.result (λ i. omega (arith, c.type_inv.bytes i)) c.in_ok-field.ensures c.if-field-lt-SHIFT_LENGTH.false c.u32_at.ensures
