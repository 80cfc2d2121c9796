use Rattle.xray_image.proofs.NoUnits.{no_jump, no_return}
use Rattle.xray_image.proofs.unit_reader.whole_sled.Goals as goal

pub returns-in_err-shift-clause-only : goal.returns-in_err-shift-clause-only
returns-in_err-shift-clause-only c =
    λ piece sled b. absurd (no_jump c.args.bytes.now c.in-Some.nop.now c.in-Some.ensures (λ shift n. let h = c.in_err-shift.ensures.only shift n in cc) piece sled b)

pub returns-in_err-shift-2-clause-only : goal.returns-in_err-shift-2-clause-only
returns-in_err-shift-2-clause-only c =
    λ piece sled b. absurd (no_return c.args.bytes.now c.in_ok-nop.nop.now c.in_ok-nop.ensures (λ shift n. let h = c.in_err-shift-2.ensures.only shift n in cc) piece sled b)
