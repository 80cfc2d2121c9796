use Rattle.std.proofs.Common.{◌≡◌, ℕ, length, subst, arith}
use Rattle.xray_image.specs.private.Views.{AreTablesTo}
use Rattle.xray_image.proofs.code_units.CodeUnits.read.Goals as goal

pub returns-clause-tables : goal.returns-clause-tables
returns-clause-tables c =
    let i = c.loop-at.invariant in
    let end : c.loop-at.at ≡ length c.args.code.now = omega (arith, i.read.within, c.loop-at-test.false) in
    subst (λ (at : ℕ). AreTablesTo c.args.base c.args.code.now at c.loop-at.read) end i.tables
