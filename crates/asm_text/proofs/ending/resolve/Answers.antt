use Rattle.std.proofs.Common.{add-one, arith}
use Rattle.asm_text.proofs.EndingLemmas.{places_count, resolved_fails, resolved_goes}
use Rattle.asm_text.proofs.ending.resolve.Goals as goal

pub bounds-targets-i : goal.bounds-targets-i
bounds-targets-i c = omega (arith, places_count c.args.laid.now c.args.names.now c.args.targets.now c.requires)

pub returns-then-is_unresolved : goal.returns-then-is_unresolved
returns-then-is_unresolved c =
    resolved_fails c.args.laid.now c.loop-i.i _ _ c.args.names.now c.args.targets.now c.requires c.loop-i-test.true c.is_unresolved.result c.is_unresolved.ensures
    c.if-is_unresolved.true c.loop-i.invariant

pub loop-i-preserved : goal.loop-i-preserved
loop-i-preserved c =
    rw add-one
    (resolved_goes c.args.laid.now c.loop-i.i _ _ c.args.names.now c.args.targets.now c.requires c.loop-i-test.true c.is_unresolved.result c.is_unresolved.ensures
    c.if-is_unresolved.false c.loop-i.invariant)
