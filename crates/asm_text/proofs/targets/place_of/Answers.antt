use Rattle.std.proofs.Common.{None}
use Rattle.asm_text.proofs.EndingLemmas.{place_at_line, place_past, place_nowhere}
use Rattle.asm_text.proofs.targets.place_of.Goals as goal

pub returns-in-Some : goal.returns-in-Some
returns-in-Some c = λ all are.
    place_at_line c.args.name.now c.in-Some.line None all c.args.names.now c.args.targets.now are c.in-Some.ensures c.if-line-targets.true

pub returns-in_default : goal.returns-in_default
returns-in_default c = λ all are.
    place_past c.args.name.now c.in-Some.line all c.args.names.now c.args.targets.now are c.in-Some.ensures c.if-line-targets.false

pub returns-in_default-2 : goal.returns-in_default-2
returns-in_default-2 c = λ all are.
    place_nowhere c.args.name.now all c.args.names.now c.args.targets.now are c.in_default.ensures
