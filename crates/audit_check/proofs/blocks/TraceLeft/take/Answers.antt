use Rattle.std.proofs.Common.{Some, None, refl}
use Rattle.std.proofs.lemmas.Bool.Decides.{Decides-eqb}
use Rattle.std.proofs.lemmas.Slice.Eq.{strip_prefix_is}
use Rattle.audit_check.proofs.ComparedTrace.{differs, goes_on}
use Rattle.audit_check.proofs.blocks.TraceLeft.take.Goals as goal

pub returns-in-Some : goal.returns-in-Some
returns-in-Some c = λ trace before has.
    goes_on trace before c.args.bytes.now c.args.self.now _ has
    (strip_prefix_is Decides-eqb c.args.self.now.left.now c.args.bytes.now (Some c.in-Some.left) c.in-Some.ensures.cases) refl

pub returns-in-None : goal.returns-in-None
returns-in-None c = λ trace before has.
    differs trace before c.args.bytes.now c.args.self.now _ has
    (strip_prefix_is Decides-eqb c.args.self.now.left.now c.args.bytes.now None c.in-None.ensures.cases) refl
