use Rattle.std.proofs.Common.{[], ℕ, List, refl, subst, ◌∙◌}
use Rattle.audit_check.specs.private.Blocks.{HasCompared}
use Rattle.audit_check.proofs.ComparedTrace.{compared_none}
use Rattle.audit_check.proofs.blocks.TraceLeft.new.Goals as goal

pub returns : goal.returns
returns c =
    subst (λ (l : List ℕ). HasCompared c.args.trace.now l c.take.new.self) (c.bytes.ensures ∙ c.in_ok-header.ensures)
    (c.take.ensures c.args.trace.now [] (compared_none c.args.trace.now _ refl refl))
