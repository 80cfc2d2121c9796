use Rattle.std.proofs.Common.{◌++◌, ℕ, List, append_assoc, ap, refl, subst, ◌∙◌}
use Rattle.audit_check.specs.private.Blocks.{HasCompared}
use Rattle.audit_check.proofs.ComparedTrace.{block_is}
use Rattle.audit_check.proofs.blocks.TraceLeft.take_block.Goals as goal

pub returns : goal.returns
returns c = λ trace before has.
    let bytes = c.bytes-bytes.result.now in
    let extents = c.extents.result in
    let block = block_is c.args.buffer.now extents bytes _ c.bytes-bytes.ensures.bytes refl c.extents.ensures in
    subst (λ (l : List ℕ). HasCompared trace l c.take-2.new.self) (append_assoc before extents bytes ∙ ap (λ (l : List ℕ). before ++ l) block)
    (c.take-2.ensures trace (before ++ extents) (c.take.ensures trace before has))
