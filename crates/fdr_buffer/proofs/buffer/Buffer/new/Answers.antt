use Rattle.fdr_buffer.proofs.BufferFields.{new_leaves}
use Rattle.fdr_buffer.proofs.buffer.Buffer.new.Goals as goal

pub invariant_of-result : goal.invariant_of-result
invariant_of-result c =
    (new_leaves c.in_ok-vec.field-0 c.args.size c.requires.least c.requires.most c.in_ok-vec.ensures.len).0

pub returns : goal.returns
returns c =
    (new_leaves c.in_ok-vec.field-0 c.args.size c.requires.least c.requires.most c.in_ok-vec.ensures.len).1
