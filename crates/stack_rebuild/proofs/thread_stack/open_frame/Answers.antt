use Rattle.std.proofs.Common.{ℕ, List, sym, ap, subst, length, reverse, ◌∙◌, ◌<◌}
use Rattle.stack_rebuild.specs.declared.thread_stack.Frame.{Frame}
use Rattle.stack_rebuild.specs.private.Scanning.{top_of}
use Rattle.stack_rebuild.proofs.Frames.{top_below}
use Rattle.stack_rebuild.proofs.thread_stack.open_frame.Goals as goal

pub number_of-requires : goal.number_of-requires
number_of-requires c =
    subst (λ (n : ℕ). n < length c.args.sums.now.paths)
    (sym (c.innermost.ensures ∙ ap (λ (fs : List Frame). top_of (reverse fs)) c.deref.ensures.value))
    (top_below (length c.args.sums.now.paths) c.args.frames.now.items c.requires.0 c.requires.1)
