use Rattle.std.proofs.Common.{◌∙◌, subst, sym}
use Rattle.stack_rebuild.specs.declared.thread_stack.ThreadStack.{ThreadStack}
use Rattle.stack_rebuild.specs.private.Folding.{IsStack}
use Rattle.stack_rebuild.proofs.FoldSteps.{folds_gone, folds_here}
use Rattle.stack_rebuild.proofs.fold.StackFold.go_to.Goals as goal

pub returns-then-thread-self-clause-gone : goal.returns-then-thread-self-clause-gone
returns-then-thread-self-clause-gone c = λ blocks last is here none. folds_here c.args.self.now blocks last (here ∙ c.if-thread-self.true) none is

pub returns-clause-gone : goal.returns-clause-gone
returns-clause-gone c = λ blocks last is here none.
    folds_gone c.args.self.now c.replace-before.new.dest c.replace-before.result c.take_out-next.new.stacks c.insert.new.self c.args.thread blocks last
    c.if-thread-self.false
    (λ paths history of.
    subst (λ (s : ThreadStack). IsStack s paths history) (sym c.replace-before.ensures.after) (c.take_out-next.ensures.taken paths history of))
    c.take_out-next.ensures.others c.replace-before.ensures.value c.in_ok-insert.ensures.updates.0 here none is
