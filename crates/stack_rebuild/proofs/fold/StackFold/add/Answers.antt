use Rattle.std.proofs.Common.{◌≡◌, false, refl, true}
use Rattle.stack_rebuild.specs.Stacks.{most_open}
use Rattle.stack_rebuild.proofs.DeepThreads.{deep_now, shallow_exit, shallow_now}
use Rattle.stack_rebuild.proofs.FoldSteps.{folds_deeper, folds_past, folds_same, stack_within}
use Rattle.stack_rebuild.proofs.fold.StackFold.add.Goals as goal

pub take-requires : goal.take-requires
take-requires c =
    let is = c.requires.2 in
    let followed = c.if-not-is_followed.ensures.0 refl in
    stack_within c.args.self.now.stack c.args.self.now.sums.paths _ is.knows.summed.some (is.knows.own followed)

pub returns-then-not-is_followed-clause-added : goal.returns-then-not-is_followed-clause-added
returns-then-not-is_followed-clause-added c = λ blocks last is.
    folds_past c.args.self.now blocks last c.args.event.now (λ followed. let never : false ≡ true = c.if-not-is_followed.ensures.1 followed in cc) is

pub returns-then-depth-gt-MOST_OPEN-clause-added : goal.returns-then-depth-gt-MOST_OPEN-clause-added
returns-then-depth-gt-MOST_OPEN-clause-added c = λ blocks last is.
    folds_deeper c.args.self.now c.take.new.self c.take.new.sums blocks last c.args.event.now
    (record { follows = c.in_ok-take.ensures.follows; keeps = c.in_ok-take.ensures.keeps }) (c.if-not-is_followed.ensures.0 refl)
    (λ history stands.
    deep_now most_open c.depth.result c.args.event.now c.args.self.now.stack.calls c.take.new.self.calls history c.in_ok-take.ensures.calls c.depth.ensures
    c.if-depth-gt-MOST_OPEN.true stands)
    is

pub returns-else-depth-gt-MOST_OPEN-clause-added : goal.returns-else-depth-gt-MOST_OPEN-clause-added
returns-else-depth-gt-MOST_OPEN-clause-added c = λ blocks last is.
    folds_same c.args.self.now c.take.new.self c.take.new.sums blocks last c.args.event.now
    (record { follows = c.in_ok-take.ensures.follows; keeps = c.in_ok-take.ensures.keeps }) (c.if-not-is_followed.ensures.0 refl)
    (λ history stands shallow.
    shallow_now most_open c.depth.result c.args.event.now c.args.self.now.stack.calls c.take.new.self.calls history c.in_ok-take.ensures.calls c.depth.ensures
    c.if-depth-gt-MOST_OPEN.false stands shallow)
    is

pub returns-in-Exit-clause-added : goal.returns-in-Exit-clause-added
returns-in-Exit-clause-added c = λ blocks last is.
    folds_same c.args.self.now c.take.new.self c.take.new.sums blocks last c.args.event.now
    (record { follows = c.in_ok-take.ensures.follows; keeps = c.in_ok-take.ensures.keeps }) (c.if-not-is_followed.ensures.0 refl)
    (λ history stands shallow. shallow_exit most_open c.args.event.now history c.in-Exit.is shallow)
    is
