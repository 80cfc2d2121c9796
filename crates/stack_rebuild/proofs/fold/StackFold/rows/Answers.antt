use Rattle.std.proofs.Common.{◌∙◌, ap, sym}
use Rattle.stack_rebuild.specs.Stacks.{most_open, rows_of_pairs}
use Rattle.stack_rebuild.proofs.DeepThreads.{least_deep}
use Rattle.stack_rebuild.proofs.GrowingHistories.{timed_blocks}
use Rattle.stack_rebuild.proofs.fold.StackFold.rows.Goals as goal

pub returns-in-Some-clause-deep : goal.returns-in-Some-clause-deep
returns-in-Some-clause-deep c = λ blocks is. least_deep most_open blocks c.args.self.deep is.knows.deepest ∙ c.in-Some.is

pub returns-in_ok-rows_of-in-None-clause-rows : goal.returns-in_ok-rows_of-in-None-clause-rows
returns-in_ok-rows_of-in-None-clause-rows c = λ blocks is.
    c.in_ok-rows_of-in-None.ensures is.knows.pairs is.knows.summed ∙ ap rows_of_pairs (is.knows.all c.in-None.is ∙ sym (timed_blocks blocks))

pub returns-in_ok-rows_of-in-None-clause-shallow : goal.returns-in_ok-rows_of-in-None-clause-shallow
returns-in_ok-rows_of-in-None-clause-shallow c = λ blocks is. least_deep most_open blocks c.args.self.deep is.knows.deepest ∙ c.in-None.is
