use Rattle.call_rows.proofs.KeptSteps.{none_last}
use Rattle.call_rows.proofs.kept.KeptCalls.new.Goals as goal

pub returns-clause-took : goal.returns-clause-took
returns-clause-took c = record {
  thread = λ first block same. absurd (none_last first block same);
  pid = λ first block same. absurd (none_last first block same);
  follows = c.new.ensures;
  collects = c.new-2.ensures.keeps 0;
}
