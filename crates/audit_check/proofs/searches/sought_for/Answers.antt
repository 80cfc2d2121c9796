use Rattle.std.proofs.Common.{ap, ◌∙◌}
use Rattle.machine_step.specs.Loads.{logs_args}
use Rattle.audit_check.proofs.FollowerGuesses.{no_args}
use Rattle.audit_check.proofs.SledSearches.{searches_are}
use Rattle.audit_check.proofs.searches.sought_for.Goals as goal

pub returns-in-Args-clause-searches : goal.returns-in-Args-clause-searches
returns-in-Args-clause-searches c = λ program threads code sled logs.
    c.sought_with_args.ensures.searches program threads code sled
    ∙ searches_are program threads code sled _ c.args.mark (logs ∙ ap logs_args c.in-Args.is)

pub returns-in-Entry : goal.returns-in-Entry
returns-in-Entry c = record {
  few = c.sought_without_args.ensures.few;
  searches = λ program threads code sled logs.
      c.sought_without_args.ensures.searches program threads code sled
      ∙ searches_are program threads code sled _ c.args.mark (logs ∙ no_args c.args.kind c.in-Entry.is);
}
