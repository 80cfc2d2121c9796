use Rattle.trace_forms.proofs.RunLaws.{runs_are, runs_only}
use Rattle.trace_forms.proofs.laws.runs_are_longest.Goals as goal

pub returns-clause-are : goal.returns-clause-are
returns-clause-are c = runs_are

pub returns-clause-only : goal.returns-clause-only
returns-clause-only c = λ events blocks are. runs_only blocks events are
