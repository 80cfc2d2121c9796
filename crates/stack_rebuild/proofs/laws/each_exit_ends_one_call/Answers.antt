use Rattle.std.proofs.Common.{reverse}
use Rattle.stack_rebuild.proofs.PairFacts.{entries_apart, exits_rise}
use Rattle.stack_rebuild.proofs.laws.each_exit_ends_one_call.Goals as goal

pub returns-clause-exits : goal.returns-clause-exits
returns-clause-exits c = λ events. exits_rise (reverse events)

pub returns-clause-entries : goal.returns-clause-entries
returns-clause-entries c = λ events. entries_apart (reverse events)
