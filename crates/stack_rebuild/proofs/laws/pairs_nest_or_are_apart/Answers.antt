use Rattle.std.proofs.Common.{reverse}
use Rattle.stack_rebuild.proofs.CallEnds.{nest_or_apart}
use Rattle.stack_rebuild.proofs.laws.pairs_nest_or_are_apart.Goals as goal

pub returns : goal.returns
returns c = λ events. nest_or_apart (reverse events)
