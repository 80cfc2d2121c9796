use Rattle.flame_graph.proofs.NameEscapes.{names_are_escaped}
use Rattle.flame_graph.proofs.laws.names_are_escaped.Goals as goal

pub returns : goal.returns
returns c = names_are_escaped
