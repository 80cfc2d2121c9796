use Rattle.flame_graph.proofs.NameTexts.{names_are_text}
use Rattle.flame_graph.proofs.laws.names_are_text.Goals as goal

pub returns : goal.returns
returns c = names_are_text
