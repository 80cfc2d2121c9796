use Rattle.flame_graph.proofs.FramePrefixes.{are_row_prefixes, none_twice}
use Rattle.flame_graph.proofs.laws.each_prefix_is_a_frame_once.Goals as goal

pub returns-clause-exactly : goal.returns-clause-exactly
returns-clause-exactly c = are_row_prefixes

pub returns-clause-once : goal.returns-clause-once
returns-clause-once c = none_twice
