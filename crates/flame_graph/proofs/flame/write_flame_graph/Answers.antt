use Rattle.std.proofs.Common.{map}
use Rattle.stack_rebuild.specs.Stacks.{told}
use Rattle.flame_graph.proofs.FramePrefixes.{are_row_prefixes, none_twice}
use Rattle.flame_graph.proofs.FramesApart.{none_overlap}
use Rattle.flame_graph.proofs.LowestRow.{lowest_add_up}
use Rattle.flame_graph.proofs.NestedFrames.{none_sticks_out}
use Rattle.flame_graph.proofs.flame.write_flame_graph.Goals as goal

pub returns-clause-prefixes : goal.returns-clause-prefixes
returns-clause-prefixes g c = are_row_prefixes (map told c.args.rows.now)

pub returns-clause-once : goal.returns-clause-once
returns-clause-once g c = none_twice (map told c.args.rows.now)

pub returns-clause-apart : goal.returns-clause-apart
returns-clause-apart g c = none_overlap (map told c.args.rows.now) c.requires

pub returns-clause-within : goal.returns-clause-within
returns-clause-within g c = none_sticks_out (map told c.args.rows.now) c.requires

pub returns-clause-adds_up : goal.returns-clause-adds_up
returns-clause-adds_up g c = lowest_add_up (map told c.args.rows.now) c.requires
