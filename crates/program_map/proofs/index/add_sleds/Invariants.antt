use Rattle.std.proofs.Common.{◌≡◌, ◌++◌, map, take}
use Rattle.program_map.specs.Numbering.{with_id}
use Rattle.program_map.proofs.index.add_sleds.Given as goal

abbrev pub invariant-loop-sled : goal.invariant-loop-sled
invariant-loop-sled l = l.numbered.items ≡ l.initial.numbered.items ++ map (with_id l.id) (take l.sled-index l.sleds)
