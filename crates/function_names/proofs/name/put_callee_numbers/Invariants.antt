use Rattle.std.proofs.Common.{◌≡◌, ◌*◌, ◌≤◌, drop, length}
use Rattle.std.specs.List.{flat_map}
use Rattle.map_names.specs.Naming.{no_names}
use Rattle.function_names.specs.Name.{callee_text}
use Rattle.function_names.proofs.name.put_callee_numbers.Given as goal

abbrev pub invariant-putting : goal.invariant-putting
invariant-putting l = record {
  within : l.left ≤ length l.ids;
  room : l.left * 12 ≤ l.start;
  end : l.start ≤ 192;
  text : drop l.start l.words ≡ flat_map (callee_text no_names) (drop l.left l.ids);
}

abbrev pub decreases-putting : goal.decreases-putting
decreases-putting l = l.left
