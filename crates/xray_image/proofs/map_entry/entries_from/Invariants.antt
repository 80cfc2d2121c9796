use Rattle.std.proofs.Common.{◌≡◌, ◌+◌, ◌*◌, ◌++◌, map, drop}
use Rattle.xray_image.specs.Container.{entries_from}
use Rattle.xray_image.specs.private.Views.{entry_of, fields_of}
use Rattle.xray_image.proofs.map_entry.entries_from.Given as goal

-- the entries that are said, and those of the rest, are those of all
abbrev pub invariant-loop-entry : goal.invariant-loop-entry
invariant-loop-entry l = record {
  at : l.at ≡ l.first + 32 * l.entry-index;
  so_far : map entry_of l.entries.items ++ entries_from l.at (map fields_of (drop l.entry-index l.raw)) ≡ entries_from l.first (map fields_of l.raw);
}
