use Rattle.std.proofs.Common.{◌+◌, ◌*◌, ◌++◌, drop, length, map}
use Rattle.asm_text.specs.Layout.{map_entries}
use Rattle.asm_text.specs.Writing.{in_version, map_bytes, map_version}
use Rattle.asm_text.specs.private.Files.{is_relative}
use Rattle.asm_text.specs.private.Laying.{placed_in}
use Rattle.asm_text.proofs.MapLemmas.{Written}
use Rattle.asm_text.proofs.map.push_map.Given as goal

-- the entries of the lines so far are written
abbrev pub invariant-loop-line : goal.invariant-loop-line
invariant-loop-line l =
    let version = map_version (is_relative l.version) in
    let all = map_entries l.base (placed_in l.lines) in
    Written version (l.base + 0x100000 + 32 * length all) l.at (map_entries l.base (placed_in (drop l.line-index l.lines))) l.out.items
    (l.fn.out.items ++ map_bytes l.base (map (in_version version) all))
