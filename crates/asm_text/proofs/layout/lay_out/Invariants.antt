use Rattle.std.proofs.Common.{◌≡◌, ◌+◌, ◌≤◌, ◌++◌, drop}
use Rattle.std.specs.List.{flat_map}
use Rattle.asm_text.specs.Layout.{by_threshold, lines_placed, placed_from, parts_at, widths}
use Rattle.asm_text.specs.private.FirstPass.{lines_in}
use Rattle.asm_text.specs.private.Laying.{owner_in, placed_in}
use Rattle.asm_text.proofs.layout.lay_out.Given as goal

-- the lines that are laid out, and then those that are left, are all
abbrev pub invariant-loop-i : goal.invariant-loop-i
invariant-loop-i l =
    let left = placed_from (by_threshold l.threshold) l.place (owner_in l.owner) (lines_in (drop l.i l.entries)) in
    record {
      all : lines_placed (by_threshold l.threshold) (lines_in l.entries) ≡ placed_in l.laid.items ++ left;
      within : l.place + widths (flat_map parts_at left) ≤ 1048576;
    }
