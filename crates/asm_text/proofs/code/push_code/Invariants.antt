use Rattle.std.proofs.Common.{◌≡◌, ◌++◌, take}
use Rattle.std.specs.List.{flat_map}
use Rattle.xray_image.specs.Units.{piece_bytes}
use Rattle.asm_text.specs.Layout.{line_pieces}
use Rattle.asm_text.specs.private.Laying.{placed_in}
use Rattle.asm_text.specs.private.LaidTexts.{all_in}
use Rattle.asm_text.proofs.code.push_code.Given as goal

-- the bytes of the lines so far are added
abbrev pub invariant-loop-line : goal.invariant-loop-line
invariant-loop-line l = l.out.items ≡ l.fn.out.items ++ flat_map piece_bytes (flat_map (line_pieces (all_in l.text)) (placed_in (take l.line-index l.line-items)))
