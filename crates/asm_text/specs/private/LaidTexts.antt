-- A text whose lines have their places.
use Rattle.std.specs.Prelude.{◌≤◌, ◌<◌, ℕ, List, length, slice_index_or}
use Rattle.xray_image.specs.Limits.{most_code}
use Rattle.asm_text.specs.declared.laid_text.LaidText.{LaidText}
use Rattle.asm_text.specs.declared.layout.Laid.{Laid}
use Rattle.asm_text.specs.Layout.{Placed}
use Rattle.asm_text.specs.private.Laying.{placed_in, ArePlaces}

-- the lines of the text
abbrev pub all_in : LaidText → List Placed
all_in text = placed_in text.lines.items

-- the names lead to places within the code, and each line begins within it
pub record IsLaidText (text : LaidText) : Type 0 where
  pub places : ArePlaces (all_in text) text.names text.targets.items
  pub within : (i : ℕ) (d : Laid) → i < length text.lines.items → (slice_index_or text.lines.items i d).place ≤ most_code
