-- Where a frame is drawn. Lengths are in pixels, or in thousandths of a pixel where a name says so.
use Rattle.std.specs.Prelude.{◌-◌, ◌*◌, ◌/◌, ◌^◌, ◌&&◌, Bool, not, ℕ, List, [], ◌∷◌, length, max, min, nat_le, nat_lt, count_by, if◌then◌else◌}
use Rattle.stack_rebuild.specs.Stacks.{PathRow}
use Rattle.flame_graph.specs.Frames.{capped, end_of, frames, frame_start, frames_total}

-- ---- across

-- the width of the lowest row, in thousandths
abbrev pub across : ℕ
across = 1180000

-- the cycles that are counted as one: if the total is 2^107 or more, 2^21
abbrev pub unit_of : ℕ → ℕ
unit_of total = if nat_lt total (2 ^ 107) then 1 else 2 ^ 21

-- how far from the left a place is, in thousandths; rounded down
abbrev pub thousandths_at : (total place : ℕ) → ℕ
thousandths_at total place = place / unit_of total * across / (total / unit_of total)

-- a frame's left end and its width, in thousandths: the width is what is between the two ends
abbrev pub left_of : List PathRow → List ℕ → ℕ
left_of rows frame = thousandths_at (frames_total rows) (frame_start rows frame)

abbrev pub right_of : List PathRow → List ℕ → ℕ
right_of rows frame = thousandths_at (frames_total rows) (end_of rows frame)

abbrev pub width_of : List PathRow → List ℕ → ℕ
width_of rows frame = right_of rows frame - left_of rows frame

-- ---- upwards

-- how many rows of frames are drawn at most
abbrev pub most_levels : ℕ
most_levels = 4096

-- the length of the longest path
abbrev pub longest : List PathRow → ℕ
longest [] = 0
longest (row ∷ later) = max (length row.path) (longest later)

-- how many rows of frames are drawn
abbrev pub levels_of : List PathRow → ℕ
levels_of rows = min (longest rows) most_levels

-- ---- which are drawn

-- the least width that is drawn, in thousandths: a tenth of a pixel
abbrev pub least_width : ℕ
least_width = 100

-- whether a frame is drawn
abbrev pub is_drawn : List PathRow → List ℕ → Bool
is_drawn rows frame = nat_le (length frame) most_levels && nat_le least_width (width_of rows frame)

-- how many frames are left out
abbrev pub left_out : List PathRow → ℕ
left_out rows = capped (count_by (λ frame. not (is_drawn rows frame)) (frames rows))
