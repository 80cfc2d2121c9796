-- One walk through the rows, in which a frame is open from its first row to its last.
use Rattle.std.specs.Prelude.{◌≡◌, ◌<◌, ◌==◌, not, ℕ, zero, suc, List, [], ◌∷◌, drop, length, take, count_by, slice_index_or, if◌then◌else◌}
use Rattle.stack_rebuild.specs.Stacks.{PathRow}
use Rattle.flame_graph.specs.Frames.{prefixes, calls_in, calls_of, capped, no_calls, own_sum, frames_total}
use Rattle.flame_graph.specs.Picture.{is_drawn, left_of, most_levels, thousandths_at}
use Rattle.flame_graph.specs.declared.frame.Calls.{Calls}
use Rattle.flame_graph.specs.declared.frame.Openings.{Openings}
use Rattle.flame_graph.specs.declared.walk.Walk.{Walk}

-- how many functions two paths have in common from the outermost on
abbrev pub shared : List ℕ → List ℕ → ℕ
shared [] other = 0
shared (f ∷ path) [] = 0
shared (f ∷ path) (g ∷ other) = if f == g then suc (shared path other) else 0

-- the path of a row, or no function after the last row
abbrev pub path_at : List PathRow → ℕ → List ℕ
path_at [] at = []
path_at (row ∷ later) zero = row.path
path_at (row ∷ later) (suc at) = path_at later at

-- how many frames of a row are those of the row before it
abbrev pub shared_at : List PathRow → ℕ → ℕ
shared_at rows zero = 0
shared_at rows (suc before) = shared (path_at rows before) (path_at rows (suc before))

-- what is kept of a frame: its left end, and its first row
pub record Opening : Type 0 where
  pub left : ℕ
  pub first : ℕ

-- what is kept of the frame with this many functions and one more
abbrev pub opening_at : Openings → ℕ → Opening
opening_at openings n = record { left = slice_index_or openings.lefts n 0; first = slice_index_or openings.firsts n 0 }

-- what is kept of a frame that opens at a row
abbrev pub opened : List PathRow → ℕ → Opening
opened rows at = record { left = thousandths_at (frames_total rows) (capped (own_sum (take at rows))); first = at }

-- the calls of a frame with this many functions, whose first row is this one
abbrev pub calls_by : PathRow → ℕ → Calls
calls_by row size = if length row.path == size then calls_in row else no_calls

-- a frame is kept as the rows have it
pub record IsKept (rows : List PathRow) (frame : List ℕ) (opening : Opening) : Type 0 where
  pub left : opening.left ≡ left_of rows frame
  pub first : opening.first < length rows
  pub calls : (d : PathRow) → calls_by (slice_index_or rows opening.first d) (length frame) ≡ calls_of rows frame

-- the frames of a path with up to a number of functions are
abbrev pub AreKept : List PathRow → List ℕ → ℕ → Openings → Type 0
AreKept rows path count openings = (n : ℕ) → n < count → n < most_levels → IsKept rows (take (suc n) path) (opening_at openings n)

-- the frames that end with a row: the prefixes of its path with more functions than the next row shares
abbrev pub ended_at : List PathRow → ℕ → List (List ℕ)
ended_at rows at = drop (shared_at rows (suc at)) (prefixes (path_at rows at))

-- before a row: the frames that it shares with the row before it are kept, and all rows before it end at its place
pub record Stands (rows : List PathRow) (at : ℕ) (walk : Walk) : Type 0 where
  pub place : walk.place ≡ capped (own_sum (take at rows))
  pub standing : walk.standing ≡ shared_at rows at
  pub kept : AreKept rows (path_at rows at) walk.standing walk.openings

-- after it: all its frames are kept, and it ends at the place
pub record IsOpen (rows : List PathRow) (at : ℕ) (walk : Walk) : Type 0 where
  pub place : walk.place ≡ capped (own_sum (take (suc at) rows))
  pub kept : AreKept rows (path_at rows at) (length (path_at rows at)) walk.openings

-- how many of some frames are left out
abbrev pub count_left : List PathRow → List (List ℕ) → ℕ
count_left rows some = count_by (λ frame. not (is_drawn rows frame)) some
