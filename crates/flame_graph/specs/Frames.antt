-- The frames of a flame graph. A frame is a path, which is listed from its outermost function, as the paths of rows are.
use Rattle.std.specs.Prelude.{◌+◌, ◌-◌, ◌^◌, ◌<◌, ◌==◌, ◌&&◌, ◌≡◌, ◌⊎◌, All, Bool, not, ℕ, List, [], ◌∷◌, ◌++◌, length, map, filter, min, sum_by, if◌then◌else◌}
use Rattle.std.specs.List.{AllPairs, list_any}
use Rattle.std.specs.Ordering.{is_lt}
use Rattle.stack_rebuild.specs.Stacks.{PathRow, path_cmp}
use Rattle.stack_rebuild.specs.Weights.{begins, weight_of}
use Rattle.flame_graph.specs.declared.frame.Calls.{Calls}

-- ---- the order of the rows

-- a path comes before another, as lists of numbers
abbrev pub Precedes : List ℕ → List ℕ → Type 0
Precedes [] [] = ⊥
Precedes [] (g ∷ other) = Unit {0}
Precedes (f ∷ path) [] = ⊥
Precedes (f ∷ path) (g ∷ other) = (f < g) ⊎ ((f ≡ g) × Precedes path other)

-- rows in ascending order of their paths, each path once
abbrev pub AreAscending : List PathRow → Type 0
AreAscending rows = AllPairs (λ row later. Precedes row.path later.path) rows

-- what the rows of stacks are: in this order, and none of no function
pub record AreStacks (rows : List PathRow) : Type 0 where
  pub ascending : AreAscending rows
  pub some : All (λ row. 0 < length row.path) rows

-- ---- which frames there are

-- the prefixes of a path, from its outermost function alone to the whole path
abbrev pub prefixes : List ℕ → List (List ℕ)
prefixes [] = []
prefixes (f ∷ path) = (f ∷ []) ∷ map (λ frame. f ∷ frame) (prefixes path)

-- whether the path of some row begins with a frame
abbrev pub is_begun : List PathRow → List ℕ → Bool
is_begun rows frame = list_any (λ row. begins frame row.path) rows

-- the frames of rows: the prefixes of their paths, each once, at the last row whose path begins with it
abbrev pub frames : List PathRow → List (List ℕ)
frames [] = []
frames (row ∷ later) = filter (λ frame. not (is_begun later frame)) (prefixes row.path) ++ frames later

-- ---- where they are, in cycles

-- the time that was spent in the calls of some rows themselves
abbrev pub own_sum : List PathRow → ℕ
own_sum rows = sum_by (λ row. row.own) rows

-- the place of a frame: this time, of the rows whose paths come before it, as lists of numbers
abbrev pub frame_place : List PathRow → List ℕ → ℕ
frame_place rows frame = sum_by (λ row. if is_lt (path_cmp row.path frame) then row.own else 0) rows

-- Sums stop at 2^128 - 1. No trace of fewer than 2^64 bytes has a greater one.
abbrev pub capped : ℕ → ℕ
capped n = min n (2 ^ 128 - 1)

-- where a frame begins, where it ends, and where all rows end
abbrev pub frame_start : List PathRow → List ℕ → ℕ
frame_start rows frame = capped (frame_place rows frame)

abbrev pub end_of : List PathRow → List ℕ → ℕ
end_of rows frame = capped (frame_place rows frame + weight_of rows frame)

abbrev pub frames_total : List PathRow → ℕ
frames_total rows = capped (own_sum rows)

-- ---- what is said of them

-- the calls of a frame that has no row
abbrev pub no_calls : Calls
no_calls = record { count = 0; sum = 0; own = 0 }

-- the calls of a row
abbrev pub calls_in : PathRow → Calls
calls_in row = record { count = row.count; sum = row.sum; own = row.own }

-- whether a path is that of a frame
abbrev pub is_frame : List ℕ → List ℕ → Bool
is_frame frame path = begins frame path && (length path == length frame)

-- the calls of a frame: those of the row with its path, if there is one
abbrev pub calls_of : List PathRow → List ℕ → Calls
calls_of [] frame = no_calls
calls_of (row ∷ later) frame = if is_frame frame row.path then calls_in row else calls_of later frame
