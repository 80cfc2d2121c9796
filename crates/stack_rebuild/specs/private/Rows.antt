-- Rows by the numbers of their paths, for the contracts of private functions.
use Rattle.std.specs.Prelude.{Bool, ℕ, List, [], ◌∷◌, nat_lt, if◌then◌else◌, slice_index_or}
use Rattle.std.specs.List.{flat_map}
use Rattle.std.specs.Ordering.{is_lt}
use Rattle.stack_rebuild.specs.declared.tally.Tally.{Tally}
use Rattle.stack_rebuild.specs.declared.stack_row.StackRow.{StackRow}
use Rattle.stack_rebuild.specs.PathSums.{no_tally, path_at}
use Rattle.stack_rebuild.specs.Stacks.{PathRow, path_cmp}

-- the row of a path with a tally
abbrev pub row_by : List ℕ → Tally → PathRow
row_by path tally = record { path = path; count = tally.count; sum = tally.sum; own = tally.own }

-- the row of a path with this number, if it has a pair
abbrev pub rows_at : List (List ℕ) → List Tally → ℕ → List PathRow
rows_at paths tallies n = let tally = slice_index_or tallies n no_tally in if nat_lt 0 tally.count then row_by (path_at paths n) tally ∷ [] else []

-- the rows of the paths with these numbers
abbrev pub rows_for : List (List ℕ) → List Tally → List ℕ → List PathRow
rows_for paths tallies numbers = flat_map (rows_at paths tallies) numbers

-- whether a row's path comes before that of another row
abbrev pub row_before : StackRow → StackRow → Bool
row_before row other = is_lt (path_cmp row.path.items other.path.items)
