-- Rows in the order of a column.
use Rattle.std.specs.Prelude.{◌==◌, ◌&&◌, ◌||◌, Bool, true, false, ℕ, List, take, nat_lt, Option, Some, None}
use Rattle.account_report.specs.declared.row.AccountRow.{AccountRow}
use Rattle.account_report.specs.declared.row.SortKey.{SortKey}
use Rattle.account_report.specs.declared.row.SortKey.TheVariants.{FuncId, Count, Min, Med, P90, P99, Max, Sum}
use Rattle.account_report.specs.Ascending.{ordered_by}

-- the number in a column
abbrev pub column : SortKey → AccountRow → ℕ
column FuncId row = row.func
column Count row = row.count
column Min row = row.min
column Med row = row.med
column P90 row = row.p90
column P99 row = row.p99
column Max row = row.max
column Sum row = row.sum

-- the number that comes first: the lesser one, or the greater one if the order is descending
abbrev pub comes_first : Bool → ℕ → ℕ → Bool
comes_first false n m = nat_lt n m
comes_first true n m = nat_lt m n

-- whether a row comes before another one: by the column, and if they have the same number there, by ascending functions
abbrev pub row_before : SortKey → Bool → AccountRow → AccountRow → Bool
row_before key descending row other =
    comes_first descending (column key row) (column key other) || ((column key row == column key other) && nat_lt row.func other.func)

-- the first rows of a list, or all
abbrev pub first_rows : Option ℕ → List AccountRow → List AccountRow
first_rows None rows = rows
first_rows (Some top) rows = take top rows

-- the first rows of the rows in order
abbrev pub arranged : SortKey → Bool → Option ℕ → List AccountRow → List AccountRow
arranged key descending top rows = first_rows top (ordered_by (row_before key descending) rows)
