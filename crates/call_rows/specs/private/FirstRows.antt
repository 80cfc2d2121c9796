-- What is kept of rows of which the first ones in an order are wanted.
use Rattle.std.specs.Prelude.{◌≡◌, ◌⊎◌, ◌-◌, ◌<◌, ◌≤◌, slice_index_or, Bool, false, ℕ, zero, suc, List, [], ◌∷◌, length, Option, None, Some}
use Rattle.fdr_file.specs.ThreadEvents.{ThreadEvent}
use Rattle.call_rows.specs.declared.filter.CallFilter.{CallFilter}
use Rattle.call_rows.specs.CallRows.{rows_after, wanted_rows}
use Rattle.call_rows.specs.declared.row.CallRow.{CallRow}
use Rattle.call_rows.specs.declared.order.FirstRows.{FirstRows}
use Rattle.account_report.specs.Ascending.{ordered_by}
use Rattle.call_rows.specs.declared.order.CallOrder.{CallOrder}
use Rattle.call_rows.specs.CallOrders.{arranged_calls, call_before}

-- no two rows have the same exit
abbrev pub ApartFrom : CallRow → List CallRow → Type 0
ApartFrom row [] = Unit {0}
ApartFrom row (other ∷ rows) = (row.end ≡ other.end → ⊥) × ApartFrom row rows

abbrev pub AllApart : List CallRow → Type 0
AllApart [] = Unit {0}
AllApart (row ∷ rows) = ApartFrom row rows × AllApart rows

-- each row's exit is among so many events
abbrev pub AllEnded : ℕ → List CallRow → Type 0
AllEnded events [] = Unit {0}
AllEnded events (row ∷ rows) = (row.end < events) × AllEnded events rows

-- whether a row comes after the last one that may be listed
abbrev pub comes_past_last : CallOrder → Option CallRow → CallRow → Bool
comes_past_last order None row = false
comes_past_last order (Some last) row = call_before order.key order.descending last row

abbrev pub comes_past : FirstRows → CallRow → Bool
comes_past first row = comes_past_last first.order first.last row

-- there are so many first rows, and none comes after a row
abbrev pub FirstUpTo : (CallRow → CallRow → Bool) → ℕ → CallRow → List CallRow → Type 0
FirstUpTo before zero last rows = Unit {0}
FirstUpTo before (suc n) last [] = ⊥
FirstUpTo before (suc n) last (row ∷ rows) = (before last row ≡ false) × FirstUpTo before n last rows

-- a row is the last one of rows
abbrev pub IsLastOf : List CallRow → Option CallRow → Type 0
IsLastOf rows None = Unit {0}
IsLastOf rows (Some last) = (0 < length rows) × (last ≡ slice_index_or rows (length rows - 1) last)

-- the last of rows, if as many are wanted; otherwise the one before
abbrev pub IsBoundOf : List CallRow → Option ℕ → Option CallRow → Option CallRow → Type 0
IsBoundOf rows top before last = (last ≡ before) ⊎ ((n : ℕ) × (top ≡ Some n) × (n ≤ length rows) × IsLastOf rows last)

-- there are so many kept rows that don't come after the last one that may be listed
abbrev pub IsBounded : CallOrder → Option ℕ → Option CallRow → List CallRow → Type 0
IsBounded order None None rows = Unit {0}
IsBounded order None (Some last) rows = ⊥
IsBounded order (Some top) None rows = Unit {0}
IsBounded order (Some top) (Some last) rows =
    let before = call_before order.key order.descending in FirstUpTo before top last (ordered_by before rows)

-- the first of the kept rows are the first of all rows that so many events made
pub record KeepsFirst (first : FirstRows) (events : ℕ) (rows : List CallRow) : Type 0 where
  pub same : arranged_calls first.order first.rows.items ≡ arranged_calls first.order rows
  pub bounded : IsBounded first.order first.order.top first.last first.rows.items
  pub apart : AllApart first.rows.items
  pub ended : AllEnded events first.rows.items
  pub all_apart : AllApart rows
  pub all_ended : AllEnded events rows

-- the first of the wanted rows of a history are kept
abbrev pub Collects : FirstRows → CallFilter → List ThreadEvent → Type 0
Collects first wanted history = KeepsFirst first (length history) (wanted_rows wanted (rows_after history))
