-- Calls in the order of a column.
use Rattle.std.specs.Prelude.{◌==◌, ◌&&◌, ◌||◌, Bool, false, ℕ, List, take, nat_lt, Option, Some, None}
use Rattle.account_report.specs.Ascending.{ordered_by}
use Rattle.account_report.specs.Ordered.{comes_first}
use Rattle.call_rows.specs.declared.row.CallRow.{CallRow}
use Rattle.call_rows.specs.declared.row.CallKey.{CallKey}
use Rattle.call_rows.specs.declared.row.CallKey.TheVariants.{End, Call, Start, Duration, Own, Depth}
use Rattle.call_rows.specs.declared.order.CallOrder.{CallOrder}

-- the number in a column; calls end in the order of their exits
abbrev pub call_column : CallKey → CallRow → ℕ
call_column End row = row.end
call_column Call row = row.call
call_column Start row = row.start
call_column Duration row = row.duration
call_column Own row = row.own
call_column Depth row = row.depth

-- whether a row comes before another one: by the column, and if they have the same number there, in the order of ends
abbrev pub call_before : CallKey → Bool → CallRow → CallRow → Bool
call_before key descending row other =
    comes_first descending (call_column key row) (call_column key other) || ((call_column key row == call_column key other) && nat_lt row.end other.end)

-- the first rows of a list, or all
abbrev pub first_calls : Option ℕ → List CallRow → List CallRow
first_calls None rows = rows
first_calls (Some top) rows = take top rows

-- the first rows of the rows in order
abbrev pub arranged_calls : CallOrder → List CallRow → List CallRow
arranged_calls order rows = first_calls order.top (ordered_by (call_before order.key order.descending) rows)

-- in the order in which calls end
abbrev pub by_end : CallOrder
by_end = record { key = End; descending = false; top = None }
