-- `calls`: the calls of a trace, one by one.
use Rattle.std.specs.Prelude.{ℕ, List}
use Rattle.call_rows.specs.CallOrders.{arranged_calls}
use Rattle.call_rows.specs.CallRows.{call_rows_of, wanted_rows}
use Rattle.call_rows.specs.CallText.{call_list_text}
use Rattle.call_rows.specs.declared.filter.CallFilter.{CallFilter}
use Rattle.call_rows.specs.declared.order.CallOrder.{CallOrder}
use Rattle.call_rows.specs.declared.row.CallKey.{CallKey}
use Rattle.call_rows.specs.declared.row.CallKey.TheVariants as call_keys
use Rattle.call_rows.specs.declared.row.CallRow.{CallRow}
use Rattle.command_words.specs.declared.report_options.CallColumn.{CallColumn}
use Rattle.command_words.specs.declared.report_options.CallColumn.TheVariants.{End, Call, Start, Duration, Own, Depth}
use Rattle.command_words.specs.declared.report_options.CallsOptions.{CallsOptions}
use Rattle.fdr_file.specs.declared.trace.Trace.{Trace}
use Rattle.map_names.specs.Naming.{Naming}
use Rattle.xray_program.specs.Account.{format_of, is_descending}

-- ---- what the words ask for, as the rows have it

abbrev pub call_key_of : CallColumn → CallKey
call_key_of End = call_keys.End
call_key_of Call = call_keys.Call
call_key_of Start = call_keys.Start
call_key_of Duration = call_keys.Duration
call_key_of Own = call_keys.Own
call_key_of Depth = call_keys.Depth

-- which calls are wanted
abbrev pub call_filter_of : CallsOptions → CallFilter
call_filter_of options = record { function = options.function; thread = options.thread; least = options.least }

-- in which order they are listed, and how many of them
abbrev pub call_order_of : CallsOptions → CallOrder
call_order_of options = record { key = call_key_of options.sort; descending = is_descending options.order; top = options.top }

-- ---- the report

-- the calls of a trace that the words ask for, in their order
abbrev pub listed_calls : CallsOptions → Trace → List CallRow
listed_calls options trace = arranged_calls (call_order_of options) (wanted_rows (call_filter_of options) (call_rows_of trace.blocks))

-- a line for each of them, with the names that are given to functions
abbrev pub calls_report : CallsOptions → Trace → Naming → List ℕ
calls_report options trace names = call_list_text (format_of options.format) names (listed_calls options trace)
