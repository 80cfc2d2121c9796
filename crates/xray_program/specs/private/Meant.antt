-- What the reports know of a trace at its end.
use Rattle.std.specs.Prelude.{◌≡◌, None, map, Result, Ok, Err, Vec}
use Rattle.std.specs.declared.alloc.Global.{Global}
use Rattle.account_report.specs.Account.{account_of}
use Rattle.account_report.specs.AccountText.{latencies_of}
use Rattle.account_report.specs.Ordered.{arranged}
use Rattle.call_rows.specs.declared.row.CallRow.{CallRow}
use Rattle.command_words.specs.declared.report_options.AccountOptions.{AccountOptions}
use Rattle.command_words.specs.declared.report_options.CallsOptions.{CallsOptions}
use Rattle.fdr_file.specs.declared.trace.Trace.{Trace}
use Rattle.stack_rebuild.specs.Stacks.{IsDeepFault, deep_in, most_open, stack_of, told}
use Rattle.stack_rebuild.specs.declared.stack_row.StackFault.{StackFault}
use Rattle.stack_rebuild.specs.declared.stack_row.StackRow.{StackRow}
use Rattle.xray_program.specs.Account.{is_descending, key_of}
use Rattle.xray_program.specs.Calls.{listed_calls}
use Rattle.xray_program.specs.declared.account.AccountRows.{AccountRows}
use Rattle.xray_program.specs.declared.stack.TraceStacks.{TraceStacks}

-- the account of a trace, in the order and of the length that the options ask for
pub record AccountMeans (options : AccountOptions) (account : AccountRows) (trace : Trace) : Type 0 where
  pub rows : account.rows.items ≡ arranged (key_of options.sort) (is_descending options.order) options.top (account_of trace.blocks)
  pub latencies : account.latencies ≡ latencies_of (account_of trace.blocks)

-- the calls of a trace that the options ask for, in their order
abbrev pub CallsMean : CallsOptions → Vec CallRow Global → Trace → Type 0
CallsMean options rows trace = rows.items ≡ listed_calls options trace

-- the rows of the stacks of a trace, or why there are none
abbrev pub RowsMean : Result (Vec StackRow Global) StackFault → Trace → Type 0
RowsMean (Ok rows) trace = (map told rows.items ≡ stack_of trace.blocks) × (deep_in most_open trace.blocks ≡ None)
RowsMean (Err fault) trace = IsDeepFault fault (deep_in most_open trace.blocks)

-- the stacks of a trace, with the frequency of its counter
pub record StacksMean (stacks : TraceStacks) (trace : Trace) : Type 0 where
  pub frequency : stacks.frequency ≡ trace.header.frequency
  pub rows : RowsMean stacks.rows trace
