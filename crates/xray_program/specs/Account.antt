-- `account`: how often the functions of a trace were called, and for how long.
use Rattle.std.specs.Prelude.{ℕ, List, Bool, true, false}
use Rattle.account_report.specs.Account.{account_of}
use Rattle.account_report.specs.AccountText.{account_text, latencies_of}
use Rattle.account_report.specs.Ordered.{arranged}
use Rattle.account_report.specs.declared.row.SortKey.{SortKey}
use Rattle.account_report.specs.declared.row.SortKey.TheVariants as keys
use Rattle.account_report.specs.declared.text.AccountLayout.{AccountLayout}
use Rattle.account_report.specs.declared.text.AccountLayout.TheVariants as formats
use Rattle.command_words.specs.declared.report_options.AccountFormat.{AccountFormat as FormatWord}
use Rattle.command_words.specs.declared.report_options.AccountFormat.TheVariants.{Text, Csv}
use Rattle.command_words.specs.declared.report_options.AccountOptions.{AccountOptions}
use Rattle.command_words.specs.declared.report_options.SortColumn.{SortColumn}
use Rattle.command_words.specs.declared.report_options.SortColumn.TheVariants.{FuncId, Count, Min, Med, P90, P99, Max, Sum}
use Rattle.command_words.specs.declared.report_options.SortOrder.{SortOrder}
use Rattle.command_words.specs.declared.report_options.SortOrder.TheVariants.{Ascending, Descending}
use Rattle.fdr_file.specs.declared.trace.Trace.{Trace}
use Rattle.map_names.specs.Naming.{Naming}

-- ---- what the words ask for, as the report has it

abbrev pub key_of : SortColumn → SortKey
key_of FuncId = keys.FuncId
key_of Count = keys.Count
key_of Min = keys.Min
key_of Med = keys.Med
key_of P90 = keys.P90
key_of P99 = keys.P99
key_of Max = keys.Max
key_of Sum = keys.Sum

abbrev pub is_descending : SortOrder → Bool
is_descending Ascending = false
is_descending Descending = true

abbrev pub format_of : FormatWord → AccountLayout
format_of Text = formats.Text
format_of Csv = formats.Csv

-- ---- the report

-- The account of a trace, in the order that the words ask for, and with as many rows as they ask for. The functions
-- that have a pair are counted over all rows. The names are those that are given to functions.
abbrev pub account_report : AccountOptions → Trace → Naming → List ℕ
account_report options trace names =
    let rows = account_of trace.blocks in
    account_text (format_of options.format) (latencies_of rows) names
    (arranged (key_of options.sort) (is_descending options.order) options.top rows)
