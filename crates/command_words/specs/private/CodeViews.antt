-- The tables and the lines of the code, as those of the definitions. Texts are their bytes.
use Rattle.std.specs.Prelude.{ℕ, List, map}
use Rattle.command_words.specs.declared.line.Line as line
use Rattle.command_words.specs.declared.report_options.ReportFiles as report_files
use Rattle.command_words.specs.declared.rows.Beside as beside
use Rattle.command_words.specs.declared.rows.Beside.TheVariants as beside_of
use Rattle.command_words.specs.declared.rows.CommandRow as command_row
use Rattle.command_words.specs.declared.rows.FileRow as file_row
use Rattle.command_words.specs.declared.rows.FileRow.TheVariants as file_of
use Rattle.command_words.specs.declared.rows.OptionRow as option_row
use Rattle.command_words.specs.declared.rows.Values as values
use Rattle.command_words.specs.declared.rows.Values.TheVariants as values_of
use Rattle.command_words.specs.Lines.{Line}
use Rattle.command_words.specs.Numbers.{Values, Number, OneOf, Listed, FileName}
use Rattle.command_words.specs.Reports.{NameSource, source_view}
use Rattle.command_words.specs.Rows.{Beside, CommandRow, FileRow, NeverWith, OnlyWith, OptionRow, file_maybe_read, file_read, file_written, number_place}

abbrev pub values_view : values.Values → Values
values_view (values_of.Number least most) = Number least most
values_view (values_of.OneOf numbers) = OneOf numbers.now
values_view (values_of.Listed words) = Listed (map (λ word. word.now) words.now)
values_view values_of.FileName = FileName

abbrev pub option_view : option_row.OptionRow → OptionRow
option_view option = record { name = option.name.now; values = values_view option.values; default = option.default }

abbrev pub file_view : file_row.FileRow → FileRow
file_view (file_of.Read label) = file_read label.now
file_view (file_of.MaybeRead label) = file_maybe_read label.now
file_view (file_of.Written label) = file_written label.now
file_view (file_of.Numeral label values) = number_place label.now (values_view values)

abbrev pub beside_view : beside.Beside → Beside
beside_view (beside_of.OnlyWith one other) = OnlyWith one.now other.now
beside_view (beside_of.NeverWith one other) = NeverWith one.now other.now

abbrev pub row_view : command_row.CommandRow → CommandRow
row_view row = record {
  word = row.word.now;
  verb = row.verb;
  files = map file_view row.files.now;
  options = map option_view row.options.now;
  beside = map beside_view row.beside.now;
}

abbrev pub line_view : line.Line → Line
line_view line = record { files = map (λ name. name.now) line.files.items; given = map (λ given. (given.0.now, given.1.now)) line.given.items }

abbrev pub files_view : report_files.ReportFiles → List ℕ × NameSource
files_view files = (files.trace.now, source_view files.names)
