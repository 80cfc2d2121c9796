-- The files and options of the commands that report on a trace.
use Rattle.std.specs.Prelude.{ℕ, List, [], ◌∷◌, Option, Some, None, option_and_then, slice_get}
use Rattle.command_words.specs.Lines.{Line, number_given, number_if_given, value_in}
use Rattle.command_words.specs.Made.{◌⊛◌, line_says, no_options}
use Rattle.command_words.specs.Rows.{OptionRow}
use Rattle.command_words.specs.Tables.{account_format_option, call_sort_option, convert_format_option, function_option, input_option, least_option, map_option, report_files, sort_option, sort_order_option, thread_option, top_option}
use Rattle.command_words.specs.declared.report_options.AccountFormat.{AccountFormat}
use Rattle.command_words.specs.declared.report_options.AccountFormat.TheVariants.{Text, Csv}
use Rattle.command_words.specs.declared.report_options.AccountOptions.{AccountOptions}
use Rattle.command_words.specs.declared.report_options.CallColumn.{CallColumn}
use Rattle.command_words.specs.declared.report_options.CallColumn.TheVariants.{End, Call, Start, Duration, Own, Depth}
use Rattle.command_words.specs.declared.report_options.CallsOptions.{CallsOptions}
use Rattle.command_words.specs.declared.report_options.ConvertFormat.{ConvertFormat}
use Rattle.command_words.specs.declared.report_options.ConvertFormat.TheVariants as converted
use Rattle.command_words.specs.declared.report_options.ConvertOptions.{ConvertOptions}
use Rattle.command_words.specs.declared.report_options.InputForm.{InputForm}
use Rattle.command_words.specs.declared.report_options.InputForm.TheVariants as inputs
use Rattle.command_words.specs.declared.report_options.NameSource as source
use Rattle.command_words.specs.declared.report_options.NameSource.TheVariants as source_of
use Rattle.command_words.specs.declared.report_options.SortColumn.{SortColumn}
use Rattle.command_words.specs.declared.report_options.SortColumn.TheVariants.{FuncId, Count, Min, Med}
use Rattle.command_words.specs.declared.report_options.SortColumn.TheVariants.{P90, P99, Max, Sum}
use Rattle.command_words.specs.declared.report_options.SortOrder.{SortOrder}
use Rattle.command_words.specs.declared.report_options.SortOrder.TheVariants.{Ascending, Descending}
use Rattle.command_words.specs.declared.report_options.StackFormat.{StackFormat}
use Rattle.command_words.specs.declared.report_options.StackFormat.TheVariants.{Human, Flame, Svg}

-- what names the functions of a trace: nothing but their ids, the image file of this name, or the sled map of this name
pub data NameSource : Type 0 where
  ByIds : NameSource
  ByImage : (name : List ℕ) → NameSource
  ByMap : (name : List ℕ) → NameSource

-- that of the code, as that of the definitions
abbrev pub source_view : source.NameSource → NameSource
source_view source_of.Ids = ByIds
source_view (source_of.Image name) = ByImage name.now
source_view (source_of.Map name) = ByMap name.now

-- the image that names functions, and the sled map that does, if there is one
abbrev pub image_named : NameSource → List (List ℕ)
image_named ByIds = []
image_named (ByImage name) = name ∷ []
image_named (ByMap name) = []

abbrev pub map_named : NameSource → List (List ℕ)
map_named ByIds = []
map_named (ByImage name) = []
map_named (ByMap name) = name ∷ []

-- what names functions: the image, if there is one, or the sled map
abbrev pub named_by : (image map : Option (List ℕ)) → NameSource
named_by (Some image) map = ByImage image
named_by None (Some map) = ByMap map
named_by None None = ByIds

-- a trace, and what names its functions: the image after it, or the sled map of the option
abbrev pub report_files_in : Line → Option (List ℕ × NameSource)
report_files_in line = line_says report_files (λ trace image none. (trace, named_by image (value_in map_option.name line))) no_options line

-- one of these choices: the one at the place of the word that is given, or of the default
abbrev pub choice_in : {X : Type 0} → OptionRow → (choices : List X) → Line → Option X
choice_in option choices line = option_and_then (slice_get choices) (number_given option line)

-- the columns of an account, in the order of their words; the orders; and the formats
abbrev pub columns : List SortColumn
columns = FuncId ∷ Count ∷ Min ∷ Med ∷ P90 ∷ P99 ∷ Max ∷ Sum ∷ []

abbrev pub orders : List SortOrder
orders = Ascending ∷ Descending ∷ []

abbrev pub account_formats : List AccountFormat
account_formats = Text ∷ Csv ∷ []

-- the formats of stacks
abbrev pub stack_formats : List StackFormat
stack_formats = Human ∷ Flame ∷ Svg ∷ []

-- the forms that a trace is converted to, and the forms that it may have
abbrev pub convert_formats : List ConvertFormat
convert_formats = converted.Yaml ∷ converted.TraceEvents ∷ converted.Basic ∷ []

abbrev pub input_forms : List InputForm
input_forms = inputs.Fdr ∷ inputs.Basic ∷ []

-- the numbers by which calls are sorted, in the order of their words
abbrev pub call_columns : List CallColumn
call_columns = End ∷ Call ∷ Start ∷ Duration ∷ Own ∷ Depth ∷ []

-- all options of a conversion
abbrev pub convert_options_in : Line → Option ConvertOptions
convert_options_in line = Some (λ format input. record { format = format; input = input })
    ⊛ choice_in convert_format_option convert_formats line ⊛ choice_in input_option input_forms line

-- the most rows that are printed: the number that is given, or none for all rows
abbrev pub top_in : Line → Option (Option ℕ)
top_in line = number_if_given top_option line

-- all options of an account
abbrev pub account_options_in : Line → Option AccountOptions
account_options_in line = Some (λ sort order top format. record { sort = sort; order = order; top = top; format = format })
    ⊛ choice_in sort_option columns line ⊛ choice_in sort_order_option orders line ⊛ top_in line
    ⊛ choice_in account_format_option account_formats line

-- all options of `calls`
abbrev pub calls_options_in : Line → Option CallsOptions
calls_options_in line = Some (λ function thread least sort order top format. record {
  function = function;
  thread = thread;
  least = least;
  sort = sort;
  order = order;
  top = top;
  format = format;
})
    ⊛ number_if_given function_option line ⊛ number_if_given thread_option line ⊛ number_given least_option line
    ⊛ choice_in call_sort_option call_columns line ⊛ choice_in sort_order_option orders line ⊛ top_in line
    ⊛ choice_in account_format_option account_formats line
