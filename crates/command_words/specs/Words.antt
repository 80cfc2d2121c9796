-- What a command line says: a command with the names of its files, and its options.
use Rattle.std.specs.Prelude.{ℕ, ◌&&◌, ◌==◌, ◌+◌, ◌*◌, List, [], ◌∷◌, Bool, codes, find, nat_le, if◌then◌else◌, Option, Some, None, option_and_then, option_map}
use Rattle.std.specs.Str.{bytes_eq}
use Rattle.xray_io.specs.declared.wall.Wall.{Wall}
use Rattle.command_words.specs.Items.{items_of}
use Rattle.command_words.specs.Limits.{trace_limit}
use Rattle.command_words.specs.Lines.{Line, line_of, number_given, number_if_given, outputs_in}
use Rattle.command_words.specs.Made.{◌⊛◌, line_says, no_options}
use Rattle.command_words.specs.Numbers.{Number}
use Rattle.command_words.specs.Reports.{NameSource, account_options_in, calls_options_in, choice_in, convert_options_in, image_named, map_named, report_files_in, source_view, stack_formats}
use Rattle.command_words.specs.Rows.{CommandRow, file_read, file_written, number_place}
use Rattle.command_words.specs.Tables.{account_format_option, bounds_options, buffer_max_option, buffer_size_option, call_sort_option, command_row, convert_format_option, cpus_option, frequency_option, fuel_option, function_option, input_option, least_option, map_version_option, migrate_option, nodes_option, passings_option}
use Rattle.command_words.specs.Tables.{pid_option, profile_options, relative_map, report_row, run_options, sort_option, sort_order_option, stack_format_option, thread_option, threads_option, threshold_option, tick_option, top_option, tsc_option, wall_option}
use Rattle.command_words.specs.declared.profile_options.ProfileOptions.{ProfileOptions}
use Rattle.command_words.specs.declared.report_options.AccountOptions.{AccountOptions}
use Rattle.command_words.specs.declared.report_options.CallsOptions.{CallsOptions}
use Rattle.command_words.specs.declared.report_options.ConvertOptions.{ConvertOptions}
use Rattle.command_words.specs.declared.report_options.StackFormat.{StackFormat}
use Rattle.command_words.specs.declared.tables.Verb.{Verb}
use Rattle.command_words.specs.declared.tables.Verb.TheVariants as verbs
use Rattle.command_words.specs.declared.run_options.Bounds.{Bounds}
use Rattle.command_words.specs.declared.run_options.Buffers.{Buffers}
use Rattle.command_words.specs.declared.run_options.RunOptions.{RunOptions}
use Rattle.command_words.specs.declared.run_options.Stamps.{Stamps}
use Rattle.command_words.specs.declared.words.Command as command
use Rattle.command_words.specs.declared.words.Command.TheVariants as command_of

pub data Command : Type 0 where
  Sim : (image script schedule trace audit : List ℕ) → (options : RunOptions) → Command
  Run : (image script trace audit : List ℕ) → (options : RunOptions) → Command
  Plain : (image : List ℕ) → (bounds : Bounds) → Command
  Extract : (image : List ℕ) → Command
  Asm : (text image : List ℕ) → (threshold : ℕ) → (relative : Bool) → Command
  Account : (trace : List ℕ) → (names : NameSource) → (options : AccountOptions) → Command
  Stack : (trace : List ℕ) → (names : NameSource) → (format : StackFormat) → Command
  Convert : (trace : List ℕ) → (names : NameSource) → (options : ConvertOptions) → Command
  Dump : (trace : List ℕ) → Command
  Check : (image script trace audit : List ℕ) → Command
  Order : (image script audit free schedule : List ℕ) → Command
  Profile : (image script : List ℕ) → (options : ProfileOptions) → Command
  Soak : (number : ℕ) → Command
  Import : (log trace : List ℕ) → Command
  Map : (program map : List ℕ) → Command
  Calls : (trace : List ℕ) → (names : NameSource) → (options : CallsOptions) → Command

-- ---- the options of the commands that run threads

-- the limits of the threads
abbrev pub bounds_in : Line → Option Bounds
bounds_in line = Some (λ threads fuel passings. record { threads = threads; fuel = fuel; passings = passings })
    ⊛ number_given threads_option line ⊛ number_given fuel_option line ⊛ number_given passings_option line

-- how passings are stamped
abbrev pub stamps_in : Line → Option Stamps
stamps_in line = Some (λ tick tsc cpus migrate. record { tick = tick; tsc = tsc; cpus = cpus; migrate = migrate })
    ⊛ number_given tick_option line ⊛ number_given tsc_option line ⊛ number_given cpus_option line
    ⊛ number_given migrate_option line

-- the buffers
abbrev pub buffers_in : Line → Option Buffers
buffers_in line = Some (λ size max. record { size = size; max = max })
    ⊛ number_given buffer_size_option line ⊛ number_given buffer_max_option line

-- the wall time: the given seconds with no microseconds, or the time that is passed in
abbrev pub wall_in : Wall → Line → Option Wall
wall_in wall line = option_map of_seconds (number_if_given wall_option line)
  where
    of_seconds : Option ℕ → Wall
    of_seconds (Some secs) = record { secs = secs; micros = 0 }
    of_seconds None = wall

-- There is a buffer for each thread. The longest trace file has room for its header of 32 bytes and for all
-- buffers, each with 16 more.
abbrev pub have_room : RunOptions → Bool
have_room options = nat_le options.bounds.threads options.buffers.max
    && nat_le (options.buffers.max * (options.buffers.size + 16) + 32) trace_limit

-- all options of a run
unfoldable pub run_options_in : Wall → Line → Option RunOptions
run_options_in wall line = option_and_then (λ options. if have_room options then Some options else None)
    (Some (λ bounds stamps frequency buffers pid wall. record {
      bounds = bounds;
      stamps = stamps;
      frequency = frequency;
      buffers = buffers;
      pid = pid;
      wall = wall;
    })
    ⊛ bounds_in line ⊛ stamps_in line ⊛ number_given frequency_option line ⊛ buffers_in line
    ⊛ number_given pid_option line ⊛ wall_in wall line)

-- all options of a profile
unfoldable pub profile_options_in : Line → Option ProfileOptions
profile_options_in line =
    Some (λ bounds stamps nodes format. record { bounds = bounds; stamps = stamps; nodes = nodes; format = format })
    ⊛ bounds_in line ⊛ stamps_in line ⊛ number_given nodes_option line
    ⊛ choice_in stack_format_option stack_formats line

-- the options of an assembling: the threshold, and whether the addresses of the map are relative
abbrev pub asm_options_in : Line → Option (ℕ × Bool)
asm_options_in line = Some (λ threshold version. (threshold, version == relative_map))
    ⊛ number_given threshold_option line ⊛ number_given map_version_option line

-- ---- the table of commands

abbrev pub plain_row : CommandRow
plain_row = command_row (codes "plain") verbs.Plain (file_read (codes "image") ∷ []) bounds_options

abbrev pub extract_row : CommandRow
extract_row = command_row (codes "extract") verbs.Extract (file_read (codes "image") ∷ []) []

abbrev pub sim_row : CommandRow
sim_row = command_row (codes "sim") verbs.Sim
    (file_read (codes "image") ∷ file_read (codes "script") ∷ file_read (codes "schedule")
    ∷ file_written (codes "trace") ∷ file_written (codes "audit") ∷ [])
    run_options

abbrev pub run_row : CommandRow
run_row = command_row (codes "run") verbs.Run
    (file_read (codes "image") ∷ file_read (codes "script") ∷ file_written (codes "trace") ∷ file_written (codes "audit") ∷ [])
    run_options

abbrev pub asm_row : CommandRow
asm_row = command_row (codes "asm") verbs.Asm (file_read (codes "text") ∷ file_written (codes "image") ∷ [])
    (threshold_option ∷ map_version_option ∷ [])

abbrev pub account_row : CommandRow
account_row =
    report_row (codes "account") verbs.Account (sort_option ∷ sort_order_option ∷ top_option ∷ account_format_option ∷ [])

abbrev pub stack_row : CommandRow
stack_row = report_row (codes "stack") verbs.Stack (stack_format_option ∷ [])

abbrev pub convert_row : CommandRow
convert_row = report_row (codes "convert") verbs.Convert (convert_format_option ∷ input_option ∷ [])

abbrev pub dump_row : CommandRow
dump_row = command_row (codes "fdr-dump") verbs.Dump (file_read (codes "trace") ∷ []) []

abbrev pub check_row : CommandRow
check_row = command_row (codes "check") verbs.Check
    (file_read (codes "image") ∷ file_read (codes "script") ∷ file_read (codes "trace") ∷ file_read (codes "audit") ∷ []) []

abbrev pub order_row : CommandRow
order_row = command_row (codes "order") verbs.Order
    (file_read (codes "image") ∷ file_read (codes "script") ∷ file_read (codes "audit")
    ∷ file_written (codes "free") ∷ file_written (codes "schedule") ∷ [])
    []

abbrev pub profile_row : CommandRow
profile_row =
    command_row (codes "profile") verbs.Profile (file_read (codes "image") ∷ file_read (codes "script") ∷ []) profile_options

-- its number is any of 64 bits
abbrev pub soak_row : CommandRow
soak_row = command_row (codes "soak") verbs.Soak (number_place (codes "seed") (Number 0 18446744073709551615) ∷ []) []

abbrev pub import_row : CommandRow
import_row = command_row (codes "import") verbs.Import (file_read (codes "log") ∷ file_written (codes "trace") ∷ []) []

abbrev pub map_row : CommandRow
map_row = command_row (codes "map") verbs.Map (file_read (codes "program") ∷ file_written (codes "map") ∷ []) []

abbrev pub calls_row : CommandRow
calls_row = report_row (codes "calls") verbs.Calls
    (function_option ∷ thread_option ∷ least_option ∷ call_sort_option ∷ sort_order_option ∷ top_option ∷ account_format_option ∷ [])

-- all commands
abbrev pub commands : List CommandRow
commands = plain_row ∷ extract_row ∷ sim_row ∷ run_row ∷ asm_row ∷ account_row ∷ stack_row ∷ convert_row ∷ dump_row
    ∷ check_row ∷ order_row ∷ profile_row ∷ soak_row ∷ import_row ∷ map_row ∷ calls_row ∷ []

-- ---- what lines say

abbrev pub plain_in : Line → Option Command
plain_in line = line_says plain_row.files (λ image bounds. Plain image bounds) (bounds_in line) line

abbrev pub sim_in : Wall → Line → Option Command
sim_in wall line =
    line_says sim_row.files (λ image script schedule trace audit options. Sim image script schedule trace audit options)
    (run_options_in wall line) line

abbrev pub run_in : Wall → Line → Option Command
run_in wall line =
    line_says run_row.files (λ image script trace audit options. Run image script trace audit options) (run_options_in wall line) line

abbrev pub asm_in : Line → Option Command
asm_in line = line_says asm_row.files (λ text image options. Asm text image options.0 options.1) (asm_options_in line) line

abbrev pub profile_in : Line → Option Command
profile_in line = line_says profile_row.files (λ image script options. Profile image script options) (profile_options_in line) line

-- a report on the files of a line, with what its options say
abbrev pub report_by : {X : Type 0} → (make : List ℕ → NameSource → X → Command) → Option X → Line → Option Command
report_by make options line = Some (λ files options. make files.0 files.1 options) ⊛ report_files_in line ⊛ options

abbrev pub account_in : Line → Option Command
account_in line = report_by Account (account_options_in line) line

abbrev pub stack_in : Line → Option Command
stack_in line = report_by Stack (choice_in stack_format_option stack_formats line) line

abbrev pub convert_in : Line → Option Command
convert_in line = report_by Convert (convert_options_in line) line

abbrev pub calls_asked_in : Line → Option Command
calls_asked_in line = report_by Calls (calls_options_in line) line

-- the command that a line of the verb's row says at a wall time, if it says one
abbrev pub command_by : Verb → Wall → Line → Option Command
command_by verbs.Plain wall line = plain_in line
command_by verbs.Extract wall line = line_says extract_row.files (λ image none. Extract image) no_options line
command_by verbs.Sim wall line = sim_in wall line
command_by verbs.Run wall line = run_in wall line
command_by verbs.Asm wall line = asm_in line
command_by verbs.Account wall line = account_in line
command_by verbs.Stack wall line = stack_in line
command_by verbs.Convert wall line = convert_in line
command_by verbs.Dump wall line = line_says dump_row.files (λ trace none. Dump trace) no_options line
command_by verbs.Check wall line =
    line_says check_row.files (λ image script trace audit none. Check image script trace audit) no_options line
command_by verbs.Order wall line =
    line_says order_row.files (λ image script audit free schedule none. Order image script audit free schedule) no_options line
command_by verbs.Profile wall line = profile_in line
command_by verbs.Soak wall line = line_says soak_row.files (λ number none. Soak number) no_options line
command_by verbs.Import wall line = line_says import_row.files (λ log trace none. Import log trace) no_options line
command_by verbs.Map wall line = line_says map_row.files (λ program map none. Map program map) no_options line
command_by verbs.Calls wall line = calls_asked_in line

-- the row of the command that has this word
abbrev pub row_with : List ℕ → Option CommandRow
row_with word = find (λ row. bytes_eq word row.word) commands

-- the command that words say at this wall time, if they say one
abbrev pub reading : Wall → List (List ℕ) → Option Command
reading wall [] = None
reading wall (word ∷ words) =
    option_and_then (λ row. option_and_then (command_by row.verb wall) (line_of row (items_of words))) (row_with word)

-- ---- the row and the files of a command

-- the row of a command in the table, the names in the places of its files, and the names of files that its options give
pub record InTable : Type 0 where
  pub row : CommandRow
  pub names : List (List ℕ)
  pub given : List (List ℕ)

-- a command of this row whose options name no file
abbrev pub with_names : CommandRow → (names : List (List ℕ)) → InTable
with_names row names = record { row = row; names = names; given = [] }

-- a report of this row
abbrev pub with_source : CommandRow → (trace : List ℕ) → NameSource → InTable
with_source row trace source = record { row = row; names = trace ∷ image_named source; given = map_named source }

abbrev pub table_entry : Command → InTable
table_entry (Sim image script schedule trace audit options) = with_names sim_row (image ∷ script ∷ schedule ∷ trace ∷ audit ∷ [])
table_entry (Run image script trace audit options) = with_names run_row (image ∷ script ∷ trace ∷ audit ∷ [])
table_entry (Plain image bounds) = with_names plain_row (image ∷ [])
table_entry (Extract image) = with_names extract_row (image ∷ [])
table_entry (Asm text image threshold relative) = with_names asm_row (text ∷ image ∷ [])
table_entry (Account trace source options) = with_source account_row trace source
table_entry (Stack trace source format) = with_source stack_row trace source
table_entry (Convert trace source options) = with_source convert_row trace source
table_entry (Dump trace) = with_names dump_row (trace ∷ [])
table_entry (Check image script trace audit) = with_names check_row (image ∷ script ∷ trace ∷ audit ∷ [])
table_entry (Order image script audit free schedule) = with_names order_row (image ∷ script ∷ audit ∷ free ∷ schedule ∷ [])
table_entry (Profile image script options) = with_names profile_row (image ∷ script ∷ [])
table_entry (Soak number) = with_names soak_row []
table_entry (Import log trace) = with_names import_row (log ∷ trace ∷ [])
table_entry (Map program map) = with_names map_row (program ∷ map ∷ [])
table_entry (Calls trace source options) = with_source calls_row trace source

-- the names of a command's outputs
abbrev pub outputs_of : Command → List (List ℕ)
outputs_of command = outputs_in (table_entry command).row.files (table_entry command).names

-- ---- the command of the code

-- as that of the definitions: texts are their bytes
abbrev pub command_view : command.Command → Command
command_view (command_of.Sim image script schedule trace audit options) =
    Sim image.now script.now schedule.now trace.now audit.now options
command_view (command_of.Run image script trace audit options) = Run image.now script.now trace.now audit.now options
command_view (command_of.Plain image bounds) = Plain image.now bounds
command_view (command_of.Extract image) = Extract image.now
command_view (command_of.Asm text image threshold relative) = Asm text.now image.now threshold relative
command_view (command_of.Account trace names options) = Account trace.now (source_view names) options
command_view (command_of.Stack trace names format) = Stack trace.now (source_view names) format
command_view (command_of.Convert trace names options) = Convert trace.now (source_view names) options
command_view (command_of.Dump trace) = Dump trace.now
command_view (command_of.Check image script trace audit) = Check image.now script.now trace.now audit.now
command_view (command_of.Order image script audit free schedule) =
    Order image.now script.now audit.now free.now schedule.now
command_view (command_of.Profile image script options) = Profile image.now script.now options
command_view (command_of.Soak number) = Soak number
command_view (command_of.Import log trace) = Import log.now trace.now
command_view (command_of.Map program map) = Map program.now map.now
command_view (command_of.Calls trace names options) = Calls trace.now (source_view names) options
