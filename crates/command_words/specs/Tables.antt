-- The table of options, and what the rows of commands have in common.
use Rattle.std.specs.Prelude.{ℕ, List, [], ◌∷◌, Some, None, codes}
use Rattle.fdr_buffer.specs.declared.buffer.TheConstants.{LARGEST_SIZE, LEAST_SIZE, MOST_BUFFERS}
use Rattle.command_words.specs.Limits.{most_cpus, most_fuel, most_nodes, most_passings, most_pid, most_stay, most_threads}
use Rattle.command_words.specs.Numbers.{Number, OneOf, Listed, FileName}
use Rattle.command_words.specs.Rows.{CommandRow, FileRow, NeverWith, OptionRow, file_maybe_read, file_read}
use Rattle.command_words.specs.declared.tables.Verb.{Verb}

-- ---- the options

-- how many threads there are
abbrev pub threads_option : OptionRow
threads_option = record { name = codes "threads"; values = Number 1 most_threads; default = Some 1 }

-- the most instructions that each thread makes
abbrev pub fuel_option : OptionRow
fuel_option = record { name = codes "fuel"; values = Number 0 most_fuel; default = Some 10000000 }

-- the most passings that each thread makes
abbrev pub passings_option : OptionRow
passings_option = record { name = codes "passings"; values = Number 0 most_passings; default = Some most_passings }

-- the size of a buffer of events in bytes
abbrev pub buffer_size_option : OptionRow
buffer_size_option = record { name = codes "buffer-size"; values = Number LEAST_SIZE LARGEST_SIZE; default = Some 16384 }

-- how many buffers there are
abbrev pub buffer_max_option : OptionRow
buffer_max_option = record { name = codes "buffer-max"; values = Number 1 MOST_BUFFERS; default = Some 100 }

-- by how many cycles each instruction advances the counter
abbrev pub tick_option : OptionRow
tick_option = record { name = codes "tick"; values = Number 0 18446744073709551615; default = Some 1 }

-- the counter at the start
abbrev pub tsc_option : OptionRow
tsc_option = record { name = codes "tsc"; values = Number 0 18446744073709551615; default = Some 0 }

-- the frequency of the counter in cycles per second; 0 means that it isn't known
abbrev pub frequency_option : OptionRow
frequency_option = record { name = codes "frequency"; values = Number 0 18446744073709551615; default = Some 0 }

-- how many CPUs a thread moves between
abbrev pub cpus_option : OptionRow
cpus_option = record { name = codes "cpus"; values = Number 1 most_cpus; default = Some 1 }

-- how many passings a thread makes before it moves to the next CPU
abbrev pub migrate_option : OptionRow
migrate_option = record { name = codes "migrate"; values = Number 1 most_stay; default = Some most_stay }

-- the number of the process
abbrev pub pid_option : OptionRow
pid_option = record { name = codes "pid"; values = Number 0 most_pid; default = Some 1 }

-- the wall time in seconds; if it isn't given, it is the one that is passed in
abbrev pub wall_option : OptionRow
wall_option = record { name = codes "wall"; values = Number 0 18446744073709551615; default = None }

-- the least number of instruction lines with which a function gets sleds
abbrev pub threshold_option : OptionRow
threshold_option = record { name = codes "threshold"; values = Number 0 4294967295; default = Some 1 }

-- the version of sled maps whose addresses count from the fields that hold them
abbrev pub relative_map : ℕ
relative_map = 2

-- the version of the sled map of an assembled image; in version 0 addresses are absolute
abbrev pub map_version_option : OptionRow
map_version_option = record { name = codes "map-version"; values = OneOf (0 ∷ relative_map ∷ []); default = Some 0 }

-- the column by which the rows of an account are sorted
abbrev pub sort_option : OptionRow
sort_option = record { name = codes "sort"; values = Listed columns; default = Some 0 }
  where
    columns : List (List ℕ)
    columns = codes "funcid" ∷ codes "count" ∷ codes "min" ∷ codes "med" ∷ codes "90p" ∷ codes "99p" ∷ codes "max"
        ∷ codes "sum" ∷ []

-- the order in which they are sorted
abbrev pub sort_order_option : OptionRow
sort_order_option =
    record { name = codes "sortorder"; values = Listed (codes "asc" ∷ codes "desc" ∷ []); default = Some 0 }

-- the most rows that are printed; if it isn't given, all are
abbrev pub top_option : OptionRow
top_option = record { name = codes "top"; values = Number 0 4294967295; default = None }

-- the form in which an account is printed
abbrev pub account_format_option : OptionRow
account_format_option =
    record { name = codes "format"; values = Listed (codes "text" ∷ codes "csv" ∷ []); default = Some 0 }

-- the function whose calls are printed, and the thread; if one isn't given, those of all are
abbrev pub function_option : OptionRow
function_option = record { name = codes "function"; values = Number 0 4294967295; default = None }

abbrev pub thread_option : OptionRow
thread_option = record { name = codes "thread"; values = Number 0 4294967295; default = None }

-- the least duration of the calls that are printed, in cycles
abbrev pub least_option : OptionRow
least_option = record { name = codes "least"; values = Number 0 18446744073709551615; default = Some 0 }

-- the number by which calls are sorted
abbrev pub call_sort_option : OptionRow
call_sort_option = record {
  name = codes "sort";
  values = Listed (codes "end" ∷ codes "call" ∷ codes "start" ∷ codes "duration" ∷ codes "self" ∷ codes "depth" ∷ []);
  default = Some 0;
}

-- the form in which stacks are printed
abbrev pub stack_format_option : OptionRow
stack_format_option =
    record { name = codes "format"; values = Listed (codes "human" ∷ codes "flame" ∷ codes "svg" ∷ []); default = Some 0 }

-- the form that a trace is converted to
abbrev pub convert_format_option : OptionRow
convert_format_option = record {
  name = codes "format";
  values = Listed (codes "yaml" ∷ codes "trace-event" ∷ codes "basic" ∷ []);
  default = Some 0;
}

-- the form of the trace that is converted
abbrev pub input_option : OptionRow
input_option = record { name = codes "input"; values = Listed (codes "fdr" ∷ codes "basic" ∷ []); default = Some 0 }

-- the most nodes of a thread's call trie
abbrev pub nodes_option : OptionRow
nodes_option = record { name = codes "nodes"; values = Number 1 most_nodes; default = Some 4096 }

-- the sled map that names the functions of a trace
abbrev pub map_option : OptionRow
map_option = record { name = codes "map"; values = FileName; default = None }

-- ---- what commands have in common

-- the options of a plain run
abbrev pub bounds_options : List OptionRow
bounds_options = threads_option ∷ fuel_option ∷ passings_option ∷ []

-- the options of the commands that run traced threads
abbrev pub run_options : List OptionRow
run_options = threads_option ∷ fuel_option ∷ passings_option ∷ buffer_size_option ∷ buffer_max_option
    ∷ tick_option ∷ tsc_option ∷ frequency_option ∷ cpus_option ∷ migrate_option ∷ pid_option ∷ wall_option ∷ []

-- the options of a profile
abbrev pub profile_options : List OptionRow
profile_options = threads_option ∷ fuel_option ∷ passings_option ∷ tick_option ∷ tsc_option ∷ cpus_option
    ∷ migrate_option ∷ nodes_option ∷ stack_format_option ∷ []

-- the files of the commands that report on a trace
abbrev pub report_files : List FileRow
report_files = file_read (codes "trace") ∷ file_maybe_read (codes "image") ∷ []

-- a command whose files and options may all stand beside each other
abbrev pub command_row : (word : List ℕ) → Verb → (files : List FileRow) → (options : List OptionRow) → CommandRow
command_row word verb files options = record { word = word; verb = verb; files = files; options = options; beside = [] }

-- a command that reports on a trace: a sled map never names functions beside an image
abbrev pub report_row : (word : List ℕ) → Verb → (options : List OptionRow) → CommandRow
report_row word verb options = record {
  word = word;
  verb = verb;
  files = report_files;
  options = map_option ∷ options;
  beside = NeverWith (codes "map") (codes "image") ∷ [];
}
