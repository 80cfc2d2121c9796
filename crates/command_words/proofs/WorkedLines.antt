-- Command lines worked by hand: what the definitions make of them.
use Rattle.std.proofs.Common.{◌≡◌, ◌==◌, ℕ, true, false, not, List, [], ◌∷◌, Option, Some, None, refl}
use Rattle.std.specs.List.{list_all, slice_split}
use Rattle.std.specs.Prelude.{codes, is_some}
use Rattle.xray_io.specs.declared.wall.Wall.{Wall}
use Rattle.command_words.specs.Reports.{ByIds, ByImage, ByMap}
use Rattle.command_words.specs.declared.report_options.AccountFormat.TheVariants.{Text, Csv}
use Rattle.command_words.specs.declared.report_options.CallColumn.TheVariants as columns
use Rattle.command_words.specs.declared.report_options.ConvertFormat.TheVariants as formats
use Rattle.command_words.specs.declared.report_options.InputForm.TheVariants as inputs
use Rattle.command_words.specs.declared.report_options.SortColumn.TheVariants.{FuncId, Sum}
use Rattle.command_words.specs.declared.report_options.SortOrder.TheVariants.{Ascending, Descending}
use Rattle.command_words.specs.declared.report_options.StackFormat.TheVariants as stacks
use Rattle.command_words.specs.Words.{Command, Sim, Plain, Extract, Asm, Account, Stack, Convert, Dump, Check, Order, Profile, Soak, Import, Map, Calls, profile_options_in, reading, run_options_in}

-- a wall time that is passed in
noon : Wall
noon = record { secs = 43200; micros = 5 }

-- what the words of a line say, with a space (32) between two words
abbrev says : List ℕ → Option Command
says line = reading noon (slice_split (λ byte. byte == 32) line)

-- ---- lines that say nothing

nothing : reading noon [] ≡ None
nothing = refl

abbrev say_nothing : List (List ℕ) → Type 0
say_nothing lines = list_all (λ line. not (is_some (says line))) lines ≡ true

-- an option comes once, under its whole name, with a value that is in its range and can be a name
options_are_checked : say_nothing (codes "plain --threads=7 i --threads 7" ∷ codes "plain --threads=17 i" ∷ codes "plain --threads=0 i" ∷ codes "plain --threads -5 i" ∷ codes "plain --thread=7 i" ∷ [])
options_are_checked = refl

-- each file has a name, and there is no other name and no word for help
names_are_counted : say_nothing (codes "extract" ∷ codes "extract --help" ∷ codes "extract i j" ∷ codes "soak" ∷ [])
names_are_counted = refl

-- an option of another command is none
options_are_the_commands : say_nothing (codes "profile i s --frequency=1" ∷ codes "extract i --threads=1" ∷ codes "run i s t a --nodes=1" ∷ [])
unfolding run_options_in profile_options_in
options_are_the_commands = refl

-- a number and a word are those of the list
values_are_listed : say_nothing (codes "asm t i --map-version=1" ∷ codes "convert t --format=trace_event" ∷ codes "profile i s --nodes=0" ∷ codes "soak 18446744073709551616" ∷ [])
unfolding run_options_in profile_options_in
values_are_listed = refl

-- an output has the name of no other file
outputs_differ : say_nothing (codes "asm t t" ∷ codes "sim i s c s a" ∷ codes "sim i s c t t" ∷ codes "run i s i a" ∷ codes "order i s a s o" ∷ codes "order i s a f f" ∷ codes "import l l" ∷ [])
unfolding run_options_in profile_options_in
outputs_differ = refl

-- a map names no functions beside an image
one_source : say_nothing (codes "account t i --map=m" ∷ codes "stack t i --map=m" ∷ codes "convert t i --map m" ∷ [])
one_source = refl

-- ---- lines that say a command

abbrev plain_i : ℕ → Option Command
plain_i threads = Some (Plain (codes "i") (record { threads = threads; fuel = 10000000; passings = 1048576 }))

defaults : says (codes "plain i") ≡ plain_i 1
defaults = refl

-- an option is one word or two, before a name or after it
one_word : says (codes "plain --threads=7 i") ≡ plain_i 7
one_word = refl

two_words : says (codes "plain i --threads +007") ≡ plain_i 7
two_words = refl

-- after -- all words are names, and one dash by itself is a name
names_only : says (codes "extract -- --help") ≡ Some (Extract (codes "--help"))
names_only = refl

one_dash : says (codes "extract -") ≡ Some (Extract (codes "-"))
one_dash = refl

-- no other file has the name of asm's output
made : says (codes "asm t i --threshold 0") ≡ Some (Asm (codes "t") (codes "i") 0 false)
made = refl

-- the version of the map is 0 or 2
relative : says (codes "asm t i --map-version=2") ≡ Some (Asm (codes "t") (codes "i") 1 true)
relative = refl

absolute : says (codes "asm t i --map-version=00") ≡ Some (Asm (codes "t") (codes "i") 1 false)
absolute = refl

-- a replay begins at the wall time that is passed in, and two inputs may be the same
replay : says (codes "sim s s c --fuel=9 t a")
    ≡ Some (Sim (codes "s") (codes "s") (codes "c") (codes "t") (codes "a") (record {
      bounds = record { threads = 1; fuel = 9; passings = 1048576 };
      stamps = record { tick = 1; tsc = 0; cpus = 1; migrate = 1048576 };
      frequency = 0;
      buffers = record { size = 16384; max = 100 };
      pid = 1;
      wall = noon;
    }))
unfolding run_options_in
replay = refl

-- a trace is converted to YAML unless another form is named, and it is a trace file unless it is said to be a log
to_yaml : says (codes "convert t")
    ≡ Some (Convert (codes "t") ByIds (record { format = formats.Yaml; input = inputs.Fdr }))
to_yaml = refl

from_a_log : says (codes "convert --input=basic t i --format trace-event")
    ≡ Some (Convert (codes "t") (ByImage (codes "i")) (record { format = formats.TraceEvents; input = inputs.Basic }))
from_a_log = refl

-- the options of an account: all rows in the order of ids, unless it is said otherwise
accounted : says (codes "account t")
    ≡ Some (Account (codes "t") ByIds (record { sort = FuncId; order = Ascending; top = None; format = Text }))
accounted = refl

greatest_first : says (codes "account --sort=sum t --sortorder=desc i --top=5 --format=csv")
    ≡ Some (Account (codes "t") (ByImage (codes "i")) (record { sort = Sum; order = Descending; top = Some 5; format = Csv }))
greatest_first = refl

dumped : says (codes "fdr-dump t") ≡ Some (Dump (codes "t"))
dumped = refl

-- all four files of a check are inputs, so they may have one name
checked : says (codes "check i s t t")
    ≡ Some (Check (codes "i") (codes "s") (codes "t") (codes "t"))
checked = refl

-- an order has two outputs, which have different names
ordered : says (codes "order i s a f o")
    ≡ Some (Order (codes "i") (codes "s") (codes "a") (codes "f") (codes "o"))
ordered = refl

-- a profile takes those options of a run that say how threads run and how their passings are stamped
profiled : says (codes "profile i --nodes=1 s --format flame --cpus=2")
    ≡ Some (Profile (codes "i") (codes "s") (record {
      bounds = record { threads = 1; fuel = 10000000; passings = 1048576 };
      stamps = record { tick = 1; tsc = 0; cpus = 2; migrate = 1048576 };
      nodes = 1;
      format = stacks.Flame;
    }))
unfolding profile_options_in
profiled = refl

-- a number that stands in the place of a file: any of 64 bits
seed : says (codes "soak +01") ≡ Some (Soak 1)
seed = refl

-- a sled map names the functions of a trace in place of an image
by_map : says (codes "stack --map=m t") ≡ Some (Stack (codes "t") (ByMap (codes "m")) stacks.Human)
by_map = refl

-- a log and the trace that is made of it
imported : says (codes "import l t") ≡ Some (Import (codes "l") (codes "t"))
imported = refl

-- a program and the map that is made of it
mapped : says (codes "map p m") ≡ Some (Map (codes "p") (codes "m"))
mapped = refl

-- calls, with the greatest number that each of its options may have
called : says (codes "calls t --map m --function=4294967295 --thread 4294967295 --least 18446744073709551615 --sort self --top 0")
    ≡ Some (Calls (codes "t") (ByMap (codes "m")) (record {
      function = Some 4294967295;
      thread = Some 4294967295;
      least = 18446744073709551615;
      sort = columns.Own;
      order = Ascending;
      top = Some 0;
      format = Text;
    }))
called = refl

-- without options, all calls in the order in which they end
called_plainly : says (codes "calls t i")
    ≡ Some (Calls (codes "t") (ByImage (codes "i")) (record {
      function = None;
      thread = None;
      least = 0;
      sort = columns.End;
      order = Ascending;
      top = None;
      format = Text;
    }))
called_plainly = refl
