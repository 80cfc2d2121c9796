-- The records of the basic mode: what the bytes of a passing say.
use Rattle.std.specs.Prelude.{ℕ, ◌==◌, List, drop, slice_index, Option, Some, None, if◌then◌else◌}
use Rattle.byteorder.specs.Endian.{little_number}
use Rattle.fdr_record.specs.declared.event.Event.{Event}
use Rattle.fdr_record.specs.declared.event.Kind.{Kind}
use Rattle.fdr_record.specs.declared.event.Kind.TheVariants.{Entry, Exit, TailExit, EntryArgs}

-- the length of a record, in bytes
abbrev pub basic_length : ℕ
basic_length = 32

-- the first two bytes of a record, as a number, and the byte that says the kind of a passing
abbrev pub tag_in : List ℕ → ℕ
tag_in bytes = little_number 2 bytes

abbrev pub kind_byte : List ℕ → ℕ
kind_byte bytes = slice_index bytes 3

-- the kind with this number, if it is one
abbrev pub kind_numbered : ℕ → Option Kind
kind_numbered number =
    if number == 0 then Some Entry else if number == 1 then Some Exit else if number == 2 then Some TailExit
    else if number == 3 then Some EntryArgs else None

-- the function, which an argument says at the same place, and the thread and the process of a passing
abbrev pub func_in : List ℕ → ℕ
func_in bytes = little_number 4 (drop 4 bytes)

abbrev pub thread_in : List ℕ → ℕ
thread_in bytes = little_number 4 (drop 16 bytes)

abbrev pub pid_in : List ℕ → ℕ
pid_in bytes = little_number 4 (drop 20 bytes)

-- the argument of an event of this kind, or 0 if it logs none
abbrev pub arg_logged : Kind → ℕ → ℕ
arg_logged Entry arg = 0
arg_logged Exit arg = 0
arg_logged TailExit arg = 0
arg_logged EntryArgs arg = arg

-- the event of a passing of this kind
abbrev pub event_in : Kind → List ℕ → Event
event_in kind bytes = record {
  cpu = slice_index bytes 2;
  func = func_in bytes;
  kind = kind;
  tsc = little_number 8 (drop 8 bytes);
  arg = arg_logged kind (little_number 8 (drop 24 bytes));
}
