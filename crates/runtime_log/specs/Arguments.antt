-- Entries and the arguments behind them. Older runtimes write an entry that logs its argument with action 0, as one that
-- doesn't, and the argument directly behind it.
use Rattle.std.specs.Prelude.{ℕ, Bool, false, List, drop, Result, Ok, Err, if◌then◌else◌}
use Rattle.fdr_record.specs.declared.event.Kind.{Kind}
use Rattle.fdr_record.specs.declared.event.Kind.TheVariants.{Entry, Exit, TailExit, EntryArgs}
use Rattle.fdr_record.specs.declared.fault.RecFault.{RecFault}
use Rattle.fdr_record.specs.declared.rec.Rec.{Rec}
use Rattle.fdr_record.specs.declared.rec.Rec.TheVariants.{NewBuffer, NewCpu, TscWrap, WallTime, Pid, CallArg, Extents, Function}
use Rattle.fdr_file.specs.Traces.{is_arg, record_in, record_length}

-- an argument was found
abbrev pub found_arg : Result Rec RecFault → Bool
found_arg (Ok r) = is_arg r
found_arg (Err fault) = false

-- an argument directly follows the record that bytes begin with
abbrev pub arg_follows : List ℕ → Bool
arg_follows bytes = found_arg (record_in (drop (record_length bytes) bytes))

-- the kind of an event, whose record an argument directly follows or doesn't
abbrev pub kind_before : Bool → Kind → Kind
kind_before follows Entry = if follows then EntryArgs else Entry
kind_before follows Exit = Exit
kind_before follows TailExit = TailExit
kind_before follows EntryArgs = EntryArgs

-- A record that an argument directly follows or doesn't, as a record of a trace: an entry before an argument logs it.
abbrev pub rec_before : Bool → Rec → Rec
rec_before follows (NewBuffer thread) = NewBuffer thread
rec_before follows (NewCpu cpu tsc) = NewCpu cpu tsc
rec_before follows (TscWrap tsc) = TscWrap tsc
rec_before follows (WallTime wall) = WallTime wall
rec_before follows (Pid pid) = Pid pid
rec_before follows (CallArg value) = CallArg value
rec_before follows (Extents size) = Extents size
rec_before follows (Function kind func delta) = Function (kind_before follows kind) func delta

abbrev pub found_before : Bool → Result Rec RecFault → Result Rec RecFault
found_before follows (Ok r) = Ok (rec_before follows r)
found_before follows (Err fault) = Err fault

-- the record of a trace that the one is which bytes begin with
abbrev pub traced_in : List ℕ → Result Rec RecFault
traced_in bytes = found_before (arg_follows bytes) (record_in bytes)
