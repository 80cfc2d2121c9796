-- The events that the records of a block say.
use Rattle.std.specs.Prelude.{ℕ, ◌+◌, ◌%◌, ◌^◌, List, [], ◌∷◌, sum}
use Rattle.fdr_record.specs.declared.event.Event.{Event}
use Rattle.fdr_record.specs.declared.event.Kind.{Kind}
use Rattle.fdr_record.specs.declared.event.Kind.TheVariants.{Entry, Exit, TailExit, EntryArgs}
use Rattle.fdr_record.specs.declared.rec.Rec.{Rec}
use Rattle.fdr_record.specs.declared.rec.Rec.TheVariants.{NewBuffer, NewCpu, TscWrap, WallTime, Pid, CallArg, Extents, Function}

-- Below, the records before an event are listed from the last one to the first.

-- the CPU that the last record with a CPU names
abbrev pub cpu_of : List Rec → ℕ
cpu_of [] = 0
cpu_of (NewCpu cpu tsc ∷ before) = cpu
cpu_of (TscWrap tsc ∷ before) = cpu_of before
cpu_of (Function kind func delta ∷ before) = cpu_of before
cpu_of (NewBuffer thread ∷ before) = cpu_of before
cpu_of (WallTime wall ∷ before) = cpu_of before
cpu_of (Pid pid ∷ before) = cpu_of before
cpu_of (CallArg value ∷ before) = cpu_of before
cpu_of (Extents size ∷ before) = cpu_of before

-- the last whole counter
abbrev pub whole_counter : List Rec → ℕ
whole_counter [] = 0
whole_counter (NewCpu cpu tsc ∷ before) = tsc
whole_counter (TscWrap tsc ∷ before) = tsc
whole_counter (Function kind func delta ∷ before) = whole_counter before
whole_counter (NewBuffer thread ∷ before) = whole_counter before
whole_counter (WallTime wall ∷ before) = whole_counter before
whole_counter (Pid pid ∷ before) = whole_counter before
whole_counter (CallArg value ∷ before) = whole_counter before
whole_counter (Extents size ∷ before) = whole_counter before

-- all deltas after the last whole counter
abbrev pub deltas_since : List Rec → List ℕ
deltas_since [] = []
deltas_since (NewCpu cpu tsc ∷ before) = []
deltas_since (TscWrap tsc ∷ before) = []
deltas_since (Function kind func delta ∷ before) = delta ∷ deltas_since before
deltas_since (NewBuffer thread ∷ before) = deltas_since before
deltas_since (WallTime wall ∷ before) = deltas_since before
deltas_since (Pid pid ∷ before) = deltas_since before
deltas_since (CallArg value ∷ before) = deltas_since before
deltas_since (Extents size ∷ before) = deltas_since before

-- the counter at the last record: the last whole one and all deltas after it, in 64 bits
abbrev pub counter_at : List Rec → ℕ
counter_at records = (whole_counter records + sum (deltas_since records)) % 2 ^ 64

-- the value of the first record, if it is an argument
abbrev pub arg_said : List Rec → ℕ
arg_said [] = 0
arg_said (CallArg value ∷ records) = value
arg_said (NewBuffer thread ∷ records) = 0
arg_said (NewCpu cpu tsc ∷ records) = 0
arg_said (TscWrap tsc ∷ records) = 0
arg_said (WallTime wall ∷ records) = 0
arg_said (Pid pid ∷ records) = 0
arg_said (Extents size ∷ records) = 0
arg_said (Function kind func delta ∷ records) = 0

-- the argument of an event of this kind, by the records after its function record
abbrev pub arg_of : Kind → List Rec → ℕ
arg_of Entry records = 0
arg_of Exit records = 0
arg_of TailExit records = 0
arg_of EntryArgs records = arg_said records

-- the events of records, after those before them; there is one for each function record
abbrev pub events_after : List Rec → List Rec → List Event
events_after before [] = []
events_after before (Function kind func delta ∷ records) =
    record { cpu = cpu_of before; func = func; kind = kind; tsc = counter_at (Function kind func delta ∷ before); arg = arg_of kind records }
    ∷ events_after (Function kind func delta ∷ before) records
events_after before (NewCpu cpu tsc ∷ records) = events_after (NewCpu cpu tsc ∷ before) records
events_after before (TscWrap tsc ∷ records) = events_after (TscWrap tsc ∷ before) records
events_after before (NewBuffer thread ∷ records) = events_after (NewBuffer thread ∷ before) records
events_after before (WallTime wall ∷ records) = events_after (WallTime wall ∷ before) records
events_after before (Pid pid ∷ records) = events_after (Pid pid ∷ before) records
events_after before (CallArg value ∷ records) = events_after (CallArg value ∷ before) records
events_after before (Extents size ∷ records) = events_after (Extents size ∷ before) records

-- the events of a block's records
abbrev pub events_said : List Rec → List Event
events_said records = events_after [] records
