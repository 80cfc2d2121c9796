-- Reading a record from its first byte to its last, for the contracts of the reader's private functions.
use Rattle.std.specs.Prelude.{◌/◌, ◌%◌, ℕ, List, length, drop, Result, Ok, Err, nat_lt, ◌==◌, if◌then◌else◌}
use Rattle.byteorder.specs.Endian.{little_number}
use Rattle.fdr_record.specs.declared.event.Kind.{Kind}
use Rattle.fdr_record.specs.declared.event.Kind.TheVariants.{Entry, Exit, TailExit, EntryArgs}
use Rattle.fdr_record.specs.declared.rec.Rec.{Rec}
use Rattle.fdr_record.specs.declared.rec.Rec.TheVariants.{NewBuffer, NewCpu, TscWrap, WallTime, Pid, CallArg, Extents, Function}
use Rattle.fdr_record.specs.declared.fault.RecFault.{RecFault}
use Rattle.fdr_record.specs.declared.fault.RecFault.TheVariants as faults

infixl 10 ◌>>=◌
abbrev pub ◌>>=◌ : {A B : Type 0} → Result A RecFault → (A → Result B RecFault) → Result B RecFault
(Ok x) >>= f = f x
(Err e) >>= f = Err e

-- the kind of event that an action's number stands for
abbrev pub kind_read : ℕ → Result Kind RecFault
kind_read action =
    if action == 0 then Ok Entry else if action == 1 then Ok Exit else if action == 2 then Ok TailExit else if action == 3 then Ok EntryArgs
    else Err (faults.Action action)

-- the function record that the bytes begin with, by their first byte
unfoldable pub function_record_at : ℕ → List ℕ → Result Rec RecFault
function_record_at first bytes =
    if nat_lt (length bytes) 8 then Err faults.Short else (do
      kind ← kind_read (first / 2 % 8)
      Ok (Function kind (little_number 4 bytes / 16) (little_number 4 (drop 4 bytes))))

-- a metadata record of this kind, with all its fields there
abbrev pub fields_read : ℕ → List ℕ → Result Rec RecFault
fields_read kind fields =
    if kind == 0 then Ok (NewBuffer (little_number 4 fields))
    else if kind == 2 then Ok (NewCpu (little_number 2 fields) (little_number 8 (drop 2 fields)))
    else if kind == 3 then Ok (TscWrap (little_number 8 fields))
    else if kind == 4 then Ok (WallTime (record { secs = little_number 8 fields; micros = little_number 4 (drop 8 fields) }))
    else if kind == 6 then Ok (CallArg (little_number 8 fields))
    else if kind == 7 then Ok (Extents (little_number 8 fields))
    else if kind == 9 then Ok (Pid (little_number 4 fields))
    else Err (faults.Kind kind)

-- a metadata record of this kind, from the bytes after its first byte
unfoldable pub metadata_record_at : ℕ → List ℕ → Result Rec RecFault
metadata_record_at kind fields = if nat_lt (length fields) 15 then Err faults.Short else fields_read kind fields
