-- The bytes of records, as LLVM's Flight Data Recorder format lays them out. The lowest byte of each number comes
-- first.
use Rattle.std.specs.Prelude.{◌≡◌, ◌<◌, ◌^◌, ◌*◌, ◌+◌, ◌-◌, ℕ, List, ◌∷◌, ◌++◌, length, take, replicate}
use Rattle.byteorder.specs.Endian.{little_bytes}
use Rattle.fdr_record.specs.declared.event.Kind.{Kind}
use Rattle.fdr_record.specs.declared.event.Kind.TheVariants.{Entry, Exit, TailExit, EntryArgs}
use Rattle.fdr_record.specs.declared.rec.Rec.{Rec}
use Rattle.fdr_record.specs.declared.rec.Rec.TheVariants.{NewBuffer, NewCpu, TscWrap, WallTime, Pid, CallArg, Extents, Function}

-- the kinds of metadata records, with the numbers of `MetadataRecord::RecordKinds`
abbrev pub new_buffer : ℕ
new_buffer = 0

abbrev pub new_cpu_id : ℕ
new_cpu_id = 2

abbrev pub tsc_wrap : ℕ
tsc_wrap = 3

abbrev pub walltime_marker : ℕ
walltime_marker = 4

abbrev pub call_argument : ℕ
call_argument = 6

abbrev pub buffer_extents : ℕ
buffer_extents = 7

abbrev pub pid : ℕ
pid = 9

-- the number of the action, as `FunctionRecordKind` of LLVM's `xray_fdr_log_writer.h` gives it
abbrev pub action_of : Kind → ℕ
action_of Entry = 0
action_of Exit = 1
action_of TailExit = 2
action_of EntryArgs = 3

-- the first byte of a metadata record: bit 0 is 1, and the seven bits above it are the kind
abbrev pub first_of : ℕ → ℕ
first_of kind = 2 * kind + 1

-- The first four bytes of a function record, as a number. Bit 0 is 0, the next three bits are the action, and 28 bits
-- are the function's id.
abbrev pub head_of : Kind → ℕ → ℕ
head_of kind func = 2 * action_of kind + 16 * func

-- the bytes of a record that have a meaning; in a metadata record these are its first byte and its fields
abbrev pub told_by : Rec → List ℕ
told_by (NewBuffer thread) = first_of new_buffer ∷ little_bytes 4 thread
told_by (NewCpu cpu tsc) = first_of new_cpu_id ∷ little_bytes 2 cpu ++ little_bytes 8 tsc
told_by (TscWrap tsc) = first_of tsc_wrap ∷ little_bytes 8 tsc
told_by (WallTime wall) = first_of walltime_marker ∷ little_bytes 8 wall.secs ++ little_bytes 4 wall.micros
told_by (Pid id) = first_of pid ∷ little_bytes 4 id
told_by (CallArg value) = first_of call_argument ∷ little_bytes 8 value
told_by (Extents size) = first_of buffer_extents ∷ little_bytes 8 size
told_by (Function kind func delta) = little_bytes 4 (head_of kind func) ++ little_bytes 4 delta

-- how many bytes a function record has, and a metadata record
abbrev pub function_length : ℕ
function_length = 8

abbrev pub metadata_length : ℕ
metadata_length = 16

-- how many bytes a record has
abbrev pub length_of : Rec → ℕ
length_of (NewBuffer thread) = metadata_length
length_of (NewCpu cpu tsc) = metadata_length
length_of (TscWrap tsc) = metadata_length
length_of (WallTime wall) = metadata_length
length_of (Pid id) = metadata_length
length_of (CallArg value) = metadata_length
length_of (Extents size) = metadata_length
length_of (Function kind func delta) = function_length

-- the bytes that are written for a record: those with a meaning, and zeros up to its length
abbrev pub record_bytes : Rec → List ℕ
record_bytes r = told_by r ++ replicate (length_of r - length (told_by r)) 0

-- These bytes spell the record. They begin with the bytes that have a meaning, and have the record's length. The bytes
-- after those with a meaning may be any.
pub record Spells (bytes : List ℕ) (r : Rec) : Type 0 where
  pub filler : List ℕ
  pub told : bytes ≡ told_by r ++ filler
  pub whole : length bytes ≡ length_of r

-- the bytes begin with a spelling of the record
abbrev pub BeginsWith : Rec → List ℕ → Type 0
BeginsWith r bytes = Spells (take (length_of r) bytes) r

-- if the record has a function's id, it fits its 28 bits
abbrev pub IdFits : Rec → Type 0
IdFits (NewBuffer thread) = Unit {0}
IdFits (NewCpu cpu tsc) = Unit {0}
IdFits (TscWrap tsc) = Unit {0}
IdFits (WallTime wall) = Unit {0}
IdFits (Pid id) = Unit {0}
IdFits (CallArg value) = Unit {0}
IdFits (Extents size) = Unit {0}
IdFits (Function kind func delta) = func < 2 ^ 28

-- each field fits its bytes
abbrev pub FieldsFit : Rec → Type 0
FieldsFit (NewBuffer thread) = thread < 2 ^ 32
FieldsFit (NewCpu cpu tsc) = (cpu < 2 ^ 16) × (tsc < 2 ^ 64)
FieldsFit (TscWrap tsc) = tsc < 2 ^ 64
FieldsFit (WallTime wall) = (wall.secs < 2 ^ 64) × (wall.micros < 2 ^ 32)
FieldsFit (Pid id) = id < 2 ^ 32
FieldsFit (CallArg value) = value < 2 ^ 64
FieldsFit (Extents size) = size < 2 ^ 64
FieldsFit (Function kind func delta) = (func < 2 ^ 28) × (delta < 2 ^ 32)
