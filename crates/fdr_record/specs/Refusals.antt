-- When bytes begin with no record.
use Rattle.std.specs.Prelude.{◌≡◌, ◌≢◌, ◌≤◌, ◌<◌, ◌/◌, ◌%◌, ◌==◌, ℕ, List, [], ◌∷◌, length, slice_index, Result, Ok, Err, if◌then◌else◌}
use Rattle.std.specs.List.{AllByRecursion}
use Rattle.fdr_record.specs.declared.rec.Rec.{Rec}
use Rattle.fdr_record.specs.declared.fault.RecFault.{RecFault}
use Rattle.fdr_record.specs.declared.fault.RecFault.TheVariants as faults
use Rattle.fdr_record.specs.Records.{new_buffer, new_cpu_id, tsc_wrap, walltime_marker, call_argument, buffer_extents, pid, function_length, metadata_length, FieldsFit, BeginsWith}

-- the kinds of metadata records that are read
abbrev pub kinds : List ℕ
kinds = new_buffer ∷ new_cpu_id ∷ tsc_wrap ∷ walltime_marker ∷ call_argument ∷ buffer_extents ∷ pid ∷ []

-- the length of a record, by bit 0 of its first byte
abbrev pub length_by : ℕ → ℕ
length_by first = if first % 2 == 0 then function_length else metadata_length

-- no byte is left, or fewer than the first byte asks for
abbrev pub IsCut : List ℕ → Type 0
IsCut [] = Unit {0}
IsCut (first ∷ rest) = length (first ∷ rest) < length_by first

-- the bytes begin with a whole function record of this action
pub record HasAction (bytes : List ℕ) (n : ℕ) : Type 0 where
  pub function : slice_index bytes 0 % 2 ≡ 0
  pub whole : function_length ≤ length bytes
  pub action : slice_index bytes 0 / 2 % 8 ≡ n

-- the bytes begin with a whole metadata record of this kind
pub record HasKind (bytes : List ℕ) (n : ℕ) : Type 0 where
  pub metadata : slice_index bytes 0 % 2 ≡ 1
  pub whole : metadata_length ≤ length bytes
  pub kind : slice_index bytes 0 / 2 ≡ n

-- the fault of bytes
abbrev pub Refuses : List ℕ → RecFault → Type 0
Refuses bytes faults.Short = IsCut bytes
Refuses bytes (faults.Action n) = HasAction bytes n × (4 ≤ n)
Refuses bytes (faults.Kind n) = HasKind bytes n × AllByRecursion (λ kind. kind ≢ n) kinds

-- the answers to bytes: the record that they begin with, or their fault
abbrev pub Answers : List ℕ → Result Rec RecFault → Type 0
Answers bytes (Ok r) = FieldsFit r × BeginsWith r bytes
Answers bytes (Err f) = Refuses bytes f
