-- The fields of records fit their bytes.
use Rattle.std.proofs.Common.{ℕ, zero, suc, ◌/◌, ◌%◌, ◌^◌, ◌<◌, Bool, true, false, cond, eqb, ltb, List, [], ◌∷◌, length, drop, slice_index, Result, Ok, Err, arith}
use Rattle.std.specs.Prelude.{⊤, All}
use Rattle.std.proofs.lemmas.List.Elements.{All-drop, All-head, All-tail}
use Rattle.byteorder.specs.Endian.{little_number}
use Rattle.byteorder.specs.Numbers.{little_from-lt}
use Rattle.fdr_record.specs.declared.event.Kind.{Kind}
use Rattle.fdr_record.specs.declared.fault.RecFault.{RecFault}
use Rattle.fdr_record.specs.declared.fault.RecFault.TheVariants as decoder_faults
use Rattle.fdr_record.specs.declared.rec.Rec.{Rec}
use Rattle.fdr_record.specs.declared.rec.Rec.TheVariants.{NewBuffer, NewCpu, TscWrap, WallTime, Pid, CallArg, Extents, Function}
use Rattle.fdr_record.specs.Records.{FieldsFit}
use Rattle.fdr_record.specs.Reading.{fields_read, function_record_at, kind_read, metadata_record_at, ◌>>=◌}
use Rattle.fdr_file.specs.Traces.{record_in}

-- if there is a record, its fields fit
abbrev pub FoundFits : Result Rec RecFault → Type 0
FoundFits (Ok r) = FieldsFit r
FoundFits (Err fault) = ⊤

-- bytes are below 256
abbrev pub AreBytes : List ℕ → Type 0
AreBytes bytes = All (λ b. b < 256) bytes

pub byte_below : (bytes : List ℕ) → AreBytes bytes → (k : ℕ) → slice_index bytes k < 256
byte_below [] all k = omega arith
byte_below (b ∷ bytes) all zero = All-head (λ b. b < 256) b bytes all
byte_below (b ∷ bytes) all (suc k) = byte_below bytes (All-tail (λ b. b < 256) b bytes all) k

-- the number in the bytes from a place on
pub number_below : (from n : ℕ) (bytes : List ℕ) → AreBytes bytes → little_number n (drop from bytes) < 256 ^ n
number_below from n bytes all = little_from-lt 0 n (drop from bytes) (byte_below (drop from bytes) (All-drop (λ b. b < 256) from bytes all))

function_fits : (first : ℕ) (bytes : List ℕ) → AreBytes bytes → FoundFits (function_record_at first bytes)
unfolding function_record_at
function_fits first bytes all = by_short (ltb (length bytes) 8)
  where
    head : little_number 4 bytes / 16 < 2 ^ 28
    head = omega (arith, number_below 0 4 bytes all)

    delta : little_number 4 (drop 4 bytes) < 2 ^ 32
    delta = omega (arith, number_below 4 4 bytes all)

    by_kind : (k : Result Kind RecFault) → FoundFits (k >>= λ kind. Ok (Function kind (little_number 4 bytes / 16) (little_number 4 (drop 4 bytes))))
    by_kind (Ok kind) = (head, delta)
    by_kind (Err fault) = tt

    by_short : (b : Bool) → FoundFits (cond b (Err decoder_faults.Short) (kind_read (first / 2 % 8) >>= λ kind. Ok (Function kind (little_number 4 bytes / 16) (little_number 4 (drop 4 bytes)))))
    by_short true = tt
    by_short false = by_kind (kind_read (first / 2 % 8))

fields_fit : (kind : ℕ) (fields : List ℕ) → AreBytes fields → FoundFits (fields_read kind fields)
fields_fit kind fields all = by_tests (eqb kind 0) (eqb kind 2) (eqb kind 3) (eqb kind 4) (eqb kind 6) (eqb kind 7) (eqb kind 9)
  where
    four : little_number 4 fields < 2 ^ 32
    four = omega (arith, number_below 0 4 fields all)

    eight : little_number 8 fields < 2 ^ 64
    eight = omega (arith, number_below 0 8 fields all)

    by_tests : (a b c d e f g : Bool) → FoundFits (cond a (Ok (NewBuffer (little_number 4 fields))) (cond b (Ok (NewCpu (little_number 2 fields) (little_number 8 (drop 2 fields))))
        (cond c (Ok (TscWrap (little_number 8 fields))) (cond d (Ok (WallTime (record { secs = little_number 8 fields; micros = little_number 4 (drop 8 fields) })))
        (cond e (Ok (CallArg (little_number 8 fields))) (cond f (Ok (Extents (little_number 8 fields))) (cond g (Ok (Pid (little_number 4 fields))) (Err (decoder_faults.Kind kind)))))))))
    by_tests true b c d e f g = four
    by_tests false true c d e f g = (omega (arith, number_below 0 2 fields all), omega (arith, number_below 2 8 fields all))
    by_tests false false true d e f g = eight
    by_tests false false false true e f g = (eight, omega (arith, number_below 8 4 fields all))
    by_tests false false false false true f g = eight
    by_tests false false false false false true g = eight
    by_tests false false false false false false true = four
    by_tests false false false false false false false = tt

pub record_fits : (bytes : List ℕ) → AreBytes bytes → FoundFits (record_in bytes)
unfolding record_in metadata_record_at
record_fits [] all = tt
record_fits (first ∷ rest) all = by_parity (eqb (first % 2) 0)
  where
    by_short : (b : Bool) → FoundFits (cond b (Err decoder_faults.Short) (fields_read (first / 2) rest))
    by_short true = tt
    by_short false = fields_fit (first / 2) rest (All-tail (λ b. b < 256) first rest all)

    by_parity : (b : Bool) → FoundFits (cond b (function_record_at first (first ∷ rest)) (metadata_record_at (first / 2) rest))
    by_parity true = function_fits first (first ∷ rest) all
    by_parity false = by_short (ltb (length rest) 15)
