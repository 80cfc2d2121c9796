-- A record whose bytes are all there, whatever follows them, and one that is cut off.
use Rattle.std.proofs.Common.{◌≡◌, ℕ, ◌+◌, ◌/◌, ◌%◌, ◌<◌, ◌≤◌, Bool, true, false, cond, eqb, List, [], ◌∷◌, ◌++◌, length, drop, Err, refl, sym, ap, ◌∙◌, length-append, arith}
use Rattle.std.proofs.lemmas.Bool.{le-ltb, lt-ltb}
use Rattle.std.proofs.lemmas.List.{take_at, drop-append-le, length-drop}
use Rattle.byteorder.specs.Numbers.{little_from-take}
use Rattle.byteorder.specs.Endian.{little_number}
use Rattle.fdr_record.specs.declared.fault.RecFault.TheVariants as decoder_faults
use Rattle.fdr_record.specs.Reading.{function_record_at, metadata_record_at}
use Rattle.fdr_file.specs.Traces.{record_in, record_length}

-- the first byte says the length
pub length_again : (bytes rest : List ℕ) → 0 < length bytes → record_length (bytes ++ rest) ≡ record_length bytes
length_again [] rest some = absurd (omega arith)
length_again (b ∷ bytes) rest some = refl

-- a number whose bytes are there
pub number_again : (n : ℕ) (bytes rest : List ℕ) → n ≤ length bytes → little_number n (bytes ++ rest) ≡ little_number n bytes
number_again n bytes rest few =
    sym (little_from-take 0 n (length bytes) (bytes ++ rest) (omega arith)) ∙ ap (little_number n) (take_at bytes rest (length bytes) refl)

pub field_again : (at n : ℕ) (bytes rest : List ℕ) → at + n ≤ length bytes → little_number n (drop at (bytes ++ rest)) ≡ little_number n (drop at bytes)
field_again at n bytes rest few =
    ap (little_number n) (drop-append-le at bytes rest (omega arith)) ∙ number_again n (drop at bytes) rest (omega (arith, length-drop at bytes))

function_again : (first : ℕ) (bytes rest : List ℕ) → 8 ≤ length bytes → function_record_at first (bytes ++ rest) ≡ function_record_at first bytes
unfolding function_record_at
function_again first bytes rest whole =
    rw (le-ltb (length (bytes ++ rest)) 8 (omega (arith, length-append bytes rest)), le-ltb (length bytes) 8 whole, number_again 4 bytes rest (omega arith), field_again 4 4 bytes rest (omega arith)) refl

metadata_again : (kind : ℕ) (fields rest : List ℕ) → 15 ≤ length fields → metadata_record_at kind (fields ++ rest) ≡ metadata_record_at kind fields
unfolding metadata_record_at
metadata_again kind fields rest whole =
    rw (le-ltb (length (fields ++ rest)) 15 (omega (arith, length-append fields rest)), le-ltb (length fields) 15 whole, number_again 4 fields rest (omega arith), number_again 2 fields rest (omega arith), number_again 8 fields rest (omega arith), field_again 2 8 fields rest (omega arith), field_again 8 4 fields rest (omega arith)) refl

-- a whole record is the same, whatever follows it
pub whole_again : (bytes rest : List ℕ) → 0 < length bytes → record_length bytes ≤ length bytes → record_in (bytes ++ rest) ≡ record_in bytes
unfolding record_in
whole_again [] rest some whole = absurd (omega arith)
whole_again (b ∷ bytes) rest some whole = by_type (eqb (b % 2) 0) whole
  where
    by_type : (function : Bool) → cond function 8 16 ≤ length (b ∷ bytes)
        → cond function (function_record_at b ((b ∷ bytes) ++ rest)) (metadata_record_at (b / 2) (bytes ++ rest)) ≡ cond function (function_record_at b (b ∷ bytes)) (metadata_record_at (b / 2) bytes)
    by_type true h = function_again b (b ∷ bytes) rest h
    by_type false h = metadata_again (b / 2) bytes rest (omega arith)

-- a record that is cut off
pub cut_is_short : (bytes : List ℕ) → length bytes < record_length bytes → record_in bytes ≡ Err decoder_faults.Short
unfolding record_in function_record_at metadata_record_at
cut_is_short [] cut = refl
cut_is_short (b ∷ bytes) cut = by_type (eqb (b % 2) 0) cut
  where
    by_type : (function : Bool) → length (b ∷ bytes) < cond function 8 16
        → cond function (function_record_at b (b ∷ bytes)) (metadata_record_at (b / 2) bytes) ≡ Err decoder_faults.Short
    by_type true h = rw (lt-ltb (length (b ∷ bytes)) 8 h) refl
    by_type false h = let less : length bytes < 15 = omega arith in rw (lt-ltb (length bytes) 15 less) refl
