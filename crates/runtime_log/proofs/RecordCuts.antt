-- A record is read from its own bytes: what stands behind it doesn't count.
use Rattle.std.proofs.Common.{◌≡◌, ℕ, zero, suc, ◌+◌, ◌-◌, ◌/◌, ◌%◌, ◌^◌, ◌≤◌, Bool, true, false, cond, eqb, ltb, List, [], ◌∷◌, length, drop, take, slice_index, Option, Some, None, Result, Ok, Err, refl, sym, ap, ◌∙◌, arith}
use Rattle.std.specs.Option.{option_map_or}
use Rattle.std.proofs.lemmas.Bool.{eqb-true, le-ltb, ltb-false}
use Rattle.std.proofs.lemmas.Grind.{common_steps}
use Rattle.std.proofs.lemmas.List.{drop-take, length-take}
use Rattle.byteorder.specs.Endian.{little_number}
use Rattle.byteorder.specs.Numbers.{little_from-take}
use Rattle.fdr_record.specs.declared.fault.RecFault.{RecFault}
use Rattle.fdr_record.specs.declared.fault.RecFault.TheVariants as decoder_faults
use Rattle.fdr_record.specs.declared.rec.Rec.{Rec}
use Rattle.fdr_record.specs.declared.rec.Rec.TheVariants.{NewBuffer, NewCpu, TscWrap, WallTime, Pid, CallArg, Extents, Function}
use Rattle.fdr_record.specs.Reading.{fields_read, function_record_at, kind_read, metadata_record_at, ◌>>=◌}
use Rattle.fdr_file.specs.declared.stage.Stage.{Stage}
use Rattle.fdr_file.specs.Traces.{record_in, record_length}
use Rattle.runtime_log.specs.declared.own_event.OwnKind.{OwnKind}
use Rattle.runtime_log.specs.declared.own_event.OwnKind.TheVariants.{Custom}
use Rattle.runtime_log.specs.declared.version.LogVersion.TheVariants.{Three}
use Rattle.runtime_log.specs.Arguments.{traced_in}
use Rattle.runtime_log.specs.OwnEvents.{counter_so_far, log_record_in, log_record_length, own_delta, own_kind, own_size}

-- ---- fewer bytes behind it

-- the number in bytes from a place on
number_cut : (from n m : ℕ) (bytes : List ℕ) → from + n ≤ m → little_number n (drop from (take m bytes)) ≡ little_number n (drop from bytes)
number_cut from n m bytes within =
    let whole : m ≡ from + (m - from) = omega arith in
    ap (λ (k : ℕ). little_number n (drop from (take k bytes))) whole
    ∙ ap (little_number n) (drop-take from (m - from) bytes)
    ∙ little_from-take 0 n (m - from) (drop from bytes) (omega arith)

-- a metadata record of these numbers
abbrev metadata_of : (kind whole4 whole2 later8 whole8 later4 : ℕ) → Result Rec RecFault
metadata_of kind whole4 whole2 later8 whole8 later4 =
    cond (eqb kind 0) (Ok (NewBuffer whole4)) (cond (eqb kind 2) (Ok (NewCpu whole2 later8)) (cond (eqb kind 3) (Ok (TscWrap whole8))
    (cond (eqb kind 4) (Ok (WallTime (record { secs = whole8; micros = later4 }))) (cond (eqb kind 6) (Ok (CallArg whole8))
    (cond (eqb kind 7) (Ok (Extents whole8)) (cond (eqb kind 9) (Ok (Pid whole4)) (Err (decoder_faults.Kind kind))))))))

fields_cut : (kind m : ℕ) (fields : List ℕ) → 15 ≤ m → fields_read kind (take m fields) ≡ fields_read kind fields
fields_cut kind m fields within =
    let cut = take m fields in
    ap (λ (n : ℕ). metadata_of kind n (little_number 2 cut) (little_number 8 (drop 2 cut)) (little_number 8 cut) (little_number 4 (drop 8 cut))) (little_from-take 0 4 m fields (omega arith))
    ∙ ap (λ (n : ℕ). metadata_of kind (little_number 4 fields) n (little_number 8 (drop 2 cut)) (little_number 8 cut) (little_number 4 (drop 8 cut))) (little_from-take 0 2 m fields (omega arith))
    ∙ ap (λ (n : ℕ). metadata_of kind (little_number 4 fields) (little_number 2 fields) n (little_number 8 cut) (little_number 4 (drop 8 cut))) (number_cut 2 8 m fields (omega arith))
    ∙ ap (λ (n : ℕ). metadata_of kind (little_number 4 fields) (little_number 2 fields) (little_number 8 (drop 2 fields)) n (little_number 4 (drop 8 cut))) (little_from-take 0 8 m fields (omega arith))
    ∙ ap (λ (n : ℕ). metadata_of kind (little_number 4 fields) (little_number 2 fields) (little_number 8 (drop 2 fields)) (little_number 8 fields) n) (number_cut 8 4 m fields (omega arith))

-- a function record of this kind and these numbers
abbrev function_of : ℕ → ℕ → ℕ → Result Rec RecFault
function_of first head delta = kind_read (first / 2 % 8) >>= λ kind. Ok (Function kind (head / 16) delta)

function_cut : (first m : ℕ) (bytes : List ℕ) → 8 ≤ m → function_of first (little_number 4 (take m bytes)) (little_number 4 (drop 4 (take m bytes))) ≡ function_of first (little_number 4 bytes) (little_number 4 (drop 4 bytes))
function_cut first m bytes within =
    ap (λ (n : ℕ). function_of first n (little_number 4 (drop 4 (take m bytes)))) (little_from-take 0 4 m bytes (omega arith))
    ∙ ap (λ (n : ℕ). function_of first (little_number 4 bytes) n) (number_cut 4 4 m bytes (omega arith))

-- A record that is whole: its bytes are there, and it is the same with fewer bytes behind it.
pub record IsCut (bytes : List ℕ) (m : ℕ) (r : Rec) : Type 0 where
  pub whole : record_length bytes ≤ length bytes
  pub same : record_in (take m bytes) ≡ Ok r
  pub long : record_length (take m bytes) ≡ record_length bytes

pub record_cut : (bytes : List ℕ) (m : ℕ) (r : Rec) → record_in bytes ≡ Ok r → record_length bytes ≤ m → IsCut bytes m r
unfolding record_in function_record_at metadata_record_at
record_cut [] m r found within = absurd cc
record_cut (first ∷ rest) zero r found within = absurd (by_parity (eqb (first % 2) 0) within)
  where
    by_parity : (b : Bool) → cond b 8 16 ≤ 0 → ⊥
    by_parity true few = omega (arith, few)
    by_parity false few = omega (arith, few)
record_cut (first ∷ rest) (suc m) r found within = by_parity (eqb (first % 2) 0) refl found within
  where
    by_few : (b : Bool) → ltb (length (first ∷ rest)) 8 ≡ b → eqb (first % 2) 0 ≡ true → 8 ≤ suc m
        → cond b (Err decoder_faults.Short) (function_of first (little_number 4 (first ∷ rest)) (little_number 4 (drop 4 (first ∷ rest)))) ≡ Ok r → IsCut (first ∷ rest) (suc m) r
    by_few true few even within h = absurd cc
    by_few false few even within h =
        let long = ltb-false (length (first ∷ rest)) 8 few in
        let short : ltb (length (first ∷ take m rest)) 8 ≡ false = le-ltb (length (first ∷ take m rest)) 8 (omega (arith, long, length-take m rest)) in record {
          whole = rw even (omega (arith, long));
          same =
              ap (λ (b : Bool). cond b (cond (ltb (length (first ∷ take m rest)) 8) (Err decoder_faults.Short) (function_of first (little_number 4 (first ∷ take m rest)) (little_number 4 (drop 4 (first ∷ take m rest)))))
              (cond (ltb (length (take m rest)) 15) (Err decoder_faults.Short) (fields_read (first / 2) (take m rest)))) even
              ∙ ap (λ (b : Bool). cond b (Err decoder_faults.Short) (function_of first (little_number 4 (first ∷ take m rest)) (little_number 4 (drop 4 (first ∷ take m rest))))) short
              ∙ function_cut first (suc m) (first ∷ rest) within ∙ h;
          long = refl;
        }

    by_short : (b : Bool) → ltb (length rest) 15 ≡ b → eqb (first % 2) 0 ≡ false → 16 ≤ suc m → cond b (Err decoder_faults.Short) (fields_read (first / 2) rest) ≡ Ok r → IsCut (first ∷ rest) (suc m) r
    by_short true few odd within h = absurd cc
    by_short false few odd within h =
        let long = ltb-false (length rest) 15 few in
        let short : ltb (length (take m rest)) 15 ≡ false = le-ltb (length (take m rest)) 15 (omega (arith, long, length-take m rest)) in record {
          whole = rw odd (omega (arith, long));
          same =
              ap (λ (b : Bool). cond b (cond (ltb (length (first ∷ take m rest)) 8) (Err decoder_faults.Short) (function_of first (little_number 4 (first ∷ take m rest)) (little_number 4 (drop 4 (first ∷ take m rest)))))
              (cond (ltb (length (take m rest)) 15) (Err decoder_faults.Short) (fields_read (first / 2) (take m rest)))) odd
              ∙ ap (λ (b : Bool). cond b (Err decoder_faults.Short) (fields_read (first / 2) (take m rest))) short
              ∙ fields_cut (first / 2) m rest (omega (arith, within)) ∙ h;
          long = refl;
        }

    by_parity : (b : Bool) → eqb (first % 2) 0 ≡ b
        → cond b (cond (ltb (length (first ∷ rest)) 8) (Err decoder_faults.Short) (function_of first (little_number 4 (first ∷ rest)) (little_number 4 (drop 4 (first ∷ rest)))))
        (cond (ltb (length rest) 15) (Err decoder_faults.Short) (fields_read (first / 2) rest)) ≡ Ok r
        → cond b 8 16 ≤ suc m → IsCut (first ∷ rest) (suc m) r
    by_parity true even h within = by_few (ltb (length (first ∷ rest)) 8) refl even within h
    by_parity false odd h within = by_short (ltb (length rest) 15) refl odd within h

-- ---- no event of the program's own

-- no record of a trace begins as a custom event does
not_custom : (rest : List ℕ) (r : Rec) → record_in (11 ∷ rest) ≡ Ok r → ⊥
unfolding record_in metadata_record_at
not_custom rest r found = by_short (ltb (length rest) 15) found
  where
    by_short : (b : Bool) → cond b (Err decoder_faults.Short) (Err (decoder_faults.Kind 5)) ≡ Ok r → ⊥
    by_short true h = absurd cc
    by_short false h = absurd cc

pub not_own : (bytes : List ℕ) (r : Rec) → record_in bytes ≡ Ok r → own_kind Three bytes ≡ None
unfolding record_in
not_own [] r found = refl
not_own (first ∷ rest) r found = by_short (ltb (length (first ∷ rest)) 16)
  where
    by_custom : (b : Bool) → eqb first 11 ≡ b → cond b (Some Custom) None ≡ None
    by_custom true e = absurd (not_custom rest r (ap (λ (k : ℕ). record_in (k ∷ rest)) (sym (eqb-true first 11 e)) ∙ found))
    by_custom false e = refl

    by_short : (b : Bool) → cond b None (cond (eqb first 11) (Some Custom) None) ≡ None
    by_short true = refl
    by_short false = by_custom (eqb first 11) refl

pub long_as : (bytes : List ℕ) → own_kind Three bytes ≡ None → log_record_length Three bytes ≡ record_length bytes
long_as bytes own = ap (λ (o : Option OwnKind). option_map_or (λ kind. 16 + own_size bytes) o (record_length bytes)) own

pub record_as : (stage : Stage) (bytes : List ℕ) → own_kind Three bytes ≡ None → log_record_in Three stage bytes ≡ traced_in bytes
record_as stage bytes own =
    ap (λ (o : Option OwnKind). option_map_or (λ kind. let x : Result Rec RecFault = Ok (TscWrap ((counter_so_far stage + own_delta Three bytes) % 2 ^ 64)) in x) o (traced_in bytes)) own

-- ---- extents

pub extents_long : (bytes : List ℕ) (size : ℕ) → record_in bytes ≡ Ok (Extents size) → record_length bytes ≡ 16
unfolding record_in function_record_at metadata_record_at
extents_long bytes size found = grind (arith, common_steps)

pub record_short : (bytes : List ℕ) → record_length bytes ≤ 16
record_short bytes = by_parity (eqb (slice_index bytes 0 % 2) 0)
  where
    by_parity : (b : Bool) → cond b 8 16 ≤ 16
    by_parity true = omega arith
    by_parity false = omega arith
