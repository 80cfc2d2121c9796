-- The record that bytes begin with, computed from them.
use Rattle.std.proofs.Common.{◌≡◌, ℕ, ◌+◌, ◌/◌, ◌%◌, ◌^◌, ◌<◌, ◌≤◌, true, false, eqb, ltb, eq-eqb, lit<, List, ◌∷◌, ◌++◌, length, take, drop, Result, Ok, Err, refl, sym, ap, subst, ◌∙◌, append_assoc, arith}
use Rattle.std.proofs.lemmas.Bool.{le-ltb}
use Rattle.std.proofs.lemmas.Grind.{common_steps}
use Rattle.std.proofs.lemmas.List.{length-take, take-append-drop, drop_at}
use Rattle.byteorder.specs.Endian.{little_bytes, little_number}
use Rattle.byteorder.specs.Numbers.{little_number-reads_back, length-bytes_low_first}
use Rattle.fdr_record.specs.declared.event.Kind.{Kind}
use Rattle.fdr_record.specs.declared.event.Kind.TheVariants.{Entry, Exit, TailExit, EntryArgs}
use Rattle.fdr_record.specs.declared.rec.Rec.{Rec}
use Rattle.fdr_record.specs.declared.rec.Rec.TheVariants.{NewBuffer, NewCpu, TscWrap, WallTime, Pid, CallArg, Extents, Function}
use Rattle.fdr_record.specs.declared.fault.RecFault.{RecFault}
use Rattle.fdr_record.specs.Records.{action_of, head_of, told_by, length_of, FieldsFit, BeginsWith}
use Rattle.fdr_record.specs.Refusals.{Refuses}
use Rattle.fdr_record.specs.Reading.{function_record_at, kind_read, metadata_record_at}
use Rattle.fdr_file.specs.Traces.{record_in, record_length}
use Rattle.fdr_file.specs.private.Reading.{TakenAt}
use Rattle.std.specs.Prelude.{IfOk, IfErr}

-- bytes that begin with a record: its bytes with a meaning, and the rest
unspelled : (n : ℕ) (told filler bytes : List ℕ) → take n bytes ≡ told ++ filler → bytes ≡ told ++ (filler ++ drop n bytes)
unspelled n told filler bytes is = sym (take-append-drop n bytes) ∙ ap (λ (x : List ℕ). x ++ drop n bytes) is ∙ append_assoc told filler (drop n bytes)

-- a metadata record is whole
is_whole : (bytes rest : List ℕ) (first : ℕ) → length (take 16 bytes) ≡ 16 → bytes ≡ first ∷ rest → ltb (length rest) 15 ≡ false
is_whole bytes rest first whole is = le-ltb (length rest) 15 (omega (arith, length-take 16 bytes, ap length is))

-- one field at the start, and two
one_back : (n x : ℕ) (rest : List ℕ) → x < 256 ^ n → little_number n (little_bytes n x ++ rest) ≡ x
one_back n x rest fits = little_number-reads_back n x rest fits

two_back : (n m x y : ℕ) (rest : List ℕ) → y < 256 ^ m → little_number m (drop n ((little_bytes n x ++ little_bytes m y) ++ rest)) ≡ y
two_back n m x y rest fits =
    ap (λ (z : List ℕ). little_number m (drop n z)) (append_assoc (little_bytes n x) (little_bytes m y) rest)
    ∙ ap (little_number m) (drop_at (little_bytes n x) (little_bytes m y ++ rest) n (length-bytes_low_first 0 n x))
    ∙ little_number-reads_back m y rest fits

first_back : (n m x y : ℕ) (rest : List ℕ) → x < 256 ^ n → little_number n ((little_bytes n x ++ little_bytes m y) ++ rest) ≡ x
first_back n m x y rest fits = ap (little_number n) (append_assoc (little_bytes n x) (little_bytes m y) rest) ∙ little_number-reads_back n x (little_bytes m y ++ rest) fits

action_small : (kind : Kind) → action_of kind < 8
action_small Entry = lit< tt
action_small Exit = lit< tt
action_small TailExit = lit< tt
action_small EntryArgs = lit< tt

kind_again : (kind : Kind) → kind_read (action_of kind) ≡ Ok kind
kind_again Entry = refl
kind_again Exit = refl
kind_again TailExit = refl
kind_again EntryArgs = refl

abbrev Comes : Rec → List ℕ → Type 0
Comes r bytes = record_in bytes ≡ Ok r

pub told_again : (r : Rec) (bytes : List ℕ) → FieldsFit r → BeginsWith r bytes → record_in bytes ≡ Ok r
unfolding record_in function_record_at metadata_record_at
told_again (NewBuffer thread) bytes fits is =
    let e = unspelled 16 (told_by (NewBuffer thread)) is.filler bytes is.told in
    let rest = little_bytes 4 thread ++ (is.filler ++ drop 16 bytes) in
    let long = is_whole bytes rest 1 is.whole e in
    subst (Comes (NewBuffer thread)) (sym e) (rw (long, one_back 4 thread (is.filler ++ drop 16 bytes) fits) refl)
told_again (TscWrap tsc) bytes fits is =
    let e = unspelled 16 (told_by (TscWrap tsc)) is.filler bytes is.told in
    let following = is.filler ++ drop 16 bytes in
    let long = is_whole bytes (little_bytes 8 tsc ++ following) 7 is.whole e in
    subst (Comes (TscWrap tsc)) (sym e) (rw (long, one_back 8 tsc following fits) refl)
told_again (Pid pid) bytes fits is =
    let e = unspelled 16 (told_by (Pid pid)) is.filler bytes is.told in
    let following = is.filler ++ drop 16 bytes in
    let long = is_whole bytes (little_bytes 4 pid ++ following) 19 is.whole e in
    subst (Comes (Pid pid)) (sym e) (rw (long, one_back 4 pid following fits) refl)
told_again (CallArg value) bytes fits is =
    let e = unspelled 16 (told_by (CallArg value)) is.filler bytes is.told in
    let following = is.filler ++ drop 16 bytes in
    let long = is_whole bytes (little_bytes 8 value ++ following) 13 is.whole e in
    subst (Comes (CallArg value)) (sym e) (rw (long, one_back 8 value following fits) refl)
told_again (Extents size) bytes fits is =
    let e = unspelled 16 (told_by (Extents size)) is.filler bytes is.told in
    let following = is.filler ++ drop 16 bytes in
    let long = is_whole bytes (little_bytes 8 size ++ following) 15 is.whole e in
    subst (Comes (Extents size)) (sym e) (rw (long, one_back 8 size following fits) refl)
told_again (NewCpu cpu tsc) bytes fits is =
    let e = unspelled 16 (told_by (NewCpu cpu tsc)) is.filler bytes is.told in
    let following = is.filler ++ drop 16 bytes in
    let long = is_whole bytes ((little_bytes 2 cpu ++ little_bytes 8 tsc) ++ following) 5 is.whole e in
    subst (Comes (NewCpu cpu tsc)) (sym e) (rw (long, first_back 2 8 cpu tsc following fits.0, two_back 2 8 cpu tsc following fits.1) refl)
told_again (WallTime wall) bytes fits is =
    let e = unspelled 16 (told_by (WallTime wall)) is.filler bytes is.told in
    let following = is.filler ++ drop 16 bytes in
    let long = is_whole bytes ((little_bytes 8 wall.secs ++ little_bytes 4 wall.micros) ++ following) 9 is.whole e in
    subst (Comes (WallTime wall)) (sym e) (rw (long, first_back 8 4 wall.secs wall.micros following fits.0, two_back 8 4 wall.secs wall.micros following fits.1) refl)
told_again (Function kind func delta) bytes fits is =
    let e = unspelled 8 (told_by (Function kind func delta)) is.filler bytes is.told in
    let following = is.filler ++ drop 8 bytes in
    let head = head_of kind func in
    let action = action_small kind in
    let whole = (little_bytes 4 head ++ little_bytes 4 delta) ++ following in
    let long : ltb (length whole) 8 ≡ false = le-ltb (length whole) 8 (omega (arith, length-take 8 bytes, is.whole, ap length e)) in
    let even : eqb (head % 256 % 2) 0 ≡ true = eq-eqb (head % 256 % 2) 0 (omega arith) in
    let acted : head % 256 / 2 % 8 ≡ action_of kind = omega arith in
    let number = first_back 4 4 head delta following (omega (arith, fits.0)) in
    let id : head / 16 ≡ func = omega arith in
    subst (Comes (Function kind func delta)) (sym e) (rw (even, long, acted, kind_again kind, number, id, two_back 4 4 head delta following fits.1) refl)

abbrev HasLength : ℕ → List ℕ → Type 0
HasLength n bytes = record_length bytes ≡ n

-- the first byte of a record says its length
pub length_told : (r : Rec) (bytes : List ℕ) → FieldsFit r → BeginsWith r bytes → record_length bytes ≡ length_of r
length_told (NewBuffer thread) bytes fits is = subst (HasLength 16) (sym (unspelled 16 (told_by (NewBuffer thread)) is.filler bytes is.told)) refl
length_told (NewCpu cpu tsc) bytes fits is = subst (HasLength 16) (sym (unspelled 16 (told_by (NewCpu cpu tsc)) is.filler bytes is.told)) refl
length_told (TscWrap tsc) bytes fits is = subst (HasLength 16) (sym (unspelled 16 (told_by (TscWrap tsc)) is.filler bytes is.told)) refl
length_told (WallTime wall) bytes fits is = subst (HasLength 16) (sym (unspelled 16 (told_by (WallTime wall)) is.filler bytes is.told)) refl
length_told (Pid pid) bytes fits is = subst (HasLength 16) (sym (unspelled 16 (told_by (Pid pid)) is.filler bytes is.told)) refl
length_told (CallArg value) bytes fits is = subst (HasLength 16) (sym (unspelled 16 (told_by (CallArg value)) is.filler bytes is.told)) refl
length_told (Extents size) bytes fits is = subst (HasLength 16) (sym (unspelled 16 (told_by (Extents size)) is.filler bytes is.told)) refl
length_told (Function kind func delta) bytes fits is =
    let head = head_of kind func in
    let even : eqb (head % 256 % 2) 0 ≡ true = eq-eqb (head % 256 % 2) 0 (omega arith) in
    subst (HasLength 8) (sym (unspelled 8 (told_by (Function kind func delta)) is.filler bytes is.told)) (rw even refl)

pub refused_again : (f : RecFault) (bytes : List ℕ) → Refuses bytes f → record_in bytes ≡ Err f
unfolding record_in function_record_at metadata_record_at
refused_again f bytes is = grind (arith, common_steps)

-- the decoder's answer at a place
pub taken_is : (bytes : List ℕ) (at : ℕ) (answer : Result (Rec × ℕ) RecFault) → IfOk answer (λ x. FieldsFit x.0 × BeginsWith x.0 (drop at bytes) × (x.1 ≡ at + length_of x.0))
    → IfOk answer (λ x. (at < x.1) × (x.1 ≤ length bytes)) → IfErr answer (Refuses (drop at bytes)) → TakenAt bytes at answer
taken_is bytes at (Ok (r, next)) found on fault =
    (told_again r (drop at bytes) found.0 found.1, found.2 ∙ ap (λ (n : ℕ). at + n) (sym (length_told r (drop at bytes) found.0 found.1)), found.2, on.1, on.0)
taken_is bytes at (Err f) found on fault = refused_again f (drop at bytes) fault
