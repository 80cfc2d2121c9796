-- Records before arguments.
use Rattle.std.proofs.Common.{◌≡◌, ℕ, ◌<◌, ◌≤◌, ◌/◌, ◌%◌, Bool, true, false, cond, eqb, ltb, List, [], ◌∷◌, length, drop, slice_index, Result, Ok, Err, refl, sym, ap, ◌∙◌, arith}
use Rattle.std.proofs.lemmas.Bool.{eqb-true, eqb-false}
use Rattle.std.proofs.lemmas.List.{get_or-drop, length-drop}
use Rattle.byteorder.specs.Endian.{little_number}
use Rattle.xray_io.specs.Rows.{◌>>=◌}
use Rattle.fdr_record.specs.declared.event.Kind.{Kind}
use Rattle.fdr_record.specs.declared.event.Kind.TheVariants.{Entry, Exit, TailExit, EntryArgs}
use Rattle.fdr_record.specs.declared.fault.RecFault.{RecFault}
use Rattle.fdr_record.specs.declared.fault.RecFault.TheVariants as decoder_faults
use Rattle.fdr_record.specs.declared.rec.Rec.{Rec}
use Rattle.fdr_record.specs.declared.rec.Rec.TheVariants.{NewBuffer, NewCpu, TscWrap, WallTime, Pid, CallArg, Extents, Function}
use Rattle.fdr_record.specs.Reading.{fields_read, function_record_at, kind_read, metadata_record_at}
use Rattle.fdr_file.specs.Traces.{record_in, record_length, size_named}
use Rattle.runtime_log.specs.Arguments.{arg_follows, found_arg, found_before, kind_before, rec_before, traced_in}

-- ---- no argument follows

kind_alone : (kind : Kind) → kind_before false kind ≡ kind
kind_alone Entry = refl
kind_alone Exit = refl
kind_alone TailExit = refl
kind_alone EntryArgs = refl

pub rec_alone : (r : Rec) → rec_before false r ≡ r
rec_alone (NewBuffer thread) = refl
rec_alone (NewCpu cpu tsc) = refl
rec_alone (TscWrap tsc) = refl
rec_alone (WallTime wall) = refl
rec_alone (Pid pid) = refl
rec_alone (CallArg value) = refl
rec_alone (Extents size) = refl
rec_alone (Function kind func delta) = ap (λ (k : Kind). let r : Rec = Function k func delta in r) (kind_alone kind)

-- ---- other records

-- a record that is no function record was the same
pub rec_other : (follows : Bool) (s r : Rec) → ((kind : Kind) (func delta : ℕ) → r ≡ Function kind func delta → ⊥) → rec_before follows s ≡ r → s ≡ r
rec_other follows (NewBuffer thread) r other is = is
rec_other follows (NewCpu cpu tsc) r other is = is
rec_other follows (TscWrap tsc) r other is = is
rec_other follows (WallTime wall) r other is = is
rec_other follows (Pid pid) r other is = is
rec_other follows (CallArg value) r other is = is
rec_other follows (Extents size) r other is = is
rec_other follows (Function kind func delta) r other is = absurd (other (kind_before follows kind) func delta (sym is))

pub size_before : (follows : Bool) (r : Rec) → size_named (rec_before follows r) ≡ size_named r
size_before follows (NewBuffer thread) = refl
size_before follows (NewCpu cpu tsc) = refl
size_before follows (TscWrap tsc) = refl
size_before follows (WallTime wall) = refl
size_before follows (Pid pid) = refl
size_before follows (CallArg value) = refl
size_before follows (Extents size) = refl
size_before follows (Function kind func delta) = refl

-- ---- by the first bytes

no_more : (from : ℕ) (bytes : List ℕ) → length bytes ≤ from → found_arg (record_in (drop from bytes)) ≡ false
unfolding record_in
no_more from bytes few = by_bytes (drop from bytes) (omega (arith, length-drop from bytes, few))
  where
    by_bytes : (xs : List ℕ) → length xs ≡ 0 → found_arg (record_in xs) ≡ false
    by_bytes [] none = refl
    by_bytes (x ∷ xs) none = absurd (omega (arith, none))

pub none_follows : (bytes : List ℕ) → length bytes ≤ record_length bytes → arg_follows bytes ≡ false
none_follows bytes few = no_more (record_length bytes) bytes few

-- an argument begins with this byte
arg_byte : (bytes : List ℕ) → found_arg (record_in bytes) ≡ true → (slice_index bytes 0 ≡ 13) × (0 < length bytes)
unfolding record_in function_record_at metadata_record_at
arg_byte [] is = absurd cc
arg_byte (first ∷ rest) is = (by_parity (eqb (first % 2) 0) refl is, omega arith)
  where
    by_kind : (k : Result Kind RecFault) → found_arg (k >>= λ kind. Ok (Function kind (little_number 4 (first ∷ rest) / 16) (little_number 4 (drop 4 (first ∷ rest))))) ≡ true → first ≡ 13
    by_kind (Ok kind) e = absurd cc
    by_kind (Err fault) e = absurd cc

    by_few : (b : Bool) → found_arg (cond b (Err decoder_faults.Short) (kind_read (first / 2 % 8) >>= λ kind. Ok (Function kind (little_number 4 (first ∷ rest) / 16) (little_number 4 (drop 4 (first ∷ rest)))))) ≡ true → first ≡ 13
    by_few true e = absurd cc
    by_few false e = by_kind (kind_read (first / 2 % 8)) e

    by_six : eqb (first % 2) 0 ≡ false → (a b c d e f g : Bool) → eqb (first / 2) 6 ≡ e
        → found_arg (cond a (Ok (NewBuffer (little_number 4 rest))) (cond b (Ok (NewCpu (little_number 2 rest) (little_number 8 (drop 2 rest)))) (cond c (Ok (TscWrap (little_number 8 rest)))
        (cond d (Ok (WallTime (record { secs = little_number 8 rest; micros = little_number 4 (drop 8 rest) }))) (cond e (Ok (CallArg (little_number 8 rest)))
        (cond f (Ok (Extents (little_number 8 rest))) (cond g (Ok (Pid (little_number 4 rest))) (Err (decoder_faults.Kind (first / 2)))))))))) ≡ true → first ≡ 13
    by_six odd true b c d e f g six h = absurd cc
    by_six odd false true c d e f g six h = absurd cc
    by_six odd false false true d e f g six h = absurd cc
    by_six odd false false false true e f g six h = absurd cc
    by_six odd false false false false true f g six h =
        let half = eqb-true (first / 2) 6 six in
        let other = eqb-false (first % 2) 0 odd in
        omega (arith, half, other)
    by_six odd false false false false false true g six h = absurd cc
    by_six odd false false false false false false true six h = absurd cc
    by_six odd false false false false false false false six h = absurd cc

    by_short : eqb (first % 2) 0 ≡ false → (b : Bool) → found_arg (cond b (Err decoder_faults.Short) (fields_read (first / 2) rest)) ≡ true → first ≡ 13
    by_short odd true e = absurd cc
    by_short odd false e = by_six odd (eqb (first / 2) 0) (eqb (first / 2) 2) (eqb (first / 2) 3) (eqb (first / 2) 4) (eqb (first / 2) 6) (eqb (first / 2) 7) (eqb (first / 2) 9) refl e

    by_parity : (b : Bool) → eqb (first % 2) 0 ≡ b
        → found_arg (cond b (cond (ltb (length (first ∷ rest)) 8) (Err decoder_faults.Short) (kind_read (first / 2 % 8) >>= λ kind. Ok (Function kind (little_number 4 (first ∷ rest) / 16) (little_number 4 (drop 4 (first ∷ rest))))))
        (cond (ltb (length rest) 15) (Err decoder_faults.Short) (fields_read (first / 2) rest))) ≡ true → first ≡ 13
    by_parity true even e = by_few (ltb (length (first ∷ rest)) 8) e
    by_parity false odd e = by_short odd (ltb (length rest) 15) e

-- an entry without an argument begins with a byte whose low bits are 0
entry_byte : (bytes : List ℕ) (func delta : ℕ) → record_in bytes ≡ Ok (Function Entry func delta) → (slice_index bytes 0 % 16 ≡ 0) × (record_length bytes ≡ 8)
unfolding record_in function_record_at metadata_record_at
entry_byte [] func delta is = absurd cc
entry_byte (first ∷ rest) func delta is = by_parity (eqb (first % 2) 0) refl is
  where
    Goal : Type 0
    Goal = (first % 16 ≡ 0) × ◌≡◌ {A = ℕ} (cond (eqb (first % 2) 0) 8 16) 8

    entry : Result Rec RecFault
    entry = Ok (Function Entry func delta)

    by_action : eqb (first % 2) 0 ≡ true → (a b c d : Bool) → eqb (first / 2 % 8) 0 ≡ a
        → (cond a (Ok Entry) (cond b (Ok Exit) (cond c (Ok TailExit) (cond d (Ok EntryArgs) (Err (decoder_faults.Action (first / 2 % 8))))))
        >>= λ kind. Ok (Function kind (little_number 4 (first ∷ rest) / 16) (little_number 4 (drop 4 (first ∷ rest))))) ≡ entry → Goal
    by_action even true b c d zero_is h =
        let action = eqb-true (first / 2 % 8) 0 zero_is in
        let parity = eqb-true (first % 2) 0 even in
        (omega (arith, action, parity), ap (λ (t : Bool). cond {A = ℕ} t 8 16) even)
    by_action even false true c d zero_is h = absurd cc
    by_action even false false true d zero_is h = absurd cc
    by_action even false false false true zero_is h = absurd cc
    by_action even false false false false zero_is h = absurd cc

    by_few : eqb (first % 2) 0 ≡ true → (b : Bool) → cond b (Err decoder_faults.Short) (kind_read (first / 2 % 8) >>= λ kind. Ok (Function kind (little_number 4 (first ∷ rest) / 16) (little_number 4 (drop 4 (first ∷ rest))))) ≡ entry → Goal
    by_few even true h = absurd cc
    by_few even false h = by_action even (eqb (first / 2 % 8) 0) (eqb (first / 2 % 8) 1) (eqb (first / 2 % 8) 2) (eqb (first / 2 % 8) 3) refl h

    by_fields : (a b c d e f g : Bool)
        → cond a (Ok (NewBuffer (little_number 4 rest))) (cond b (Ok (NewCpu (little_number 2 rest) (little_number 8 (drop 2 rest)))) (cond c (Ok (TscWrap (little_number 8 rest)))
        (cond d (Ok (WallTime (record { secs = little_number 8 rest; micros = little_number 4 (drop 8 rest) }))) (cond e (Ok (CallArg (little_number 8 rest)))
        (cond f (Ok (Extents (little_number 8 rest))) (cond g (Ok (Pid (little_number 4 rest))) (Err (decoder_faults.Kind (first / 2))))))))) ≡ entry → ⊥
    by_fields true b c d e f g h = absurd cc
    by_fields false true c d e f g h = absurd cc
    by_fields false false true d e f g h = absurd cc
    by_fields false false false true e f g h = absurd cc
    by_fields false false false false true f g h = absurd cc
    by_fields false false false false false true g h = absurd cc
    by_fields false false false false false false true h = absurd cc
    by_fields false false false false false false false h = absurd cc

    by_short : (b : Bool) → cond b (Err decoder_faults.Short) (fields_read (first / 2) rest) ≡ entry → ⊥
    by_short true h = absurd cc
    by_short false h = by_fields (eqb (first / 2) 0) (eqb (first / 2) 2) (eqb (first / 2) 3) (eqb (first / 2) 4) (eqb (first / 2) 6) (eqb (first / 2) 7) (eqb (first / 2) 9) h

    by_parity : (b : Bool) → eqb (first % 2) 0 ≡ b
        → cond b (cond (ltb (length (first ∷ rest)) 8) (Err decoder_faults.Short) (kind_read (first / 2 % 8) >>= λ kind. Ok (Function kind (little_number 4 (first ∷ rest) / 16) (little_number 4 (drop 4 (first ∷ rest))))))
        (cond (ltb (length rest) 15) (Err decoder_faults.Short) (fields_read (first / 2) rest)) ≡ entry → Goal
    by_parity true even h = by_few even (ltb (length (first ∷ rest)) 8) h
    by_parity false odd h = absurd (by_short (ltb (length rest) 15) h)

-- bytes that begin with no entry of action 0 before an argument, by the first bytes of both
pub never_argued : (bytes : List ℕ) → (8 < length bytes → slice_index bytes 0 % 16 ≡ 0 → slice_index bytes 8 ≡ 13 → ⊥) → traced_in bytes ≡ record_in bytes
never_argued bytes never = by_found (record_in bytes) refl
  where
    by_follows : (func delta : ℕ) → record_in bytes ≡ Ok (Function Entry func delta) → (b : Bool) → arg_follows bytes ≡ b → rec_before b (Function Entry func delta) ≡ Function Entry func delta
    by_follows func delta e false f = refl
    by_follows func delta e true f =
        let entry = entry_byte bytes func delta e in
        let behind : found_arg (record_in (drop 8 bytes)) ≡ true = ap (λ (n : ℕ). found_arg (record_in (drop n bytes))) (sym entry.1) ∙ f in
        let arg = arg_byte (drop 8 bytes) behind in
        absurd (never (omega (arith, length-drop 8 bytes, arg.1)) entry.0 (sym (get_or-drop 8 bytes 0 0) ∙ arg.0))

    by_rec : (r : Rec) → record_in bytes ≡ Ok r → rec_before (arg_follows bytes) r ≡ r
    by_rec (NewBuffer thread) e = refl
    by_rec (NewCpu cpu tsc) e = refl
    by_rec (TscWrap tsc) e = refl
    by_rec (WallTime wall) e = refl
    by_rec (Pid pid) e = refl
    by_rec (CallArg value) e = refl
    by_rec (Extents size) e = refl
    by_rec (Function Entry func delta) e = by_follows func delta e (arg_follows bytes) refl
    by_rec (Function Exit func delta) e = refl
    by_rec (Function TailExit func delta) e = refl
    by_rec (Function EntryArgs func delta) e = refl

    by_found : (x : Result Rec RecFault) → record_in bytes ≡ x → found_before (arg_follows bytes) x ≡ x
    by_found (Err fault) e = refl
    by_found (Ok r) e = ap (λ (s : Rec). let y : Result Rec RecFault = Ok s in y) (by_rec r e)

pub short_alone : (bytes : List ℕ) → length bytes ≤ 8 → traced_in bytes ≡ record_in bytes
short_alone bytes few = never_argued bytes (λ long even arg. omega (arith, few, long))

pub other_alone : (bytes : List ℕ) → (slice_index bytes 0 % 16 ≡ 0 → ⊥) → traced_in bytes ≡ record_in bytes
other_alone bytes other = never_argued bytes (λ long even arg. other even)

pub unfollowed_alone : (bytes : List ℕ) → eqb (slice_index bytes 8) 13 ≡ false → traced_in bytes ≡ record_in bytes
unfollowed_alone bytes other = never_argued bytes (λ long even arg. eqb-false (slice_index bytes 8) 13 other arg)

pub nothing_found : found_arg (record_in []) ≡ false
unfolding record_in
nothing_found = refl
