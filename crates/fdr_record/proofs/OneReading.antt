-- What is read from bytes is an answer to them.
use Rattle.std.proofs.Common.{rules, ◌≡◌, ◌≢◌, ℕ, ◌+◌, ◌*◌, ◌/◌, ◌%◌, ◌<◌, ◌≤◌, ltb, List, [], ◌∷◌, ◌++◌, length, get_or, take, drop, Result, Ok, Err, refl, sym, ap, ◌∙◌, arith, inl, inr}
use Rattle.std.proofs.lemmas.Bool.{cases_Bool, ltb-false, ltb-true, ne_eqb}
use Rattle.std.proofs.lemmas.Bool.Decides.{eqb_tells}
use Rattle.std.proofs.lemmas.List.{length-take, length-drop}
use Rattle.std.proofs.lemmas.List.Elements.{All-drop, All-tail}
use Rattle.std.proofs.Math.Seq.{take-add}
use Rattle.byteorder.specs.Endian.{little_bytes, little_number}
use Rattle.fdr_record.specs.declared.event.Kind.{Kind}
use Rattle.fdr_record.specs.declared.event.Kind.TheVariants.{Entry, Exit, TailExit, EntryArgs}
use Rattle.fdr_record.specs.declared.rec.Rec.{Rec}
use Rattle.fdr_record.specs.declared.rec.Rec.TheVariants.{NewBuffer, NewCpu, TscWrap, WallTime, Pid, CallArg, Extents, Function}
use Rattle.fdr_record.specs.declared.fault.RecFault.{RecFault}
use Rattle.fdr_record.specs.declared.fault.RecFault.TheVariants as faults
use Rattle.fdr_record.specs.Records.{BeginsWith, action_of, first_of, head_of, length_of, told_by}
use Rattle.fdr_record.specs.Refusals.{Answers}
use Rattle.fdr_record.specs.Reading.{function_record_at, fields_read, metadata_record_at}
use Rattle.fdr_record.proofs.Fields.{IsBytes, field_2, field_4, field_8}

-- the first bytes of a function record
head_is : (first action : ℕ) (rest : List ℕ) → first % 2 ≡ 0 → first / 2 % 8 ≡ action → 2 * action + 16 * (little_number 4 (first ∷ rest) / 16) ≡ little_number 4 (first ∷ rest)
head_is first action rest even is = omega arith

-- two fields, one after the other, and the bytes after them
two_fields : (n m k a b : ℕ) (bytes : List ℕ) → little_bytes n a ≡ take n bytes → little_bytes m b ≡ take m (drop n bytes) → take (n + m + k) bytes ≡ (little_bytes n a ++ little_bytes m b) ++ take k (drop (n + m) bytes)
two_fields n m k a b bytes first second =
    take-add (n + m) k bytes ∙ ap (λ (x : List ℕ). x ++ take k (drop (n + m) bytes)) (take-add n m bytes ∙ rw (first, second) refl)

function_spelled : (kind : Kind) (first : ℕ) (rest : List ℕ) → IsBytes (first ∷ rest) → first % 2 ≡ 0 → first / 2 % 8 ≡ action_of kind → 8 ≤ length (first ∷ rest)
    → Answers (first ∷ rest) (Ok (Function kind (little_number 4 (first ∷ rest) / 16) (little_number 4 (drop 4 (first ∷ rest)))))
function_spelled kind first rest fits even is long =
    let bytes = first ∷ rest in
    let front = field_4 bytes (omega arith) fits in
    let delta = field_4 (drop 4 bytes) (omega (arith, length-drop 4 bytes)) (All-drop (λ b. b < 256) 4 bytes fits) in
    let head = head_is first (action_of kind) rest even is in
    let number = little_number 4 bytes in (
      (omega (arith, front.fits), delta.fits),
      record {
        filler = [];
        told = two_fields 4 4 0 (head_of kind (number / 16)) (little_number 4 (drop 4 bytes)) bytes (ap (little_bytes 4) head ∙ front.back) delta.back;
        whole = omega (arith, length-take 8 bytes);
      },
    )

function_holds : (first : ℕ) (rest : List ℕ) → IsBytes (first ∷ rest) → first % 2 ≡ 0 → Answers (first ∷ rest) (function_record_at first (first ∷ rest))
unfolding function_record_at
function_holds first rest fits even =
    elim (cases_Bool (ltb (length (first ∷ rest)) 8)) [
      | inl short ↦
          let lt = ltb-true (length (first ∷ rest)) 8 short in
          rw (short, even) lt
      | inr long ↦
          let le = ltb-false (length (first ∷ rest)) 8 long in
          let action = first / 2 % 8 in
          elim (eqb_tells action 0) [
            | inl entry ↦ rw (long, entry.0) (function_spelled Entry first rest fits even entry.1 le)
            | inr not_entry ↦ elim (eqb_tells action 1) [
              | inl exit ↦ rw (long, not_entry.0, exit.0) (function_spelled Exit first rest fits even exit.1 le)
              | inr not_exit ↦ elim (eqb_tells action 2) [
                | inl tail ↦ rw (long, not_entry.0, not_exit.0, tail.0) (function_spelled TailExit first rest fits even tail.1 le)
                | inr not_tail ↦ elim (eqb_tells action 3) [
                  | inl args ↦ rw (long, not_entry.0, not_exit.0, not_tail.0, args.0) (function_spelled EntryArgs first rest fits even args.1 le)
                  | inr not_args ↦ rw (long, not_entry.0, not_exit.0, not_tail.0, not_args.0) (record { function = even; whole = le; action = refl }, omega arith)
                ]
              ]
            ]
          ]
    ]

-- one field, and the bytes after it
one_field : (n k a : ℕ) (bytes : List ℕ) → little_bytes n a ≡ take n bytes → take (n + k) bytes ≡ little_bytes n a ++ take k (drop n bytes)
one_field n k a bytes is = take-add n k bytes ∙ rw is refl

-- a first byte, and what is spelled after it
after_first : (a b : ℕ) (xs ys : List ℕ) → a ≡ b → xs ≡ ys → a ∷ xs ≡ b ∷ ys
after_first a b xs ys e f = rw (e, f) refl

-- a record of 16 bytes is spelled if its fields are, after its first byte
spelled : (r : Rec) (first head : ℕ) (rest fields filler : List ℕ) → length_of r ≡ 16 → told_by r ≡ head ∷ fields → first ≡ head → 15 ≤ length rest → take 15 rest ≡ fields ++ filler → BeginsWith r (first ∷ rest)
spelled r first head rest fields filler size told is long parts = record {
  filler = filler;
  told = ap (λ (n : ℕ). take n (first ∷ rest)) size ∙ after_first first head (take 15 rest) (fields ++ filler) is parts ∙ ap (λ (xs : List ℕ). xs ++ filler) (sym told);
  whole = omega (arith, length-take (length_of r) (first ∷ rest), size);
}

fields_hold : (kind first : ℕ) (rest : List ℕ) → IsBytes rest → first ≡ first_of kind → 15 ≤ length rest → Answers (first ∷ rest) (fields_read kind rest)
fields_hold kind first rest fits is long =
    let word = field_4 rest (omega arith) fits in
    let long_word = field_8 rest (omega arith) fits in
    elim (eqb_tells kind 0) [
      | inl e ↦ rw e.0 (word.fits, spelled (NewBuffer _) first _ rest _ _ refl refl (omega arith) long (one_field 4 11 _ rest word.back))
      | inr not_0 ↦ elim (eqb_tells kind 2) [
        | inl e ↦
            let cpu = field_2 rest (omega arith) fits in
            let tsc = field_8 (drop 2 rest) (omega (arith, length-drop 2 rest)) (All-drop (λ b. b < 256) 2 rest fits) in
            rw (not_0.0, e.0) ((cpu.fits, tsc.fits), spelled (NewCpu _ _) first _ rest _ _ refl refl (omega arith) long (two_fields 2 8 5 _ _ rest cpu.back tsc.back))
        | inr not_2 ↦ elim (eqb_tells kind 3) [
          | inl e ↦ rw (not_0.0, not_2.0, e.0) (long_word.fits, spelled (TscWrap _) first _ rest _ _ refl refl (omega arith) long (one_field 8 7 _ rest long_word.back))
          | inr not_3 ↦ elim (eqb_tells kind 4) [
            | inl e ↦
                let micros = field_4 (drop 8 rest) (omega (arith, length-drop 8 rest)) (All-drop (λ b. b < 256) 8 rest fits) in
                rw (not_0.0, not_2.0, not_3.0, e.0) ((long_word.fits, micros.fits), spelled (WallTime _) first _ rest _ _ refl refl (omega arith) long (two_fields 8 4 3 _ _ rest long_word.back micros.back))
            | inr not_4 ↦ elim (eqb_tells kind 6) [
              | inl e ↦ rw (not_0.0, not_2.0, not_3.0, not_4.0, e.0) (long_word.fits, spelled (CallArg _) first _ rest _ _ refl refl (omega arith) long (one_field 8 7 _ rest long_word.back))
              | inr not_6 ↦ elim (eqb_tells kind 7) [
                | inl e ↦ rw (not_0.0, not_2.0, not_3.0, not_4.0, not_6.0, e.0) (long_word.fits, spelled (Extents _) first _ rest _ _ refl refl (omega arith) long (one_field 8 7 _ rest long_word.back))
                | inr not_7 ↦ elim (eqb_tells kind 9) [
                  | inl e ↦ rw (not_0.0, not_2.0, not_3.0, not_4.0, not_6.0, not_7.0, e.0) (word.fits, spelled (Pid _) first _ rest _ _ refl refl (omega arith) long (one_field 4 11 _ rest word.back))
                  | inr not_9 ↦ rw (not_0.0, not_2.0, not_3.0, not_4.0, not_6.0, not_7.0, not_9.0) (
                    record {
                      metadata = omega arith;
                      whole = omega arith;
                      kind = omega arith;
                    },
                    search rules,
                  )
                ]
              ]
            ]
          ]
        ]
      ]
    ]

metadata_holds : (first : ℕ) (rest : List ℕ) → IsBytes (first ∷ rest) → first % 2 ≢ 0 → Answers (first ∷ rest) (metadata_record_at (first / 2) rest)
unfolding metadata_record_at
metadata_holds first rest fits odd =
    elim (cases_Bool (ltb (length rest) 15)) [
      | inl short ↦
          let lt = ltb-true (length rest) 15 short in
          let is_odd = ne_eqb (first % 2) 0 odd in
          rw (short, is_odd) (omega arith)
      | inr long ↦
          let le = ltb-false (length rest) 15 long in
          rw long (fields_hold (first / 2) first rest (All-tail (λ b. b < 256) first rest fits) (omega arith) le)
    ]

-- what is read from bytes, by their first byte
pub function_answers : (bytes : List ℕ) → IsBytes bytes → 1 ≤ length bytes → get_or bytes 0 0 % 2 ≡ 0 → Answers bytes (function_record_at (get_or bytes 0 0) bytes)
function_answers [] fits some even = absurd (omega arith)
function_answers (first ∷ rest) fits some even = function_holds first rest fits even

pub metadata_answers : (bytes : List ℕ) → IsBytes bytes → 1 ≤ length bytes → get_or bytes 0 0 % 2 ≢ 0 → Answers bytes (metadata_record_at (get_or bytes 0 0 / 2) (drop 1 bytes))
metadata_answers [] fits some odd = absurd (omega arith)
metadata_answers (first ∷ rest) fits some odd = metadata_holds first rest fits odd

pub some_answer : (bytes : List ℕ) → IsBytes bytes → (a : Result Rec RecFault) × Answers bytes a
some_answer [] fits = (Err faults.Short, tt)
some_answer (first ∷ rest) fits =
    elim (eqb_tells (first % 2) 0) [
      | inl even ↦ (function_record_at first (first ∷ rest), function_holds first rest fits even.1)
      | inr odd ↦ (metadata_record_at (first / 2) rest, metadata_holds first rest fits odd.1)
    ]
