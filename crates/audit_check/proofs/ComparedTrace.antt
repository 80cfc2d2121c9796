-- A trace that is compared with bytes.
use Rattle.std.proofs.Common.{◌≡◌, ◌≢◌, ℕ, Bool, true, false, List, [], ◌++◌, length, Some, refl, sym, ap, subst, ◌∙◌, append-nil, append_assoc, eq-eqb, eqb-true}
use Rattle.std.specs.Prelude.{◌==◌, ◌&&◌, ◌↔◌, IsTrue}
use Rattle.std.proofs.lemmas.List.{append_cancel_left, nil_from_length}
use Rattle.std.proofs.lemmas.Option.{same_Some}
use Rattle.xray_io.specs.Sink.{Adds}
use Rattle.fdr_record.specs.declared.rec.Rec.TheVariants.{Extents}
use Rattle.fdr_record.specs.Records.{record_bytes}
use Rattle.fdr_buffer.specs.Filled.{Filled, used_bytes}
use Rattle.fdr_file.specs.Files.{block_bytes}
use Rattle.audit_check.specs.declared.blocks.TraceLeft.{TraceLeft}
use Rattle.audit_check.specs.private.Blocks.{HasCompared}

-- before any bytes
pub compared_none : (trace : List ℕ) (t : TraceLeft) → t.left.now ≡ trace → t.same ≡ true → HasCompared trace [] t
compared_none trace t left same = record {
  same = λ e. sym left;
  other = λ e. absurd (let q : true ≡ false = sym same ∙ e in cc);
}

-- it goes on with the bytes, or another one was there before
pub goes_on : (trace before bytes : List ℕ) (old new : TraceLeft) → HasCompared trace before old → old.left.now ≡ bytes ++ new.left.now
    → new.same ≡ old.same → HasCompared trace (before ++ bytes) new
goes_on trace before bytes old new has is same = record {
  same = λ e. has.same (sym same ∙ e) ∙ (ap (λ (l : List ℕ). before ++ l) is ∙ sym (append_assoc before bytes new.left.now));
  other = λ e rest all. has.other (sym same ∙ e) (bytes ++ rest) (all ∙ append_assoc before bytes rest);
}

-- it doesn't
pub differs : (trace before bytes : List ℕ) (old new : TraceLeft) → HasCompared trace before old → ((rest : List ℕ) → old.left.now ≢ bytes ++ rest)
    → new.same ≡ false → HasCompared trace (before ++ bytes) new
differs trace before bytes old new has unlike other = record {
  same = λ e. absurd (let q : true ≡ false = sym e ∙ other in cc);
  other = λ e rest. by rest old.same refl;
}
  where
    by : (rest : List ℕ) (b : Bool) → old.same ≡ b → trace ≢ (before ++ bytes) ++ rest
    by rest false e is = has.other e (bytes ++ rest) (is ∙ append_assoc before bytes rest)
    by rest true e is =
        unlike rest (append_cancel_left before old.left.now (bytes ++ rest) (sym (has.same e) ∙ (is ∙ append_assoc before bytes rest)))

-- it is compared with both parts of bytes
pub both_parts : (trace before first second : List ℕ) (t : TraceLeft) → HasCompared trace ((before ++ first) ++ second) t
    → HasCompared trace (before ++ (first ++ second)) t
both_parts trace before first second t has = subst (λ (l : List ℕ). HasCompared trace l t) (append_assoc before first second) has

-- what was written to an empty sink is all that it holds
pub all_written : (old new text : List ℕ) → old ≡ [] → Adds (Some old) (Some new) text → new ≡ text
all_written old new text none adds = same_Some new (old ++ text) adds.told ∙ ap (λ (l : List ℕ). l ++ text) none

-- the block of a buffer
pub block_is : (buffer : Filled) (extents bytes : List ℕ) (size : ℕ) → bytes ≡ used_bytes buffer → size ≡ length bytes → extents ≡ record_bytes (Extents size)
    → extents ++ bytes ≡ block_bytes buffer
block_is buffer extents bytes size are count is =
    ap (λ (l : List ℕ). l ++ bytes) (is ∙ ap (λ n. record_bytes (Extents n)) (count ∙ ap length are))
    ∙ ap (λ (l : List ℕ). record_bytes (Extents (length (used_bytes buffer))) ++ l) are

-- no bytes are left
pub none_left : (bytes : List ℕ) (empty : Bool) → empty ≡ (length bytes == 0) → IsTrue empty ↔ (bytes ≡ [])
none_left bytes empty is = (
  (λ done. nil_from_length bytes (eqb-true (length bytes) 0 (sym is ∙ done))),
  (λ none. is ∙ eq-eqb (length bytes) 0 (ap length none)),
)

-- it is all of the bytes
pub is_all : (trace bytes : List ℕ) (t : TraceLeft) (empty : Bool) → IsTrue empty ↔ (t.left.now ≡ []) → HasCompared trace bytes t
    → IsTrue (t.same && empty) ↔ (trace ≡ bytes)
is_all trace bytes t empty decides has = by t.same refl
  where
    by : (b : Bool) → t.same ≡ b → IsTrue (b && empty) ↔ (trace ≡ bytes)
    by true e = (
      (λ done. has.same e ∙ (ap (λ (l : List ℕ). bytes ++ l) (decides.0 done) ∙ append-nil bytes)),
      (λ is. decides.1 (append_cancel_left bytes t.left.now [] (sym (has.same e) ∙ (is ∙ sym (append-nil bytes))))),
    )
    by false e = ((λ done. absurd (let q : false ≡ true = done in cc)), λ is. absurd (has.other e [] (is ∙ sym (append-nil bytes))))
