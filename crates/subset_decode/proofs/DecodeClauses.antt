-- From what the reading gives to the clauses of `decode`.
use Rattle.std.proofs.Common.{◌≡◌, ℕ, ◌+◌, ◌-◌, ◌<◌, ◌≤◌, List, length, get_or, take, drop, Fits, w8, Result, Ok, Err, sym, ap, subst, ltb, inl, inr, ◌∙◌, lit<, arith}
use Rattle.std.proofs.lemmas.Bool.{cases_Bool}
use Rattle.std.proofs.lemmas.List.{length-append, length-drop, take_rest}
use Rattle.subset_decode.specs.declared.instr.Instr.{Instr}
use Rattle.subset_decode.specs.declared.instr.Instr.TheVariants.{Mov, Add, Sub, Push, Pop, Call, Jmp, Jnz, Ret, Out}
use Rattle.subset_decode.specs.declared.fault.DecodeFault.{DecodeFault}
use Rattle.subset_decode.specs.Encoding.{opcode_of, spelling, IsNamed, Begins}
use Rattle.subset_decode.specs.Refusals.{Refuses, Answers}
use Rattle.subset_decode.specs.Reading.{◌>>=◌, Read, instr_at, first_instr}
use Rattle.subset_decode.proofs.Fields.{IsBytes-drop}
use Rattle.subset_decode.proofs.OneAnswer.{same_answer}
use Rattle.subset_decode.proofs.TrueAnswers.{found, refused}

-- an instruction stands at the place, and the next place is the one after it
pub record StandsAt (bytes : List ℕ) (at : ℕ) (i : Instr) (next : ℕ) : Type 0 where
  pub named : IsNamed i
  pub begins : Begins (spelling i) (drop at bytes)
  pub next_is : next ≡ at + length (spelling i)
  pub following : at < next
  pub within : next ≤ length bytes

-- what the decoder gives for the bytes from the place on
abbrev pub ReadsAt : List ℕ → ℕ → Read Instr → Type 0
ReadsAt bytes at read = instr_at (take (length bytes - at) (drop at bytes)) ≡ read

abbrev pub FitBytes : List ℕ → Type 0
FitBytes bytes = (k : ℕ) → Fits w8 (get_or bytes k 0)

opcode_not_empty : (opcode n : ℕ) → 0 < length (opcode_of opcode n)
opcode_not_empty opcode n =
    elim (cases_Bool (ltb n 8)) [
      | inl low ↦ rw low (lit< tt)
      | inr high ↦ rw high (lit< tt)
    ]

spelling_not_empty : (i : Instr) → 0 < length (spelling i)
spelling_not_empty (Mov dst imm) = simp length-append (omega arith)
spelling_not_empty (Add dst src) = lit< tt
spelling_not_empty (Sub dst src) = lit< tt
spelling_not_empty (Push reg) = opcode_not_empty 0x50 reg
spelling_not_empty (Pop reg) = opcode_not_empty 0x58 reg
spelling_not_empty (Call rel) = lit< tt
spelling_not_empty (Jmp rel) = lit< tt
spelling_not_empty (Jnz rel) = lit< tt
spelling_not_empty Ret = lit< tt
spelling_not_empty (Out port) = lit< tt

pub stands : (bytes : List ℕ) (at : ℕ) (i : Instr) (rest : List ℕ) → at ≤ length bytes → FitBytes bytes → ReadsAt bytes at (Ok (i, rest))
    → (length rest ≤ length bytes) × StandsAt bytes at i (length bytes - length rest)
stands bytes at i rest within fits e =
    let f = found (drop at bytes) i rest (IsBytes-drop at bytes (λ k. (fits k).fits)) (ap instr_at (sym (take_rest bytes at)) ∙ e) in
    let parts = simp length-append at (ap length f.1) in (
      omega (arith, parts, length-drop at bytes),
      record {
        named = f.0;
        begins = (rest, f.1);
        next_is = omega (arith, parts, length-drop at bytes);
        following = omega (arith, parts, length-drop at bytes, spelling_not_empty i);
        within = omega arith;
      },
    )

pub refuses : (bytes : List ℕ) (at : ℕ) (f : DecodeFault) → FitBytes bytes → ReadsAt bytes at (Err f) → Refuses (drop at bytes) f
refuses bytes at f fits e =
    refused (drop at bytes) f (IsBytes-drop at bytes (λ k. (fits k).fits)) (ap instr_at (sym (take_rest bytes at)) ∙ e)

-- the same, for the first instruction only
first_is : (bytes : List ℕ) (at : ℕ) (read : Read Instr) → ReadsAt bytes at read → first_instr (drop at bytes) ≡ (read >>= λ i. Ok i.0)
first_is bytes at read e = ap (λ (r : Read Instr). r >>= λ i. Ok i.0) (ap instr_at (sym (take_rest bytes at)) ∙ e)

pub first_found : (bytes : List ℕ) (at : ℕ) (i : Instr) (rest : List ℕ) → ReadsAt bytes at (Ok (i, rest)) → first_instr (drop at bytes) ≡ Ok i
first_found bytes at i rest e = first_is bytes at (Ok (i, rest)) e

pub first_refused : (bytes : List ℕ) (at : ℕ) (f : DecodeFault) → ReadsAt bytes at (Err f) → first_instr (drop at bytes) ≡ Err f
first_refused bytes at f e = first_is bytes at (Err f) e

-- what `decode` answers
abbrev pub Answer : Type 0
Answer = Result (Instr × ℕ) DecodeFault

pub record Decodes (bytes : List ℕ) (at : ℕ) (r : Answer) : Type 0 where
  pub only : (i : Instr) → IsNamed i → Begins (spelling i) (drop at bytes) → r ≡ Ok (i, at + length (spelling i))
  pub exact : (f : DecodeFault) → Refuses (drop at bytes) f → r ≡ Err f

at_place : ℕ → Result Instr DecodeFault → Answer
at_place at (Ok i) = Ok (i, at + length (spelling i))
at_place at (Err f) = Err f

decodes_answer : (bytes : List ℕ) (at : ℕ) (a : Result Instr DecodeFault) → Answers (drop at bytes) a → Decodes bytes at (at_place at a)
unfolding at_place
decodes_answer bytes at a holds = record {
  only = λ i h p. ap (at_place at) (same_answer a (Ok i) (drop at bytes) holds (h, p));
  exact = λ f r. ap (at_place at) (same_answer a (Err f) (drop at bytes) holds r);
}

pub decodes_found : (bytes : List ℕ) (at : ℕ) (i : Instr) (next : ℕ) → StandsAt bytes at i next → Decodes bytes at (Ok (i, next))
unfolding at_place
decodes_found bytes at i next s =
    subst (λ (k : ℕ). Decodes bytes at (Ok (i, k))) (sym s.next_is) (decodes_answer bytes at (Ok i) (s.named, s.begins))

pub decodes_refused : (bytes : List ℕ) (at : ℕ) (f : DecodeFault) → Refuses (drop at bytes) f → Decodes bytes at (Err f)
unfolding at_place
decodes_refused bytes at f r = decodes_answer bytes at (Err f) r
