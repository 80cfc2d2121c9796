-- No two answers hold of the same bytes.
use Rattle.std.proofs.Common.{◌≡◌, ℕ, inl, inr, List, [], ◌∷◌, ◌++◌, Some, None, Result, Ok, Err, refl, sym, ap, subst, ◌∙◌}
use Rattle.subset_decode.specs.declared.instr.Instr.{Instr}
use Rattle.subset_decode.specs.declared.fault.DecodeFault.{DecodeFault}
use Rattle.subset_decode.specs.declared.fault.DecodeFault.TheVariants.{Short, Unknown, Register}
use Rattle.subset_decode.specs.Encoding.{spelling, IsNamed, IsEncodable, reserved_register, Begins}
use Rattle.subset_decode.specs.Refusals.{IsCut, IsUnknownByte, NamesReserved, Refuses, Answers}
use Rattle.subset_decode.proofs.Prefixes.{Begins-trans, Begins-front, Begins-all, nested, following, ends, longer}
use Rattle.subset_decode.proofs.DecodedEncodings.{named, same_instr, not_reserved}

-- an instruction with a reserved register isn't of the subset
unreserved : (i : Instr) (n : ℕ) → IsNamed i → reserved_register i ≡ Some n → ⊥
unreserved i n h e = let none = (named i h).1 in let both : Some n ≡ None = sym e ∙ none in cc

not_cut : (i : Instr) (bytes : List ℕ) → IsNamed i → Begins (spelling i) bytes → IsCut bytes → ⊥
not_cut i bytes h p cut =
    let more = Begins-front bytes cut.2 (spelling cut.0) cut.3 in
    let same : i ≡ cut.0 = same_instr i cut.0 (spelling cut.0) h cut.1 (Begins-trans (spelling i) bytes (spelling cut.0) p more) (Begins-all (spelling cut.0)) in
    longer bytes cut.2 (spelling cut.0) cut.3 (subst (λ (j : Instr). Begins (spelling j) bytes) same p)

not_stopped : (i : Instr) (b : ℕ) (bytes : List ℕ) → IsNamed i → Begins (spelling i) bytes → IsUnknownByte b bytes → ⊥
not_stopped i b bytes h p stop =
    elim (following stop.0 b (spelling i) bytes stop.1 p) [
      | inl q ↦ not_cut i stop.0 h q stop.2
      | inr q ↦ stop.3 i (named i h).0 q
    ]

not_named : (i : Instr) (n : ℕ) (bytes : List ℕ) → IsNamed i → Begins (spelling i) bytes → NamesReserved n bytes → ⊥
not_named i n bytes h p r =
    elim (nested r.0 (spelling i) bytes r.1 p) [
      | inl q ↦ unreserved i n h (r.3 i (named i h).0 q)
      | inr q ↦
          let j = r.2.0 in
          let none = not_reserved i j h r.2.1 (Begins-trans (spelling i) r.0 (spelling j) q r.2.2) in
          let some = r.3 j r.2.1 r.2.2 in
          let both : Some n ≡ None = sym some ∙ none in cc
    ]

cut_not_stopped : (b : ℕ) (bytes : List ℕ) → IsCut bytes → IsUnknownByte b bytes → ⊥
cut_not_stopped b bytes cut stop =
    stop.3 cut.0 (named cut.0 cut.1).0 (Begins-trans (stop.0 ++ b ∷ []) bytes (spelling cut.0) stop.1 (Begins-front bytes cut.2 (spelling cut.0) cut.3))

cut_not_reserved : (n : ℕ) (bytes : List ℕ) → IsCut bytes → NamesReserved n bytes → ⊥
cut_not_reserved n bytes cut r =
    unreserved cut.0 n cut.1 (r.3 cut.0 (named cut.0 cut.1).0 (Begins-trans r.0 bytes (spelling cut.0) r.1 (Begins-front bytes cut.2 (spelling cut.0) cut.3)))

-- no encoding goes on after a prefix and b, so no longer prefix that goes on begins with them
no_further : (front : List ℕ) (b : ℕ) (other : List ℕ) → ((i : Instr) → IsEncodable i → Begins (front ++ b ∷ []) (spelling i) → ⊥) → Begins (front ++ b ∷ []) other → IsCut other → ⊥
no_further front b other none p cut =
    none cut.0 (named cut.0 cut.1).0 (Begins-trans (front ++ b ∷ []) other (spelling cut.0) p (Begins-front other cut.2 (spelling cut.0) cut.3))

stopped_not_reserved : (b n : ℕ) (bytes : List ℕ) → IsUnknownByte b bytes → NamesReserved n bytes → ⊥
stopped_not_reserved b n bytes stop r =
    elim (following stop.0 b r.0 bytes stop.1 r.1) [
      | inl q ↦ cut_not_reserved n stop.0 stop.2 (r.0, q, r.2, r.3)
      | inr q ↦ stop.3 r.2.0 r.2.1 (Begins-trans (stop.0 ++ b ∷ []) r.0 (spelling r.2.0) q r.2.2)
    ]

same_stop : (b d : ℕ) (bytes : List ℕ) → IsUnknownByte b bytes → IsUnknownByte d bytes → b ≡ d
same_stop b d bytes s t =
    elim (ends s.0 b t.0 d bytes s.1 t.1) [
      | inl p ↦ absurd (no_further s.0 b t.0 s.3 p t.2)
      | inr o ↦ elim o [
        | inl p ↦ absurd (no_further t.0 d s.0 t.3 p s.2)
        | inr e ↦ e
      ]
    ]

some_is : (n m : ℕ) → Some n ≡ Some m → n ≡ m
some_is n m e = cc

same_reserved : (n m : ℕ) (bytes : List ℕ) → NamesReserved n bytes → NamesReserved m bytes → n ≡ m
same_reserved n m bytes r s =
    elim (nested r.0 s.0 bytes r.1 s.1) [
      | inl p ↦ some_is n m (sym (r.3 s.2.0 s.2.1 (Begins-trans r.0 s.0 (spelling s.2.0) p s.2.2)) ∙ s.3 s.2.0 s.2.1 s.2.2)
      | inr p ↦ some_is n m (sym (r.3 r.2.0 r.2.1 r.2.2) ∙ s.3 r.2.0 r.2.1 (Begins-trans s.0 r.0 (spelling r.2.0) p r.2.2))
    ]

same_fault : (f g : DecodeFault) (bytes : List ℕ) → Refuses bytes f → Refuses bytes g → f ≡ g
same_fault Short Short bytes p q = refl
same_fault Short (Unknown b) bytes p q = absurd (cut_not_stopped b bytes p q)
same_fault Short (Register n) bytes p q = absurd (cut_not_reserved n bytes p q)
same_fault (Unknown b) Short bytes p q = absurd (cut_not_stopped b bytes q p)
same_fault (Unknown b) (Unknown d) bytes p q = ap Unknown (same_stop b d bytes p q)
same_fault (Unknown b) (Register n) bytes p q = absurd (stopped_not_reserved b n bytes p q)
same_fault (Register n) Short bytes p q = absurd (cut_not_reserved n bytes q p)
same_fault (Register n) (Unknown b) bytes p q = absurd (stopped_not_reserved b n bytes q p)
same_fault (Register n) (Register m) bytes p q = ap Register (same_reserved n m bytes p q)

not_refused : (i : Instr) (f : DecodeFault) (bytes : List ℕ) → IsNamed i → Begins (spelling i) bytes → Refuses bytes f → ⊥
not_refused i Short bytes h p r = not_cut i bytes h p r
not_refused i (Unknown b) bytes h p r = not_stopped i b bytes h p r
not_refused i (Register n) bytes h p r = not_named i n bytes h p r

pub same_answer : (a b : Result Instr DecodeFault) (bytes : List ℕ) → Answers bytes a → Answers bytes b → a ≡ b
same_answer (Ok i) (Ok j) bytes p q = ap Ok (same_instr i j bytes p.0 q.0 p.1 q.1)
same_answer (Ok i) (Err f) bytes p q = absurd (not_refused i f bytes p.0 p.1 q)
same_answer (Err f) (Ok i) bytes p q = absurd (not_refused i f bytes q.0 q.1 p)
same_answer (Err f) (Err g) bytes p q = ap Err (same_fault f g bytes p q)
