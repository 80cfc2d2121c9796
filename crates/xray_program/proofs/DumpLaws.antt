-- Files of which some prefix is a trace, as a kind of input.
use Rattle.std.proofs.Common.{◌≡◌, ◌⊎◌, ◌<◌, ◌≤◌, ◌∙◌, ℕ, zero, suc, List, length, take, Result, Ok, Err, inl, inr, ap, ap₂, arith, le_refl, refl, subst, sym}
use Rattle.std.specs.Prelude.{IfOk}
use Rattle.std.proofs.Math.Seq.{take-length}
use Rattle.std.proofs.lemmas.Bool.{cases_lt}
use Rattle.fdr_file.specs.declared.fault.TraceFault.{TraceFault}
use Rattle.fdr_file.specs.declared.trace.Trace.{Trace}
use Rattle.fdr_file.specs.Prefixes.{IsReadable, ReadsAsTrace}
use Rattle.fdr_file.specs.Traces.{trace_of}
use Rattle.trace_words.specs.TraceWords.{trace_words}
use Rattle.xray_io.specs.World.{DeskView}
use Rattle.xray_program.specs.Inputs.{Readable, ReadsNowhere, readable_form, refused_for}
use Rattle.xray_program.specs.declared.stop.Stop.{Stop}
use Rattle.xray_program.specs.private.Takes.{IsTaken}
use Rattle.xray_program.specs.private.Lawful.{IsJudged, IsUnique}

-- ---- the longest prefix

one_end : (bytes : List ℕ) (a b : ℕ) → IsReadable bytes a → IsReadable bytes b → a ≡ b
one_end bytes a b x y =
    elim (cases_lt a b) [
      | inl lt ↦ absurd (x.longest b lt y.within y.reads)
      | inr ge ↦ elim (cases_lt b a) [ inl gt ↦ absurd (y.longest a gt x.within x.reads) | inr le ↦ omega arith ]
    ]

one_file : (bytes : List ℕ) (s t : Readable) → readable_form.Reads bytes s → readable_form.Reads bytes t → s ≡ t
one_file bytes s t (of_s, x) (of_t, y) = alike s t (of_s ∙ sym of_t) (one_end bytes s.len t.len x y)
  where
    alike : (s t : Readable) → s.bytes ≡ t.bytes → s.len ≡ t.len → s ≡ t
    alike s t same_bytes same_len = ap₂ (λ (bytes : List ℕ) (len : ℕ). let file : Readable = record { bytes = bytes; len = len } in file) same_bytes same_len

same_fault : (f g : TraceFault) → (let v : Result Trace TraceFault = Err f in let w : Result Trace TraceFault = Err g in v ≡ w) → f ≡ g
same_fault f g e = cc

pub readable_unique : IsUnique readable_form
readable_unique = record {
  one = one_file;
  why = λ bytes r s x y. x.3 ∙ ap (λ f. refused_for (trace_words f)) (same_fault x.0 y.0 (sym x.2 ∙ y.2)) ∙ sym y.3;
  not_both = λ bytes t r x y. y.1 t.len x.1.within x.1.reads;
}

-- none of the prefixes that are longer than this is a trace
abbrev NoneAbove : List ℕ → ℕ → Type 0
NoneAbove bytes len = (more : ℕ) → len < more → more ≤ length bytes → ReadsAsTrace (take more bytes) → ⊥

-- bytes are a trace, or they aren't
reads_or : (bytes : List ℕ) → ReadsAsTrace bytes ⊎ (ReadsAsTrace bytes → ⊥)
reads_or bytes = by_answer (trace_of bytes) refl
  where
    by_answer : (answer : Result Trace TraceFault) → trace_of bytes ≡ answer → ReadsAsTrace bytes ⊎ (ReadsAsTrace bytes → ⊥)
    by_answer (Ok t) e = inl (t, e)
    by_answer (Err fault) e = inr (λ (reads : ReadsAsTrace bytes). never reads.0 fault (sym reads.1 ∙ e))
      where
        never : (t : Trace) (f : TraceFault) → (let v : Result Trace TraceFault = Ok t in let w : Result Trace TraceFault = Err f in v ≡ w) → ⊥
        never t f e = cc

-- nor is this one, or any that is longer
none_from : (bytes : List ℕ) (len : ℕ) → (ReadsAsTrace (take len bytes) → ⊥) → NoneAbove bytes len → (more : ℕ) → len ≤ more → more ≤ length bytes
    → ReadsAsTrace (take more bytes) → ⊥
none_from bytes len fails none more above within reads =
    elim (cases_lt len more) [
      | inl lt ↦ none more lt within reads
      | inr ge ↦
          let same : more ≡ len = omega arith in
          fails (subst (λ (n : ℕ). ReadsAsTrace (take n bytes)) same reads)
    ]

-- the longest of the prefixes up to this length that is a trace, if one is
longest_of : (bytes : List ℕ) (len : ℕ) → len ≤ length bytes → NoneAbove bytes len → ((end : ℕ) × IsReadable bytes end) ⊎ ReadsNowhere bytes
longest_of bytes zero within none =
    elim (reads_or (take 0 bytes)) [
      | inl reads ↦ inl (0, record { within = within; reads = reads; longest = none })
      | inr fails ↦ inr (λ (len : ℕ) at_most. none_from bytes 0 fails none len (omega arith) at_most)
    ]
longest_of bytes (suc len) within none =
    elim (reads_or (take (suc len) bytes)) [
      | inl reads ↦ inl (suc len, record { within = within; reads = reads; longest = none })
      | inr fails ↦ longest_of bytes len (omega (arith, within)) (λ (more : ℕ) above at_most. none_from bytes (suc len) fails none more (omega (arith, above)) at_most)
    ]

pub readable_judged : IsJudged readable_form
readable_judged bytes all = by_end (longest_of bytes (length bytes) (le_refl (length bytes)) (λ (more : ℕ) above within reads. absurd (omega (arith, above, within))))
  where
    by_answer : ReadsNowhere bytes → (answer : Result Trace TraceFault) → trace_of bytes ≡ answer
        → ((t : Readable) × readable_form.Reads bytes t) ⊎ ((refusal : List ℕ) × readable_form.Refuses bytes refusal)
    by_answer nowhere (Ok t) e = absurd (nowhere (length bytes) (le_refl (length bytes)) (t, ap trace_of (take-length bytes) ∙ e))
    by_answer nowhere (Err fault) e = inr (refused_for (trace_words fault), (fault, nowhere, e, refl))

    by_end : ((end : ℕ) × IsReadable bytes end) ⊎ ReadsNowhere bytes
        → ((t : Readable) × readable_form.Reads bytes t) ⊎ ((refusal : List ℕ) × readable_form.Refuses bytes refusal)
    by_end (inl (end, is)) = inl (record { bytes = bytes; len = end }, (refl, is))
    by_end (inr nowhere) = by_answer nowhere (trace_of bytes) refl

-- a file that was taken has a longest prefix that is a trace
pub file_fits : (name : List ℕ) (before after : DeskView) (result : Result Readable Stop) → IsTaken readable_form name before after result
    → IfOk result (λ t. IsReadable t.bytes t.len)
file_fits name before after (Ok t) taken = subst (λ (bytes : List ℕ). IsReadable bytes t.len) (sym taken.reads.0) taken.reads.1
file_fits name before after (Err stop) taken = tt
