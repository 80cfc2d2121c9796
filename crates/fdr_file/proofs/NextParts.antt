-- From one part to the next.
use Rattle.std.proofs.Common.{◌≡◌, ℕ, zero, suc, ◌+◌, ◌-◌, ◌<◌, List, [], ◌∷◌, ◌++◌, length, drop, map, Option, Some, Result, Ok, Err, eqb, slice_index, ◌%◌, lit<, inl, inr, refl, sym, ap, ◌∙◌, append_assoc, arith}
use Rattle.std.specs.Prelude.{option_to_list}
use Rattle.std.proofs.lemmas.Bool.{cases_Bool, eq-eqb, ne_eqb}
use Rattle.std.proofs.lemmas.Bool.Decides.{eqb_tells}
use Rattle.xray_io.specs.Rows.{◌>>=◌}
use Rattle.fdr_record.specs.declared.event.Event.{Event}
use Rattle.fdr_record.specs.declared.rec.Rec.{Rec}
use Rattle.fdr_record.specs.declared.fault.RecFault.{RecFault}
use Rattle.fdr_file.specs.declared.events.Base.{Base}
use Rattle.fdr_file.specs.declared.fault.TraceFault.{TraceFault}
use Rattle.fdr_file.specs.Places.{starts}
use Rattle.fdr_file.specs.Traces.{fault_at, record_in, record_length, standing_at, standings, Standing}
use Rattle.fdr_file.specs.private.Reading.{Left, events_on, is_end, read_first, record_on, with_front}
use Rattle.fdr_file.specs.Scanning.{step_on}

-- bytes of a part that was begun earlier are skipped
pub starts_after : (len : List ℕ → ℕ) (left at : ℕ) (bytes : List ℕ) → starts len left at bytes ≡ starts len 0 (at + left) (drop left bytes)
unfolding starts
starts_after len zero at bytes = ap (λ (k : ℕ). starts len 0 k bytes) (omega arith)
starts_after len (suc left) at [] = refl
starts_after len (suc left) at (byte ∷ bytes) =
    starts_after len left (at + 1) bytes ∙ ap (λ (k : ℕ). starts len 0 k (drop left bytes)) (omega arith)

-- the first part, and what begins after it
pub starts_first : (len : List ℕ → ℕ) (at : ℕ) (bytes : List ℕ) → 0 < length bytes → 0 < len bytes → starts len 0 at bytes ≡ (at, bytes) ∷ starts len 0 (at + len bytes) (drop (len bytes) bytes)
unfolding starts
starts_first len at [] some whole = absurd (omega arith)
starts_first len at (byte ∷ bytes) some whole =
    let n = len (byte ∷ bytes) in
    let more : n ≡ suc (n - 1) = omega arith in
    let place : at + 1 + (n - 1) ≡ at + n = omega arith in
    ap (λ (following : List (ℕ × List ℕ)). (at, byte ∷ bytes) ∷ following)
    (starts_after len (n - 1) (at + 1) bytes
    ∙ ap (λ (k : ℕ). starts len 0 k (drop (n - 1) bytes)) place
    ∙ ap (λ (k : ℕ). starts len 0 (at + n) (drop k (byte ∷ bytes))) (sym more))

-- a record has some bytes
pub length_some : (bytes : List ℕ) → 0 < record_length bytes
length_some bytes = elim (cases_Bool (eqb (slice_index bytes 0 % 2) 0)) [ inl e ↦ rw e (lit< tt) | inr e ↦ rw e (lit< tt) ]

pub stands_first : (at : ℕ) (bytes : List ℕ) → 0 < length bytes → standings at bytes ≡ (at, record_in bytes) ∷ standings (at + record_length bytes) (drop (record_length bytes) bytes)
stands_first at bytes some = ap (map standing_at) (starts_first record_length at bytes some (length_some bytes))

-- what the first record leaves
pub stands_taken : (at : ℕ) (bytes : List ℕ) (r : Rec) (left : Left) → 0 < length bytes → record_on (at, bytes) ≡ Ok (r, left) → standings at bytes ≡ (at, Ok r) ∷ standings left.0 left.1
unfolding record_on
stands_taken at bytes r left some e = by_answer (record_in bytes) refl e
  where
    by_answer : (a : Result Rec RecFault) → record_in bytes ≡ a → read_first (at, bytes) a ≡ Ok (r, left) → standings at bytes ≡ (at, Ok r) ∷ standings left.0 left.1
    by_answer (Ok s) is h =
        let following : Left = (at + record_length bytes, drop (record_length bytes) bytes) in
        let first : Rec × Left = (s, following) in
        let wanted : Rec × Left = (r, left) in
        let both : first ≡ wanted = cc in
        let same : s ≡ r = ap (λ (x : Rec × Left). x.0) both in
        let left_is : following ≡ left = ap (λ (x : Rec × Left). x.1) both in
        stands_first at bytes some ∙ rw (is, same) (ap (λ (l : Left). (at, Ok r) ∷ standings l.0 l.1) left_is)
    by_answer (Err f) is h = absurd cc

-- why there is no first record
pub record StandsNone (at : ℕ) (bytes : List ℕ) (e : TraceFault) : Type 0 where
  pub why : RecFault
  pub following : List Standing
  pub stands : standings at bytes ≡ (at, Err why) ∷ following
  pub fault : fault_at at why ≡ e

pub stands_none : (at : ℕ) (bytes : List ℕ) (e : TraceFault) → 0 < length bytes → record_on (at, bytes) ≡ Err e → StandsNone at bytes e
unfolding record_on
stands_none at bytes e some is = by_answer (record_in bytes) refl is
  where
    by_answer : (a : Result Rec RecFault) → record_in bytes ≡ a → read_first (at, bytes) a ≡ Err e → StandsNone at bytes e
    by_answer (Ok s) is h = absurd cc
    by_answer (Err f) is h = record {
      why = f;
      following = standings (at + record_length bytes) (drop (record_length bytes) bytes);
      stands = stands_first at bytes some ∙ rw is refl;
      fault = cc;
    }

-- ---- events after others

front_again : (front more : List Event) (read : Result (List Event) TraceFault)
    → with_front front (read >>= λ events. Ok (more ++ events)) ≡ with_front (front ++ more) read
front_again front more (Ok events) = ap (λ (x : List Event). Ok x) (sym (append_assoc front more events))
front_again front more (Err e) = refl

pub same_test : (a b c d : ℕ) → (a ≡ b → c ≡ d) → (c ≡ d → a ≡ b) → eqb a b ≡ eqb c d
same_test a b c d to from =
    elim (eqb_tells a b) [ inl e ↦ e.0 ∙ sym (eq-eqb c d (to e.1)) | inr n ↦ n.0 ∙ sym (ne_eqb c d (λ e. n.1 (from e))) ]

-- no record begins only where no byte is left
pub standings_end : (at : ℕ) (bytes : List ℕ) → is_end (standings at bytes) ≡ eqb (length bytes) 0
unfolding starts
standings_end at [] = refl
standings_end at (byte ∷ bytes) =
    ap is_end (stands_first at (byte ∷ bytes) (omega arith)) ∙ sym (ne_eqb (length (byte ∷ bytes)) 0 (λ e. omega (arith, e)))

-- one more record
pub events_more : (front : List Event) (base : Option Base) (at : ℕ) (bytes : List ℕ) (r : Rec) (left : Left) (step : Base × Option Event × Option Event) (total : Result (List Event) TraceFault)
    → 0 < length bytes → record_on (at, bytes) ≡ Ok (r, left) → step_on (eqb (length left.1) 0) at r base ≡ Ok step → with_front front (events_on base (standings at bytes)) ≡ total
    → with_front (front ++ (option_to_list step.1 ++ option_to_list step.2)) (events_on (Some step.0) (standings left.0 left.1)) ≡ total
unfolding events_on
events_more front base at bytes r left step total some taken stepped so_far =
    sym (front_again front (option_to_list step.1 ++ option_to_list step.2) (events_on (Some step.0) (standings left.0 left.1)))
    ∙ sym (rw (stands_taken at bytes r left some taken, standings_end left.0 left.1, stepped) refl)
    ∙ so_far

-- no record
pub events_stop : (front : List Event) (base : Option Base) (at : ℕ) (bytes : List ℕ) (e : TraceFault) (total : Result (List Event) TraceFault)
    → 0 < length bytes → record_on (at, bytes) ≡ Err e → with_front front (events_on base (standings at bytes)) ≡ total → total ≡ Err e
unfolding events_on
events_stop front base at bytes e total some none so_far =
    let h = stands_none at bytes e some none in
    sym so_far ∙ rw (h.stands, h.fault) refl

-- a record that isn't allowed there
pub events_refuse : (front : List Event) (base : Option Base) (at : ℕ) (bytes : List ℕ) (r : Rec) (left : Left) (e : TraceFault) (total : Result (List Event) TraceFault)
    → 0 < length bytes → record_on (at, bytes) ≡ Ok (r, left) → step_on (eqb (length left.1) 0) at r base ≡ Err e → with_front front (events_on base (standings at bytes)) ≡ total → total ≡ Err e
unfolding events_on
events_refuse front base at bytes r left e total some taken stepped so_far =
    sym so_far ∙ rw (stands_taken at bytes r left some taken, standings_end left.0 left.1, stepped) refl
