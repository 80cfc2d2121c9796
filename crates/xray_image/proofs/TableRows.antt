-- The row of the units: if what follows decides in one way, so does the row.
use Rattle.std.proofs.Common.{◌≡◌, ℕ, ◌+◌, ◌-◌, inl, inr, List, [], length, Err, sym, ap, subst, ◌∙◌}
use Rattle.std.specs.Prelude.{Result}
use Rattle.xray_io.specs.Rows.{IsOneWay}
use Rattle.subset_decode.specs.declared.instr.Instr.{Instr}
use Rattle.subset_decode.specs.declared.fault.DecodeFault.{DecodeFault}
use Rattle.subset_decode.specs.Refusals.{Answers}
use Rattle.xray_image.specs.declared.fault.ImageFault.{ImageFault}
use Rattle.xray_image.specs.declared.fault.ImageFault.TheVariants as faults
use Rattle.xray_image.specs.Units.{Piece}
use Rattle.xray_image.specs.Table.{ImageReading, NeedsUnits, UnitFault, UnitsStop, StandUpTo}
use Rattle.xray_image.proofs.Pieces.{OneInstruction}
use Rattle.xray_image.proofs.UnitPlaces.{IsFront, stuck_at_end, one_front}

-- bytes have at most one answer
abbrev pub OneAnswer : Type 0
OneAnswer = (bytes : List ℕ) (a b : Result Instr DecodeFault) → Answers bytes a → Answers bytes b → a ≡ b

-- ---- the units

fault_one : OneAnswer → (place : ℕ) (bytes : List ℕ) (f g : ImageFault) → UnitFault place bytes f → UnitFault place bytes g → f ≡ g
fault_one one place bytes f g (inl a) (inl b) = a.1 ∙ sym b.1
fault_one one place bytes f g (inl a) (inr b) = absurd (b.0 a.0)
fault_one one place bytes f g (inr a) (inl b) = absurd (a.0 b.0)
fault_one one place bytes f g (inr (none, (d, refused, is))) (inr (none', (d', refused', is'))) =
    let same : d ≡ d' = same_fault d d' (one bytes (Err d) (Err d') refused refused') in
    is ∙ ap (λ (x : DecodeFault). faults.Code place x) same ∙ sym is'
  where
    same_fault : (d d' : DecodeFault) → ◌≡◌ {A = Result Instr DecodeFault} (Err d) (Err d') → d ≡ d'
    same_fault d d' e = cc

module _ (first : OneInstruction) (answer : OneAnswer) (base : ℕ) (code : List ℕ) where
  stop_front : (fault : ImageFault) (s : UnitsStop base code fault) → IsFront base code s.front s.address s.left
  stop_front fault s = record { stand = s.stand; stuck = record { none = s.none_goes_on } }

  whole_front : (pieces : List Piece) → StandUpTo base code pieces (base + length code) [] → IsFront base code pieces (base + length code) []
  whole_front pieces s = record { stand = s; stuck = stuck_at_end (base + length code) }

  stops_once : (f g : ImageFault) → UnitsStop base code f → UnitsStop base code g → f ≡ g
  stops_once f g s t =
      let same = one_front first base code s.front t.front s.address t.address s.left t.left (stop_front f s) (stop_front g t) in
      fault_one answer (t.address - base) t.left f g
      (subst (λ (a : ℕ). UnitFault (a - base) t.left f) same.ends (subst (λ (l : List ℕ). UnitFault (s.address - base) l f) same.lefts s.why)) t.why

  no_stop : (fault : ImageFault) (pieces : List Piece) → UnitsStop base code fault → StandUpTo base code pieces (base + length code) [] → ⊥
  no_stop fault pieces s whole =
      s.some_left (one_front first base code s.front pieces s.address (base + length code) s.left [] (stop_front fault s) (whole_front pieces whole)).lefts

  pub needs_units_one : (follows : List Piece → ImageReading → Type 0) → ((pieces : List Piece) → IsOneWay (follows pieces)) → IsOneWay (NeedsUnits base code follows)
  needs_units_one follows one = record { same = both }
    where
      both : (v w : ImageReading) → NeedsUnits base code follows v → NeedsUnits base code follows w → v ≡ w
      both v w (inl a) (inl b) = a.2 ∙ ap (λ (f : ImageFault). Err f) (stops_once a.0 b.0 a.1 b.1) ∙ sym b.2
      both v w (inl a) (inr b) = absurd (no_stop a.0 b.0 a.1 b.1)
      both v w (inr a) (inl b) = absurd (no_stop b.0 a.0 b.1 a.1)
      both v w (inr a) (inr b) =
          let same : a.0 ≡ b.0 = (one_front first base code a.0 b.0 (base + length code) (base + length code) [] [] (whole_front a.0 a.1) (whole_front b.0 b.1)).pieces in
          (one b.0).same v w (subst (λ (ps : List Piece). follows ps v) same a.2) b.2
