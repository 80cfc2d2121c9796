-- The units that were read up to a place of the code.
use Rattle.std.proofs.Common.{◌≡◌, ℕ, ◌+◌, ◌-◌, ◌<◌, ◌≤◌, inl, inr, true, false, List, [], ◌∷◌, ◌++◌, length, drop, refl, sym, ap, subst, ◌∙◌, append_assoc, arith}
use Rattle.std.specs.List.{flat_map}
use Rattle.std.proofs.lemmas.List.{length-append, length-drop, drop-drop}
use Rattle.subset_decode.specs.Encoding.{spelling}
use Rattle.xray_image.specs.declared.fault.ImageFault.{ImageFault}
use Rattle.xray_image.specs.declared.unit.Unit.{Unit}
use Rattle.xray_image.specs.declared.unit_reader.NoUnit.{NoUnit}
use Rattle.xray_image.specs.declared.unit_reader.NoUnit.TheVariants.{Sled, Code}
use Rattle.xray_image.specs.Units.{Piece, Instruction, JumpSled, ReturnSled, Align, piece_bytes, SledPlace, what_of, sleds_in, units_from, places_from}
use Rattle.xray_image.specs.private.Reading.{IsReadTo}
use Rattle.xray_image.specs.Table.{StandsAt, StandUpTo, UnitFault, UnitsStop}
use Rattle.xray_image.specs.private.Views.{IsNoUnit, fault_at}

-- ---- what follows pieces begins where they end

pub places_from-append : (address : ℕ) (xs ys : List Piece) → places_from address (xs ++ ys) ≡ places_from address xs ++ places_from (address + length (flat_map piece_bytes xs)) ys
places_from-append address [] ys = ap (λ (a : ℕ). places_from a ys) (omega arith)
places_from-append address (Instruction i ∷ xs) ys = places_from-append (address + length (spelling i)) xs ys ∙ ap (λ (a : ℕ). places_from (address + length (spelling i)) xs ++ places_from a ys) (omega (arith, length-append (spelling i) (flat_map piece_bytes xs)))
places_from-append address (JumpSled shift ∷ xs) ys = ap (λ (ps : List SledPlace). record { address = address; shift = shift; returns = false } ∷ ps) (places_from-append (address + 11) xs ys ∙ ap (λ (a : ℕ). places_from (address + 11) xs ++ places_from a ys) (omega arith))
places_from-append address (ReturnSled shift ∷ xs) ys = ap (λ (ps : List SledPlace). record { address = address; shift = shift; returns = true } ∷ ps) (places_from-append (address + 11) xs ys ∙ ap (λ (a : ℕ). places_from (address + 11) xs ++ places_from a ys) (omega arith))
places_from-append address (Align ∷ xs) ys = places_from-append (address + 1) xs ys ∙ ap (λ (a : ℕ). places_from (address + 1) xs ++ places_from a ys) (omega arith)

-- one more piece has its sled among the places
places_counted : (address : ℕ) (p : Piece) (xs : List Piece) → length (places_from address (p ∷ xs)) ≡ sleds_in p + length (places_from (address + length (piece_bytes p)) xs)
places_counted address (Instruction i) xs = omega arith
places_counted address (JumpSled shift) xs = omega arith
places_counted address (ReturnSled shift) xs = omega arith
places_counted address Align xs = omega arith

pub units_from-append : (address sleds : ℕ) (xs ys : List Piece) → units_from address sleds (xs ++ ys)
    ≡ units_from address sleds xs ++ units_from (address + length (flat_map piece_bytes xs)) (sleds + length (places_from address xs)) ys
units_from-append address sleds [] ys = ap (λ (a : ℕ). units_from a sleds ys) (omega arith) ∙ ap (λ (n : ℕ). units_from (address + 0) n ys) (omega arith)
units_from-append address sleds (p ∷ xs) ys =
    let next = address + length (piece_bytes p) in
    let place : next + length (flat_map piece_bytes xs) ≡ address + length (piece_bytes p ++ flat_map piece_bytes xs) = omega (arith, length-append (piece_bytes p) (flat_map piece_bytes xs)) in
    let number : (sleds + sleds_in p) + length (places_from next xs) ≡ sleds + length (places_from address (p ∷ xs)) = omega (arith, places_counted address p xs) in
    ap (λ (us : List Unit). record { address = address; what = what_of sleds p } ∷ us)
    (units_from-append next (sleds + sleds_in p) xs ys
    ∙ ap (λ (a : ℕ). units_from next (sleds + sleds_in p) xs ++ units_from a ((sleds + sleds_in p) + length (places_from next xs)) ys) place
    ∙ ap (λ (n : ℕ). units_from next (sleds + sleds_in p) xs ++ units_from (address + length (piece_bytes p ++ flat_map piece_bytes xs)) n ys) number)

-- ---- units that stand

-- one more unit after those that stand
stand_push : (address : ℕ) (bytes : List ℕ) (front : List Piece) (end : ℕ) (left : List ℕ) (piece : Piece) (following : List ℕ)
    → StandUpTo address bytes front end left → StandsAt end left piece following → StandUpTo address bytes (front ++ piece ∷ []) (end + length (piece_bytes piece)) following
stand_push address bytes [] end left piece following s at =
    let here : StandsAt address bytes piece following = subst (λ (a : ℕ). StandsAt a bytes piece following) s.0 (subst (λ (l : List ℕ). StandsAt end l piece following) s.1 at) in
    (following, here, (ap (λ (a : ℕ). a + length (piece_bytes piece)) s.0, refl))
stand_push address bytes (p ∷ ps) end left piece following s at =
    (s.0, s.1, stand_push (address + length (piece_bytes p)) s.0 ps end left piece following s.2 at)

-- they end where their bytes do
stand_end : (address : ℕ) (bytes : List ℕ) (front : List Piece) (end : ℕ) (left : List ℕ) → StandUpTo address bytes front end left → end ≡ address + length (flat_map piece_bytes front)
stand_end address bytes [] end left s = omega (arith, s.0)
stand_end address bytes (p ∷ ps) end left s =
    omega (arith, stand_end (address + length (piece_bytes p)) s.0 ps end left s.2, length-append (piece_bytes p) (flat_map piece_bytes ps))

-- the bytes are theirs, with what is left
pub stand_shown : (address : ℕ) (bytes : List ℕ) (front : List Piece) (end : ℕ) (left : List ℕ) → StandUpTo address bytes front end left → bytes ≡ flat_map piece_bytes front ++ left
stand_shown address bytes [] end left s = sym s.1
stand_shown address bytes (p ∷ ps) end left s =
    s.1.spelled ∙ ap (λ (x : List ℕ). piece_bytes p ++ x) (stand_shown (address + length (piece_bytes p)) s.0 ps end left s.2) ∙ sym (append_assoc (piece_bytes p) (flat_map piece_bytes ps) left)

-- ---- the loop

fits_after : (code : List ℕ) (at n : ℕ) (front : List ℕ) → at < length code → n ≡ length front → drop at code ≡ front ++ drop (at + n) code → at + n ≤ length code
fits_after code at n front left wide e =
    let h = ap length e in
    omega (arith, length-append front (drop (at + n) code), length-drop at code, length-drop (at + n) code)

one_more : (base : ℕ) (code : List ℕ) (at : ℕ) (units units' : List Unit) (places places' : List SledPlace) (piece : Piece) (n : ℕ)
    → IsReadTo base code at units places → at < length code → StandsAt (base + at) (drop at code) piece (drop (at + n) code) → n ≡ length (piece_bytes piece)
    → units' ≡ units ++ units_from (base + at) (length places) (piece ∷ [])
    → places' ≡ places ++ places_from (base + at) (piece ∷ [])
    → IsReadTo base code (at + n) units' places'
one_more base code at units units' places places' piece n so_far left stands wide units_more places_more =
    let front = so_far.front in
    let there : base + at ≡ base + length (flat_map piece_bytes front) = stand_end base code front (base + at) (drop at code) so_far.stand in
    let count : length places ≡ 0 + length (places_from base front) = omega (arith, ap length so_far.places_are) in
    let added : length (places_from (base + at) (piece ∷ [])) ≤ n = omega (arith, one_place (base + at) piece) in
    let next : (base + at) + length (piece_bytes piece) ≡ base + (at + n) = omega arith in
    record {
      front = front ++ piece ∷ [];
      within = fits_after code at n (piece_bytes piece) left wide stands.spelled;
      stand = subst (λ (a : ℕ). StandUpTo base code (front ++ piece ∷ []) a (drop (at + n) code)) next
          (stand_push base code front (base + at) (drop at code) piece (drop (at + n) code) so_far.stand stands);
      units_are = units_more ∙ ap (λ (us : List Unit). us ++ units_from (base + at) (length places) (piece ∷ [])) so_far.units_are
          ∙ ap (λ (a : ℕ). units_from base 0 front ++ units_from a (length places) (piece ∷ [])) there
          ∙ ap (λ (k : ℕ). units_from base 0 front ++ units_from (base + length (flat_map piece_bytes front)) k (piece ∷ [])) count
          ∙ sym (units_from-append base 0 front (piece ∷ []));
      places_are = places_more ∙ ap (λ (ps : List SledPlace). ps ++ places_from (base + at) (piece ∷ [])) so_far.places_are
          ∙ ap (λ (a : ℕ). places_from base front ++ places_from a (piece ∷ [])) there
          ∙ sym (places_from-append base front (piece ∷ []));
      few = omega (arith, ap length places_more, length-append places (places_from (base + at) (piece ∷ [])), so_far.few);
    }
  where
    one_place : (address : ℕ) (p : Piece) → length (places_from address (p ∷ [])) ≤ length (piece_bytes p)
    one_place address (Instruction i) = omega arith
    one_place address (JumpSled shift) = omega arith
    one_place address (ReturnSled shift) = omega arith
    one_place address Align = omega arith

-- where no unit stands, the units stop
why_none : (place : ℕ) (bytes : List ℕ) (e : NoUnit) → IsNoUnit bytes e → UnitFault place bytes (fault_at place e)
why_none place bytes Sled h = inl (h, refl)
why_none place bytes (Code f) h = inr (h.0, (f, h.1, refl))

stops : (base : ℕ) (code : List ℕ) (at : ℕ) (units : List Unit) (places : List SledPlace) (e : NoUnit) → IsReadTo base code at units places → at < length code
    → ((piece : Piece) (rest : List ℕ) → StandsAt (base + at) (drop at code) piece rest → ⊥) → IsNoUnit (drop at code) e → UnitsStop base code (fault_at at e)
stops base code at units places e so_far left none why =
    let place : at ≡ (base + at) - base = omega arith in
    record {
      front = so_far.front;
      address = base + at;
      left = drop at code;
      stand = so_far.stand;
      some_left = λ h. let n = ap length h in omega (arith, length-drop at code);
      none_goes_on = none;
      why = subst (λ (p : ℕ). UnitFault p (drop at code) (fault_at at e)) place (why_none at (drop at code) e why);
    }

-- ---- the same for the bytes that are left, as the code has them

pub next_read : (base : ℕ) (code : List ℕ) (at : ℕ) (units units' : List Unit) (places places' : List SledPlace) (piece : Piece) (n : ℕ) (rest : List ℕ)
    → IsReadTo base code at units places → at < length code → rest ≡ drop at code → StandsAt (base + at) rest piece (drop n rest) → n ≡ length (piece_bytes piece)
    → units' ≡ units ++ units_from (base + at) (length places) (piece ∷ [])
    → places' ≡ places ++ places_from (base + at) (piece ∷ [])
    → IsReadTo base code (at + n) units' places'
next_read base code at units units' places places' piece n rest so_far left e stands wide units_more places_more =
    let here : StandsAt (base + at) (drop at code) piece (drop n (drop at code)) = subst (λ (r : List ℕ). StandsAt (base + at) r piece (drop n r)) e stands in
    one_more base code at units units' places places' piece n so_far left (subst (StandsAt (base + at) (drop at code) piece) (drop-drop n at code) here) wide units_more places_more

pub stops_here : (base : ℕ) (code : List ℕ) (at : ℕ) (units : List Unit) (places : List SledPlace) (e : NoUnit) (rest : List ℕ) (fault : ImageFault) → IsReadTo base code at units places → at < length code
    → rest ≡ drop at code → ((piece : Piece) (following : List ℕ) → StandsAt (base + at) rest piece following → ⊥) → IsNoUnit rest e → fault ≡ fault_at at e → UnitsStop base code fault
stops_here base code at units places e rest fault so_far left same none why is =
    subst (UnitsStop base code) (sym is)
    (stops base code at units places e so_far left (subst (λ (r : List ℕ). (piece : Piece) (following : List ℕ) → StandsAt (base + at) r piece following → ⊥) same none)
    (subst (λ (r : List ℕ). IsNoUnit r e) same why))
