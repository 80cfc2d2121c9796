-- Where the units of pieces and their sleds lie.
use Rattle.std.proofs.Common.{◌≡◌, ℕ, zero, suc, ◌+◌, ◌≤◌, false, true, List, [], ◌∷◌, length, All, Option, Some, refl, sym, ap, subst, ◌∙◌, arith, add-one}
use Rattle.std.specs.Prelude.{slice_get, IfSome}
use Rattle.std.specs.List.{flat_map}
use Rattle.std.specs.List.Sorted.{IsStrictlyIncreasing}
use Rattle.std.proofs.lemmas.List.{append-nil, length-append}
use Rattle.std.proofs.lemmas.List.Elements.{All-nil, All-cons}
use Rattle.std.proofs.lemmas.Option.{none-some, same_Some}
use Rattle.subset_decode.specs.Encoding.{spelling}
use Rattle.xray_image.specs.declared.unit.Unit.{Unit}
use Rattle.xray_image.specs.declared.unit.What.{What}
use Rattle.xray_image.specs.declared.unit.What.TheVariants as whats
use Rattle.xray_image.specs.Units.{Piece, Instruction, JumpSled, ReturnSled, Align, piece_bytes, SledPlace, what_of, sleds_in, units_from, places_from}
use Rattle.xray_image.specs.Program.{addresses}
use Rattle.xray_image.specs.private.Index.{AreWithin}
use Rattle.xray_image.specs.private.Reading.{HasUnits}
use Rattle.xray_image.specs.Layout.{width_of, AreContiguous}
use Rattle.xray_image.specs.Table.{StandUpTo}
use Rattle.xray_image.proofs.Pieces.{piece_has_byte}
use Rattle.xray_image.proofs.SoFar.{stand_shown}

-- ---- widths

width_is : (n : ℕ) (p : Piece) → width_of (what_of n p) ≡ length (piece_bytes p)
width_is n (Instruction i) = refl
width_is n (JumpSled shift) = refl
width_is n (ReturnSled shift) = refl
width_is n Align = refl

following : (a n : ℕ) (ps : List Piece) (i : ℕ) (u v : Unit) → slice_get (units_from a n ps) i ≡ Some u → slice_get (units_from a n ps) (suc i) ≡ Some v → v.address ≡ u.address + width_of u.what
following a n [] i u v e f = absurd (none-some u e)
following a n (p ∷ []) zero u v e f = absurd (none-some v f)
following a n (p ∷ q ∷ ps) zero u v e f =
    let mine : u.address ≡ a = sym (ap (λ (x : Unit). x.address) (same_Some _ _ e)) in
    let what : u.what ≡ what_of n p = sym (ap (λ (x : Unit). x.what) (same_Some _ _ e)) in
    let next : v.address ≡ a + length (piece_bytes p) = sym (ap (λ (x : Unit). x.address) (same_Some _ _ f)) in
    next ∙ ap (λ (w : ℕ). a + w) (sym (width_is n p)) ∙ ap (λ (w : What). a + width_of w) (sym what) ∙ ap (λ (x : ℕ). x + width_of u.what) (sym mine)
following a n (p ∷ ps) (suc i) u v e f = following (a + length (piece_bytes p)) (n + sleds_in p) ps i u v e f

pub contiguous : (base : ℕ) (ps : List Piece) → AreContiguous base (units_from base 0 ps)
contiguous base ps = record { first = begin base ps; next = λ i u v e f. following base 0 ps i u v e (rw (← add-one) f) }
  where
    begin : (a : ℕ) (qs : List Piece) → IfSome (slice_get (units_from a 0 qs) 0) (λ u. u.address ≡ a)
    begin a [] = tt
    begin a (q ∷ qs) = refl

-- ---- addresses

pub units_within : (a n : ℕ) (ps : List Piece) → AreWithin a (length (flat_map piece_bytes ps)) (addresses (units_from a n ps))
units_within a n [] i lt = absurd (omega arith)
units_within a n (p ∷ ps) zero lt = (omega arith, omega (arith, length-append (piece_bytes p) (flat_map piece_bytes ps), piece_has_byte p))
units_within a n (p ∷ ps) (suc i) lt =
    let w = units_within (a + length (piece_bytes p)) (n + sleds_in p) ps i (omega arith) in
    (omega (arith, w.0), omega (arith, w.1, length-append (piece_bytes p) (flat_map piece_bytes ps)))

pub units_ascend : (a n : ℕ) (ps : List Piece) → IsStrictlyIncreasing (addresses (units_from a n ps))
units_ascend a n [] k lt = absurd (omega arith)
units_ascend a n (p ∷ []) zero lt = absurd (omega arith)
units_ascend a n (p ∷ q ∷ ps) zero lt = omega (arith, piece_has_byte p)
units_ascend a n (p ∷ ps) (suc k) lt =
    let h = units_ascend (a + length (piece_bytes p)) (n + sleds_in p) ps k (omega arith) in
    let e : suc k + 1 ≡ suc (k + 1) = omega arith in
    rw e h

pub units_few : (a n : ℕ) (ps : List Piece) → length (units_from a n ps) ≤ length (flat_map piece_bytes ps)
units_few a n [] = omega arith
units_few a n (p ∷ ps) = omega (arith, units_few (a + length (piece_bytes p)) (n + sleds_in p) ps, length-append (piece_bytes p) (flat_map piece_bytes ps), piece_has_byte p)

pub places_above : (a : ℕ) (ps : List Piece) → All (λ place. a ≤ place.address) (places_from a ps)
places_above a ps = from a a ps (omega arith)
  where
    from : (low b : ℕ) (qs : List Piece) → low ≤ b → All (λ place. low ≤ place.address) (places_from b qs)
    from low b [] le = All-nil _
    from low b (Instruction i ∷ qs) le = from low (b + length (spelling i)) qs (omega arith)
    from low b (JumpSled shift ∷ qs) le = All-cons (λ place. low ≤ place.address) _ (places_from (b + 11) qs) le (from low (b + 11) qs (omega arith))
    from low b (ReturnSled shift ∷ qs) le = All-cons (λ place. low ≤ place.address) _ (places_from (b + 11) qs) le (from low (b + 11) qs (omega arith))
    from low b (Align ∷ qs) le = from low (b + 1) qs (omega arith)

-- ---- the sleds that units name

-- the sled of a number among the places
record IsPlace (a n : ℕ) (ps : List Piece) (k : ℕ) (u : Unit) : Type 0 where
  j : ℕ
  number : k ≡ n + j
  place : SledPlace
  there : slice_get (places_from a ps) j ≡ Some place
  address : place.address ≡ u.address

sled_same : (m k : ℕ) → whats.Sled m ≡ whats.Sled k → m ≡ k
sled_same m k e = cc

first_place : (a n : ℕ) (ps : List Piece) (place : SledPlace) (k : ℕ) (u : Unit) (rest : List SledPlace) → places_from a ps ≡ place ∷ rest → place.address ≡ a
    → ◌≡◌ {A = Option Unit} (Some (record { address = a; what = whats.Sled n })) (Some u) → u.what ≡ whats.Sled k → IsPlace a n ps k u
first_place a n ps place k u rest places at e w =
    let mine : a ≡ u.address = ap (λ (x : Unit). x.address) (same_Some _ _ e) in
    let what : whats.Sled n ≡ u.what = ap (λ (x : Unit). x.what) (same_Some _ _ e) in
    record { j = 0; number = omega (arith, sled_same n k (what ∙ w)); place = place; there = ap (λ (x : List SledPlace). slice_get x 0) places; address = at ∙ mine }

later_place : (a n : ℕ) (ps qs : List Piece) (b : ℕ) (place : SledPlace) (k : ℕ) (u : Unit) → places_from a ps ≡ place ∷ places_from b qs → IsPlace b (n + 1) qs k u → IsPlace a n ps k u
later_place a n ps qs b place k u places p = record { j = suc p.j; number = omega (arith, p.number); place = p.place; there = ap (λ (x : List SledPlace). slice_get x (suc p.j)) places ∙ p.there; address = p.address }

same_places : (a n : ℕ) (ps qs : List Piece) (b : ℕ) (k : ℕ) (u : Unit) → places_from a ps ≡ places_from b qs → IsPlace b (n + 0) qs k u → IsPlace a n ps k u
same_places a n ps qs b k u places p = record { j = p.j; number = omega (arith, p.number); place = p.place; there = ap (λ (x : List SledPlace). slice_get x p.j) places ∙ p.there; address = p.address }

named_place : (a n : ℕ) (ps : List Piece) (i k : ℕ) (u : Unit) → slice_get (units_from a n ps) i ≡ Some u → u.what ≡ whats.Sled k → IsPlace a n ps k u
named_place a n [] i k u e w = absurd (none-some u e)
named_place a n (Instruction instr ∷ ps) zero k u e w = absurd (let h : whats.Plain instr ≡ u.what = ap (λ (x : Unit). x.what) (same_Some _ _ e) in cc)
named_place a n (JumpSled shift ∷ ps) zero k u e w = first_place a n (JumpSled shift ∷ ps) (record { address = a; shift = shift; returns = false }) k u (places_from (a + 11) ps) refl refl e w
named_place a n (ReturnSled shift ∷ ps) zero k u e w = first_place a n (ReturnSled shift ∷ ps) (record { address = a; shift = shift; returns = true }) k u (places_from (a + 11) ps) refl refl e w
named_place a n (Align ∷ ps) zero k u e w = absurd (let h : whats.Pad ≡ u.what = ap (λ (x : Unit). x.what) (same_Some _ _ e) in cc)
named_place a n (Instruction instr ∷ ps) (suc i) k u e w = same_places a n (Instruction instr ∷ ps) ps (a + length (spelling instr)) k u refl (named_place (a + length (spelling instr)) (n + 0) ps i k u e w)
named_place a n (JumpSled shift ∷ ps) (suc i) k u e w = later_place a n (JumpSled shift ∷ ps) ps (a + 11) (record { address = a; shift = shift; returns = false }) k u refl (named_place (a + 11) (n + 1) ps i k u e w)
named_place a n (ReturnSled shift ∷ ps) (suc i) k u e w = later_place a n (ReturnSled shift ∷ ps) ps (a + 11) (record { address = a; shift = shift; returns = true }) k u refl (named_place (a + 11) (n + 1) ps i k u e w)
named_place a n (Align ∷ ps) (suc i) k u e w = same_places a n (Align ∷ ps) ps (a + 1) k u refl (named_place (a + 1) (n + 0) ps i k u e w)

pub place_named : (base : ℕ) (ps : List Piece) (i k : ℕ) (u : Unit) → slice_get (units_from base 0 ps) i ≡ Some u → u.what ≡ whats.Sled k
    → (place : SledPlace) × (slice_get (places_from base ps) k ≡ Some place) × (place.address ≡ u.address)
place_named base ps i k u e w =
    let p = named_place base 0 ps i k u e w in
    let same : k ≡ p.j = omega (arith, p.number) in
    (p.place, ap (slice_get (places_from base ps)) same ∙ p.there, p.address)

-- ---- the units of a code

whole_code : (base : ℕ) (code : List ℕ) (pieces : List Piece) → StandUpTo base code pieces (base + length code) [] → code ≡ flat_map piece_bytes pieces
whole_code base code pieces s = stand_shown base code pieces (base + length code) [] s ∙ append-nil (flat_map piece_bytes pieces)

pub has_within : (base : ℕ) (code : List ℕ) (units : List Unit) (places : List SledPlace) → HasUnits base code units places → AreWithin base (length code) (addresses units)
has_within base code units places u =
    subst (λ (us : List Unit). AreWithin base (length code) (addresses us)) (sym u.units_are)
    (subst (λ (bytes : List ℕ). AreWithin base (length bytes) (addresses (units_from base 0 u.pieces))) (sym (whole_code base code u.pieces u.stand)) (units_within base 0 u.pieces))

pub has_ascending : (base : ℕ) (code : List ℕ) (units : List Unit) (places : List SledPlace) → HasUnits base code units places → IsStrictlyIncreasing (addresses units)
has_ascending base code units places u = subst (λ (us : List Unit). IsStrictlyIncreasing (addresses us)) (sym u.units_are) (units_ascend base 0 u.pieces)

pub has_few : (base : ℕ) (code : List ℕ) (units : List Unit) (places : List SledPlace) → HasUnits base code units places → length units ≤ length code
has_few base code units places u = omega (arith, ap length u.units_are, ap length (whole_code base code u.pieces u.stand), units_few base 0 u.pieces)
