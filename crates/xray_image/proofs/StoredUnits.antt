-- Units as stored by where they begin.
use Rattle.std.proofs.Common.{◌≡◌, ℕ, zero, suc, ◌+◌, ◌<◌, List, [], ◌∷◌, ◌++◌, Some, length, get_or, drop, map, refl, sym, ap, ◌∙◌, arith}
use Rattle.std.specs.Prelude.{slice_get}
use Rattle.std.specs.List.{zip}
use Rattle.std.specs.Option.{option_map}
use Rattle.std.proofs.lemmas.List.{length-map, map-append}
use Rattle.std.proofs.lemmas.Option.{none-some, same_Some, slice_get-map, slice_get_within, slice_get-get_or}
use Rattle.subset_decode.specs.Reading.{instr_at, low_register_at}
use Rattle.xray_image.specs.declared.unit.Unit.{Unit}
use Rattle.xray_image.specs.declared.unit.What.{What}
use Rattle.xray_image.specs.declared.unit.What.TheVariants.{Pad}
use Rattle.xray_image.specs.Units.{Piece, what_of, units_from}
use Rattle.xray_image.specs.Program.{addresses}
use Rattle.xray_image.specs.private.UnitTable.{what_at, unit_at}

-- ---- pairs

length-pairs : {A B : Type 0} (xs : List A) (ys : List B) → length xs ≡ length ys → length (zip xs ys) ≡ length xs
length-pairs [] ys e = refl
length-pairs (x ∷ xs) [] e = absurd (omega arith)
length-pairs (x ∷ xs) (y ∷ ys) e = ap suc (length-pairs xs ys (omega arith))

pair_at : {A B : Type 0} (xs : List A) (ys : List B) (i : ℕ) (x : A) (y : B) → slice_get xs i ≡ Some x → slice_get ys i ≡ Some y → slice_get (zip xs ys) i ≡ Some (x, y)
pair_at [] ys i x y at at' = absurd (none-some x at)
pair_at (a ∷ xs) [] i x y at at' = absurd (none-some y at')
pair_at (a ∷ xs) (b ∷ ys) zero x y at at' = ap (λ u. Some (u, b)) (same_Some a x at) ∙ ap (λ v. Some (x, v)) (same_Some b y at')
pair_at (a ∷ xs) (b ∷ ys) (suc i) x y at at' = pair_at xs ys i x y at at'

pairs_push : {A B : Type 0} (xs : List A) (ys : List B) (x : A) (y : B) → length xs ≡ length ys → zip (xs ++ x ∷ []) (ys ++ y ∷ []) ≡ zip xs ys ++ (x, y) ∷ []
pairs_push [] [] x y e = refl
pairs_push [] (b ∷ ys) x y e = absurd (omega arith)
pairs_push (a ∷ xs) [] x y e = absurd (omega arith)
pairs_push (a ∷ xs) (b ∷ ys) x y e = ap (λ ps. (a, b) ∷ ps) (pairs_push xs ys x y (omega arith))

-- the unit of a number, by its place and its count of sleds
module _ (base : ℕ) (code places sleds : List ℕ) where
  pub length-units : length places ≡ length sleds → length (map (unit_at base code) (zip places sleds)) ≡ length places
  length-units paired = length-map (zip places sleds) (unit_at base code) ∙ length-pairs places sleds paired

  module _ (i place : ℕ) (at : slice_get places i ≡ Some place) where
    pub unit_read : (count : ℕ) → slice_get sleds i ≡ Some count → slice_get (map (unit_at base code) (zip places sleds)) i ≡ Some (unit_at base code (place, count))
    unit_read count counted = slice_get-map (unit_at base code) (zip places sleds) i ∙ ap (option_map (unit_at base code)) (pair_at places sleds i place count at counted)

    pub address_there : (address : ℕ) → address ≡ base + place → length places ≡ length sleds → slice_get (addresses (map (unit_at base code) (zip places sleds))) i ≡ Some address
    address_there address is paired =
        let within : i < length sleds = omega (arith, slice_get_within places i place at, paired) in
        slice_get-map (λ u. u.address) (map (unit_at base code) (zip places sleds)) i
        ∙ ap (option_map (λ (u : Unit). u.address)) (unit_read (get_or sleds i 0) (slice_get-get_or sleds i 0 within))
        ∙ ap Some (sym is)

-- one more place with its count of sleds is one more unit
pub unit_push : (base : ℕ) (code places sleds places' sleds' : List ℕ) (place count : ℕ) → length places ≡ length sleds → places' ≡ places ++ place ∷ [] → sleds' ≡ sleds ++ count ∷ []
    → map (unit_at base code) (zip places' sleds') ≡ map (unit_at base code) (zip places sleds) ++ unit_at base code (place, count) ∷ []
unit_push base code places sleds places' sleds' place count paired more more' =
    ap (λ (ps : List ℕ). map (unit_at base code) (zip ps sleds')) more
    ∙ ap (λ (ns : List ℕ). map (unit_at base code) (zip (places ++ place ∷ []) ns)) more'
    ∙ ap (map (unit_at base code)) (pairs_push places sleds place count paired)
    ∙ map-append (unit_at base code) (zip places sleds) ((place, count) ∷ [])

abbrev one_unit : ℕ → What → List Unit
one_unit address what = record { address = address; what = what } ∷ []

-- that unit is the piece that stands there
pub unit_told : (base' base : ℕ) (code' code : List ℕ) (place at count sleds : ℕ) (piece : Piece) (rest : List ℕ) → base' ≡ base → code' ≡ code → place ≡ at → count ≡ sleds
    → rest ≡ drop at code → ((n : ℕ) → what_at n rest ≡ what_of n piece) → unit_at base' code' (place, count) ∷ [] ≡ units_from (base + at) sleds (piece ∷ [])
unit_told base' base code' code place at count sleds piece rest same_base same_code there counted same told =
    ap (λ (b : ℕ). unit_at b code' (place, count) ∷ []) same_base
    ∙ ap (λ (bytes : List ℕ). unit_at base bytes (place, count) ∷ []) same_code
    ∙ ap (λ (p : ℕ). unit_at base code (p, count) ∷ []) there
    ∙ ap (λ (n : ℕ). unit_at base code (at, n) ∷ []) counted
    ∙ ap (one_unit (base + at)) (ap (what_at sleds) (sym same) ∙ told sleds)

-- ---- the alignment byte

-- it is neither a sled nor an instruction
pub aligned : (bytes : List ℕ) (sleds : ℕ) → get_or bytes 0 0 ≡ 0x90 → what_at sleds bytes ≡ Pad
unfolding instr_at low_register_at
aligned [] sleds e = absurd (omega arith)
aligned (b ∷ rest) sleds e = rw e refl
