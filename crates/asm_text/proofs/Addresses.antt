-- The addresses where units begin.
use Rattle.std.proofs.Common.{◌≡◌, ℕ, ◌+◌, List, [], ◌∷◌, ◌++◌, length, refl, sym, ap, subst, ◌∙◌, arith, length-append, add_assoc, add-zero}
use Rattle.std.specs.Prelude.{Contains}
use Rattle.std.specs.List.{flat_map}
use Rattle.std.proofs.lemmas.List.Elements.{Contains-append_left}
use Rattle.xray_image.specs.Units.{Piece, piece_bytes, sleds_in, units_from}
use Rattle.xray_image.specs.Program.{addresses}

-- the addresses where pieces begin, from an address on
abbrev pub addresses_from : ℕ → List Piece → List ℕ
addresses_from address [] = []
addresses_from address (piece ∷ pieces) = address ∷ addresses_from (address + length (piece_bytes piece)) pieces

pub addresses-units : (address sleds : ℕ) (pieces : List Piece) → addresses (units_from address sleds pieces) ≡ addresses_from address pieces
addresses-units address sleds [] = refl
addresses-units address sleds (piece ∷ pieces) =
    ap (λ ns. address ∷ ns) (addresses-units (address + length (piece_bytes piece)) (sleds + sleds_in piece) pieces)

-- pieces after others
pub addresses-append : (address : ℕ) (xs ys : List Piece) → addresses_from address (xs ++ ys) ≡ addresses_from address xs ++ addresses_from (address + length (flat_map piece_bytes xs)) ys
addresses-append address [] ys = ap (λ n. addresses_from n ys) (sym (add-zero address))
addresses-append address (x ∷ xs) ys =
    let n = length (piece_bytes x) in
    ap (λ ns. address ∷ ns)
    (addresses-append (address + n) xs ys
    ∙ ap (λ m. addresses_from (address + n) xs ++ addresses_from m ys)
    (add_assoc address n (length (flat_map piece_bytes xs)) ∙ ap (λ m. address + m) (sym (length-append (piece_bytes x) (flat_map piece_bytes xs)))))

-- the first piece
pub first_address : (address : ℕ) (piece : Piece) (pieces : List Piece) → Contains (addresses_from address (piece ∷ pieces)) address
first_address address piece pieces = (0, omega arith, refl)

-- an address among the first pieces
pub address_within : (address : ℕ) (xs ys : List Piece) (a : ℕ) → Contains (addresses_from address xs) a → Contains (addresses_from address (xs ++ ys)) a
address_within address xs ys a at =
    subst (λ ns. Contains ns a) (sym (addresses-append address xs ys)) (Contains-append_left (addresses_from address xs) (addresses_from (address + length (flat_map piece_bytes xs)) ys) a at)
