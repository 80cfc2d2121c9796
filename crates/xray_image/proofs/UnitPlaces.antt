-- Units that stand one after the other: at most one unit stands at a place.
use Rattle.std.proofs.Common.{◌≡◌, ℕ, ◌+◌, inl, inr, true, false, List, [], ◌∷◌, ◌++◌, length, All, refl, sym, ap, subst, ◌∙◌, arith}
use Rattle.std.specs.List.{flat_map, AllByRecursion}
use Rattle.std.proofs.lemmas.List.{append_cancel_left, length-append}
use Rattle.std.proofs.lemmas.List.Elements.{All-nil, All-cons, All-head, All-tail}
use Rattle.subset_decode.specs.declared.instr.Instr.{Instr}
use Rattle.subset_decode.specs.Encoding.{spelling, IsNamed}
use Rattle.xray_image.specs.Units.{Piece, Instruction, JumpSled, ReturnSled, Align, piece_bytes, IsPiece, IsUnits, places_from}
use Rattle.xray_image.specs.private.Reading.{IsEven}
use Rattle.xray_image.specs.Table.{BeginsAsSled, MayStand, StandsAt, StandUpTo}
use Rattle.xray_image.proofs.Pieces.{OneInstruction, IsNoReturnSled, same_piece, piece_has_byte, opens, other_byte, return_alone}

-- ---- one place

-- an instruction that stands somewhere isn't a return before 2E
no_return_sled : (address : ℕ) (bytes : List ℕ) (p : Piece) (following : List ℕ) → StandsAt address bytes p following → IsNoReturnSled p following
no_return_sled address bytes (Instruction i) following s = λ rest e. s.place (inr (rest, s.spelled ∙ e))
no_return_sled address bytes (JumpSled shift) following s = tt
no_return_sled address bytes (ReturnSled shift) following s = tt
no_return_sled address bytes Align following s = tt

-- the bytes determine the unit at a place and the bytes after it
pub stands_once : OneInstruction → (address : ℕ) (bytes : List ℕ) (p q : Piece) (s t : List ℕ) → StandsAt address bytes p s → StandsAt address bytes q t → (p ≡ q) × (s ≡ t)
stands_once one address bytes p q s t x y =
    let same : p ≡ q = same_piece one p q s t x.fits y.fits (no_return_sled address bytes p s x) (no_return_sled address bytes q t y) (sym x.spelled ∙ y.spelled) in (
      same,
      append_cancel_left (piece_bytes p) s t (sym x.spelled ∙ y.spelled ∙ ap (λ (x : Piece). piece_bytes x ++ t) (sym same)),
    )

-- ---- one run of units

-- the bytes begin with no unit
pub record IsStuck (address : ℕ) (bytes : List ℕ) : Type 0 where
  pub none : (piece : Piece) (following : List ℕ) → StandsAt address bytes piece following → ⊥

-- no bytes begin with no unit
pub stuck_at_end : (address : ℕ) → IsStuck address []
stuck_at_end address = record {
  none = λ piece following s.
      let h = ap length s.spelled in
      omega (arith, length-append (piece_bytes piece) following, piece_has_byte piece);
}

-- units up to where none follows
pub record IsFront (address : ℕ) (bytes : List ℕ) (pieces : List Piece) (end : ℕ) (left : List ℕ) : Type 0 where
  pub stand : StandUpTo address bytes pieces end left
  pub stuck : IsStuck end left

pub record SameFront (ps qs : List Piece) (end end' : ℕ) (left left' : List ℕ) : Type 0 where
  pub pieces : ps ≡ qs
  pub ends : end ≡ end'
  pub lefts : left ≡ left'

-- the bytes determine which units stand, and how far
pub one_front : OneInstruction → (address : ℕ) (bytes : List ℕ) (ps qs : List Piece) (end end' : ℕ) (left left' : List ℕ)
    → IsFront address bytes ps end left → IsFront address bytes qs end' left' → SameFront ps qs end end' left left'
one_front one address bytes [] [] end end' left left' f g =
    record { pieces = refl; ends = f.stand.0 ∙ sym g.stand.0; lefts = f.stand.1 ∙ sym g.stand.1 }
one_front one address bytes [] (q ∷ qs) end end' left left' f g =
    let here = subst (λ (a : ℕ). IsStuck a bytes) f.stand.0 (subst (IsStuck end) f.stand.1 f.stuck) in
    absurd (here.none q g.stand.0 g.stand.1)
one_front one address bytes (p ∷ ps) [] end end' left left' f g =
    let here = subst (λ (a : ℕ). IsStuck a bytes) g.stand.0 (subst (IsStuck end') g.stand.1 g.stuck) in
    absurd (here.none p f.stand.0 f.stand.1)
one_front one address bytes (p ∷ ps) (q ∷ qs) end end' left left' f g =
    let same = stands_once one address bytes p q f.stand.0 g.stand.0 f.stand.1 g.stand.1 in
    let next = address + length (piece_bytes p) in
    let following = f.stand.0 in
    let others : StandUpTo next following qs end' left' =
    subst (λ (b : List ℕ). StandUpTo next b qs end' left') (sym same.1)
    (subst (λ (x : Piece). StandUpTo (address + length (piece_bytes x)) g.stand.0 qs end' left') (sym same.0) g.stand.2) in
    let rest = one_front one next following ps qs end end' left left' (record { stand = f.stand.2; stuck = f.stuck }) (record { stand = others; stuck = g.stuck }) in
    record {
      pieces = ap (λ (x : Piece). x ∷ ps) same.0 ∙ ap (λ (x : List Piece). q ∷ x) rest.pieces;
      ends = rest.ends;
      lefts = rest.lefts;
    }

-- ---- the whole code

even_with : (address : ℕ) (bytes : List ℕ) (p : Piece) (following : List ℕ) (ps : List Piece) → StandsAt address bytes p following
    → All IsEven (places_from (address + length (piece_bytes p)) ps) → All IsEven (places_from address (p ∷ ps))
even_with address bytes (Instruction i) following ps s even = even
even_with address bytes (JumpSled shift) following ps s even = All-cons IsEven (record { address = address; shift = shift; returns = false }) (places_from (address + 11) ps) s.place even
even_with address bytes (ReturnSled shift) following ps s even = All-cons IsEven (record { address = address; shift = shift; returns = true }) (places_from (address + 11) ps) s.place even
even_with address bytes Align following ps s even = even

-- units that stand up to the end are the units of the code, and their sleds have even addresses
pub stand_are : (address : ℕ) (bytes : List ℕ) (pieces : List Piece) (end : ℕ) → StandUpTo address bytes pieces end [] → IsUnits bytes pieces × All IsEven (places_from address pieces)
stand_are address bytes [] end s = (record { whole = sym s.1; pieces_fit = tt }, All-nil IsEven)
stand_are address bytes (p ∷ ps) end s =
    let here = s.1 in
    let rest = stand_are (address + length (piece_bytes p)) s.0 ps end s.2 in (
      record { whole = here.spelled ∙ ap (λ (x : List ℕ). piece_bytes p ++ x) rest.0.whole; pieces_fit = (here.fits, rest.0.pieces_fit) },
      even_with address bytes p s.0 ps here rest.1,
    )

even_after : (address : ℕ) (p : Piece) (ps : List Piece) → All IsEven (places_from address (p ∷ ps)) → All IsEven (places_from (address + length (piece_bytes p)) ps)
even_after address (Instruction i) ps even = even
even_after address (JumpSled shift) ps even = All-tail IsEven (record { address = address; shift = shift; returns = false }) (places_from (address + 11) ps) even
even_after address (ReturnSled shift) ps even = All-tail IsEven (record { address = address; shift = shift; returns = true }) (places_from (address + 11) ps) even
even_after address Align ps even = even

-- an instruction before units doesn't begin as a sled
begins_no_sled : (i : Instr) (ps : List Piece) (bytes : List ℕ) → IsNamed i → AllByRecursion IsPiece ps → bytes ≡ spelling i ++ flat_map piece_bytes ps → BeginsAsSled bytes → ⊥
begins_no_sled i ps bytes fit fits e (inl (rest, jump)) = other_byte i 0xEB (flat_map piece_bytes ps) rest (opens i fit) (opens i fit).no_jump (sym e ∙ jump)
begins_no_sled i ps bytes fit fits e (inr (rest, returns)) = return_alone i ps rest fit fits (sym e ∙ returns)

may_stand : (address : ℕ) (bytes : List ℕ) (p : Piece) (ps : List Piece) → bytes ≡ piece_bytes p ++ flat_map piece_bytes ps → IsPiece p → AllByRecursion IsPiece ps
    → All IsEven (places_from address (p ∷ ps)) → MayStand address bytes p
may_stand address bytes (Instruction i) ps e fit fits even = begins_no_sled i ps bytes fit fits e
may_stand address bytes (JumpSled shift) ps e fit fits even = All-head IsEven (record { address = address; shift = shift; returns = false }) (places_from (address + 11) ps) even
may_stand address bytes (ReturnSled shift) ps e fit fits even = All-head IsEven (record { address = address; shift = shift; returns = true }) (places_from (address + 11) ps) even
may_stand address bytes Align ps e fit fits even = tt

-- the units of a code stand up to its end, if its sleds have even addresses
pub units_stand : (address : ℕ) (bytes : List ℕ) (pieces : List Piece) → IsUnits bytes pieces → All IsEven (places_from address pieces) → StandUpTo address bytes pieces (address + length bytes) []
units_stand address bytes [] u even = (let h = ap length u.whole in omega arith, sym u.whole)
units_stand address bytes (p ∷ ps) u even =
    let following = flat_map piece_bytes ps in
    let next = address + length (piece_bytes p) in
    let rest : StandUpTo next following ps (next + length following) [] = units_stand next following ps (record { whole = refl; pieces_fit = u.pieces_fit.1 }) (even_after address p ps even) in
    let end : next + length following ≡ address + length bytes = omega (arith, ap length u.whole, length-append (piece_bytes p) following) in (
      following,
      record { spelled = u.whole; fits = u.pieces_fit.0; place = may_stand address bytes p ps u.whole u.pieces_fit.0 u.pieces_fit.1 even },
      subst (λ (e : ℕ). StandUpTo next following ps e []) end rest,
    )
