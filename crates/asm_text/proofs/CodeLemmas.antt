-- The bytes of sleds among the parts of a line.
use Rattle.std.proofs.Common.{◌≡◌, ℕ, ◌%◌, true, false, cond, List, [], ◌∷◌, ◌++◌, eqb, append-nil, append_assoc, ap, ◌∙◌}
use Rattle.std.specs.Prelude.{Result, Ok, Err, OnOk}
use Rattle.xray_image.specs.Units.{Piece, piece_bytes, Align}
use Rattle.asm_text.specs.declared.statement.Branch.{Branch}
use Rattle.asm_text.specs.Layout.{Placed, Fixed, Jump, aligned, piece_of}
use Rattle.asm_text.specs.private.Laying.{parts_bytes}

-- a sled with its alignment
pub sled_alone : (all : List Placed) (following place : ℕ) (sled : Piece)
    → parts_bytes all following (aligned place sled) ≡ cond (eqb (place % 2) 0) (piece_bytes sled) (0x90 ∷ piece_bytes sled)
sled_alone all following place sled =
    elim (eqb (place % 2) 0) as (λ t. parts_bytes all following (cond t (Fixed sled ∷ []) (Fixed Align ∷ Fixed sled ∷ [])) ≡ cond t (piece_bytes sled) (0x90 ∷ piece_bytes sled)) [
      | true ↦ append-nil (piece_bytes sled)
      | false ↦ ap (λ bytes. 0x90 ∷ bytes) (append-nil (piece_bytes sled))
    ]

-- and with a branch after it
pub sled_then_branch : (all : List Placed) (following place : ℕ) (sled : Piece) (branch : Branch) (name : List ℕ)
    → parts_bytes all following (aligned place sled ++ Jump branch name ∷ [])
    ≡ cond (eqb (place % 2) 0) (piece_bytes sled) (0x90 ∷ piece_bytes sled) ++ piece_bytes (piece_of all following (Jump branch name))
sled_then_branch all following place sled branch name =
    elim (eqb (place % 2) 0) as (λ t. parts_bytes all following (cond t (Fixed sled ∷ []) (Fixed Align ∷ Fixed sled ∷ []) ++ Jump branch name ∷ []) ≡ cond t (piece_bytes sled) (0x90 ∷ piece_bytes sled) ++ piece_bytes (piece_of all following (Jump branch name))) [
      | true ↦ ap (λ bytes. piece_bytes sled ++ bytes) (append-nil (piece_bytes (piece_of all following (Jump branch name))))
      | false ↦ ap (λ bytes. 0x90 ∷ piece_bytes sled ++ bytes) (append-nil (piece_bytes (piece_of all following (Jump branch name))))
    ]

-- one addition after another
pub added_after : {X E : Type 0} (r : Result X E) (new mid old a b : List ℕ) → mid ≡ old ++ a → OnOk r (new ≡ mid ++ b) → OnOk r (new ≡ old ++ (a ++ b))
added_after (Ok x) new mid old a b first second = second ∙ ap (λ xs. xs ++ b) first ∙ append_assoc old a b
added_after (Err e) new mid old a b first second = tt
