-- Numbers in turn, as loops take them.
use Rattle.std.proofs.Common.{◌≡◌, ◌+◌, ◌-◌, ◌<◌, ℕ, suc, ◌∷◌, Result, Ok, Err, ap, ◌∙◌, arith}
use Rattle.std.specs.List.{range_with_len}
use Rattle.xray_io.specs.Rows.{InTurn, ◌>>=◌}

-- the numbers from one on are that one, and those from the next on
pub numbers_next : (i n : ℕ) → i < n → range_with_len i (n - i) ≡ i ∷ range_with_len (i + 1) (n - (i + 1))
numbers_next i n lt =
    let is : n - i ≡ suc (n - (i + 1)) = omega arith in
    ap (range_with_len i) is

-- rows in turn, of a number and those behind it
pub turn_next : {S F : Type 0} (rows : S → ℕ → Result S F) (before after : S) (i n : ℕ) → i < n → rows before i ≡ Ok after
    → InTurn rows before (range_with_len i (n - i)) ≡ InTurn rows after (range_with_len (i + 1) (n - (i + 1)))
turn_next rows before after i n lt row =
    ap (InTurn rows before) (numbers_next i n lt)
    ∙ ap (λ r. r >>= λ next. InTurn rows next (range_with_len (i + 1) (n - (i + 1)))) row

-- a number is refused, and so is what it stands in
pub turn_refused : {S F : Type 0} (rows : S → ℕ → Result S F) (before : S) (fault : F) (i n : ℕ) → i < n → rows before i ≡ Err fault
    → InTurn rows before (range_with_len i (n - i)) ≡ Err fault
turn_refused rows before fault i n lt row =
    ap (InTurn rows before) (numbers_next i n lt)
    ∙ ap (λ r. r >>= λ next. InTurn rows next (range_with_len (i + 1) (n - (i + 1)))) row

-- behind the last number there is none
pub turn_done : {S F : Type 0} (rows : S → ℕ → Result S F) (before : S) (i n : ℕ) → n - i ≡ 0
    → InTurn rows before (range_with_len i (n - i)) ≡ Ok before
turn_done rows before i n none = ap (λ k. InTurn rows before (range_with_len i k)) none
