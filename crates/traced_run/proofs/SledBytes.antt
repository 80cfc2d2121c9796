-- The bytes of whole sleds, and the distance that they name.
use Rattle.std.proofs.Common.{◌≡◌, ℕ, ◌%◌, ◌/◌, ◌^◌, [], ◌∷◌, ◌++◌, refl, sym, ap, arith}
use Rattle.std.specs.Prelude.{ℤ, pos, negsuc, ◌-ℤ◌, FitsSigned, unsigned_abs}
use Rattle.std.specs.Int.{cast_unsigned, int_rem_euclid, to_le_bytes, w32}
use Rattle.subset_decode.specs.declared.instr.Instr.TheVariants.{Mov, Call, Jmp}
use Rattle.subset_decode.specs.Encoding.{spelling}
use Rattle.sled_words.specs.declared.part.Part.TheVariants.{Head, Id, Opcode, Offset}
use Rattle.sled_words.specs.Parts.{displacement, jump_head, patched_head}
use Rattle.traced_run.specs.Executed.{loaded_bytes}

pub jump_bytes : loaded_bytes Head jump_head ≡ 0xEB ∷ 0x09 ∷ []
jump_bytes = refl

pub return_bytes : (head : ℕ) → head % 256 ≡ 0xC3 → loaded_bytes Head head ≡ 0xC3 ∷ head / 256 % 256 ∷ []
return_bytes head is = ap (λ b. b ∷ head / 256 % 256 ∷ []) is

-- a distance of 32 bits is its displacement
distance_is : (rel : ℤ) → FitsSigned w32 rel → cast_unsigned w32 rel ≡ unsigned_abs (int_rem_euclid rel (pos (2 ^ 32)))
distance_is (pos n) fits = omega (arith, fits.sfits)
distance_is (negsuc n) fits = omega (arith, fits.sfits)

pub call_bytes : (id following target : ℕ) → FitsSigned w32 (pos target -ℤ pos following)
    → loaded_bytes Head patched_head ++ loaded_bytes Id id ++ loaded_bytes Opcode 0xE8 ++ loaded_bytes Offset (displacement following target)
    ≡ spelling (Mov 10 id) ++ spelling (Call (pos target -ℤ pos following))
call_bytes id following target fits =
    ap (λ n. spelling (Mov 10 id) ++ 0xE8 ∷ to_le_bytes w32 n) (sym (distance_is (pos target -ℤ pos following) fits))

pub jump_away_bytes : (id following target : ℕ) → FitsSigned w32 (pos target -ℤ pos following)
    → loaded_bytes Head patched_head ++ loaded_bytes Id id ++ loaded_bytes Opcode 0xE9 ++ loaded_bytes Offset (displacement following target)
    ≡ spelling (Mov 10 id) ++ spelling (Jmp (pos target -ℤ pos following))
jump_away_bytes id following target fits =
    ap (λ n. spelling (Mov 10 id) ++ 0xE9 ∷ to_le_bytes w32 n) (sym (distance_is (pos target -ℤ pos following) fits))
