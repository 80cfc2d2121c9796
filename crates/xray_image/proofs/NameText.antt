-- Names are text.
use Rattle.std.proofs.Common.{◌≡◌, ◌<◌, ℕ, List, length, true, get_or, All, arith, inl, inr}
use Rattle.std.specs.Str.{IsAscii}
use Rattle.std.proofs.lemmas.Bool.{cases_lt}
use Rattle.std.proofs.lemmas.List.{get_or_past}
use Rattle.std.proofs.lemmas.List.Elements.{All-get_or}
use Rattle.xray_image.specs.Program.{is_name_byte}

name_byte_below : (b : ℕ) → is_name_byte b ≡ true → b < 128
name_byte_below b e = grind arith

pub name_is_ascii : (name : List ℕ) → All (λ b. is_name_byte b ≡ true) name → IsAscii name
name_is_ascii name all i =
    elim (cases_lt i (length name)) [
      | inl within ↦ name_byte_below (get_or name i 0) (All-get_or (λ b. is_name_byte b ≡ true) name i 0 within all)
      | inr past ↦ omega (arith, get_or_past name i 0 past)
    ]
