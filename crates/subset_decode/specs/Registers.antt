-- The general registers by number, and which of them an instruction of the subset may name.
use Rattle.std.specs.Prelude.{◌≢◌, ◌==◌, ◌||◌, ◌<◌, ℕ, Bool}

-- 4 is rsp, which the stack instructions use without naming it; 10 is r10, which a patched sled overwrites
abbrev pub is_reserved : ℕ → Bool
is_reserved n = n == 4 || n == 10

-- a register that an instruction may name
abbrev pub IsRegister : ℕ → Type 0
IsRegister n = (n < 16) × (n ≢ 4) × (n ≢ 10)
