-- The numbers that inputs are drawn from: a linear congruential generator, with the multiplier and the increment of
-- Knuth's MMIX.
use Rattle.std.specs.Prelude.{ℕ, ◌+◌, ◌*◌, ◌/◌, ◌%◌, ◌^◌}

-- the state after one draw
abbrev pub next : ℕ → ℕ
next x = (x * 6364136223846793005 + 1442695040888963407) % 2 ^ 64

-- the number below n that is drawn: the low 33 bits of the state, which repeat soon, are dropped
abbrev pub drawn : ℕ → ℕ → ℕ
drawn n x = next x / 2 ^ 33 % n
