-- Worked examples of the definitions, checked by computing.
use Rattle.std.proofs.Common.{◌≡◌, ◌/◌, ◌^◌, None, Some, refl}
use Rattle.soak_inputs.specs.Draws.{next}
use Rattle.soak_inputs.specs.Texts.{callee, round_count}

-- the first draw of two seeds: the state, the number that is reduced, and the rounds of the first function
drawn_from_zero : (next 0 ≡ 1442695040888963407) × (next 0 / 2 ^ 33 ≡ 167951807) × (round_count 0 ≡ 2)
drawn_from_zero = (refl, refl, refl)

drawn_from_one : (next 1 ≡ 7806831264735756412) × (next 1 / 2 ^ 33 ≡ 908834774) × (round_count 1 ≡ 1)
drawn_from_one = (refl, refl, refl)

-- the last function calls none, and the one before it calls the last
last_calls_none : callee 63 0 ≡ None
last_calls_none = refl

one_before_calls_last : callee 62 0 ≡ Some 63
one_before_calls_last = refl
