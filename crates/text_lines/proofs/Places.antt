-- The first place at which a test passes, and the parts of a list there.
use Rattle.std.proofs.Common.{◌≡◌, ℕ, ◌<◌, Bool, List, length, Option, Some, None, sym, arith}
use Rattle.std.specs.Prelude.{position, unwrap_or}
use Rattle.std.specs.List.{position_or_len}
use Rattle.std.proofs.lemmas.List.Sums.{prefix_len-le-length}

-- the test passes here first
pub Some-position : {X : Type 0} (p : X → Bool) (xs : List X) (i : ℕ) → Some i ≡ position p xs → (position_or_len p xs ≡ i) × (i < length xs)
Some-position p xs i h = grind arith

-- the test passes nowhere
pub None-position : {X : Type 0} (p : X → Bool) (xs : List X) → None ≡ position p xs → position_or_len p xs ≡ length xs
None-position p xs h = grind (arith, prefix_len-le-length)

-- the place that `unwrap_or` gives for the answer of a search
pub unwrap_or-position : {X : Type 0} (p : X → Bool) (xs : List X) (found : Option ℕ) → found ≡ position p xs → unwrap_or found (length xs) ≡ position_or_len p xs
unwrap_or-position p xs None h = sym (None-position p xs h)
unwrap_or-position p xs (Some i) h = sym (Some-position p xs i h).0
