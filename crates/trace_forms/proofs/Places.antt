-- Where no part of bytes begins.
use Rattle.std.proofs.Common.{◌≡◌, ℕ, List, [], refl}
use Rattle.fdr_file.specs.Places.{starts}

-- no part begins if no byte is left
pub starts_none : (len : List ℕ → ℕ) (at : ℕ) → starts len 0 at [] ≡ []
unfolding starts
starts_none len at = refl
