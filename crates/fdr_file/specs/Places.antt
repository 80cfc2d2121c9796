-- Where the parts of bytes begin, if they come one after the other.
use Rattle.std.specs.Prelude.{ℕ, zero, suc, ◌+◌, ◌-◌, List, [], ◌∷◌}

-- Each place where a part begins, with the bytes from there on. A part begins where the one before it ends. `len` gives
-- the length of a part from its bytes. The first bytes may belong to a part that began earlier.
unfoldable pub starts : (List ℕ → ℕ) → ℕ → ℕ → List ℕ → List (ℕ × List ℕ)
starts len left at [] = []
starts len (suc left) at (byte ∷ bytes) = starts len left (at + 1) bytes
starts len zero at (byte ∷ bytes) = (at, byte ∷ bytes) ∷ starts len (len (byte ∷ bytes) - 1) (at + 1) bytes
