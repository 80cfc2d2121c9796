-- The lines of facts, one after the other.
use Rattle.std.proofs.Common.{◌≡◌, ℕ, List, [], ◌++◌, append_assoc, append-nil}

pub numbers_lines : (a b d e f g : List ℕ) → a ++ (b ++ (d ++ (e ++ (f ++ (g ++ []))))) ≡ ((a ++ b) ++ d) ++ ((e ++ f) ++ g)
numbers_lines a b d e f g = simp (append_assoc, append-nil)

pub four_lines : (a b d e : List ℕ) → a ++ (b ++ (d ++ (e ++ []))) ≡ ((a ++ b) ++ d) ++ e
four_lines a b d e = simp (append_assoc, append-nil)
