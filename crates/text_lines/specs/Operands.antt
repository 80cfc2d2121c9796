-- The words after a keyword, as they were counted.
use Rattle.std.specs.Prelude.{◌≡◌, ◌<◌, ℕ, List, [], ◌∷◌, length}
use Rattle.text_lines.specs.declared.operands.Operands.{Operands}
use Rattle.text_lines.specs.declared.operands.Operands.TheVariants.{Zero, One, Two, Many}

-- the words are these
abbrev pub AreOperands : List (List ℕ) → Operands → Type 0
AreOperands words Zero = words ≡ []
AreOperands words (One first) = words ≡ first.now ∷ []
AreOperands words (Two first second) = words ≡ first.now ∷ second.now ∷ []
AreOperands words Many = 2 < length words
