-- That the words of a unit are there.
use Rattle.std.specs.Prelude.{◌<◌, ◌*◌, ◌+◌, ◌^◌, ℕ, List, length}
use Rattle.xray_image.specs.declared.unit.What.{What}
use Rattle.xray_image.specs.declared.unit.What.TheVariants as whats

-- if a unit is a sled, its words are among the words
abbrev pub HasWords : List ℕ → What → Type 0
HasWords words (whats.Plain instr) = Unit {0}
HasWords words (whats.Sled sled) = (sled < 2 ^ 30) × (4 * sled + 3 < length words)
HasWords words whats.Pad = Unit {0}
