-- The numbers of assembler texts.
use Rattle.std.specs.Prelude.{ℕ, List, take, drop, Option, codes, if◌then◌else◌}
use Rattle.std.specs.Str.{bytes_eq}
use Rattle.text_lines.specs.Numbers.{numeral}

-- the number that a word writes: hexadecimal after 0x, and otherwise decimal
abbrev pub number_written : List ℕ → Option ℕ
number_written word = if bytes_eq (take 2 word) (codes "0x") then numeral 16 (drop 2 word) else numeral 10 word
