use Rattle.std.proofs.Common.{◌≡◌, drop}
use Rattle.text_lines.specs.Numbers.{numeral}
use Rattle.text_lines.proofs.NumberLemmas.{numeral_after}
use Rattle.text_lines.proofs.numerals.parse_digits.Given as goal

abbrev pub invariant-loop-byte : goal.invariant-loop-byte
invariant-loop-byte l = numeral l.radix l.word ≡ numeral_after l.radix l.number (drop l.byte-index l.word)
