-- Keywords, in tables of words.
use Rattle.std.specs.Prelude.{ℕ, Bool, List, Option, find, option_map}
use Rattle.std.specs.Str.{bytes_eq}

-- two words are the same
abbrev pub is_word : List ℕ → List ℕ → Bool
is_word word other = bytes_eq word other

-- the keyword that a table has for a word
abbrev pub in_table : {K : Type 0} → List (List ℕ × K) → List ℕ → Option K
in_table table word = option_map (λ entry. entry.1) (find (λ entry. is_word entry.0 word) table)
