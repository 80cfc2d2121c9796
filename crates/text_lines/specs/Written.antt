-- Texts as they are written of words.
use Rattle.std.specs.Prelude.{◌≡◌, ◌≤◌, ℕ, Bool, true, ◌&&◌, not, nat_le, List, [], ◌∷◌, ◌++◌, length, map, Some, decimal}
use Rattle.std.specs.List.{flat_map, join_with_byte, list_all}
use Rattle.std.specs.Str.Lines.{lines}
use Rattle.text_lines.specs.Numbers.{numeral, number_of}
use Rattle.text_lines.specs.Words.{begins_comment, is_allowed, is_blank, is_clean, words_of}

-- a byte that may stand in a line, and neither ends a word nor begins a comment
abbrev pub is_word_byte : ℕ → Bool
is_word_byte byte = is_allowed byte && not (is_blank byte) && not (begins_comment byte)

-- one or more of these bytes
abbrev pub is_written_word : List ℕ → Bool
is_written_word word = nat_le 1 (length word) && list_all is_word_byte word

-- words that can be written
abbrev pub are_written_words : List (List ℕ) → Bool
are_written_words words = list_all is_written_word words

-- the line of these words: a space (32) between each two
abbrev pub written_line : List (List ℕ) → List ℕ
written_line words = join_with_byte 32 words

-- the text of these lines of words, each with an LF at its end
abbrev pub written_text : List (List (List ℕ)) → List ℕ
written_text all = flat_map (λ words. written_line words ++ 10 ∷ []) all

-- What is written of words is read as these words: the text has the lines that were written, and each of them is clean and
-- has its words.
pub record WrittenTextsRead : Type 0 where
  pub lines : (all : List (List (List ℕ))) → list_all are_written_words all ≡ true → lines (written_text all) ≡ map written_line all
  pub clean : (words : List (List ℕ)) → are_written_words words ≡ true → is_clean (written_line words) ≡ true
  pub words : (words : List (List ℕ)) → are_written_words words ≡ true → words_of (written_line words) ≡ words

-- a number that is written in decimal is a word, and reads as itself if it fits 64 bits, or 32
pub record WrittenNumbersRead : Type 0 where
  pub word : (n : ℕ) → n ≤ 18446744073709551615 → is_written_word (decimal n) ≡ true
  pub long : (n : ℕ) → n ≤ 18446744073709551615 → numeral 10 (decimal n) ≡ Some n
  pub short : (n : ℕ) → n ≤ 4294967295 → number_of (decimal n) ≡ Some n
