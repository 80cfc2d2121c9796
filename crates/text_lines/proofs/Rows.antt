-- Small texts worked by hand: what the definitions make of them.
use Rattle.std.proofs.Common.{◌≡◌, ℕ, true, false, [], ◌∷◌, ◌++◌, Some, None, refl}
use Rattle.std.specs.Prelude.{codes}
use Rattle.text_lines.specs.Lines.{numbered_lines}
use Rattle.text_lines.specs.Words.{is_clean, words_of}
use Rattle.text_lines.specs.Numbers.{number_of, numeral}
use Rattle.text_lines.specs.Keywords.{in_table}

-- "go" CR LF, LF, "p 2": three lines, and the CR is no part of the first
three_lines : numbered_lines (codes "go" ++ 13 ∷ 10 ∷ 10 ∷ codes "p 2") ≡ (1, codes "go") ∷ (2, []) ∷ (3, codes "p 2") ∷ []
three_lines = refl

-- of CR CR LF one CR stays, and so does a CR after the last LF
carriage_returns : numbered_lines (13 ∷ 13 ∷ 10 ∷ 97 ∷ 13 ∷ []) ≡ (1, 13 ∷ []) ∷ (2, 97 ∷ 13 ∷ []) ∷ []
carriage_returns = refl

no_lines : numbered_lines [] ≡ []
no_lines = refl

-- a tab and two spaces separate two words, and the comment has none
two_words : words_of (9 ∷ codes "hold  7#now and") ≡ codes "hold" ∷ codes "7" ∷ []
two_words = refl

-- a comment may hold any byte; a CR, a DEL or a higher byte is allowed nowhere else
clean_comment : is_clean (codes "go # " ++ 0 ∷ 255 ∷ []) ≡ true
clean_comment = refl

bad_byte : is_clean (codes "go" ++ 13 ∷ []) ≡ false
bad_byte = refl

leading_zeros : number_of (codes "007") ≡ Some 7
leading_zeros = refl

largest_number : number_of (codes "4294967295") ≡ Some 4294967295
largest_number = refl

too_large : number_of (codes "4294967296") ≡ None
too_large = refl

signed : number_of (codes "+1") ≡ None
signed = refl

no_digit : number_of [] ≡ None
no_digit = refl

-- letters of either case are hexadecimal digits
letters : numeral 16 (codes "0fF") ≡ Some 255
letters = refl

no_hexadecimal_digit : numeral 16 (codes "fg") ≡ None
no_hexadecimal_digit = refl

-- the first entry of a word counts, and a word that no entry has gives nothing
first_entry : in_table {K = ℕ} ((codes "go", 1) ∷ (codes "hold", 2) ∷ (codes "go", 3) ∷ []) (codes "go") ≡ Some 1
first_entry = refl

no_entry : in_table {K = ℕ} ((codes "go", 1) ∷ (codes "hold", 2) ∷ []) (codes "hol") ≡ None
no_entry = refl
