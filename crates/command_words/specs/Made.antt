-- What is made of the words in the places of a command line, and of what its options say.
use Rattle.std.specs.Prelude.{ℕ, List, [], ◌∷◌, Option, Some, None, option_and_then, option_map}
use Rattle.command_words.specs.Lines.{Line}
use Rattle.command_words.specs.Numbers.{number_meant}
use Rattle.command_words.specs.Rows.{FileRow, MaybeRead, Numeral, Read, Role, Written}

-- what a place gives: the name of a file, maybe none, or a number
abbrev pub Word : Role → Type 0
Word Read = List ℕ
Word MaybeRead = Option (List ℕ)
Word Written = List ℕ
Word (Numeral values) = ℕ

-- what makes something of what each place gives, in order
abbrev pub Takes : List FileRow → Type 0 → Type 0
Takes [] Y = Y
Takes (file ∷ files) Y = Word file.role → Takes files Y

-- what a place makes of the first word, and the words after it
abbrev pub by_word : {T Y : Type 0} (role : Role) → (Word role → T) → (rest : T → List (List ℕ) → Option Y) → List (List ℕ) → Option Y
by_word Read make rest [] = None
by_word Read make rest (word ∷ words) = rest (make word) words
by_word MaybeRead make rest [] = rest (make None) []
by_word MaybeRead make rest (word ∷ words) = rest (make (Some word)) words
by_word Written make rest [] = None
by_word Written make rest (word ∷ words) = rest (make word) words
by_word (Numeral values) make rest [] = None
by_word (Numeral values) make rest (word ∷ words) = option_and_then (λ number. rest (make number) words) (number_meant values word)

-- what is made of words by their places, if there is a word for each and no other
abbrev pub made_of : {X Y : Type 0} (files : List FileRow) → Takes files (X → Y) → Option X → List (List ℕ) → Option Y
made_of [] make options [] = option_map make options
made_of [] make options (word ∷ words) = None
made_of (file ∷ files) make options words = by_word file.role make (λ made rest. made_of files made options rest) words

-- what is made of a line with what its options say
abbrev pub line_says : {X Y : Type 0} (files : List FileRow) → Takes files (X → Y) → Option X → Line → Option Y
line_says files make options line = made_of files make options line.files

-- ---- what options say

infixl 60 ◌⊛◌
-- what is made of one more thing that options say, if they say it
abbrev pub ◌⊛◌ : {X Y : Type 0} → Option (X → Y) → Option X → Option Y
◌⊛◌ (Some make) (Some said) = Some (make said)
◌⊛◌ _ _ = None

-- what the options say of a command that has none
abbrev pub no_options : Option (Unit {0})
no_options = Some tt
