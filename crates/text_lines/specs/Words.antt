-- What a line says: the words before its comment, with blanks between them.
use Rattle.std.specs.Prelude.{ℕ, Bool, ◌||◌, ◌&&◌, not, ◌==◌, nat_le, List, length, filter}
use Rattle.std.specs.List.{before_first, list_all, slice_split}

-- the byte `#` begins a comment, which runs to the end of the line
abbrev pub begins_comment : ℕ → Bool
begins_comment byte = byte == 35

-- a blank is a space or a tab
abbrev pub is_blank : ℕ → Bool
is_blank byte = byte == 32 || byte == 9

-- the bytes that may stand outside comments: tabs, and the printable ASCII characters from the
-- space to `~`
abbrev pub is_allowed : ℕ → Bool
is_allowed byte = byte == 9 || (nat_le 32 byte && nat_le byte 126)

-- the part of a line before its comment
abbrev pub before_comment : List ℕ → List ℕ
before_comment line = before_first begins_comment line

-- each byte of the line before its comment is allowed there
abbrev pub is_clean : List ℕ → Bool
is_clean line = list_all is_allowed (before_comment line)

-- the parts between blanks, without the empty ones
abbrev pub words_between_blanks : List ℕ → List (List ℕ)
words_between_blanks bytes = filter (λ part. not (length part == 0)) (slice_split is_blank bytes)

-- the words of a line
abbrev pub words_of : List ℕ → List (List ℕ)
words_of line = words_between_blanks (before_comment line)
