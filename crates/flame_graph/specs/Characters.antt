-- The characters of a name: those of the UTF-8 in it, and each other byte by itself.
use Rattle.std.specs.Prelude.{◌-◌, ◌&&◌, Bool, ℕ, zero, suc, List, [], ◌∷◌, length, take, nat_le, if◌then◌else◌}
use Rattle.std.specs.Str.{is_utf8}

-- whether bytes are UTF-8
abbrev pub is_text : List ℕ → Bool
is_text bytes = is_utf8 bytes

-- whether there are this many bytes, and they are UTF-8
abbrev pub begins_with : (size : ℕ) → List ℕ → Bool
begins_with size bytes = nat_le size (length bytes) && is_text (take size bytes)

-- How many bytes the first character has: those of the shortest prefix that is UTF-8. No character has more than four. A
-- byte with which no UTF-8 begins is by itself.
abbrev pub first_size : List ℕ → ℕ
first_size bytes =
    if begins_with 1 bytes then 1 else if begins_with 2 bytes then 2 else if begins_with 3 bytes then 3 else if begins_with 4 bytes then 4 else 1

-- the characters of bytes, of which the first belong to a character before
abbrev pub characters_after : (passed : ℕ) → List ℕ → List (List ℕ)
characters_after passed [] = []
characters_after zero (b ∷ bytes) = take (first_size (b ∷ bytes)) (b ∷ bytes) ∷ characters_after (first_size (b ∷ bytes) - 1) bytes
characters_after (suc passed) (b ∷ bytes) = characters_after passed bytes

-- the characters of bytes, each as its own bytes
abbrev pub characters : List ℕ → List (List ℕ)
characters bytes = characters_after 0 bytes
