-- Reading names in the texts that have them, as the formats of these texts say. A reading is a value, and what follows it;
-- there is none if the text isn't of the format.
use Rattle.std.specs.Prelude.{◌||◌, ◌==◌, Bool, ℕ, nat_le, List, [], ◌∷◌, Option, Some, None, option_map, option_and_then, if◌then◌else◌}
use Rattle.std.specs.List.{list_all}

-- a byte, and then a reading
abbrev pub after_byte : ℕ → Option (List ℕ × List ℕ) → Option (List ℕ × List ℕ)
after_byte b reading = option_map (λ read. (b ∷ read.0, read.1)) reading

-- What stands before the closing mark of a text, after the opening one. Two marks stand for one. One mark alone closes the
-- text.
abbrev pub to_mark : (mark : ℕ) → List ℕ → Option (List ℕ × List ℕ)
to_mark mark [] = None
to_mark mark (b ∷ []) = if b == mark then Some ([], []) else None
to_mark mark (b ∷ c ∷ rest) =
    if b == mark then (if c == mark then after_byte mark (to_mark mark rest) else Some ([], c ∷ rest)) else after_byte b (to_mark mark (c ∷ rest))

-- ---- csv (RFC 4180)

-- a byte that ends a field without marks: a comma, a line feed or a carriage return
abbrev pub ends_field : ℕ → Bool
ends_field b = b == 44 || b == 10 || b == 13

-- a field without marks: the bytes up to one that ends it, of which none is a double mark (34)
abbrev pub bare_field : List ℕ → Option (List ℕ × List ℕ)
bare_field [] = Some ([], [])
bare_field (b ∷ rest) = if ends_field b then Some ([], b ∷ rest) else if b == 34 then None else after_byte b (bare_field rest)

-- a field: if it begins with a double mark, up to the closing one
abbrev pub csv_field : List ℕ → Option (List ℕ × List ℕ)
csv_field [] = Some ([], [])
csv_field (b ∷ rest) = if b == 34 then to_mark 34 rest else bare_field (b ∷ rest)

-- ---- YAML (1.2.2, single-quoted style, in one line)

-- a byte that may stand in one line between marks: a tab, or none of a control character
abbrev pub is_in_line : ℕ → Bool
is_in_line b = b == 9 || nat_le 32 b

-- a reading whose value is in one line
abbrev pub in_line : List ℕ × List ℕ → Option (List ℕ × List ℕ)
in_line read = if list_all is_in_line read.0 then Some read else None

-- a text between single marks (39)
abbrev pub yaml_quoted : List ℕ → Option (List ℕ × List ℕ)
yaml_quoted [] = None
yaml_quoted (b ∷ rest) = if b == 39 then option_and_then in_line (to_mark 39 rest) else None
