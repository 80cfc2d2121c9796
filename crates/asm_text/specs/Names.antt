-- The names of functions and labels.
use Rattle.std.specs.Prelude.{ℕ, Bool, ◌&&◌, not, nat_le, ◌==◌, ◌-◌, List, length, take, slice_index, Option, Some, None, if◌then◌else◌}
use Rattle.std.specs.List.{list_all}
use Rattle.xray_image.specs.Program.{is_name_byte}

-- a decimal digit
abbrev pub is_decimal : ℕ → Bool
is_decimal b = nat_le 48 b && nat_le b 57

-- a name has 1 to 255 letters, digits, `_`, `.` and `$`, and doesn't begin with a digit
abbrev pub is_name : List ℕ → Bool
is_name word = nat_le 1 (length word) && nat_le (length word) 255 && not (is_decimal (slice_index word 0)) && list_all is_name_byte word

abbrev pub name_written : List ℕ → Option (List ℕ)
name_written word = if is_name word then Some word else None

-- the word without its last byte, if it ends with this byte
abbrev pub before_end : ℕ → List ℕ → Option (List ℕ)
before_end byte word =
    if nat_le 1 (length word) && slice_index word (length word - 1) == byte then Some (take (length word - 1) word) else None
