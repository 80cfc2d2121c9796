-- Which register a name is, by two of its bytes.
use Rattle.std.specs.Prelude.{ℕ, Bool, ◌==◌, List, map, slice_index_or, if◌then◌else◌}
use Rattle.std.specs.List.{range_with_len}
use Rattle.std.specs.Str.{bytes_eq}

-- the registers whose names go on with a digit other than 8 and 9, by the digit after it
abbrev pub number_by_digit : ℕ → ℕ
number_by_digit third =
    if third == 48 then 10
    else if third == 49 then 11
    else if third == 50 then 12
    else if third == 51 then 13
    else if third == 52 then 14
    else 15

-- the number of the registers whose names have these bytes after the first, if any have
abbrev pub number_by : ℕ → ℕ → ℕ
number_by second third =
    if second == 97 then 0
    else if second == 99 then 1
    else if second == 100 then (if third == 120 then 2 else 7)
    else if second == 98 then (if third == 120 then 3 else 5)
    else if second == 115 then (if third == 112 then 4 else 6)
    else if second == 56 then 8
    else if second == 57 then 9
    else number_by_digit third

-- the register that a word can be
abbrev pub number_of_name : List ℕ → ℕ
number_of_name word = number_by (slice_index_or word 1 0) (slice_index_or word 2 0)

-- the bytes of each of sixteen names tell its number
abbrev pub are_told : List (List ℕ) → Bool
are_told names = bytes_eq (map number_of_name names) (range_with_len 0 16)
