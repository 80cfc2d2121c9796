-- The limits of image files.
use Rattle.std.specs.Prelude.{ℕ}

-- the longest code in bytes
abbrev pub most_code : ℕ
most_code = 1048576

-- the most functions
abbrev pub most_functions : ℕ
most_functions = 1024

-- the most sleds, each of which has one entry of the sled map
abbrev pub most_sleds : ℕ
most_sleds = 4096

-- the highest base address
abbrev pub highest_base : ℕ
highest_base = 0x7FFF00000000
