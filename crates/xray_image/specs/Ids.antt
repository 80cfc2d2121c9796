-- Function ids, and the names of functions by their ids.
use Rattle.std.specs.Prelude.{ℕ, zero, suc, List, [], length, map, find, ◌==◌, Option, None, slice_get, option_and_then}
use Rattle.std.specs.Option.{option_map}
use Rattle.xray_image.specs.Program.{Program, distinct}

-- the functions that have a sled, in the order of their first sleds; the first of them has id 1
abbrev pub sledded_functions : Program → List ℕ
sledded_functions program = distinct [] (map (λ s. s.function) program.sleds)

-- how many ids there are
abbrev pub id_count : Program → ℕ
id_count program = length (sledded_functions program)

-- the name of the function that begins at an address
abbrev pub name_at : Program → ℕ → Option (List ℕ)
name_at program start = option_map (λ f. f.name) (find (λ f. f.start == start) program.functions)

-- the name of the function with an id
abbrev pub name_of : Program → ℕ → Option (List ℕ)
name_of program zero = None
name_of program (suc n) = option_and_then (name_at program) (slice_get (sledded_functions program) n)
