-- What is read of a line, for the contracts of private functions.
use Rattle.std.specs.Prelude.{ℕ, Bool, true, false, List, [], ◌∷◌, Option, option_map, option_and_then}
use Rattle.map_names.specs.declared.entry.IdName.{IdName}
use Rattle.map_names.specs.declared.quote.Added.{Added}
use Rattle.map_names.specs.declared.quote.Added.TheVariants.{Nothing, Byte, Escape}
use Rattle.map_names.specs.Entries.{NamedFunction, id_in, past_fields}

-- what is added to a name, and whether the next byte belongs to the one that added it
abbrev pub added_by : Added → List ℕ × Bool
added_by Nothing = ([], true)
added_by (Byte b) = (b ∷ [], false)
added_by (Escape b) = (92 ∷ b ∷ [], false)

-- the id of a line, and what follows the fields before its name
abbrev pub fields_in : List ℕ → Option (ℕ × List ℕ)
fields_in line = option_and_then (λ start. option_map (λ rest. (start.0, rest)) (past_fields start.1)) (id_in line)

-- an entry that was read
abbrev pub entry_read : IdName → NamedFunction
entry_read read = record { id = read.id; name = read.name.items }
