-- The words that a line on err gives for a text that isn't a sled map: the name of the refusal and its value, with a blank
-- between them.
use Rattle.std.specs.Prelude.{ℕ, List, ◌++◌, Option, Some, None, codes, decimal}
use Rattle.map_names.specs.declared.fault.MapFault.{MapFault}
use Rattle.map_names.specs.declared.fault.MapFault.TheVariants.{Syntax, NoMemory}

-- the words; there are none if memory ran out, since nothing is refused then
abbrev pub map_words : MapFault → Option (List ℕ)
map_words (Syntax line) = Some (codes "Syntax " ++ decimal line)
map_words NoMemory = None
