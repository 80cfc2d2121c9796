use Rattle.map_names.proofs.SpelledMaps.{map_found, map_is}
use Rattle.map_names.proofs.laws.a_map_is_the_lines_of_its_entries.Goals as goal

pub returns : goal.returns
returns c text entries = (map_is text entries, map_found text entries)
