use Rattle.map_names.proofs.SpelledLines.{entry_found, entry_is}
use Rattle.map_names.proofs.laws.a_line_is_the_pieces_of_its_entry.Goals as goal

pub returns : goal.returns
returns c line entry = (entry_is line entry, entry_found line entry)
