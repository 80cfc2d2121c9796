use Rattle.program_map.specs.MapText.{map_text, named_sled}
use Rattle.std.proofs.Common.{map}
use Rattle.program_map.proofs.ReadMaps.{map_read}
use Rattle.program_map.proofs.laws.a_map_is_read_as_its_names.Goals as goal

pub returns : goal.returns
returns c program range =
    (c.a_map_is_the_lines_of_its_entries.ensures (map_text program) (map (named_sled program.names) program.numbering.sleds)).1 (map_read program range)
