-- What the text of a map is read as.
use Rattle.std.specs.Prelude.{◌≡◌, ◌≤◌, List, [], ◌∷◌, Ok, map}
use Rattle.map_names.specs.Maps.{map_of}
use Rattle.program_map.specs.declared.numbering.NumberedSled.{NumberedSled}
use Rattle.program_map.specs.MapText.{map_text, named_sled}
use Rattle.program_map.specs.Programs.{MappedProgram}

-- an id of 32 bits, addresses of 64 bits, and a version that is known
pub record IsInRange (numbered : NumberedSled) : Type 0 where
  pub id : numbered.id ≤ 4294967295
  pub address : numbered.sled.address ≤ 18446744073709551615
  pub function : numbered.sled.function ≤ 18446744073709551615
  pub version : numbered.sled.version ≤ 2

-- each of some sleds is so
abbrev pub AreInRange : List NumberedSled → Type 0
AreInRange [] = Unit {0}
AreInRange (numbered ∷ sleds) = IsInRange numbered × AreInRange sleds

-- the text of a map is read as its ids and names
abbrev pub MapsAreRead : Type 0
MapsAreRead =
    (program : MappedProgram) → AreInRange program.numbering.sleds
    → map_of (map_text program) ≡ Ok (map (named_sled program.names) program.numbering.sleds)
