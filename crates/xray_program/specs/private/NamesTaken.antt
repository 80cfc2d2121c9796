-- What names functions, once it was taken.
use Rattle.function_names.specs.Name.{program_names}
use Rattle.map_names.specs.MapNames.{named}
use Rattle.map_names.specs.Naming.{Naming, no_names}
use Rattle.xray_program.specs.declared.names.TakenNames.{TakenNames}
use Rattle.xray_program.specs.declared.names.TakenNames.TheVariants.{Ids, Image, Map}

-- the names
abbrev pub named_by : TakenNames → Naming
named_by Ids = no_names
named_by (Image program) = program_names program
named_by (Map map) = named map
