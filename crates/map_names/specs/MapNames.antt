-- The names that are kept of a sled map.
use Rattle.std.specs.Prelude.{◌≡◌, ◌⊎◌, nat_eq, option_map, Result, Ok, Err}
use Rattle.std.specs.HashMap.{get}
use Rattle.map_names.specs.declared.fault.MapFault.{MapFault}
use Rattle.map_names.specs.declared.fault.MapFault.TheVariants.{NoMemory}
use Rattle.map_names.specs.declared.naming.MapNames.{MapNames}
use Rattle.map_names.specs.Naming.{Naming}

-- the names that a MapNames has
abbrev pub named : MapNames → Naming
named map = record { name = λ id. option_map (λ name. name.items) (get nat_eq map.names id) }

-- what a reading gave: the names that were said, or the refusal that was; or memory ran out
abbrev pub IsReading : Result Naming MapFault → Result MapNames MapFault → Type 0
IsReading said (Ok map) = said ≡ Ok (named map)
IsReading said (Err fault) = (fault ≡ NoMemory) ⊎ (said ≡ Err fault)
