-- Loads of a thread, to which others are added.
use Rattle.std.specs.Prelude.{◌++◌, ℕ, List, replicate}
use Rattle.audit_check.specs.declared.stop.LoadStops.{LoadStops}
use Rattle.audit_check.specs.Stops.{places_of}

-- the places of all of them
abbrev pub places_in : LoadStops → List ℕ
places_in loads = places_of loads.earlier.items ++ replicate loads.last.loads loads.last.place
