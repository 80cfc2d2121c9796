-- Stops: loads of a thread at places.
use Rattle.std.specs.Prelude.{◌≢◌, ◌<◌, ◌∷◌, ℕ, List, [], replicate}
use Rattle.std.specs.List.{flat_map}
use Rattle.audit_check.specs.declared.stop.Stop.{Stop}

-- the places of their loads
abbrev pub places_of : List Stop → List ℕ
places_of stops = flat_map (λ stop. replicate stop.loads stop.place) stops

-- there is a load at each of them, and none is at the place of the one before it
abbrev pub AreJoined : List Stop → Type 0
AreJoined [] = Unit {0}
AreJoined (stop ∷ []) = 0 < stop.loads
AreJoined (stop ∷ next ∷ later) = (0 < stop.loads) × (stop.place ≢ next.place) × AreJoined (next ∷ later)
