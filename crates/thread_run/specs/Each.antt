-- Lists whose items change, each on its own.
use Rattle.std.specs.Prelude.{◌≡◌, ℕ, List, Some, length, slice_get}

-- at each place is what was there before, changed in this way
pub record HaveChanged {X : Type 0} (Changed : X → X → Type 0) (old new : List X) : Type 0 where
  pub count : length new ≡ length old
  pub each : (i : ℕ) (before after : X) → slice_get old i ≡ Some before → slice_get new i ≡ Some after → Changed before after
