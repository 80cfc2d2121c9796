use Rattle.std.proofs.Common.{◌≡◌, ◌<◌, ◌≤◌, ◌-◌, ℕ, length, Some}
use Rattle.std.specs.Prelude.{slice_get}
use Rattle.audit_check.proofs.turns.Turns.made_at.Given as goal

abbrev pub invariant-back : goal.invariant-back
invariant-back l = l.made ≤ length l.self.places.items

abbrev pub decreases-back : goal.decreases-back
decreases-back l = l.made

-- the last turn that was counted is at the place or before it
abbrev pub invariant-forth : goal.invariant-forth
invariant-forth l = record {
  within : l.made ≤ length l.self.places.items;
  before : (at : ℕ) → 0 < l.made → slice_get l.self.places.items (l.made - 1) ≡ Some at → at ≤ l.place;
}

abbrev pub decreases-forth : goal.decreases-forth
decreases-forth l = length l.self.places.items - l.made
