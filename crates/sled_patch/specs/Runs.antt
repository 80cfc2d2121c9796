-- What a run of a script leaves.
use Rattle.std.specs.Prelude.{◌≡◌, ◌<◌, ◌≤◌, ℕ, slice_index}
use Rattle.patch_script.specs.declared.micro.Micro.TheVariants.{Await}
use Rattle.sled_rule.specs.declared.views.PatchView.{PatchView}
use Rattle.sled_rule.specs.Plans.{micro_in}

-- the patcher has come to a place, and nothing else about it has changed
abbrev pub at_place : PatchView → ℕ → PatchView
at_place p place = record p { place = place }

-- each await that the patcher has passed, from a place on, was for no more passings than it knows the thread to have made
abbrev pub KnowsAwaited : ℕ → PatchView → Type 0
KnowsAwaited from p =
    (place thread count : ℕ) → from ≤ place → place < p.place → micro_in p.script place ≡ Await thread count
    → count ≤ slice_index p.known thread

-- The patcher has come to a place. Of what it knows, only what is known of threads has changed besides. That is enough
-- for each await on the way.
pub record HasRun (old : PatchView) (end : ℕ) (new : PatchView) : Type 0 where
  pub place : new.place ≡ end
  pub same : new ≡ record old { place = new.place; known = new.known }
  pub awaited : KnowsAwaited old.place new
