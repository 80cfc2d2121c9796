-- What each step of a seat does to its view.
use Rattle.std.specs.Prelude.{◌≡◌, ℕ, ◌≤◌, slice_index}
use mathlib.Core.Option.{some}
use lib.ListN.{get_elem?}
use Rattle.atomic_table.specs.Table.{Me, Step}
use Rattle.patch_script.specs.declared.micro.Micro.TheVariants.{Await}
use Rattle.sled_rule.specs.declared.views.Met.{Met}
use Rattle.sled_rule.specs.declared.views.View.{View}
use Rattle.sled_rule.specs.declared.views.View.TheVariants.{Patch, Work}
use Rattle.sled_rule.specs.Plans.{IsCodeIn, micro_in}
use Rattle.sled_rule.specs.Slots.{code_slot}
use Rattle.sled_rule.specs.Views.{advanced, looked_at, counting}
use Rattle.sled_rule.specs.Steps.{patch_of, work_of, IsFetched}

-- a step of a seat, and a seat's view with its slots, of which there are none
abbrev At : Type 0
At = Step (Unit {0})

abbrev Sat : Type 0
Sat = Me (Unit {0}) View

-- the word is the one that is kept in the slot of the step
abbrev pub fetched : At → Sat → ℕ → Sat → Type 0
fetched step before found after =
    (after.0 ≡ Work (work_of after.0))
    × ((word : ℕ) → IsCodeIn (work_of before.0).script word → step.word ≡ code_slot (work_of before.0).script word
    → IsFetched (work_of before.0) word found (work_of after.0))
    × (after.1 ≡ before.1)

abbrev pub counted : At → Sat → ℕ → Sat → Type 0
counted step before stored after = (after.0 ≡ Work (counting (work_of before.0) stored)) × (after.1 ≡ before.1)

abbrev pub patched : At → Sat → ℕ → Sat → Type 0
patched step before stored after = (after.0 ≡ Patch (advanced (patch_of before.0))) × (after.1 ≡ before.1)

-- an await was looked at: what was known of the thread is at most what was found, and what was found is known from then
-- on
abbrev pub looked : At → Sat → ℕ → Sat → Type 0
looked step before found after =
    ((thread count : ℕ) → micro_in (patch_of before.0).script (patch_of before.0).place ≡ Await thread count
    → (slice_index (patch_of before.0).known thread ≤ found) × (after.0 ≡ Patch (looked_at (patch_of before.0) thread count found))
    × (slice_index (looked_at (patch_of before.0) thread count found).known thread ≡ found))
    × (after.1 ≡ before.1)

-- no thread that was met had seen a place that is still to come
abbrev pub confirmed : At → Sat → ℕ → Sat → Type 0
confirmed step before found after =
    (after.0 ≡ before.0) × (after.1 ≡ before.1)
    × ((i : ℕ) (one : Met) → get_elem? (patch_of before.0).met i ≡ some one → one.seen ≤ (patch_of before.0).place)
