-- The micro steps before the start are stores.
use Rattle.std.proofs.Common.{◌≡◌, ℕ, ◌<◌, refl}
use Rattle.patch_script.specs.declared.micro.Micro.{Micro}
use Rattle.patch_script.specs.declared.micro.Micro.TheVariants.{Store, Await, End}
use Rattle.patch_script.specs.Micros.{micro_at, start_of}
use Rattle.patch_script.specs.Plans.{Plan, IsStore}
use Rattle.patch_script.specs.Refusals.{commands_of}
use Rattle.sled_rule.specs.Plans.{micro_in, start_in, IsStoreAt}

some_store : (micro : Micro) → IsStore micro → (word : ℕ) × (value : ℕ) × (micro ≡ Store word value)
some_store (Store word value) is = (word, value, refl)
some_store (Await thread count) is = absurd is
some_store End is = absurd is

pub store_before : (plan : Plan) (start : ℕ)
    → ((place : ℕ) → place < start → IsStore (micro_at plan.program plan.threads (commands_of plan.lines) place))
    → (place : ℕ) → place < start → IsStoreAt plan place
unfolding micro_in
store_before plan start stores place before = some_store (micro_at plan.program plan.threads (commands_of plan.lines) place) (stores place before)

pub start_is : (plan : Plan) (start : ℕ) → start ≡ start_of plan.program plan.threads (commands_of plan.lines) → start ≡ start_in plan
unfolding start_in
start_is plan start is = is
