-- The event that a load adds to those that a thread has recorded.
use Rattle.std.proofs.Common.{◌≡◌, ◌-◌, ◌<◌, ◌≤◌, ◌^◌, ℕ, List, [], ◌∷◌, ◌++◌, ap, subst, sym, ◌∙◌, arith, length, length-append}
use Rattle.std.specs.Prelude.{All, IfSome, IsSome, Option, Some, None}
use Rattle.fdr_record.specs.declared.event.Event.{Event}
use Rattle.fdr_record.specs.Recordable.{IsRecordable}
use Rattle.handler_word.specs.declared.mark.Mark.{Mark}
use Rattle.machine_step.specs.declared.want.Want.{Want}
use Rattle.machine_step.specs.declared.want.Want.TheVariants.{Load as Loads}
use Rattle.machine_step.specs.Events.{events_in, recorded}
use Rattle.machine_step.specs.PlainStep.{Passing}
use Rattle.machine_step.specs.Traced.{MarksAdded}
use Rattle.traced_run.proofs.RecordedEvents.{event_recordable, recorded_short}

-- there is room for the event that was added
few_before : (passed : List Passing) (old new : List Mark) (event : Event) → length new < 2 ^ 32
    → recorded passed new ≡ recorded passed old ++ event ∷ [] → length (recorded passed old) < 2 ^ 32 - 1
few_before passed old new event fits e =
    let all : length (recorded passed old ++ event ∷ []) ≤ length new = subst (λ (es : List Event). length es ≤ length new) e (recorded_short passed new) in
    omega (arith, all, length-append (recorded passed old) (event ∷ []), fits)

-- the event of a load, if there is one
pub any_recordable : (passed : List Passing) (old new : List Mark) (event : Option Event) → All (λ p. p.id < 2 ^ 28) passed
    → recorded passed new ≡ recorded passed old ++ events_in event → IfSome event IsRecordable
any_recordable passed old new None small is = tt
any_recordable passed old new (Some event) small is = event_recordable passed old new event small is

pub any_room : {R : Type 0} (stands : R → List Event → Type 0) (recorder : R) (passed : List Passing) (old new : List Mark) (event : Option Event)
    → stands recorder (recorded passed old) → length new < 2 ^ 32
    → recorded passed new ≡ recorded passed old ++ events_in event
    → IfSome event (λ e. (events : List Event) × stands recorder events × (length events < 2 ^ 32 - 1))
any_room stands recorder passed old new None is fits e = tt
any_room stands recorder passed old new (Some event) is fits e = (recorded passed old, is, few_before passed old new event fits e)

-- an event comes of a load that ends its passing
pub some_ends : (passed : List Passing) (old new : List Mark) (event : Option Event) (want : Want) → MarksAdded old new want
    → recorded passed new ≡ recorded passed old ++ events_in event → IsSome event → (word : ℕ) → want ≡ Loads word → ⊥
some_ends passed old new None want added more some word wants = absurd cc
some_ends passed old new (Some event) want added more some word wants =
    let same : new ≡ old = subst (MarksAdded old new) wants added in
    let more' : recorded passed old ≡ recorded passed old ++ event ∷ [] = ap (recorded passed) (sym same) ∙ more in
    omega (arith, ap length more', length-append (recorded passed old) (event ∷ []))
