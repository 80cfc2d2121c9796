-- The events that marks record. Records can say them, and there are at most as many events as marks.
use Rattle.std.proofs.Common.{◌≡◌, suc, ◌<◌, ◌≤◌, ◌^◌, List, [], ◌∷◌, ◌++◌, Option, Some, None, subst, refl, arith, length, length-append, get_or}
use Rattle.std.specs.Prelude.{All, IfSome}
use Rattle.std.specs.List.{cons_option}
use Rattle.std.proofs.lemmas.List.{get_or_push}
use Rattle.std.proofs.lemmas.List.Elements.{All-cons, All-head, All-nil, All-tail}
use Rattle.fdr_record.specs.declared.event.Event.{Event}
use Rattle.fdr_record.specs.Recordable.{ArgFits, IsRecordable}
use Rattle.xray_image.specs.declared.sled.SledKind.{SledKind}
use Rattle.xray_image.specs.declared.sled.SledKind.TheVariants.{Entry, Exit, Tail, Args}
use Rattle.handler_word.specs.declared.mark.Mark.{Mark}
use Rattle.handler_word.specs.declared.mark.Mark.TheVariants as marks
use Rattle.machine_step.specs.Events.{event_kind, event_of, recorded}
use Rattle.machine_step.specs.PlainStep.{Passing}

-- what is true of the event of each passing is true of those that are recorded
pub recorded_each : (P : Passing → Type 0) (Q : Event → Type 0) → ((p : Passing) (mark : Mark) → P p → IfSome (event_of p mark) Q)
    → (passed : List Passing) (marks : List Mark) → All P passed → All Q (recorded passed marks)
recorded_each P Q of_passing [] marks all = All-nil Q
recorded_each P Q of_passing (p ∷ passed) [] all = All-nil Q
recorded_each P Q of_passing (p ∷ passed) (mark ∷ marks) all =
    by_event (event_of p mark) (of_passing p mark (All-head P p passed all)) (recorded_each P Q of_passing passed marks (All-tail P p passed all))
  where
    by_event : (event : Option Event) → IfSome event Q → All Q (recorded passed marks) → All Q (cons_option event (recorded passed marks))
    by_event None is rest = rest
    by_event (Some event) is rest = All-cons Q event (recorded passed marks) is rest

-- an event without an argument has 0 in its place
pub no_argument : (kind : SledKind) → ArgFits (event_kind kind) 0
no_argument Entry = refl
no_argument Exit = refl
no_argument Tail = refl
no_argument Args = refl

recordable : (p : Passing) (mark : Mark) → p.id < 2 ^ 28 → IfSome (event_of p mark) IsRecordable
recordable p marks.Skipped small = tt
recordable p marks.NoHandler small = tt
recordable p marks.NotLogging small = tt
recordable p marks.Recorded small = record { id = small; arg = no_argument p.kind }
recordable p marks.RecordedArg small = record { id = small; arg = tt }

-- the event that was added
pub event_recordable : (passed : List Passing) (old new : List Mark) (event : Event) → All (λ p. p.id < 2 ^ 28) passed
    → recorded passed new ≡ recorded passed old ++ event ∷ [] → IsRecordable event
event_recordable passed old new event small is =
    let all : All IsRecordable (recorded passed old ++ event ∷ []) =
    subst (All IsRecordable) is (recorded_each (λ p. p.id < 2 ^ 28) IsRecordable recordable passed new small) in
    let last : get_or (recorded passed old ++ event ∷ []) (length (recorded passed old)) event ≡ event =
    get_or_push (recorded passed old) event event (length (recorded passed old)) refl in
    subst IsRecordable last
    (all (length (recorded passed old)) event (omega (arith, length-append (recorded passed old) (event ∷ []))))

-- there are at most as many events as marks
pub recorded_short : (passed : List Passing) (marks : List Mark) → length (recorded passed marks) ≤ length marks
recorded_short [] marks = omega arith
recorded_short (p ∷ passed) [] = omega arith
recorded_short (p ∷ passed) (mark ∷ marks) = by_event (event_of p mark) (recorded_short passed marks)
  where
    by_event : (event : Option Event) → length (recorded passed marks) ≤ length marks
        → length (cons_option event (recorded passed marks)) ≤ suc (length marks)
    by_event None rest = omega (arith, rest)
    by_event (Some event) rest = omega (arith, rest)
