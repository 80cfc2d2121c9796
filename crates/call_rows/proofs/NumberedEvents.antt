-- The events of a thread with their numbers, after one more event.
use Rattle.std.proofs.Common.{◌≡◌, ℕ, suc, Bool, true, false, cond, List, [], ◌∷◌, length, refl, ap, nat_eq}
use Rattle.std.proofs.lemmas.Bool.{eq-eqb, ne_eqb}
use Rattle.fdr_record.specs.declared.event.Event.{Event}
use Rattle.fdr_file.specs.ThreadEvents.{ThreadEvent}
use Rattle.stack_rebuild.specs.Histories.{history_of_thread, thread_event}
use Rattle.call_rows.specs.CallRows.{NumberedEvent, numbered_of_thread}

-- an event with its number
abbrev pub numbered : ℕ → ℕ → Event → NumberedEvent
numbered number pid e = record { number = number; pid = pid; event = e }

pub own_numbered : (thread pid : ℕ) (e : Event) (h : List ThreadEvent)
    → numbered_of_thread thread (thread_event thread pid e ∷ h) ≡ numbered (length h) pid e ∷ numbered_of_thread thread h
own_numbered thread pid e h =
    ap (λ b. cond b (numbered (length h) pid e ∷ numbered_of_thread thread h) (numbered_of_thread thread h)) (eq-eqb thread thread refl)

pub other_numbered : (thread pid other : ℕ) (e : Event) (h : List ThreadEvent) → (thread ≡ other → ⊥)
    → numbered_of_thread other (thread_event thread pid e ∷ h) ≡ numbered_of_thread other h
other_numbered thread pid other e h apart =
    ap (λ b. cond b (numbered (length h) pid e ∷ numbered_of_thread other h) (numbered_of_thread other h)) (ne_eqb thread other apart)

pub own_events : (thread pid : ℕ) (e : Event) (h : List ThreadEvent)
    → history_of_thread thread (thread_event thread pid e ∷ h) ≡ e ∷ history_of_thread thread h
own_events thread pid e h = ap (λ b. cond b (e ∷ history_of_thread thread h) (history_of_thread thread h)) (eq-eqb thread thread refl)

pub other_events : (thread pid other : ℕ) (e : Event) (h : List ThreadEvent) → (thread ≡ other → ⊥)
    → history_of_thread other (thread_event thread pid e ∷ h) ≡ history_of_thread other h
other_events thread pid other e h apart = ap (λ b. cond b (e ∷ history_of_thread other h) (history_of_thread other h)) (ne_eqb thread other apart)

pub as_many : (thread : ℕ) (h : List ThreadEvent) → length (numbered_of_thread thread h) ≡ length (history_of_thread thread h)
as_many thread [] = refl
as_many thread (e ∷ h) = by_thread (nat_eq e.thread thread) (as_many thread h)
  where
    by_thread : (b : Bool) → length (numbered_of_thread thread h) ≡ length (history_of_thread thread h)
        → length (cond b (numbered (length h) e.pid e.event ∷ numbered_of_thread thread h) (numbered_of_thread thread h))
        ≡ length (cond b (e.event ∷ history_of_thread thread h) (history_of_thread thread h))
    by_thread true same = ap suc same
    by_thread false same = same
