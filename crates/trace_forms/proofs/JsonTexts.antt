-- The compact text of trace events is put together of its parts.
use Rattle.std.proofs.Common.{◌≡◌, ℕ, ◌++◌, ◌∙◌, true, false, List, [], ◌∷◌, map, refl, sym, ap, ap₂, append_assoc}
use Rattle.std.specs.Prelude.{codes}
use Rattle.json.specs.Print.{escape_byte}
use Rattle.fdr_record.specs.declared.event.Kind.{Kind}
use Rattle.fdr_record.specs.declared.event.Kind.TheVariants.{Entry, Exit, TailExit, EntryArgs}
use Rattle.fdr_file.specs.ThreadEvents.{ThreadEvent}
use Rattle.map_names.specs.Naming.{Naming}
use Rattle.serde_json.specs.View.{items_of}
use Rattle.serde_json.specs.Written.{compact_text, items_text}
use Rattle.trace_forms.specs.TraceEvents.{event_object, events_text}
use Rattle.trace_forms.specs.private.Texts.{event_json, later_json, list_json}

-- an event of these fields, with its thread and its process
abbrev made : Kind → ℕ → ℕ → ℕ → ℕ → ℕ → ℕ → ThreadEvent
made kind thread pid cpu func tsc arg =
    record { thread = thread; pid = pid; event = record { tsc = tsc; arg = arg; func = func; cpu = cpu; kind = kind } }

by_kind : (names : Naming) (kind : Kind) (thread pid cpu func tsc arg : ℕ)
    → compact_text (event_object names (made kind thread pid cpu func tsc arg)) ≡ event_json names (made kind thread pid cpu func tsc arg)
unfolding escape_byte
by_kind names Entry thread pid cpu func tsc arg = simp append_assoc
by_kind names Exit thread pid cpu func tsc arg = simp append_assoc
by_kind names TailExit thread pid cpu func tsc arg = simp append_assoc
by_kind names EntryArgs thread pid cpu func tsc arg = simp append_assoc

-- an event
event_is : (names : Naming) (e : ThreadEvent) → compact_text (event_object names e) ≡ event_json names e
event_is names e = by_kind names e.event.kind e.thread e.pid e.event.cpu e.event.func e.event.tsc e.event.arg

-- events, and the bracket after them
later_is : (names : Naming) (events : List ThreadEvent)
    → items_text true (items_of (map (event_object names) events)) ≡ later_json names events ++ 93 ∷ []
later_is names [] = refl
later_is names (e ∷ events) =
    ap (λ (t : List ℕ). 44 ∷ t)
    (ap₂ (λ (a b : List ℕ). a ++ b) (event_is names e) (later_is names events)
    ∙ sym (append_assoc (event_json names e) (later_json names events) (93 ∷ [])))

list_is : (names : Naming) (events : List ThreadEvent)
    → items_text false (items_of (map (event_object names) events)) ≡ list_json names events ++ 93 ∷ []
list_is names [] = refl
list_is names (e ∷ events) =
    ap₂ (λ (a b : List ℕ). a ++ b) (event_is names e) (later_is names events)
    ∙ sym (append_assoc (event_json names e) (later_json names events) (93 ∷ []))

closed : (text : List ℕ) → ((text ++ 93 ∷ []) ++ 125 ∷ []) ++ 10 ∷ [] ≡ text ++ (93 ∷ 125 ∷ 10 ∷ [])
closed text = simp append_assoc

-- the whole text
pub whole_left : (names : Naming) (events : List ThreadEvent)
    → (codes "{\"traceEvents\":[" ++ list_json names events) ++ codes "]}\n" ≡ events_text names events
unfolding escape_byte
whole_left names events =
    ap (λ (t : List ℕ). codes "{\"traceEvents\":[" ++ t)
    (sym (ap (λ (t : List ℕ). (t ++ 125 ∷ []) ++ 10 ∷ []) (list_is names events) ∙ closed (list_json names events)))

pub whole : (names : Naming) (events : List ThreadEvent)
    → codes "{\"traceEvents\":[" ++ (list_json names events ++ codes "]}\n") ≡ events_text names events
whole names events =
    sym (append_assoc (codes "{\"traceEvents\":[") (list_json names events) (codes "]}\n")) ∙ whole_left names events
