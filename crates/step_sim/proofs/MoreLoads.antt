-- One more load of a thread: at most one more mark, event and segment.
use Rattle.std.proofs.Common.{◌≡◌, ◌⊎◌, ℕ, suc, ◌+◌, ◌-◌, ◌≤◌, List, [], ◌∷◌, ◌++◌, Bool, true, false, Option, Some, None, inl, inr, refl, sym, ap, ◌∙◌, arith, length, subst}
use Rattle.std.specs.Prelude.{◌==◌, if◌then◌else◌}
use Rattle.std.specs.List.{cons_option}
use Rattle.std.proofs.lemmas.Bool.{cases_lt}
use Rattle.std.proofs.lemmas.List.{append-nil, set_past}
use Rattle.xray_image.specs.Program.{Program}
use Rattle.sled_words.specs.declared.part.Part.TheVariants.{Head, Offset}
use Rattle.sled_words.specs.Words.{arg_handler_word, handler_word, release_word, word_of}
use Rattle.sled_words.specs.Parts.{patched_head}
use Rattle.handler_word.specs.declared.mark.Mark.{Mark}
use Rattle.handler_word.specs.declared.mark.Mark.TheVariants.{Skipped, NoHandler, Recorded, RecordedArg}
use Rattle.patch_script.specs.CodeAt.{code_at}
use Rattle.patch_script.specs.Micros.{hold_of}
use Rattle.fdr_record.specs.declared.event.Event.{Event}
use Rattle.fdr_buffer.specs.Segments.{has_room, segments, segments_from}
use Rattle.machine_step.specs.Events.{event_of, recorded}
use Rattle.machine_step.specs.Loads.{Load, Marked, Reading, Wants, from_arg_handler, from_handler, from_head, from_id, from_offset, from_opcode, from_release, from_start, from_state, is_held_at, marks_from, sled_logs_args}
use Rattle.machine_step.specs.PlainStep.{Passing}
use Rattle.traced_run.proofs.RecordedEvents.{recorded_short}
use Rattle.step_sim.specs.Recorded.{segments_at}
use Rattle.step_sim.specs.Replay.{Cast, Moment, of_thread, thread_turn, wanted_by, thread_count}
use Rattle.step_sim.proofs.ReplayAlong.{turn_with, turn_without}
use Rattle.step_sim.proofs.TurnLemmas.{turn_own}

-- ---- one passing

-- How far loads bring a passing, and how far they bring it with one more. Both come to a word; or the first to a word,
-- and the second to a mark; or both to the same mark.
abbrev OneMore : Load → Reading → Reading → Type 0
OneMore load (Wants word recording) (Wants next other) = Unit {0}
OneMore load (Wants word recording) (Marked mark following) = following ≡ []
OneMore load (Marked mark following) (Wants next recording) = ⊥
OneMore load (Marked mark following) (Marked other more) = (other ≡ mark) × (more ≡ following ++ load ∷ [])

state_more : (program : Program) (recording : Mark) (loads : List Load) (load : Load)
    → OneMore load (from_state program recording loads) (from_state program recording (loads ++ load ∷ []))
state_more program recording [] load = refl
state_more program recording (x ∷ loads) load = (refl, refl)

handler_first : (program : Program) (load : Load) (b : Bool)
    → OneMore load (Wants (handler_word program) Recorded) (if b then Marked NoHandler [] else from_state program Recorded [])
handler_first program load true = refl
handler_first program load false = tt

handler_later : (program : Program) (loads : List Load) (load : Load) (b : Bool)
    → OneMore load (if b then Marked NoHandler loads else from_state program Recorded loads)
    (if b then Marked NoHandler (loads ++ load ∷ []) else from_state program Recorded (loads ++ load ∷ []))
handler_later program loads load true = (refl, refl)
handler_later program loads load false = state_more program Recorded loads load

handler_more : (program : Program) (loads : List Load) (load : Load)
    → OneMore load (from_handler program loads) (from_handler program (loads ++ load ∷ []))
handler_more program [] load = handler_first program load (load.value == 0)
handler_more program (x ∷ loads) load = handler_later program loads load (x.value == 0)

arg_handler_first : (program : Program) (threads : ℕ) (load : Load) (b : Bool)
    → OneMore load (Wants (arg_handler_word program threads) Recorded) (if b then from_handler program [] else from_state program RecordedArg [])
arg_handler_first program threads load true = tt
arg_handler_first program threads load false = tt

arg_handler_later : (program : Program) (loads : List Load) (load : Load) (b : Bool)
    → OneMore load (if b then from_handler program loads else from_state program RecordedArg loads)
    (if b then from_handler program (loads ++ load ∷ []) else from_state program RecordedArg (loads ++ load ∷ []))
arg_handler_later program loads load true = handler_more program loads load
arg_handler_later program loads load false = state_more program RecordedArg loads load

arg_handler_more : (program : Program) (threads : ℕ) (loads : List Load) (load : Load)
    → OneMore load (from_arg_handler program threads loads) (from_arg_handler program threads (loads ++ load ∷ []))
arg_handler_more program threads [] load = arg_handler_first program threads load (load.value == 0)
arg_handler_more program threads (x ∷ loads) load = arg_handler_later program loads load (x.value == 0)

-- at a sled that logs arguments, or doesn't
handlers_more : (program : Program) (threads : ℕ) (loads : List Load) (load : Load) (b : Bool)
    → OneMore load (if b then from_arg_handler program threads loads else from_handler program loads)
    (if b then from_arg_handler program threads (loads ++ load ∷ []) else from_handler program (loads ++ load ∷ []))
handlers_more program threads loads load true = arg_handler_more program threads loads load
handlers_more program threads loads load false = handler_more program loads load

handlers_first : (program : Program) (threads : ℕ) (load : Load) (word : ℕ) (b : Bool)
    → OneMore load (Wants word Recorded) (if b then from_arg_handler program threads [] else from_handler program [])
handlers_first program threads load word true = tt
handlers_first program threads load word false = tt

offset_more : (program : Program) (threads sled : ℕ) (loads : List Load) (load : Load)
    → OneMore load (from_offset program threads sled loads) (from_offset program threads sled (loads ++ load ∷ []))
offset_more program threads sled [] load = handlers_first program threads load (word_of sled Offset) (sled_logs_args program sled)
offset_more program threads sled (x ∷ loads) load = handlers_more program threads loads load (sled_logs_args program sled)

opcode_more : (program : Program) (threads sled : ℕ) (loads : List Load) (load : Load)
    → OneMore load (from_opcode program threads sled loads) (from_opcode program threads sled (loads ++ load ∷ []))
opcode_more program threads sled [] load = tt
opcode_more program threads sled (x ∷ loads) load = offset_more program threads sled loads load

id_more : (program : Program) (threads sled : ℕ) (loads : List Load) (load : Load)
    → OneMore load (from_id program threads sled loads) (from_id program threads sled (loads ++ load ∷ []))
id_more program threads sled [] load = tt
id_more program threads sled (x ∷ loads) load = opcode_more program threads sled loads load

head_first : (program : Program) (threads sled : ℕ) (load : Load) (word : ℕ) (b : Bool)
    → OneMore load (Wants word Recorded) (if b then from_id program threads sled [] else Marked Skipped [])
head_first program threads sled load word true = tt
head_first program threads sled load word false = refl

head_later : (program : Program) (threads sled : ℕ) (loads : List Load) (load : Load) (b : Bool)
    → OneMore load (if b then from_id program threads sled loads else Marked Skipped loads)
    (if b then from_id program threads sled (loads ++ load ∷ []) else Marked Skipped (loads ++ load ∷ []))
head_later program threads sled loads load true = id_more program threads sled loads load
head_later program threads sled loads load false = (refl, refl)

head_more : (program : Program) (threads sled : ℕ) (loads : List Load) (load : Load)
    → OneMore load (from_head program threads sled loads) (from_head program threads sled (loads ++ load ∷ []))
head_more program threads sled [] load = head_first program threads sled load (word_of sled Head) (load.value == patched_head)
head_more program threads sled (x ∷ loads) load = head_later program threads sled loads load (x.value == patched_head)

release_first : (program : Program) (threads thread sled : ℕ) (load : Load) (word : ℕ) (b : Bool)
    → OneMore load (Wants word Recorded) (if b then from_release program threads thread sled [] else from_head program threads sled [])
release_first program threads thread sled load word true = tt
release_first program threads thread sled load word false = tt

release_more : (program : Program) (threads thread sled : ℕ) (loads : List Load) (load : Load)
    → OneMore load (from_release program threads thread sled loads) (from_release program threads thread sled (loads ++ load ∷ []))
release_more program threads thread sled [] load = release_first program threads thread sled load (release_word program thread) (load.value == 0)
release_more program threads thread sled (x ∷ loads) load = by_value (x.value == 0) (release_more program threads thread sled loads load)
  where
    by_value : (b : Bool) → OneMore load (from_release program threads thread sled loads) (from_release program threads thread sled (loads ++ load ∷ []))
        → OneMore load (if b then from_release program threads thread sled loads else from_head program threads sled loads)
        (if b then from_release program threads thread sled (loads ++ load ∷ []) else from_head program threads sled (loads ++ load ∷ []))
    by_value true again = again
    by_value false again = head_more program threads sled loads load

start_more : (program : Program) (threads thread : ℕ) (held : Bool) (sled : ℕ) (loads : List Load) (load : Load)
    → OneMore load (from_start program threads thread held sled loads) (from_start program threads thread held sled (loads ++ load ∷ []))
start_more program threads thread true sled loads load = release_more program threads thread sled loads load
start_more program threads thread false sled loads load = head_more program threads sled loads load

-- ---- the marks of a thread

-- without loads there are no marks
no_start : (program : Program) (threads thread : ℕ) (held : Bool) (sled : ℕ)
    → (word : ℕ) × (recording : Mark) × (from_start program threads thread held sled [] ≡ Wants word recording)
no_start program threads thread true sled = (_, _, refl)
no_start program threads thread false sled = (_, _, refl)

pub no_marks : (program : Program) (threads thread : ℕ) (hold : Option ℕ) (number : ℕ) (sleds : List ℕ)
    → marks_from program threads thread hold number sleds [] ≡ []
no_marks program threads thread hold number [] = refl
no_marks program threads thread hold number (sled ∷ sleds) =
    let wants = no_start program threads thread (is_held_at hold number) sled in
    rw wants.2 refl

-- the marks with one more load
record MoreMarks (program : Program) (threads thread : ℕ) (hold : Option ℕ) (number : ℕ) (sleds : List ℕ) (loads : List Load) (load : Load) : Type 0 where
  more : List Mark
  is : marks_from program threads thread hold number sleds (loads ++ load ∷ []) ≡ marks_from program threads thread hold number sleds loads ++ more
  few : length more ≤ 1

more_marks : (program : Program) (threads thread : ℕ) (hold : Option ℕ) (number : ℕ) (sleds : List ℕ) (loads : List Load) (load : Load)
    → MoreMarks program threads thread hold number sleds loads load
more_marks program threads thread hold number [] loads load = record { more = []; is = refl; few = omega arith }
more_marks program threads thread hold number (sled ∷ sleds) loads load =
    by_reading (λ ls. more_marks program threads thread hold (number + 1) sleds ls load) (from_start program threads thread (is_held_at hold number) sled loads)
    (from_start program threads thread (is_held_at hold number) sled (loads ++ load ∷ [])) refl refl
    (start_more program threads thread (is_held_at hold number) sled loads load)
  where
    later : List Load → List Mark
    later ls = marks_from program threads thread hold (number + 1) sleds ls

    by_reading : ((ls : List Load) → MoreMarks program threads thread hold (number + 1) sleds ls load) → (old new : Reading)
        → from_start program threads thread (is_held_at hold number) sled loads ≡ old
        → from_start program threads thread (is_held_at hold number) sled (loads ++ load ∷ []) ≡ new → OneMore load old new
        → MoreMarks program threads thread hold number (sled ∷ sleds) loads load
    by_reading again (Wants word recording) (Wants next other) e e' is = record { more = []; is = rw (e, e') refl; few = omega arith }
    by_reading again (Wants word recording) (Marked mark following) e e' is = record {
      more = mark ∷ [];
      is = rw (e, e') (ap (λ (ls : List Load). mark ∷ later ls) is ∙ ap (λ (ms : List Mark). mark ∷ ms) (no_marks program threads thread hold (number + 1) sleds));
      few = omega arith;
    }
    by_reading again (Marked mark following) (Wants next recording) e e' is = absurd is
    by_reading again (Marked mark following) (Marked other more) e e' (same, is) =
        let rest = again following in
        record {
          more = rest.more;
          is = rw (e, e') (ap (λ (m : Mark). m ∷ later more) same ∙ ap (λ (ls : List Load). mark ∷ later ls) is
              ∙ ap (λ (ms : List Mark). mark ∷ ms) rest.is);
          few = rest.few;
        }

-- ---- its events

more_events : (passed : List Passing) (marks more : List Mark)
    → (events : List Event) × (recorded passed (marks ++ more) ≡ recorded passed marks ++ events) × (length events ≤ length more)
more_events [] marks more = ([], refl, omega arith)
more_events (p ∷ passed) [] more = (recorded (p ∷ passed) more, refl, recorded_short (p ∷ passed) more)
more_events (p ∷ passed) (mark ∷ marks) more = by_event (event_of p mark) (more_events passed marks more)
  where
    Rest : Option Event → Type 0
    Rest event = (events : List Event) × (cons_option event (recorded passed (marks ++ more)) ≡ cons_option event (recorded passed marks) ++ events)
        × (length events ≤ length more)

    by_event : (event : Option Event) → Rest None → Rest event
    by_event None rest = rest
    by_event (Some event) (events, is, few) = (events, ap (λ (es : List Event). event ∷ es) is, few)

-- ---- its segments

-- a number is the same as another, or one more
abbrev pub IsSameOrNext : ℕ → ℕ → Type 0
IsSameOrNext old new = (new ≡ old) ⊎ (new ≡ old + 1)

next_suc : (old new : ℕ) → IsSameOrNext old new → IsSameOrNext (suc old) (suc new)
next_suc old new (inl e) = inl (ap suc e)
next_suc old new (inr e) = inr (omega (arith, e))

last_more : (size : ℕ) (opened : List Event) (event : Event) (b : Bool)
    → IsSameOrNext 1 (length (if b then (opened ++ event ∷ []) ∷ [] else opened ∷ (event ∷ []) ∷ []))
last_more size opened event true = inl refl
last_more size opened event false = inr refl

from_more : (size : ℕ) (opened events : List Event) (event : Event)
    → IsSameOrNext (length (segments_from size opened events)) (length (segments_from size opened (events ++ event ∷ [])))
from_more size opened [] event = last_more size opened event (has_room size (opened ++ event ∷ []))
from_more size opened (x ∷ events) event =
    by_room (has_room size (opened ++ x ∷ [])) (from_more size (opened ++ x ∷ []) events event) (from_more size (x ∷ []) events event)
  where
    by_room : (b : Bool)
        → IsSameOrNext (length (segments_from size (opened ++ x ∷ []) events)) (length (segments_from size (opened ++ x ∷ []) (events ++ event ∷ [])))
        → IsSameOrNext (length (segments_from size (x ∷ []) events)) (length (segments_from size (x ∷ []) (events ++ event ∷ [])))
        → IsSameOrNext (length (if b then segments_from size (opened ++ x ∷ []) events else opened ∷ segments_from size (x ∷ []) events))
        (length (if b then segments_from size (opened ++ x ∷ []) (events ++ event ∷ []) else opened ∷ segments_from size (x ∷ []) (events ++ event ∷ [])))
    by_room true joins cuts = joins
    by_room false joins cuts = next_suc _ _ cuts

more_segments : (size : ℕ) (events more : List Event) → length more ≤ 1
    → IsSameOrNext (length (segments size events)) (length (segments size (events ++ more)))
more_segments size events [] few = inl (ap (λ (es : List Event). length (segments size es)) (append-nil events))
more_segments size [] (event ∷ []) few = inr refl
more_segments size (x ∷ events) (event ∷ []) few = from_more size (x ∷ []) events event
more_segments size events (event ∷ next ∷ more) few = absurd (omega (arith, few))

-- ---- a turn

-- after a turn of a thread it has as many segments as before, or one more
pub turn_segments : (cast : Cast) (passed : List (List Passing)) (size thread : ℕ) (m : Moment)
    → IsSameOrNext (length (segments_at cast passed size thread m)) (length (segments_at cast passed size thread (thread_turn cast thread m)))
turn_segments cast passed size thread m = by_wanted (wanted_by cast thread m) refl
  where
    own : List Load → List Event
    own loads = recorded (of_thread passed thread) (marks_from cast.program (thread_count cast) thread (hold_of thread cast.script) 0 (of_thread cast.passings thread) loads)

    Turned : List Load → Type 0
    Turned loads = IsSameOrNext (length (segments size (own (of_thread m.loads thread)))) (length (segments size (own loads)))

    same : Turned (of_thread m.loads thread)
    same = inl refl

    grown : (load : Load) → Turned (of_thread m.loads thread ++ load ∷ [])
    grown load =
        let marks = more_marks cast.program (thread_count cast) thread (hold_of thread cast.script) 0 (of_thread cast.passings thread) (of_thread m.loads thread) load in
        let old = marks_from cast.program (thread_count cast) thread (hold_of thread cast.script) 0 (of_thread cast.passings thread) (of_thread m.loads thread) in
        let events = more_events (of_thread passed thread) old marks.more in
        let is : own (of_thread m.loads thread ++ load ∷ []) ≡ own (of_thread m.loads thread) ++ events.0 =
        ap (recorded (of_thread passed thread)) marks.is ∙ events.1 in
        let P : List Event → Type 0 = λ es. IsSameOrNext (length (segments size (own (of_thread m.loads thread)))) (length (segments size es)) in
        subst P (sym is) (more_segments size (own (of_thread m.loads thread)) events.0 (omega (arith, events.2, marks.few)))

    by_wanted : (w : Option ℕ) → wanted_by cast thread m ≡ w
        → IsSameOrNext (length (segments_at cast passed size thread m)) (length (segments_at cast passed size thread (thread_turn cast thread m)))
    by_wanted None e = subst (λ (n : Moment). Turned (of_thread n.loads thread)) (sym (turn_without cast thread m e)) same
    by_wanted (Some word) e = elim (cases_lt (thread - 1) (length m.loads)) [
      | inl within ↦
          subst Turned (sym (turn_own cast thread m word within e)) (grown (record { word = word; value = code_at cast.program (thread_count cast) cast.script m.place word }))
      | inr past ↦
          subst Turned (sym (ap (λ (n : Moment). of_thread n.loads thread) (turn_with cast thread m word e)
          ∙ ap (λ (ls : List (List Load)). of_thread ls thread) (set_past m.loads (thread - 1) _ past))) same
    ]
