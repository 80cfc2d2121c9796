-- If a script holds no thread, each schedule leaves marks.
use Rattle.std.proofs.Common.{◌≡◌, ℕ, zero, suc, ◌+◌, ◌-◌, ◌*◌, ◌<◌, ◌≤◌, List, [], ◌∷◌, ◌++◌, Bool, true, false, Option, Some, None, refl, sym, ◌∙◌, subst, arith, length, length-append, fold}
use Rattle.std.specs.Prelude.{◌==◌, if◌then◌else◌}
use Rattle.std.proofs.lemmas.List.{length-map}
use Rattle.xray_image.specs.Program.{Program}
use Rattle.sled_words.specs.Parts.{patched_head}
use Rattle.patch_script.specs.declared.command.PatchCommand.{PatchCommand}
use Rattle.patch_script.specs.Micros.{hold_of}
use Rattle.patch_script.specs.Plans.{waiting_line}
use Rattle.patch_script.specs.Refusals.{Lines, commands_of}
use Rattle.patch_script.specs.CodeAt.{code_at}
use Rattle.handler_word.specs.declared.mark.Mark.{Mark}
use Rattle.handler_word.specs.declared.mark.Mark.TheVariants.{Skipped, NoHandler, Recorded, RecordedArg}
use Rattle.machine_step.specs.Loads.{Load, Reading, Wants, Marked, from_state, from_handler, from_arg_handler, from_handlers, from_offset, from_opcode, from_id, from_head, next_from, next_load, sled_logs_args}
use Rattle.step_sim.specs.declared.turns.Turns.{Turns}
use Rattle.step_sim.specs.declared.turns.Turns.TheVariants.{Thread, Patcher}
use Rattle.step_sim.specs.Plays.{turns}
use Rattle.step_sim.specs.Replay.{Cast, Moment, Replay, first_moment, marks_at, moment_rules, of_thread, patcher_turn, thread_turn, wanted_by, thread_count}
use Rattle.step_sim.specs.private.Turns.{line_turns, scheduled}
use Rattle.step_sim.proofs.Bounds.{no_holds}
use Rattle.step_sim.proofs.PlayLemmas.{Ends, all_run_out}
use Rattle.step_sim.proofs.TurnLemmas.{turn_length, turn_own, turns_hold, turns_length}

-- ---- a passing

-- What one more load does after `made` loads. A passing takes at most `most` of them. One that still wants a word has
-- made fewer, and one that is marked keeps its mark.
abbrev Goes : ℕ → Reading → Reading → ℕ → Load → Type 0
Goes most (Wants word recording) after made load = made < most
Goes most (Marked mark following) after made load = after ≡ Marked mark (following ++ load ∷ [])

-- the same with one load before it
goes_on : (most : ℕ) (reading after : Reading) (made : ℕ) (load : Load) → Goes most reading after made load
    → Goes (suc most) reading after (suc made) load
goes_on most (Wants word recording) after made load few = omega arith
goes_on most (Marked mark following) after made load same = same

-- the same if a passing may take more
goes_far : (most : ℕ) (reading after : Reading) (made : ℕ) (load : Load) → Goes most reading after made load
    → Goes (suc most) reading after made load
goes_far most (Wants word recording) after made load few = omega (arith, few)
goes_far most (Marked mark following) after made load same = same

-- a test is true or false
by_test : (b : Bool) (M : Bool → Type 0) → M true → M false → M b
by_test true M at_true at_false = at_true
by_test false M at_true at_false = at_false

-- a passing takes one load from the state word on
state_goes : (program : Program) (recording : Mark) (loads : List Load) (load : Load)
    → Goes 1 (from_state program recording loads) (from_state program recording (loads ++ load ∷ [])) (length loads) load
state_goes program recording [] load = omega arith
state_goes program recording (first ∷ loads) load = refl

-- two from the handler word on
handler_goes : (program : Program) (loads : List Load) (load : Load)
    → Goes 2 (from_handler program loads) (from_handler program (loads ++ load ∷ [])) (length loads) load
handler_goes program [] load = omega arith
handler_goes program (first ∷ loads) load =
    by_test (first.value == 0)
    (λ b. Goes 2 (if b then Marked NoHandler loads else from_state program Recorded loads)
    (if b then Marked NoHandler (loads ++ load ∷ []) else from_state program Recorded (loads ++ load ∷ [])) (suc (length loads)) load)
    refl
    (goes_on 1 (from_state program Recorded loads) (from_state program Recorded (loads ++ load ∷ [])) (length loads) load
    (state_goes program Recorded loads load))

-- three from the argument handler word on
arg_handler_goes : (program : Program) (threads : ℕ) (loads : List Load) (load : Load)
    → Goes 3 (from_arg_handler program threads loads) (from_arg_handler program threads (loads ++ load ∷ [])) (length loads) load
arg_handler_goes program threads [] load = omega arith
arg_handler_goes program threads (first ∷ loads) load =
    by_test (first.value == 0)
    (λ b. Goes 3 (if b then from_handler program loads else from_state program RecordedArg loads)
    (if b then from_handler program (loads ++ load ∷ []) else from_state program RecordedArg (loads ++ load ∷ [])) (suc (length loads)) load)
    (goes_on 2 (from_handler program loads) (from_handler program (loads ++ load ∷ [])) (length loads) load (handler_goes program loads load))
    (goes_far 2 (from_state program RecordedArg loads) (from_state program RecordedArg (loads ++ load ∷ [])) (suc (length loads)) load
    (goes_on 1 (from_state program RecordedArg loads) (from_state program RecordedArg (loads ++ load ∷ [])) (length loads) load
    (state_goes program RecordedArg loads load)))

-- so at most three after the offset
handlers_goes : (program : Program) (threads sled : ℕ) (loads : List Load) (load : Load)
    → Goes 3 (from_handlers program threads sled loads) (from_handlers program threads sled (loads ++ load ∷ [])) (length loads) load
handlers_goes program threads sled loads load =
    by_test (sled_logs_args program sled)
    (λ b. Goes 3 (if b then from_arg_handler program threads loads else from_handler program loads)
    (if b then from_arg_handler program threads (loads ++ load ∷ []) else from_handler program (loads ++ load ∷ [])) (length loads) load)
    (arg_handler_goes program threads loads load)
    (goes_far 2 (from_handler program loads) (from_handler program (loads ++ load ∷ [])) (length loads) load (handler_goes program loads load))

-- four from the offset on
offset_goes : (program : Program) (threads sled : ℕ) (loads : List Load) (load : Load)
    → Goes 4 (from_offset program threads sled loads) (from_offset program threads sled (loads ++ load ∷ [])) (length loads) load
offset_goes program threads sled [] load = omega arith
offset_goes program threads sled (first ∷ loads) load =
    goes_on 3 (from_handlers program threads sled loads) (from_handlers program threads sled (loads ++ load ∷ [])) (length loads) load
    (handlers_goes program threads sled loads load)

-- five from the opcode on
opcode_goes : (program : Program) (threads sled : ℕ) (loads : List Load) (load : Load)
    → Goes 5 (from_opcode program threads sled loads) (from_opcode program threads sled (loads ++ load ∷ [])) (length loads) load
opcode_goes program threads sled [] load = omega arith
opcode_goes program threads sled (first ∷ loads) load =
    goes_on 4 (from_offset program threads sled loads) (from_offset program threads sled (loads ++ load ∷ [])) (length loads) load
    (offset_goes program threads sled loads load)

-- six from the id on
id_goes : (program : Program) (threads sled : ℕ) (loads : List Load) (load : Load)
    → Goes 6 (from_id program threads sled loads) (from_id program threads sled (loads ++ load ∷ [])) (length loads) load
id_goes program threads sled [] load = omega arith
id_goes program threads sled (first ∷ loads) load =
    goes_on 5 (from_opcode program threads sled loads) (from_opcode program threads sled (loads ++ load ∷ [])) (length loads) load
    (opcode_goes program threads sled loads load)

-- a passing of a thread that isn't held takes at most seven loads
head_goes : (program : Program) (threads sled : ℕ) (loads : List Load) (load : Load)
    → Goes 7 (from_head program threads sled loads) (from_head program threads sled (loads ++ load ∷ [])) (length loads) load
head_goes program threads sled [] load = omega arith
head_goes program threads sled (first ∷ loads) load =
    by_test (first.value == patched_head)
    (λ b. Goes 7 (if b then from_id program threads sled loads else Marked Skipped loads)
    (if b then from_id program threads sled (loads ++ load ∷ []) else Marked Skipped (loads ++ load ∷ [])) (suc (length loads)) load)
    (goes_on 6 (from_id program threads sled loads) (from_id program threads sled (loads ++ load ∷ [])) (length loads) load
    (id_goes program threads sled loads load))
    refl

-- ---- a thread

-- The most loads that are left. An open passing has those up to seven, and the later ones all of theirs. After a mark,
-- only the later ones have loads left.
abbrev left_of : Reading → ℕ → ℕ → (List Load → ℕ) → ℕ
left_of (Wants word recording) made whole later = (7 - made) + whole
left_of (Marked mark following) made whole later = later following

-- the most loads that are left to a thread that passes these sleds and isn't held
abbrev left : Program → ℕ → List ℕ → List Load → ℕ
left program threads [] loads = 0
left program threads (sled ∷ sleds) loads = left_of (from_head program threads sled loads) (length loads) (7 * length sleds) (left program threads sleds)

-- there are at most seven per passing
left_few : (program : Program) (threads : ℕ) (sleds : List ℕ) (loads : List Load) → left program threads sleds loads ≤ 7 * length sleds
left_few program threads [] loads = omega arith
left_few program threads (sled ∷ sleds) loads = by_reading (left_few program threads sleds) (from_head program threads sled loads)
  where
    by_reading : ((following : List Load) → left program threads sleds following ≤ 7 * length sleds) → (r : Reading)
        → left_of r (length loads) (7 * length sleds) (left program threads sleds) ≤ 7 * suc (length sleds)
    by_reading few (Wants word recording) = omega arith
    by_reading few (Marked mark following) = omega (arith, few following)

-- the word that is wanted after loads that bring a passing this far
abbrev wanted_of : Reading → (List Load → Option ℕ) → Option ℕ
wanted_of (Wants word recording) later = Some word
wanted_of (Marked mark following) later = later following

-- the next load of a thread, by how far its loads bring the first of its passings
next_is : (program : Program) (threads thread number sled : ℕ) (sleds : List ℕ) (loads : List Load) (r : Reading) → from_head program threads sled loads ≡ r
    → next_from program threads thread None number (sled ∷ sleds) loads ≡ wanted_of r (next_from program threads thread None (number + 1) sleds)
next_is program threads thread number sled sleds loads (Wants word recording) e = rw e refl
next_is program threads thread number sled sleds loads (Marked mark more) e = rw e refl

-- after one more load of an open passing fewer are left
fewer_left : (program : Program) (threads : ℕ) (sleds : List ℕ) (made : ℕ) (r : Reading) → made < 7
    → left_of r (made + 1) (7 * length sleds) (left program threads sleds) < (7 - made) + 7 * length sleds
fewer_left program threads sleds made (Wants word recording) few = omega arith
fewer_left program threads sleds made (Marked mark following) few = omega (arith, left_few program threads sleds following)

-- each load leaves fewer
left_falls : (program : Program) (threads thread number : ℕ) (sleds : List ℕ) (loads : List Load) (load : Load) (word : ℕ)
    → next_from program threads thread None number sleds loads ≡ Some word → left program threads sleds (loads ++ load ∷ []) < left program threads sleds loads
left_falls program threads thread number [] loads load word wants = cc
left_falls program threads thread number (sled ∷ sleds) loads load word wants =
    by_reading (λ following. left_falls program threads thread (number + 1) sleds following load word)
    (from_head program threads sled loads) (from_head program threads sled (loads ++ load ∷ [])) (head_goes program threads sled loads load)
    (sym (next_is program threads thread number sled sleds loads (from_head program threads sled loads) refl) ∙ wants)
  where
    one_more : length (loads ++ load ∷ []) ≡ length loads + 1
    one_more = length-append loads (load ∷ [])

    by_reading : ((following : List Load) → next_from program threads thread None (number + 1) sleds following ≡ Some word
        → left program threads sleds (following ++ load ∷ []) < left program threads sleds following)
        → (r after : Reading) → Goes 7 r after (length loads) load
        → wanted_of r (next_from program threads thread None (number + 1) sleds) ≡ Some word
        → left_of after (length (loads ++ load ∷ [])) (7 * length sleds) (left program threads sleds)
        < left_of r (length loads) (7 * length sleds) (left program threads sleds)
    by_reading falls (Wants wanted recording) after few e =
        subst (λ (made : ℕ). left_of after made (7 * length sleds) (left program threads sleds) < (7 - length loads) + 7 * length sleds)
        (sym one_more) (fewer_left program threads sleds (length loads) after few)
    by_reading falls (Marked mark following) after same e =
        subst (λ (r : Reading). left_of r (length (loads ++ load ∷ [])) (7 * length sleds) (left program threads sleds) < left program threads sleds following)
        (sym same) (falls following e)

-- ---- a thread runs out

-- the most loads that are left to a thread at a moment
abbrev left_at : Cast → ℕ → Moment → ℕ
left_at cast thread m = left cast.program (thread_count cast) (of_thread cast.passings thread) (of_thread m.loads thread)

-- each turn of a thread that wants a word leaves fewer
turn_falls : (cast : Cast) (thread : ℕ) (m : Moment) (word : ℕ) → hold_of thread cast.script ≡ None → thread - 1 < length m.loads
    → wanted_by cast thread m ≡ Some word → left_at cast thread (thread_turn cast thread m) < left_at cast thread m
turn_falls cast thread m word free within wants =
    let load : Load = record { word = word; value = code_at cast.program (thread_count cast) cast.script m.place word } in
    let unheld = subst (λ (h : Option ℕ). next_load cast.program (thread_count cast) thread h (of_thread cast.passings thread) (of_thread m.loads thread) ≡ Some word) free wants in
    subst (λ (ls : List Load). left cast.program (thread_count cast) (of_thread cast.passings thread) ls < left_at cast thread m)
    (sym (turn_own cast thread m word within wants))
    (left_falls cast.program (thread_count cast) thread 0 (of_thread cast.passings thread) (of_thread m.loads thread) load word unheld)

-- one turn and those after it
one_before : (cast : Cast) (thread : ℕ) (m : Moment) → Ends (moment_rules cast) thread (thread_turn cast thread m) → Ends (moment_rules cast) thread m
one_before cast thread m (n, none) = (suc n, none)

-- a thread wants no word, or one
by_word : (w : Option ℕ) (M : Type 0) → (w ≡ None → M) → ((word : ℕ) → w ≡ Some word → M) → M
by_word None M at_none at_some = at_none refl
by_word (Some word) M at_none at_some = at_some word refl

-- a thread that isn't held ends after finitely many turns
ends_after : (cast : Cast) (thread : ℕ) → hold_of thread cast.script ≡ None → (most : ℕ) (m : Moment) → thread - 1 < length m.loads
    → left_at cast thread m ≤ most → Ends (moment_rules cast) thread m
ends_after cast thread free zero m within few =
    by_word (wanted_by cast thread m) (Ends (moment_rules cast) thread m) (λ e. (0, e))
    (λ word e. let falls = turn_falls cast thread m word free within e in absurd (omega arith))
ends_after cast thread free (suc most) m within few =
    by_word (wanted_by cast thread m) (Ends (moment_rules cast) thread m) (λ e. (0, e))
    (λ word e.
    let falls = turn_falls cast thread m word free within e in
    let there : thread - 1 < length (thread_turn cast thread m).loads = omega (arith, turn_length cast thread m) in
    one_before cast thread m (ends_after cast thread free most (thread_turn cast thread m) there (omega arith)))

-- ---- all threads run out

-- the script of a replay holds no thread
abbrev NobodyHeld : Cast → Type 0
NobodyHeld cast = (thread : ℕ) → hold_of thread cast.script ≡ None

-- the patcher's turns keep the loads
patcher_length : (cast : Cast) (n : ℕ) (m : Moment) → length (turns n (patcher_turn cast) m).loads ≡ length m.loads
patcher_length cast n m =
    turns_hold (λ (x : Moment). length x.loads ≡ length m.loads) (patcher_turn cast) (λ x e. e) n m refl

-- after the lines of a schedule there are as many lists of loads
lines_length : (cast : Cast) (lines : List Turns) (m : Moment) → length (fold (line_turns cast) m lines).loads ≡ length m.loads
lines_length cast [] m = refl
lines_length cast (Thread thread count ∷ lines) m =
    lines_length cast lines (turns count (thread_turn cast thread) m) ∙ turns_length cast thread count m
lines_length cast (Patcher count ∷ lines) m =
    lines_length cast lines (turns count (patcher_turn cast) m) ∙ patcher_length cast count m

-- if no thread is held, each schedule leaves marks
pub some_marks : (cast : Cast) (schedule : List Turns) → NobodyHeld cast → (marks : List (List Mark)) × Replay cast schedule marks
some_marks cast schedule free =
    let begun : length (first_moment cast).loads ≡ length cast.passings = length-map cast.passings (λ _. []) in
    let room : length (scheduled cast schedule).loads ≡ length (first_moment cast).loads = lines_length cast schedule (first_moment cast) in
    let out = all_run_out (moment_rules cast) (length cast.passings) (λ m. length m.loads ≡ length cast.passings)
    (λ thread m some few long. ends_after cast thread (free thread) (left_at cast thread m) m (omega (arith, some, few, long)) (omega arith))
    (λ thread n m long. turns_length cast thread n m ∙ long)
    (length cast.passings) 1 (scheduled cast schedule) (omega arith) (omega arith) (room ∙ begun) in
    (marks_at cast out.0, (out.0, out.1, refl))

-- so it does if its script has no line at which a thread or the patcher may wait
pub still_marks : (cast : Cast) (schedule : List Turns) (lines : Lines) → cast.script ≡ commands_of lines → waiting_line lines ≡ None
    → (marks : List (List Mark)) × Replay cast schedule marks
still_marks cast schedule lines said still =
    some_marks cast schedule
    (λ thread. subst (λ (script : List PatchCommand). hold_of thread script ≡ None) (sym said) (no_holds lines still thread))
