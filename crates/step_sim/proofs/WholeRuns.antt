-- The runs of a replay tear no sled, and each of their passings has its mark.
use Rattle.std.proofs.Common.{◌≡◌, ℕ, zero, suc, ◌+◌, ◌<◌, List, [], ◌∷◌, Option, Some, None, refl, sym, subst, ap, ◌∙◌, inl, inr, arith, length, map}
use Rattle.std.specs.Prelude.{slice_get}
use Rattle.std.specs.List.{All}
use Rattle.std.proofs.lemmas.Bool.{cases_eq}
use Rattle.std.proofs.lemmas.List.{length-map}
use Rattle.std.proofs.lemmas.Option.{slice_get_within}
use Rattle.xray_image.specs.Program.{Program}
use Rattle.patch_script.specs.declared.command.PatchCommand.{PatchCommand}
use Rattle.patch_script.specs.Micros.{hold_of}
use Rattle.handler_word.specs.declared.mark.Mark.{Mark}
use Rattle.machine_step.specs.declared.setup.Setup.{Setup}
use Rattle.machine_step.specs.Loads.{AreWanted, Load, Marked, Reading, Wants, from_start, is_held_at, marks_from, marks_of, next_from, next_load}
use Rattle.machine_step.specs.PlainStep.{Passing}
use Rattle.machine_step.specs.Traced.{sleds_passed}
use Rattle.machine_step.specs.Whole.{AreWhole}
use Rattle.traced_run.specs.Decoded.{DecodesWhole}
use Rattle.traced_run.specs.Runs.{ThreadRun}
use Rattle.step_sim.specs.declared.turns.Turns.{Turns}
use Rattle.step_sim.specs.Along.{IsAlong, LoadsAreWanted, NamesThread, TearsNoSled}
use Rattle.step_sim.specs.Plays.{Plays}
use Rattle.step_sim.specs.Replay.{Cast, Moment, first_moment, moment_rules, of_thread, thread_count, wanted_by}
use Rattle.step_sim.specs.private.Turns.{AllRunOut, scheduled}
use Rattle.step_sim.specs.Replayed.{IsReplayOf, cast_with, passed_of, pooling_with}
use Rattle.step_sim.proofs.EndedRuns.{no_run, of_thread_at, some_run}
use Rattle.step_sim.proofs.LostRuns.{marks_of_run}
use Rattle.step_sim.proofs.PooledReplay.{last_moment}
use Rattle.step_sim.proofs.ReplayAlong.{replay_along}
use Rattle.step_sim.proofs.TurnLemmas.{turns_other}

-- ---- a thread that wants no word

next_wants : (program : Program) (threads thread : ℕ) (hold : Option ℕ) (number sled : ℕ) (sleds : List ℕ) (loads : List Load) (word : ℕ) (recording : Mark)
    → from_start program threads thread (is_held_at hold number) sled loads ≡ Wants word recording → next_from program threads thread hold number (sled ∷ sleds) loads ≡ Some word
next_wants program threads thread hold number sled sleds loads word recording e = rw e refl

next_marked : (program : Program) (threads thread : ℕ) (hold : Option ℕ) (number sled : ℕ) (sleds : List ℕ) (loads following : List Load) (mark : Mark)
    → from_start program threads thread (is_held_at hold number) sled loads ≡ Marked mark following
    → next_from program threads thread hold number (sled ∷ sleds) loads ≡ next_from program threads thread hold (number + 1) sleds following
next_marked program threads thread hold number sled sleds loads following mark e = rw e refl

marks_marked : (program : Program) (threads thread : ℕ) (hold : Option ℕ) (number sled : ℕ) (sleds : List ℕ) (loads following : List Load) (mark : Mark)
    → from_start program threads thread (is_held_at hold number) sled loads ≡ Marked mark following
    → marks_from program threads thread hold number (sled ∷ sleds) loads ≡ mark ∷ marks_from program threads thread hold (number + 1) sleds following
marks_marked program threads thread hold number sled sleds loads following mark e = rw e refl

-- each of its passings has a mark
each_marked : (program : Program) (threads thread : ℕ) (hold : Option ℕ) (number : ℕ) (sleds : List ℕ) (loads : List Load)
    → next_from program threads thread hold number sleds loads ≡ None → length (marks_from program threads thread hold number sleds loads) ≡ length sleds
each_marked program threads thread hold number [] loads none = refl
each_marked program threads thread hold number (sled ∷ sleds) loads none =
    by_reading (each_marked program threads thread hold (number + 1) sleds) (from_start program threads thread (is_held_at hold number) sled loads) refl
  where
    by_reading : ((following : List Load) → next_from program threads thread hold (number + 1) sleds following ≡ None
        → length (marks_from program threads thread hold (number + 1) sleds following) ≡ length sleds)
        → (r : Reading) → from_start program threads thread (is_held_at hold number) sled loads ≡ r
        → length (marks_from program threads thread hold number (sled ∷ sleds) loads) ≡ suc (length sleds)
    by_reading others (Wants word recording) e =
        let one : ◌≡◌ {A = Option ℕ} (Some word) None = sym (next_wants program threads thread hold number sled sleds loads word recording e) ∙ none in absurd cc
    by_reading others (Marked mark following) e =
        ap length (marks_marked program threads thread hold number sled sleds loads following mark e)
        ∙ ap suc (others following
        (sym (next_marked program threads thread hold number sled sleds loads following mark e) ∙ none))

-- ---- all threads at the end

-- threads that have run out want no word
all_ended : (cast : Cast) (n thread : ℕ) (before after : Moment) → 0 < thread → AllRunOut cast n thread before after
    → ((k : ℕ) → 0 < k → k < thread → wanted_by cast k before ≡ None) → (k : ℕ) → 0 < k → k < thread + n → wanted_by cast k after ≡ None
all_ended cast zero thread before after first e ended k some few =
    subst (λ (m : Moment). wanted_by cast k m ≡ None) (sym e) (ended k some (omega (arith, few)))
all_ended cast (suc n) thread before after first (mid, (count, made, ends), rest) ended k some few =
    all_ended cast n (thread + 1) mid after (omega arith) rest ended_then k some (omega (arith, few))
  where
    stays : (j : ℕ) → 0 < j → (j ≡ thread → ⊥) → of_thread mid.loads j ≡ of_thread before.loads j
    stays j own apart =
        ap (λ (m : Moment). of_thread m.loads j) made ∙ turns_other cast thread j count before first own apart

    ended_then : (j : ℕ) → 0 < j → j < thread + 1 → wanted_by cast j mid ≡ None
    ended_then j own within = elim (cases_eq j thread) [
      | inl same ↦ subst (λ (t : ℕ). wanted_by cast t mid ≡ None) (sym same) ends
      | inr apart ↦
          ap (λ (ls : List Load). next_load cast.program (thread_count cast) j (hold_of j cast.script) (of_thread cast.passings j) ls) (stays j own apart)
          ∙ ended j own (omega (arith, within, apart))
    ]

-- ---- runs

-- the sleds of each run are those that are cast
pub sleds_at : (runs : List ThreadRun) (j : ℕ) (run : ThreadRun) → slice_get runs j ≡ Some run
    → slice_get (map sleds_passed (passed_of runs)) j ≡ Some (sleds_passed run.passed)
sleds_at [] j run found = absurd (no_run j run found)
sleds_at (r ∷ runs) zero run found = ap (λ (o : ThreadRun). Some (sleds_passed o.passed)) (some_run r run found)
sleds_at (r ∷ runs) (suc j) run found = sleds_at runs j run found

-- no load of a replay is unwanted
abbrev pub NoneUnwanted : Type 0
NoneUnwanted = (cast : Cast) (moment : Moment) → IsAlong cast moment → LoadsAreWanted cast moment

-- no moment of a replay tears a sled
abbrev pub NoneTorn : Type 0
NoneTorn = (cast : Cast) (moment : Moment) → IsAlong cast moment → TearsNoSled cast moment

pub decodes_whole : NoneUnwanted → NoneTorn → (program : Program) (script : List PatchCommand) (schedule : List Turns) (setup : Setup) (runs : List ThreadRun)
    → All NamesThread schedule → (is : IsReplayOf program script schedule setup runs) → (j : ℕ) (run : ThreadRun) → slice_get runs j ≡ Some run
    → DecodesWhole program setup.threads (j + 1) (hold_of (j + 1) script) run (of_thread is.last.moment.loads (j + 1))
decodes_whole wanted none program script schedule setup runs names is j run found =
    subst (λ (n : ℕ). DecodesWhole program n (j + 1) (hold_of (j + 1) script) run (of_thread is.last.moment.loads (j + 1))) long
    (subst (λ (t : ℕ). DecodesWhole program (thread_count cast) t (hold_of t script) run (of_thread is.last.moment.loads t)) number
    (record {
      wanted = subst (λ (xs : List ℕ). AreWanted program (thread_count cast) (1 + j) (hold_of (1 + j) script) xs (of_thread is.last.moment.loads (1 + j))) sleds
          (wanted cast is.last.moment along (1 + j) (omega arith));
      each = ap length marks
          ∙ each_marked program (thread_count cast) (1 + j) (hold_of (1 + j) script) 0 (sleds_passed run.passed) (of_thread is.last.moment.loads (1 + j)) ended
          ∙ length-map run.passed (λ (p : Passing). p.sled);
      marks = marks;
      whole = subst (λ (xs : List ℕ). AreWhole program (thread_count cast) (1 + j) (hold_of (1 + j) script) xs (of_thread is.last.moment.loads (1 + j))) sleds
          (none cast is.last.moment along (1 + j) (omega arith));
    }))
  where
    cast : Cast
    cast = cast_with program script runs

    long : thread_count cast ≡ setup.threads
    long = length-map (passed_of runs) sleds_passed ∙ length-map runs (λ (r : ThreadRun). r.passed) ∙ is.run.count

    number : 1 + j ≡ j + 1
    number = omega arith

    sleds : of_thread cast.passings (1 + j) ≡ sleds_passed run.passed
    sleds = of_thread_at cast.passings j (sleds_passed run.passed) (sleds_at runs j run found)

    played : Plays (moment_rules cast) (length cast.passings) (first_moment cast) schedule is.last.moment
    played = last_moment cast (pooling_with program script setup runs) schedule is.last is.replay

    along : IsAlong cast is.last.moment
    along = replay_along cast schedule is.last.moment names played

    marks : run.marks ≡ marks_of program (thread_count cast) (1 + j) (hold_of (1 + j) script) (sleds_passed run.passed) (of_thread is.last.moment.loads (1 + j))
    marks =
        marks_of_run program script schedule setup runs is j run found
        ∙ ap (λ (xs : List ℕ). marks_of program (thread_count cast) (1 + j) (hold_of (1 + j) script) xs (of_thread is.last.moment.loads (1 + j))) sleds

    within : 1 + j < 1 + length cast.passings
    within =
        let few : j < length (map sleds_passed (passed_of runs)) = slice_get_within (map sleds_passed (passed_of runs)) j (sleds_passed run.passed) (sleds_at runs j run found) in
        omega (arith, few)

    ended : next_load program (thread_count cast) (1 + j) (hold_of (1 + j) script) (sleds_passed run.passed) (of_thread is.last.moment.loads (1 + j)) ≡ None
    ended =
        ap (λ (xs : List ℕ). next_load program (thread_count cast) (1 + j) (hold_of (1 + j) script) xs (of_thread is.last.moment.loads (1 + j))) (sym sleds)
        ∙ all_ended cast (length cast.passings) 1 (scheduled cast schedule) is.last.moment (omega arith) played
        (λ k some few. absurd (omega (arith, some, few))) (1 + j) (omega arith) within
