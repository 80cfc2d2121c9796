-- A script that records each passing determines the marks, and so the run.
use Rattle.std.proofs.Common.{◌≡◌, ◌≢◌, ℕ, zero, suc, ◌+◌, ◌<◌, ◌≤◌, ◌==◌, Bool, true, false, List, [], ◌∷◌, length, map, Option, Some, refl, sym, ap, subst, ◌∙◌, arith, eq-eqb}
use Rattle.std.specs.Prelude.{All, if◌then◌else◌, slice_get}
use Rattle.std.proofs.lemmas.Bool.{ne_eqb}
use Rattle.std.proofs.lemmas.List.{length-map}
use Rattle.std.proofs.lemmas.List.Elements.{All-head, All-tail}
use Rattle.std.proofs.lemmas.Option.{same_Some, slice_get-get_or, slice_get_within}
use Rattle.xray_image.specs.Program.{IsAccepted, Program}
use Rattle.sled_words.specs.declared.part.Part.TheVariants.{Head}
use Rattle.sled_words.specs.Parts.{patched_head}
use Rattle.sled_words.specs.Words.{arg_handler_word, handler_word, state_word, word_of}
use Rattle.patch_script.specs.declared.command.PatchCommand.{PatchCommand}
use Rattle.patch_script.specs.CodeAt.{code_at}
use Rattle.patch_script.specs.Micros.{hold_of, start_of, total_of}
use Rattle.handler_word.specs.declared.mark.Mark.{Mark}
use Rattle.handler_word.specs.declared.mark.Mark.TheVariants.{NoHandler, NotLogging, Recorded, RecordedArg, Skipped}
use Rattle.machine_step.specs.declared.end.End.{End}
use Rattle.machine_step.specs.declared.limits.Limits.{Limits}
use Rattle.machine_step.specs.declared.setup.Setup.{Setup}
use Rattle.machine_step.specs.Follows.{Rise}
use Rattle.machine_step.specs.Loads.{Load, Marked, Reading, Wants, from_arg_handler, from_handler, from_handlers, from_head, from_id, from_offset, from_opcode, from_release, from_start, from_state, is_held_at, marks_from, next_from, sled_logs_args}
use Rattle.machine_step.specs.PlainStep.{Passing, PlainRun, State}
use Rattle.machine_step.specs.Traced.{sleds_passed}
use Rattle.machine_step.proofs.AllowedLoads.{by_test, following, next_is}
use Rattle.machine_step.proofs.MarksAfterLoad.{marks_step}
use Rattle.machine_step.proofs.OneEnd.{same_run}
use Rattle.machine_step.proofs.OneUnit.{accepted_units}
use Rattle.machine_step.proofs.SomeMarks.{IsSled, run_sleds}
use Rattle.machine_step.proofs.WholePassings.{Each, Fit, fit_from, fit_same}
use Rattle.traced_run.specs.Following.{AllMarksFollow, MarksFollowScript}
use Rattle.traced_run.specs.Losses.{recycled_of}
use Rattle.traced_run.specs.Recording.{RecordsAll, RecordsAt, recorded_mark}
use Rattle.traced_run.specs.Runs.{IsRun, ThreadRun}
use Rattle.traced_run.proofs.Oldest.{none_lost}

-- ---- what a load gives

-- a load gives what such code has in its word
abbrev Gives : Program → ℕ → ℕ → Load → Type 0
Gives program threads arguments load =
    (code : ℕ → ℕ) × RecordsAt program threads arguments code × (load.value ≡ code load.word)

rise_within : (from last : ℕ) (numbers : List ℕ) (i at : ℕ) → Rise from last numbers → slice_get numbers i ≡ Some at → (from ≤ at) × (at ≤ last)
rise_within from last [] i at rise found = absurd cc
rise_within from last (number ∷ later) zero at (low, high, rise) found = let same : number ≡ at = same_Some number at found in (omega arith, omega arith)
rise_within from last (number ∷ later) (suc i) at (low, high, rise) found =
    let rest = rise_within number last later i at rise found in (omega (arith, rest.0), rest.1)

each_of : (Is : Load → Type 0) (loads : List Load) → ((i : ℕ) (load : Load) → slice_get loads i ≡ Some load → Is load) → Each Is loads
each_of Is [] are = tt
each_of Is (load ∷ loads) are = (are 0 load refl, each_of Is loads (λ i l at. are (suc i) l at))

-- ---- a passing

module _ (program : Program) (threads arguments : ℕ) (next : List Load → Option ℕ) where
  -- if the passing has its mark, it is this one, and the loads go on
  abbrev Good : Mark → Reading → Type 0
  Good mark (Wants word recording) = Unit {0}
  Good mark (Marked m rest) = (m ≡ mark) × Fit next rest × Each (Gives program threads arguments) rest

  abbrev Follow : (List Load → Reading) → List Load → Type 0
  Follow read loads = Fit (λ ls. following (read ls) next) loads

  abbrev Gave : List Load → Type 0
  Gave loads = Each (Gives program threads arguments) loads

  -- what a load of a word gives
  gave : (load : Load) (word : ℕ) → Some word ≡ Some load.word → (given : Gives program threads arguments load) → load.value ≡ given.0 word
  gave load word first given = given.2 ∙ ap given.0 (sym (same_Some word load.word first))

  good_state : (recording : Mark) (loads : List Load) → Follow (from_state program recording) loads → Gave loads → Good recording (from_state program recording loads)
  good_state recording [] fits each = tt
  good_state recording (load ∷ rest) (first, fits) (given, each) =
      let value : load.value ≡ 2 = gave load (state_word program) first given ∙ given.1.state in
      (ap (λ (b : Bool). if b then recording else NotLogging) (eq-eqb load.value 2 value), fits, each)

  good_handler : (loads : List Load) → Follow (from_handler program) loads → Gave loads → Good Recorded (from_handler program loads)
  good_handler [] fits each = tt
  good_handler (load ∷ rest) (first, fits) (given, each) =
      let value : load.value ≢ 0 = λ (is : load.value ≡ 0). given.1.handler (sym (gave load (handler_word program) first given) ∙ is) in
      subst
      (λ (b : Bool). Fit (λ more. following (if b then Marked NoHandler more else from_state program Recorded more) next) rest
      → Good Recorded (if b then Marked NoHandler rest else from_state program Recorded rest))
      (sym (ne_eqb load.value 0 value)) (λ fits. good_state Recorded rest fits each) fits

  -- the mark at a sled that logs arguments
  abbrev with_argument : Bool → Mark
  with_argument b = if b then Recorded else RecordedArg

  good_arg_handler : (loads : List Load) → Follow (from_arg_handler program threads) loads → Gave loads
      → Good (with_argument (arguments == 0)) (from_arg_handler program threads loads)
  good_arg_handler [] fits each = tt
  good_arg_handler (load ∷ rest) (first, fits) (given, each) =
      let value : load.value ≡ arguments = gave load (arg_handler_word program threads) first given ∙ given.1.arguments_are in
      let here = by_test (load.value == 0)
      (λ b. Fit (λ more. following (if b then from_handler program more else from_state program RecordedArg more) next) rest
      → Good (with_argument b) (if b then from_handler program rest else from_state program RecordedArg rest))
      (λ e fits. good_handler rest fits each) (λ e fits. good_state RecordedArg rest fits each) fits in
      subst (λ (v : ℕ). Good (with_argument (v == 0)) (if load.value == 0 then from_handler program rest else from_state program RecordedArg rest)) value here

  good_handlers : (k : ℕ) (loads : List Load) → Follow (from_handlers program threads k) loads → Gave loads
      → Good (recorded_mark program arguments k) (from_handlers program threads k loads)
  good_handlers k loads fits each =
      by_test (sled_logs_args program k)
      (λ b. Fit (λ more. following (if b then from_arg_handler program threads more else from_handler program more) next) loads
      → Good (if b then with_argument (arguments == 0) else Recorded) (if b then from_arg_handler program threads loads else from_handler program loads))
      (λ e fits. good_arg_handler loads fits each) (λ e fits. good_handler loads fits each) fits

  good_offset : (k : ℕ) (loads : List Load) → Follow (from_offset program threads k) loads → Gave loads
      → Good (recorded_mark program arguments k) (from_offset program threads k loads)
  good_offset k [] fits each = tt
  good_offset k (load ∷ rest) (first, fits) (given, each) = good_handlers k rest fits each

  good_opcode : (k : ℕ) (loads : List Load) → Follow (from_opcode program threads k) loads → Gave loads
      → Good (recorded_mark program arguments k) (from_opcode program threads k loads)
  good_opcode k [] fits each = tt
  good_opcode k (load ∷ rest) (first, fits) (given, each) = good_offset k rest fits each

  good_id : (k : ℕ) (loads : List Load) → Follow (from_id program threads k) loads → Gave loads
      → Good (recorded_mark program arguments k) (from_id program threads k loads)
  good_id k [] fits each = tt
  good_id k (load ∷ rest) (first, fits) (given, each) = good_opcode k rest fits each

  good_head : (k : ℕ) → k < length program.sleds → (loads : List Load) → Follow (from_head program threads k) loads → Gave loads
      → Good (recorded_mark program arguments k) (from_head program threads k loads)
  good_head k exists [] fits each = tt
  good_head k exists (load ∷ rest) (first, fits) (given, each) =
      let value : load.value ≡ patched_head = gave load (word_of k Head) first given ∙ given.1.heads k exists in
      subst
      (λ (b : Bool). Fit (λ more. following (if b then from_id program threads k more else Marked Skipped more) next) rest
      → Good (recorded_mark program arguments k) (if b then from_id program threads k rest else Marked Skipped rest))
      (sym (eq-eqb load.value patched_head value)) (λ fits. good_id k rest fits each) fits

  good_release : (thread k : ℕ) → k < length program.sleds → (loads : List Load) → Follow (from_release program threads thread k) loads → Gave loads
      → Good (recorded_mark program arguments k) (from_release program threads thread k loads)
  good_release thread k exists [] fits each = tt
  good_release thread k exists (load ∷ rest) (first, fits) (given, each) =
      by_test (load.value == 0)
      (λ b. Fit (λ more. following (if b then from_release program threads thread k more else from_head program threads k more) next) rest
      → Good (recorded_mark program arguments k) (if b then from_release program threads thread k rest else from_head program threads k rest))
      (λ e fits. good_release thread k exists rest fits each) (λ e fits. good_head k exists rest fits each) fits

  good_start : (thread : ℕ) (held : Bool) (k : ℕ) → k < length program.sleds → (loads : List Load) → Follow (from_start program threads thread held k) loads
      → Gave loads → Good (recorded_mark program arguments k) (from_start program threads thread held k loads)
  good_start thread true k exists loads fits each = good_release thread k exists loads fits each
  good_start thread false k exists loads fits each = good_head k exists loads fits each

-- ---- all passings

module _ (program : Program) (threads arguments thread : ℕ) (hold : Option ℕ) where
  -- the first marks of passings at these sleds
  abbrev AreFirst : List Mark → List Passing → Type 0
  AreFirst [] passed = Unit {0}
  AreFirst (mark ∷ marks) [] = ⊥
  AreFirst (mark ∷ marks) (p ∷ passed) = (mark ≡ recorded_mark program arguments p.sled) × AreFirst marks passed

  all_first : (number : ℕ) (passed : List Passing) (loads : List Load) → All (IsSled program) passed
      → Fit (next_from program threads thread hold number (sleds_passed passed)) loads → Each (Gives program threads arguments) loads
      → AreFirst (marks_from program threads thread hold number (sleds_passed passed) loads) passed
  all_first number [] loads sleds fits each = tt
  all_first number (p ∷ passed) loads sleds fits each =
      by_reading (λ more. all_first (number + 1) passed more (All-tail (IsSled program) p passed sleds))
      (from_start program threads thread (is_held_at hold number) p.sled loads) refl
      (good_start program threads arguments rest thread (is_held_at hold number) p.sled (All-head (IsSled program) p passed sleds) loads
      (fit_same (next_from program threads thread hold number (sleds_passed (p ∷ passed)))
      (λ ls. following (from_start program threads thread (is_held_at hold number) p.sled ls) rest) loads
      (λ ls. next_is program threads thread hold number p.sled (sleds_passed passed) ls (from_start program threads thread (is_held_at hold number) p.sled ls) refl)
      fits)
      each)
    where
      rest : List Load → Option ℕ
      rest = next_from program threads thread hold (number + 1) (sleds_passed passed)

      by_reading : ((more : List Load) → Fit rest more → Each (Gives program threads arguments) more
          → AreFirst (marks_from program threads thread hold (number + 1) (sleds_passed passed) more) passed)
          → (r : Reading) → from_start program threads thread (is_held_at hold number) p.sled loads ≡ r
          → Good program threads arguments rest (recorded_mark program arguments p.sled) r
          → AreFirst (marks_from program threads thread hold number (sleds_passed (p ∷ passed)) loads) (p ∷ passed)
      by_reading later (Wants word recording) is good =
          subst (λ (ms : List Mark). AreFirst ms (p ∷ passed))
          (sym (marks_step program threads thread hold number p.sled (sleds_passed passed) loads (Wants word recording) is)) tt
      by_reading later (Marked mark more) is (same, fits, each) =
          subst (λ (ms : List Mark). AreFirst ms (p ∷ passed))
          (sym (marks_step program threads thread hold number p.sled (sleds_passed passed) loads (Marked mark more) is)) (same, later more fits each)

  as_many : (marks : List Mark) (passed : List Passing) → length marks ≡ length passed → AreFirst marks passed
      → marks ≡ map (λ p. recorded_mark program arguments p.sled) passed
  as_many [] [] count are = refl
  as_many [] (p ∷ passed) count are = absurd (omega (arith, count))
  as_many (mark ∷ marks) [] count are = absurd are
  as_many (mark ∷ marks) (p ∷ passed) count (same, are) = λ i. same i ∷ as_many marks passed (omega (arith, count)) are i

pub marks_are : (program : Program) (limits : Limits) (threads thread : ℕ) (script : List PatchCommand) (arguments : ℕ)
    (passed : List Passing) (end : End) (last : State) (marks : List Mark) → PlainRun program limits thread passed end last
    → RecordsAll program threads script arguments → MarksFollowScript program threads script thread (sleds_passed passed) marks
    → marks ≡ map (λ p. recorded_mark program arguments p.sled) passed
marks_are program limits threads thread script arguments passed end last marks (n, run) records f =
    let follow = f.follow in
    let gives : (i : ℕ) (load : Load) → slice_get f.loads i ≡ Some load → Gives program threads arguments load = λ i load found.
    let low = slice_get_within f.loads i load found in
    let placed = slice_get-get_or follow.places i 0 (omega (arith, low, follow.count)) in
    let within = rise_within (start_of program threads script) (total_of program threads script) follow.places i _ follow.rise placed in
    (code_at program threads script _, records _ within.0 within.1, follow.values i _ load placed found) in
    let first = all_first program threads arguments thread (hold_of thread script) 0 passed f.loads
    (run_sleds program limits thread n _ passed end last run) (fit_from _ f.loads follow.wanted) (each_of (Gives program threads arguments) f.loads gives) in
    as_many program threads arguments thread (hold_of thread script) marks passed (f.each ∙ length-map passed (λ (p : Passing). p.sled))
    (subst (λ (ms : List Mark). AreFirst program threads arguments thread (hold_of thread script) ms passed) (sym f.leave) first)

-- ---- runs

-- lists that have the same item at each place
same_items : {X : Type 0} (xs ys : List X) → length xs ≡ length ys
    → ((i : ℕ) (x y : X) → slice_get xs i ≡ Some x → slice_get ys i ≡ Some y → x ≡ y) → xs ≡ ys
same_items [] [] count each = refl
same_items [] (y ∷ ys) count each = absurd (omega (arith, count))
same_items (x ∷ xs) [] count each = absurd (omega (arith, count))
same_items (x ∷ xs) (y ∷ ys) count each = λ i.
    each 0 x y refl refl i ∷ same_items xs ys (omega (arith, count)) (λ k a b at at'. each (suc k) a b at at') i

pub one_run : (bytes : List ℕ) (program : Program) (setup : Setup) (script : List PatchCommand) (arguments : ℕ) (runs others : List ThreadRun)
    → IsAccepted bytes program → RecordsAll program setup.threads script arguments → IsRun program setup runs → IsRun program setup others
    → AllMarksFollow program setup.threads script runs → AllMarksFollow program setup.threads script others
    → recycled_of runs ≡ 0 → recycled_of others ≡ 0 → runs ≡ others
one_run bytes program setup script arguments runs others a records is are follow followed kept kept' =
    same_items runs others (is.count ∙ sym are.count) (λ i run other found found'.
    let plain = is.plain i run found in
    let plain' = are.plain i other found' in
    let same = same_run program (accepted_units bytes program a) setup.limits (i + 1) plain.0 plain'.0 _ run.passed other.passed run.end other.end run.last other.last plain.1 plain'.1 in
    let marks = marks_are program setup.limits setup.threads (i + 1) script arguments run.passed run.end run.last run.marks plain records (follow i run found) in
    let marks' = marks_are program setup.limits setup.threads (i + 1) script arguments other.passed other.end other.last other.marks plain' records (followed i other found') in
    let alike : run.marks ≡ other.marks =
    marks ∙ (ap (map (λ (p : Passing). recorded_mark program arguments p.sled)) same.passings ∙ sym marks') in
    let lost : run.lost ≡ other.lost = none_lost runs i run kept found ∙ sym (none_lost others i other kept' found') in
    λ j. record { passed = same.passings j; end = same.ends j; last = same.lasts j; marks = alike j; lost = lost j })
