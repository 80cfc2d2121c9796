-- If a script lets a thread come to its end, there are marks that follow the script: those of a thread that makes each
-- load as late as it may.
use Rattle.std.proofs.Common.{◌≡◌, ◌≢◌, ℕ, zero, suc, ◌+◌, ◌<◌, ◌≤◌, List, [], ◌∷◌, ◌++◌, length, true, Option, Some, None, refl, sym, ap, subst, ◌∙◌, arith, eqb-true, length-append}
use Rattle.std.specs.Prelude.{All}
use Rattle.std.proofs.lemmas.List.Elements.{All-append, All-cons, All-head, All-nil, All-tail}
use Rattle.std.proofs.lemmas.Option.{slice_get_within}
use Rattle.xray_image.specs.Program.{Program}
use Rattle.sled_words.specs.ChangingCode.{LetsEnd}
use Rattle.sled_words.specs.Words.{release_word}
use Rattle.handler_word.specs.declared.mark.Mark.{Mark}
use Rattle.machine_step.specs.declared.end.End.{End}
use Rattle.machine_step.specs.declared.limits.Limits.{Limits}
use Rattle.machine_step.specs.declared.stage.Next.{Next}
use Rattle.machine_step.specs.declared.stage.Next.TheVariants as nexts
use Rattle.machine_step.specs.declared.stage.Stage.TheVariants as stages
use Rattle.machine_step.specs.declared.want.Want.TheVariants as wants
use Rattle.machine_step.specs.Follows.{Follows, MarksFollow}
use Rattle.machine_step.specs.Loads.{Load, Marked, Reading, Wants, from_start, is_held_at, marks_from, marks_of, next_from, next_load, recording_of, sled_logs_args}
use Rattle.machine_step.specs.PlainStep.{Passing, PlainRun, RunsTo, State}
use Rattle.machine_step.specs.private.Stages.{after_load, word_at}
use Rattle.machine_step.specs.Traced.{sleds_passed, steps_left}
use Rattle.machine_step.proofs.EachPassing.{steps_each}
use Rattle.machine_step.proofs.LoadByLoad.{none as no_loads, later as up_to, loaded as one_more}
use Rattle.machine_step.proofs.LoadedValues.{next_left, some_left}
use Rattle.machine_step.proofs.StagesLeft.{left_at, steps_left_at}
use Rattle.machine_step.proofs.MarksAfterLoad.{Adds, InPassing, in_passing, marks_step, next_step, no_marks}
use Rattle.machine_step.proofs.WordsAt.{release_stage}

-- ---- the sleds that a plain run passes

abbrev pub IsSled : Program → Passing → Type 0
IsSled program p = p.sled < length program.sleds

pub run_sleds : (program : Program) (limits : Limits) (thread n : ℕ) (s : State) (passed : List Passing) (end : End) (last : State)
    → RunsTo program limits thread n s passed end last → All (IsSled program) passed
run_sleds program limits thread n s passed end last run =
    steps_each (IsSled program) program limits thread n s passed end last (λ s k sled found. slice_get_within program.sleds k sled found) run

-- the passing of a sled in such a list
pub sled_within : (program : Program) (passed : List Passing) → All (IsSled program) passed → (before rest : List ℕ) (sled : ℕ)
    → sleds_passed passed ≡ before ++ sled ∷ rest → sled < length program.sleds
sled_within program [] all [] rest sled is = absurd cc
sled_within program [] all (b ∷ before) rest sled is = absurd cc
sled_within program (p ∷ passed) all [] rest sled is =
    let same : p.sled ≡ sled = cc in subst (λ (k : ℕ). k < length program.sleds) same (All-head (IsSled program) p passed all)
sled_within program (p ∷ passed) all (b ∷ before) rest sled is =
    sled_within program passed (All-tail (IsSled program) p passed all) before rest sled (let same : sleds_passed passed ≡ before ++ sled ∷ rest = cc in same)

-- ---- a thread that wants no word

pub all_marked : (program : Program) (threads thread : ℕ) (hold : Option ℕ) (number : ℕ) (sleds : List ℕ) (loads : List Load)
    → next_from program threads thread hold number sleds loads ≡ None → length (marks_from program threads thread hold number sleds loads) ≡ length sleds
all_marked program threads thread hold number [] loads none = refl
all_marked program threads thread hold number (k ∷ sleds) loads none =
    by_reading (λ following. all_marked program threads thread hold (number + 1) sleds following)
    (from_start program threads thread (is_held_at hold number) k loads) refl
  where
    by_reading : ((following : List Load) → next_from program threads thread hold (number + 1) sleds following ≡ None
        → length (marks_from program threads thread hold (number + 1) sleds following) ≡ length sleds)
        → (reading : Reading) → from_start program threads thread (is_held_at hold number) k loads ≡ reading
        → length (marks_from program threads thread hold number (k ∷ sleds) loads) ≡ length (k ∷ sleds)
    by_reading later (Wants word recording) is =
        let wanted = next_step program threads thread hold number k sleds loads (Wants word recording) is in absurd cc
    by_reading later (Marked mark following) is =
        ap length (marks_step program threads thread hold number k sleds loads (Marked mark following) is)
        ∙ ap suc (later following (sym (next_step program threads thread hold number k sleds loads (Marked mark following) is) ∙ none))

-- ---- loads as late as they may be

pub held_passing : (hold : Option ℕ) (passing : ℕ) → is_held_at hold passing ≡ true → hold ≡ Some passing
held_passing None passing held = absurd cc
held_passing (Some at) passing held = ap Some (eqb-true at passing held)

-- a thread wants no word, or one
by_word : (w : Option ℕ) (M : Type 0) → (w ≡ None → M) → ((word : ℕ) → w ≡ Some word → M) → M
by_word None M at_none at_some = at_none refl
by_word (Some word) M at_none at_some = at_some word refl

module _ (program : Program) (code : ℕ → ℕ → ℕ) (start total : ℕ) (bound : ℕ → ℕ) (threads thread : ℕ) (hold : Option ℕ) (passed : List Passing) where
  abbrev IsFree : Load → Type 0
  IsFree load = load.word ≡ release_word program thread → load.value ≢ 0

  -- loads that follow the code up to the bound of a passing, and mark all passings before it
  record Reached (passing : ℕ) (loads : List Load) : Type 0 where
    marks : length (marks_of program threads thread hold (sleds_passed passed) loads) ≡ passing
    follow : Follows program threads code start bound thread hold (sleds_passed passed) loads (bound passing)
    free : All IsFree loads

  abbrev Lets : Type 0
  Lets = LetsEnd program thread hold code start total bound

  -- a release word that is wanted holds the thread no more
  is_free : Lets → 0 < thread → thread ≤ threads → All (IsSled program) passed → (passing : ℕ) (loads : List Load) (word : ℕ)
      → length (marks_of program threads thread hold (sleds_passed passed) loads) ≡ passing
      → (here : InPassing program threads thread hold 0 (sleds_passed passed) loads word) → word ≡ release_word program thread → code (bound passing) word ≢ 0
  is_free lets some known sleds passing loads word count here is unset =
      let within = sled_within program passed sleds here.before here.rest here.sled here.passed in
      let at = release_stage program threads thread here.sled here.at within some known (sym here.word_is ∙ is) in
      let there : 0 + length (marks_from program threads thread hold 0 (sleds_passed passed) loads) ≡ passing = omega (arith, count) in
      let held = held_passing hold passing (subst (λ n. is_held_at hold n ≡ true) there (here.held at)) in
      let set = lets.releases passing held in
      let same : code (bound passing) word ≡ code (bound passing) (release_word program thread) = ap (code (bound passing)) is in
      omega (arith, set, same, unset)

  -- one more load of an open passing, at its bound
  record Longer (passing : ℕ) (loads : List Load) (word : ℕ) : Type 0 where
    here : InPassing program threads thread hold 0 (sleds_passed passed) loads word
    within : here.sled < length program.sleds
    load : Load
    word_is : load.word ≡ word
    free : IsFree load
    all_free : All IsFree (loads ++ load ∷ [])
    follow : Follows program threads code start bound thread hold (sleds_passed passed) (loads ++ load ∷ []) (bound passing)

  longer : Lets → 0 < thread → thread ≤ threads → All (IsSled program) passed → (passing : ℕ) (loads : List Load) (word : ℕ)
      → next_load program threads thread hold (sleds_passed passed) loads ≡ Some word → Reached passing loads → Longer passing loads word
  longer lets some known sleds passing loads word wanted reached =
      let here = in_passing program threads thread hold 0 (sleds_passed passed) loads word wanted in
      let load : Load = record { word = word; value = code (bound passing) word } in
      let free : IsFree load = is_free lets some known sleds passing loads word reached.marks here in
      let low : bound passing ≤ bound (length (marks_of program threads thread hold (sleds_passed passed) loads)) =
      subst (λ n. bound passing ≤ bound n) (sym reached.marks) (omega arith) in
      record {
        here = here;
        within = sled_within program passed sleds here.before here.rest here.sled here.passed;
        load = load;
        word_is = refl;
        free = free;
        all_free = All-append IsFree loads (load ∷ []) reached.free (All-cons IsFree load [] free (All-nil IsFree));
        follow = one_more loads (bound passing) word reached.follow wanted low;
      }

  -- what is left of a passing that wants a word
  left_is : 0 < thread → thread ≤ threads → (passing : ℕ) (loads : List Load) (word : ℕ) → (one : Longer passing loads word)
      → steps_left program threads thread (wants.Load word) ≡ left_at one.here.at
  left_is some known passing loads word one =
      ap (λ w. steps_left program threads thread (wants.Load w)) one.here.word_is ∙ steps_left_at program threads thread one.here.sled one.here.at one.within some known

  -- it ends the passing, or the passing goes on and is nearer its end
  by_next : Lets → 0 < thread → thread ≤ threads → (most passing : ℕ) (loads : List Load) (word : ℕ) → steps_left program threads thread (wants.Load word) ≤ suc most
      → Reached passing loads → (one : Longer passing loads word)
      → ((more : List Load) (other : ℕ) → steps_left program threads thread (wants.Load other) ≤ most
      → next_load program threads thread hold (sleds_passed passed) more ≡ Some other → Reached passing more → (all : List Load) × Reached (passing + 1) all)
      → (next : Next) → after_load (sled_logs_args program one.here.sled) one.here.at one.load.value ≡ next → (all : List Load) × Reached (passing + 1) all
  by_next lets some known most passing loads word near reached one goes_on (nexts.Ends mark) following =
      let Marks : List Load → List Mark = marks_of program threads thread hold (sleds_passed passed) in
      let all = loads ++ one.load ∷ [] in
      let adds = subst (Adds program threads thread hold 0 one.here.sled one.here.rest (Marks loads) (Marks all) (next_load program threads thread hold (sleds_passed passed) all)
      (recording_of program threads thread hold (sleds_passed passed) all))
      following (one.here.adds one.load) in (
        all,
        record {
          marks = ap length adds.0 ∙ (length-append (Marks loads) (mark ∷ []) ∙ ap (λ n. n + 1) reached.marks);
          follow = up_to all (bound passing) (bound (passing + 1)) (lets.rises passing) one.follow;
          free = one.all_free;
        },
      )
  by_next lets some known most passing loads word near reached one goes_on (nexts.Loads stage) following =
      let Marks : List Load → List Mark = marks_of program threads thread hold (sleds_passed passed) in
      let all = loads ++ one.load ∷ [] in
      let adds = subst (Adds program threads thread hold 0 one.here.sled one.here.rest (Marks loads) (Marks all) (next_load program threads thread hold (sleds_passed passed) all)
      (recording_of program threads thread hold (sleds_passed passed) all))
      following (one.here.adds one.load) in
      let not_held : (one.here.at ≡ stages.Release) × (one.load.value ≡ 0) → ⊥ = λ both.
      one.free (one.word_is ∙ (one.here.word_is ∙ ap (word_at program threads thread one.here.sled) both.0)) both.1 in
      let less = next_left (sled_logs_args program one.here.sled) one.here.at stage one.load.value following not_held in
      let old = left_is some known passing loads word one in
      let new = steps_left_at program threads thread one.here.sled stage one.within some known in
      goes_on all (word_at program threads thread one.here.sled stage) (omega (arith, less, old, new, near)) adds.1
      (record { marks = ap length adds.0 ∙ reached.marks; follow = one.follow; free = one.all_free })

  -- the loads of a passing
  passes : Lets → 0 < thread → thread ≤ threads → All (IsSled program) passed → (most passing : ℕ) (loads : List Load) (word : ℕ)
      → steps_left program threads thread (wants.Load word) ≤ most → next_load program threads thread hold (sleds_passed passed) loads ≡ Some word
      → Reached passing loads → (all : List Load) × Reached (passing + 1) all
  passes lets some known sleds zero passing loads word near wanted reached =
      let one = longer lets some known sleds passing loads word wanted reached in
      let more = some_left one.here.at in
      let is = left_is some known passing loads word one in
      absurd (omega (arith, more, is, near))
  passes lets some known sleds (suc most) passing loads word near wanted reached =
      let one = longer lets some known sleds passing loads word wanted reached in
      by_next lets some known most passing loads word near reached one
      (λ more other nearer wants_other so_far. passes lets some known sleds most passing more other nearer wants_other so_far)
      (after_load (sled_logs_args program one.here.sled) one.here.at one.load.value) refl

  -- all passings that are left
  comes_to_end : Lets → 0 < thread → thread ≤ threads → All (IsSled program) passed → (left passing : ℕ) → passing + left ≡ length (sleds_passed passed)
      → (loads : List Load) → Reached passing loads → (all : List Load) × Reached (length (sleds_passed passed)) all
  comes_to_end lets some known sleds zero passing count loads reached =
      let same : passing ≡ length (sleds_passed passed) = omega (arith, count) in (loads, subst (λ n. Reached n loads) same reached)
  comes_to_end lets some known sleds (suc left) passing count loads reached =
      by_word (next_load program threads thread hold (sleds_passed passed) loads) ((all : List Load) × Reached (length (sleds_passed passed)) all)
      (λ none. let all = all_marked program threads thread hold 0 (sleds_passed passed) loads none in absurd (omega (arith, all, count, reached.marks)))
      (λ word wanted.
      let next = passes lets some known sleds (steps_left program threads thread (wants.Load word)) passing loads word (omega arith) wanted reached in
      comes_to_end lets some known sleds left (passing + 1) (omega (arith, count)) next.0 next.1)

  pub some_marks_in : Lets → 0 < thread → thread ≤ threads → All (IsSled program) passed
      → (marks : List Mark) × MarksFollow program threads code start bound thread hold (sleds_passed passed) marks total
  some_marks_in lets some known sleds =
      let first : Reached 0 [] = record {
        marks = ap length (no_marks program threads thread hold 0 (sleds_passed passed));
        follow = up_to [] start (bound 0) lets.begins no_loads;
        free = All-nil IsFree;
      } in
      let whole = comes_to_end lets some known sleds (length (sleds_passed passed)) 0 (omega arith) [] first in (
        marks_of program threads thread hold (sleds_passed passed) whole.0,
        record {
          loads = whole.0;
          follow = up_to whole.0 (bound (length (sleds_passed passed))) total (lets.ends (length (sleds_passed passed))) whole.1.follow;
          leave = refl;
          released = whole.1.free;
          each = whole.1.marks;
        },
      )

pub some_marks : (program : Program) (limits : Limits) (threads thread : ℕ) (passed : List Passing) (end : End) (last : State) (code : ℕ → ℕ → ℕ)
    (start total : ℕ) (bound : ℕ → ℕ) (hold : Option ℕ) → 0 < thread → thread ≤ threads → PlainRun program limits thread passed end last
    → LetsEnd program thread hold code start total bound
    → (marks : List Mark) × MarksFollow program threads code start bound thread hold (sleds_passed passed) marks total
some_marks program limits threads thread passed end last code start total bound hold some known (n, run) lets =
    some_marks_in program code start total bound threads thread hold passed lets some known (run_sleds program limits thread n _ passed end last run)
