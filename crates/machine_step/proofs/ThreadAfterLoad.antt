-- A load of a traced thread, and its passing's end.
use Rattle.std.proofs.Common.{◌≡◌, ℕ, zero, suc, ◌+◌, List, [], ◌∷◌, ◌++◌, length, take, Option, Some, refl, sym, ap, ◌∙◌, subst, inl, inr, append_assoc, length-append, arith}
use Rattle.std.specs.Prelude.{◌⊎◌, slice_get, All}
use Rattle.std.proofs.lemmas.List.Elements.{All-append}
use Rattle.std.proofs.lemmas.Option.{slice_get_within}
use Rattle.xray_image.specs.Program.{Program}
use Rattle.sled_words.specs.Allowed.{IsAllowed}
use Rattle.handler_word.specs.declared.mark.Mark.{Mark}
use Rattle.handler_word.specs.declared.mark.Mark.TheVariants as marks
use Rattle.handler_word.specs.MarkList.{MarkList}
use Rattle.machine_step.specs.declared.limits.Limits.{Limits}
use Rattle.machine_step.specs.declared.cpu.Cpu.TheInside.{Inside}
use Rattle.machine_step.specs.declared.end.End.{End}
use Rattle.machine_step.specs.declared.machine.Machine.{Machine}
use Rattle.machine_step.specs.declared.stage.Next.{Next}
use Rattle.machine_step.specs.declared.stage.Next.TheVariants.{Loads, Ends}
use Rattle.machine_step.specs.declared.stage.Stage.{Stage}
use Rattle.machine_step.specs.declared.stand.Stand.{Stand}
use Rattle.machine_step.specs.declared.stand.Stand.TheVariants.{Gate, Loading, Ended}
use Rattle.machine_step.specs.PlainStep.{State, Passing, PlainRun, opening, passing_at}
use Rattle.machine_step.specs.private.Inside.{traced, recording_in, want_at, IsAtPassing, IsSound, StandsSo}
use Rattle.machine_step.specs.Loads.{Load, marks_of, next_from, recording_of, sled_logs_args}
use Rattle.machine_step.specs.private.Machine.{state_at, IsWithin}
use Rattle.machine_step.specs.private.Stages.{word_at, recording_at, first_stage, after_load}
use Rattle.machine_step.specs.private.Standing.{RunsBy}
use Rattle.machine_step.specs.Traced.{Traced, HasLoaded, IsWant, sleds_passed, wanted_after}
use Rattle.machine_step.proofs.Accepted.{are_in_order}
use Rattle.machine_step.proofs.OneUnit.{accepted_units}
use Rattle.machine_step.proofs.OneEnd.{same_run}
use Rattle.machine_step.proofs.MarksAfterLoad.{Adds, in_passing, first_next}
use Rattle.machine_step.proofs.PlainWays.{reaches_after, runs_after, way_count, run_count}
use Rattle.machine_step.proofs.OpenedPassing.{loading_at, standing}
use Rattle.machine_step.proofs.WayToSled.{at_passing}
use Rattle.machine_step.proofs.ThreadOnPlainRun.{before_of, found_after, same_split, sleds_split, sleds_length, goes_on_by, first_word_is}
use Rattle.machine_step.proofs.WordsAt.{same_stage}

-- ---- what a load adds

-- in the passing that the thread is in, a load adds what it leads to
pub record LoadsHere (a : Inside) (k : ℕ) (at_stage : Stage) (passed : List Passing) (next : Passing) (all : List Passing) (loads : List Load) : Type 0 where
  pub later : List Passing
  pub goes_on : all ≡ passed ++ next ∷ later
  pub adds : (load : Load) → Adds a.steps.now a.threads a.thread a.hold 0 k (sleds_passed later) a.marks.items
      (marks_of a.steps.now a.threads a.thread a.hold (sleds_passed all) (loads ++ load ∷ []))
      (wanted_after (traced a) all (loads ++ load ∷ []))
      (recording_of a.steps.now a.threads a.thread a.hold (sleds_passed all) (loads ++ load ∷ []))
      (after_load (sled_logs_args a.steps.now k) at_stage load.value)

wanted_word : (a : Inside) (place k : ℕ) (at_stage : Stage) → a.stand ≡ Loading place k at_stage → (all : List Passing) (loads : List Load)
    → (has : HasLoaded (traced a) all loads) → wanted_after (traced a) all loads ≡ Some (word_at a.steps.now a.threads a.thread k at_stage)
wanted_word a place k at_stage is all loads has =
    subst (λ (s : Stand). IsWant (traced a) all (wanted_after (traced a) all loads) has.end (want_at a.steps.now a.threads a.thread a.machine.passings s)) is has.wants

pub loads_here : (a : Inside) → IsSound a → (place k : ℕ) (at_stage : Stage) → a.stand ≡ Loading place k at_stage → (at : IsAtPassing a place k)
    → (all : List Passing) (loads : List Load) → HasLoaded (traced a) all loads
    → LoadsHere a k at_stage at.passed at.next all loads
loads_here a sound place k at_stage is at all loads has =
    let before = before_of a sound place k at in
    let on = goes_on_by a sound place k at all has.end has.last has.run in
    let here = in_passing a.steps.now a.threads a.thread a.hold 0 (sleds_passed all) loads (word_at a.steps.now a.threads a.thread k at_stage) (wanted_word a place k at_stage is all loads has) in
    let within = slice_get_within a.steps.now.sleds k before.sled before.found in
    let next_sled : at.next.sled ≡ k = ap (λ (p : Passing). p.sled) before.next_is in
    let long : length here.before ≡ length (sleds_passed at.passed) =
    here.count ∙ (sym (ap length has.marks) ∙ (sound.made ∙ (sym at.count ∙ sym (sleds_length at.passed)))) in
    let split = same_split here.before (sleds_passed at.passed) here.sled at.next.sled here.rest (sleds_passed on.later) long
    (sym here.passed ∙ (ap sleds_passed on.is ∙ sleds_split at.passed at.next on.later)) in
    let sled : here.sled ≡ k = split.0 ∙ next_sled in
    let alike : recording_at at_stage ≡ recording_at here.at = sym (ap recording_in is) ∙ (has.recording ∙ here.recording_is) in
    let same : at_stage ≡ here.at = same_stage a.steps.now a.threads a.thread k at_stage here.at within sound.setup.some_thread sound.setup.no_more
    (here.word_is ∙ ap (λ j. word_at a.steps.now a.threads a.thread j here.at) sled) alike in
    record {
      later = on.later;
      goes_on = on.is;
      adds = λ load.
          let all_marks = marks_of a.steps.now a.threads a.thread a.hold (sleds_passed all) (loads ++ load ∷ []) in
          let wanted = wanted_after (traced a) all (loads ++ load ∷ []) in
          let recording = recording_of a.steps.now a.threads a.thread a.hold (sleds_passed all) (loads ++ load ∷ []) in
          subst (λ (s : Stage). Adds a.steps.now a.threads a.thread a.hold 0 k (sleds_passed on.later) a.marks.items all_marks wanted recording
          (after_load (sled_logs_args a.steps.now k) s load.value)) (sym same)
          (subst (λ j. Adds a.steps.now a.threads a.thread a.hold 0 j (sleds_passed on.later) a.marks.items all_marks wanted recording
          (after_load (sled_logs_args a.steps.now j) here.at load.value)) sled
          (subst (λ (ks : List ℕ). Adds a.steps.now a.threads a.thread a.hold 0 here.sled ks a.marks.items all_marks wanted recording
          (after_load (sled_logs_args a.steps.now here.sled) here.at load.value)) split.1
          (subst (λ (ms : List Mark). Adds a.steps.now a.threads a.thread a.hold 0 here.sled here.rest ms all_marks wanted recording
          (after_load (sled_logs_args a.steps.now here.sled) here.at load.value)) (sym has.marks)
          (here.adds load))));
    }

-- ---- the loads, with one more

got_more : {X : Type 0} (xs : List X) (x : X) (i : ℕ) (y : X) → slice_get (xs ++ x ∷ []) i ≡ Some y
    → ((slice_get xs i ≡ Some y) × (take i (xs ++ x ∷ []) ≡ take i xs)) ⊎ ((x ≡ y) × (take i (xs ++ x ∷ []) ≡ xs))
got_more [] x zero y found = inr (cc, refl)
got_more [] x (suc i) y found = absurd cc
got_more (first ∷ xs) x zero y found = inl (found, refl)
got_more {X} (first ∷ xs) x (suc i) y found = later (got_more xs x i y found)
  where
    later : ((slice_get xs i ≡ Some y) × (take i (xs ++ x ∷ []) ≡ take i xs)) ⊎ ((x ≡ y) × (take i (xs ++ x ∷ []) ≡ xs))
        → ((slice_get (first ∷ xs) (suc i) ≡ Some y) × (take (suc i) (first ∷ xs ++ x ∷ []) ≡ take (suc i) (first ∷ xs)))
        ⊎ ((x ≡ y) × (take (suc i) (first ∷ xs ++ x ∷ []) ≡ first ∷ xs))
    later (inl (before, same)) = inl (before, ap (λ (zs : List X). first ∷ zs) same)
    later (inr (last, same)) = inr (last, ap (λ (zs : List X). first ∷ zs) same)

wanted_more : (t : Traced) (all : List Passing) (loads : List Load) (load : Load)
    → ((i : ℕ) (l : Load) → slice_get loads i ≡ Some l → wanted_after t all (take i loads) ≡ Some l.word)
    → wanted_after t all loads ≡ Some load.word
    → (i : ℕ) (l : Load) → slice_get (loads ++ load ∷ []) i ≡ Some l → wanted_after t all (take i (loads ++ load ∷ [])) ≡ Some l.word
wanted_more t all loads load wanted next i l found = by (got_more loads load i l found)
  where
    by : ((slice_get loads i ≡ Some l) × (take i (loads ++ load ∷ []) ≡ take i loads)) ⊎ ((load ≡ l) × (take i (loads ++ load ∷ []) ≡ loads))
        → wanted_after t all (take i (loads ++ load ∷ [])) ≡ Some l.word
    by (inl (before, same)) = ap (wanted_after t all) same ∙ wanted i l before
    by (inr (last, same)) = ap (wanted_after t all) same ∙ (next ∙ ap (λ (x : Load). Some x.word) last)

all_one : {X : Type 0} (P : X → Type 0) (x : X) → P x → All P (x ∷ [])
all_one P x p zero d below = p
all_one P x p (suc k) d below = absurd (omega arith)

allowed_more : (program : Program) (threads thread : ℕ) (loads : List Load) (load : Load)
    → All (λ (l : Load). IsAllowed program threads thread l.word l.value) loads
    → IsAllowed program threads thread load.word load.value → All (λ (l : Load). IsAllowed program threads thread l.word l.value) (loads ++ load ∷ [])
allowed_more program threads thread loads load allowed is =
    All-append (λ (l : Load). IsAllowed program threads thread l.word l.value) loads (load ∷ []) allowed
    (all_one (λ (l : Load). IsAllowed program threads thread l.word l.value) load is)

-- ---- what was loaded, with one more load

-- its fields after the load
abbrev pub passed_on : Inside → Machine → MarkList → Stand → Inside
passed_on a m ms stand = record a { machine = m; marks = ms; stand = stand }

loaded_more : (a : Inside) (m : Machine) (ms : MarkList) (stand : Stand) (place k : ℕ) (at_stage : Stage) (value : ℕ) → a.stand ≡ Loading place k at_stage
    → IsAllowed a.steps.now a.threads a.thread (word_at a.steps.now a.threads a.thread k at_stage) value
    → (all : List Passing) (loads : List Load) (has : HasLoaded (traced a) all loads)
    → let more = loads ++ record { word = word_at a.steps.now a.threads a.thread k at_stage; value = value } ∷ [] in
    ms.items ≡ marks_of a.steps.now a.threads a.thread a.hold (sleds_passed all) more
    → recording_in stand ≡ recording_of a.steps.now a.threads a.thread a.hold (sleds_passed all) more
    → IsWant (traced (passed_on a m ms stand)) all (wanted_after (traced a) all more) has.end (want_at a.steps.now a.threads a.thread m.passings stand)
    → HasLoaded (traced (passed_on a m ms stand)) all more
loaded_more a m ms stand place k at_stage value is allowed all loads has marks recording wants =
    let load : Load = record { word = word_at a.steps.now a.threads a.thread k at_stage; value = value } in
    record {
      end = has.end;
      last = has.last;
      run = has.run;
      wanted = wanted_more (traced a) all loads load has.wanted (wanted_word a place k at_stage is all loads has);
      allowed = allowed_more a.steps.now a.threads a.thread loads load has.allowed allowed;
      marks = marks;
      recording = recording;
      wants = wants;
    }

-- ---- a passing that goes on

pub goes_on_loads : (a : Inside) → IsSound a → (place k : ℕ) (at_stage next : Stage) (value : ℕ) → a.stand ≡ Loading place k at_stage
    → after_load (sled_logs_args a.steps.now k) at_stage value ≡ Loads next → IsAllowed a.steps.now a.threads a.thread (word_at a.steps.now a.threads a.thread k at_stage) value
    → (all : List Passing) (loads : List Load) → HasLoaded (traced a) all loads
    → HasLoaded (traced (standing a (Loading place k next))) all (loads ++ record { word = word_at a.steps.now a.threads a.thread k at_stage; value = value } ∷ [])
goes_on_loads a sound place k at_stage next value is following allowed all loads has =
    let at = loading_at a sound place k at_stage is in
    let load : Load = record { word = word_at a.steps.now a.threads a.thread k at_stage; value = value } in
    let here = loads_here a sound place k at_stage is at all loads has in
    let adds = subst (λ (n : Next). Adds a.steps.now a.threads a.thread a.hold 0 k (sleds_passed here.later) a.marks.items
    (marks_of a.steps.now a.threads a.thread a.hold (sleds_passed all) (loads ++ load ∷ [])) (wanted_after (traced a) all (loads ++ load ∷ []))
    (recording_of a.steps.now a.threads a.thread a.hold (sleds_passed all) (loads ++ load ∷ [])) n) following (here.adds load) in
    loaded_more a a.machine a.marks (Loading place k next) place k at_stage value is allowed all loads has (sym adds.0) (sym adds.2) adds.1

-- ---- a passing that ends

-- how the passing ended
pub record Ending (a : Inside) (m : Machine) (ms : MarkList) (stand : Stand) (address : ℕ) (mark : Mark) : Type 0 where
  pub within : IsWithin a.limits m
  pub items : ms.items ≡ a.marks.items ++ mark ∷ []
  pub room : ms.room ≡ a.marks.room
  pub made : Passing
  pub runs : RunsBy a.steps.now a.limits a.thread address a.machine (made ∷ []) stand m

stands_after : (a : Inside) → IsSound a → (place k : ℕ) (at : IsAtPassing a place k) (m : Machine) (ms : MarkList) (made : Passing)
    → IsWithin a.limits m → (whole stand : Stand) → RunsBy a.steps.now a.limits a.thread at.address a.machine (made ∷ []) stand m
    → StandsSo (passed_on a m ms whole) stand × (m.passings ≡ a.machine.passings + 1)
stands_after a sound place k at m ms made within whole (Gate place' k') (there, at', (n, reached)) =
    let program = a.steps.now in
    let way = reaches_after program a.limits a.thread at.comes.steps n (opening program a.thread) (state_at at.address a.machine) (state_at there m)
    at.passed (made ∷ []) at.comes.reached reached in
    let count : m.passings ≡ 0 + length (at.passed ++ made ∷ []) =
    way_count program a.limits a.thread way.0 (opening program a.thread) (state_at there m) (at.passed ++ made ∷ []) way.1 in
    let long = length-append at.passed (made ∷ []) in
    let next = at_passing program (are_in_order sound.setup.bytes program sound.setup.accepted) a.limits a.thread there place' k' m at'.step within
    at'.placed at'.is_step at'.due in (
      record {
        address = there;
        at = at';
        passed = at.passed ++ made ∷ [];
        next = passing_at a.limits a.thread (state_at there m) k' next.sled;
        count = omega (arith);
        comes = record { steps = way.0; reached = way.1; following = next.next; passes = next.passes };
      },
      omega (arith, at.count),
    )
stands_after a sound place k at m ms made within whole (Loading place' k' at_stage) run = absurd run
stands_after a sound place k at m ms made within whole (Ended end) (there, (n, run)) =
    let program = a.steps.now in
    let way = runs_after program a.limits a.thread at.comes.steps n (opening program a.thread) (state_at at.address a.machine) (state_at there m)
    at.passed (made ∷ []) end at.comes.reached run in
    let count : m.passings ≡ 0 + length (at.passed ++ made ∷ []) =
    run_count program a.limits a.thread way.0 (opening program a.thread) (state_at there m) (at.passed ++ made ∷ []) end way.1 in
    let long = length-append at.passed (made ∷ []) in (
      record {
        address = there;
        passed = at.passed ++ made ∷ [];
        count = omega (arith);
        run = way;
      },
      omega (arith, at.count),
    )

pub sound_after : (a : Inside) → IsSound a → (place k : ℕ) (at : IsAtPassing a place k) (m : Machine) (ms : MarkList) (stand : Stand) (mark : Mark)
    → Ending a m ms stand at.address mark → IsSound (passed_on a m ms stand)
sound_after a sound place k at m ms stand mark ending =
    let stands = stands_after a sound place k at m ms ending.made ending.within stand stand ending.runs in
    let long : length ms.items ≡ length a.marks.items + 1 = ap length ending.items ∙ length-append a.marks.items (mark ∷ []) in
    record {
      setup = sound.setup;
      within = ending.within;
      room = ending.room ∙ sound.room;
      made = omega (arith, stands.1, sound.made);
      stands = stands.0;
    }

-- lists with prefixes of equal length have the same rest
split_rest : {X : Type 0} (xs ys : List X) (x : X) (xs' rest : List X) → length xs ≡ length ys → xs ++ x ∷ xs' ≡ ys ++ rest → rest ≡ x ∷ xs'
split_rest [] [] x xs' rest long same = sym same
split_rest [] (first ∷ ys) x xs' rest long same = absurd (omega arith)
split_rest (first ∷ xs) [] x xs' rest long same = absurd (omega arith)
split_rest (first ∷ xs) (other ∷ ys) x xs' rest long same =
    let later : xs ++ x ∷ xs' ≡ ys ++ rest = cc in split_rest xs ys x xs' rest (omega arith) later

no_more : {X : Type 0} (xs : List X) → length xs ≡ 0 → xs ≡ []
no_more [] long = refl
no_more (x ∷ xs) long = absurd (omega arith)

-- after a passing the thread is before another one, or has ended
abbrev pub IsBetween : Stand → Type 0
IsBetween (Gate place k) = Unit {0}
IsBetween (Loading place k at) = ⊥
IsBetween (Ended end) = Unit {0}

pub is_between : (program : Program) (limits : Limits) (thread address : ℕ) (before after : Machine) (passed : List Passing) (stand : Stand)
    → RunsBy program limits thread address before passed stand after → IsBetween stand
is_between program limits thread address before after passed (Gate place k) run = tt
is_between program limits thread address before after passed (Loading place k at) run = run
is_between program limits thread address before after passed (Ended end) run = tt

-- and would record without an argument
pub between_recording : (stand : Stand) → IsBetween stand → recording_in stand ≡ marks.Recorded
between_recording (Gate place k) between = refl
between_recording (Loading place k at) between = absurd between
between_recording (Ended end) between = refl

-- what it wants after these passings
pub wants_at : (b : Inside) → IsSound b → (passed rest all : List Passing) (end : End) (last : State) (wanted : Option ℕ)
    → PlainRun b.steps.now b.limits b.thread all end last → all ≡ passed ++ rest → length b.marks.items ≡ length passed
    → wanted ≡ next_from b.steps.now b.threads b.thread b.hold (length b.marks.items) (sleds_passed rest) []
    → (stand : Stand) → StandsSo b stand → IsBetween stand
    → IsWant (traced b) all wanted end (want_at b.steps.now b.threads b.thread b.machine.passings stand)
wants_at b sound passed rest all end last wanted run is long wants (Gate place k) at between =
    let on = goes_on_by b sound place k at all end last run in
    let here : length b.marks.items ≡ length at.passed = sound.made ∙ sym at.count in
    let rest_is = split_rest at.passed passed at.next on.later rest (sym here ∙ long) (sym on.is ∙ is) in (
      sym sound.made,
      record {
        passing = at.next;
        found = ap (slice_get all) here ∙ (ap (λ (ps : List Passing). slice_get ps (length at.passed)) on.is ∙ found_after at.passed at.next on.later);
        first = wants
            ∙ (ap (λ (ps : List Passing). next_from b.steps.now b.threads b.thread b.hold (length b.marks.items) (sleds_passed ps) []) rest_is
            ∙ (first_next b.steps.now b.threads b.thread b.hold (length b.marks.items) at.next.sled (sleds_passed on.later)
            ∙ (ap (λ n. Some (word_at b.steps.now b.threads b.thread at.next.sled (first_stage b.hold n))) sound.made
            ∙ sym (ap Some (first_word_is b sound at.next.sled)))));
      },
    )
wants_at b sound passed rest all end last wanted run is long wants (Loading place k at) so between = absurd between
wants_at b sound passed rest all end last wanted run is long wants (Ended e) past between =
    let same = same_run b.steps.now (accepted_units sound.setup.bytes b.steps.now sound.setup.accepted) b.limits b.thread run.0 past.run.0
    (opening b.steps.now b.thread) all past.passed end e last (state_at past.address b.machine) run.1 past.run.1 in
    let count : length all ≡ length passed = ap length same.passings ∙ (past.count ∙ (sym sound.made ∙ long)) in
    let both : length all ≡ length passed + length rest = ap length is ∙ length-append passed rest in
    let none : rest ≡ [] = no_more rest (omega arith) in (
      wants ∙ ap (λ (ps : List Passing). next_from b.steps.now b.threads b.thread b.hold (length b.marks.items) (sleds_passed ps) []) none,
      sym same.ends,
    )

pub ends_loads : (a : Inside) → IsSound a → (place k : ℕ) (at_stage : Stage) (value : ℕ) (is : a.stand ≡ Loading place k at_stage) (mark : Mark)
    → after_load (sled_logs_args a.steps.now k) at_stage value ≡ Ends mark → IsAllowed a.steps.now a.threads a.thread (word_at a.steps.now a.threads a.thread k at_stage) value
    → (m : Machine) (ms : MarkList) (stand : Stand) → (at : IsAtPassing a place k) → Ending a m ms stand at.address mark
    → (all : List Passing) (loads : List Load) → HasLoaded (traced a) all loads
    → HasLoaded (traced (passed_on a m ms stand)) all (loads ++ record { word = word_at a.steps.now a.threads a.thread k at_stage; value = value } ∷ [])
ends_loads a sound place k at_stage value is mark following allowed m ms stand at ending all loads has =
    let load : Load = record { word = word_at a.steps.now a.threads a.thread k at_stage; value = value } in
    let here = loads_here a sound place k at_stage is at all loads has in
    let adds = subst (λ (n : Next). Adds a.steps.now a.threads a.thread a.hold 0 k (sleds_passed here.later) a.marks.items
    (marks_of a.steps.now a.threads a.thread a.hold (sleds_passed all) (loads ++ load ∷ [])) (wanted_after (traced a) all (loads ++ load ∷ []))
    (recording_of a.steps.now a.threads a.thread a.hold (sleds_passed all) (loads ++ load ∷ [])) n) following (here.adds load) in
    let between = is_between a.steps.now a.limits a.thread at.address a.machine m (ending.made ∷ []) stand ending.runs in
    let after = sound_after a sound place k at m ms stand mark ending in
    let long : length ms.items ≡ length a.marks.items + 1 = ap length ending.items ∙ length-append a.marks.items (mark ∷ []) in
    let here_long : length a.marks.items ≡ length at.passed = sound.made ∙ sym at.count in
    let more_long = length-append at.passed (at.next ∷ []) in
    let number : 0 + length a.marks.items + 1 ≡ length ms.items = omega arith in
    loaded_more a m ms stand place k at_stage value is allowed all loads has (ending.items ∙ sym adds.0)
    (between_recording stand between ∙ sym adds.2)
    (wants_at (passed_on a m ms stand) after (at.passed ++ at.next ∷ []) here.later all has.end has.last
    (wanted_after (traced a) all (loads ++ load ∷ [])) has.run
    (here.goes_on ∙ sym (append_assoc at.passed (at.next ∷ []) here.later)) (omega arith)
    (adds.1 ∙ ap (λ n. next_from a.steps.now a.threads a.thread a.hold n (sleds_passed here.later) []) number)
    stand after.stands between)
