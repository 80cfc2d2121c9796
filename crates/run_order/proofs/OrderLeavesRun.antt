-- The order of a run leaves the run, but for its losses.
use Rattle.std.proofs.Common.{◌≡◌, ℕ, zero, suc, ◌+◌, ◌-◌, ◌<◌, ◌≤◌, List, [], ◌∷◌, Option, Some, None, refl, sym, ap, subst, ◌∙◌, arith, length, map}
use Rattle.std.specs.Prelude.{All, not, option_map, slice_get}
use Rattle.std.specs.List.{prefix_len}
use Rattle.std.proofs.lemmas.List.{length-map}
use Rattle.std.proofs.lemmas.List.Elements.{All-cons, All-head, All-nil, All-tail}
use Rattle.std.proofs.lemmas.Option.{slice_get_within}
use Rattle.xray_image.specs.Program.{Program}
use Rattle.handler_word.specs.declared.mark.Mark.{Mark}
use Rattle.patch_script.specs.declared.command.PatchCommand.{PatchCommand}
use Rattle.patch_script.specs.Bounds.{bound_of}
use Rattle.patch_script.specs.CodeAt.{code_at}
use Rattle.patch_script.specs.Micros.{hold_of, is_go, start_of, total_of}
use Rattle.machine_step.specs.declared.end.End.{End}
use Rattle.machine_step.specs.declared.setup.Setup.{Setup}
use Rattle.machine_step.specs.Buffers.{spare_of}
use Rattle.machine_step.specs.PlainStep.{Passing, PlainRun, State, opening}
use Rattle.machine_step.specs.Traced.{sleds_passed}
use Rattle.machine_step.proofs.SomeMarks.{IsSled, run_sleds}
use Rattle.traced_run.specs.Following.{AllMarksFollow}
use Rattle.traced_run.specs.Losses.{without_losses}
use Rattle.traced_run.specs.Runs.{IsRun, ThreadRun}
use Rattle.step_sim.specs.declared.turns.Turns.{Turns}
use Rattle.step_sim.specs.Pool.{Pooled, PooledReplay, Pooling, segments_among}
use Rattle.step_sim.specs.Recorded.{numbers_from, pooling_of}
use Rattle.step_sim.specs.Replay.{Cast, Replay, marks_at}
use Rattle.step_sim.specs.Replayed.{IsReplayOf, cast_of, cast_with, passed_of}
use Rattle.step_sim.proofs.ReplayAlong.{front_steps}
use Rattle.run_order.specs.FreeScripts.{free_commands, free_place}
use Rattle.run_order.specs.private.Ordered.{ordered}
use Rattle.run_order.specs.Places.{free_places}
use Rattle.run_order.specs.RunOrders.{AreRunPlaces, IsOrderOf}
use Rattle.run_order.specs.Merges.{IsMerge}
use Rattle.machine_step.specs.Follows.{Rise}
use Rattle.audit_check.specs.Places.{load_places}
use Rattle.audit_check.proofs.SearchResults.{was_made}
use Rattle.run_order.proofs.FreeMicros.{AllRelease, free_start, free_total, places_rise}
use Rattle.run_order.proofs.MergedLoads.{order_merges}
use Rattle.run_order.proofs.OneMerge.{one_merge}
use Rattle.audit_check.proofs.LeastPlaces.{following_least}
use Rattle.run_order.proofs.OrderOfRun.{HavePlaces, none_there, order_replays, passings_count, passings_of}
use Rattle.run_order.proofs.ThreadLoads.{Exist, passings_placed, rise_mapped}

-- ---- other losses

-- the same runs with these losses
abbrev relost : List ThreadRun → List ℕ → List ThreadRun
relost [] lost = []
relost (run ∷ runs) [] = run ∷ runs
relost (run ∷ runs) (n ∷ lost) = record run { lost = n } ∷ relost runs lost

relost_passed : (runs : List ThreadRun) (lost : List ℕ) → passed_of (relost runs lost) ≡ passed_of runs
relost_passed [] lost = refl
relost_passed (run ∷ runs) [] = refl
relost_passed (run ∷ runs) (n ∷ lost) = ap (λ (ps : List (List Passing)). run.passed ∷ ps) (relost_passed runs lost)

relost_marks : (runs : List ThreadRun) (lost : List ℕ) → map (λ (run : ThreadRun). run.marks) (relost runs lost) ≡ map (λ (run : ThreadRun). run.marks) runs
relost_marks [] lost = refl
relost_marks (run ∷ runs) [] = refl
relost_marks (run ∷ runs) (n ∷ lost) = ap (λ (ms : List (List Mark)). run.marks ∷ ms) (relost_marks runs lost)

relost_lost : (runs : List ThreadRun) (lost : List ℕ) → length lost ≡ length runs → map (λ (run : ThreadRun). run.lost) (relost runs lost) ≡ lost
relost_lost [] [] same = refl
relost_lost [] (n ∷ lost) same = absurd (omega (arith, same))
relost_lost (run ∷ runs) [] same = absurd (omega (arith, same))
relost_lost (run ∷ runs) (n ∷ lost) same = ap (λ (ns : List ℕ). n ∷ ns) (relost_lost runs lost (omega (arith, same)))

relost_same : (runs : List ThreadRun) (lost : List ℕ) → without_losses (relost runs lost) ≡ without_losses runs
relost_same [] lost = refl
relost_same (run ∷ runs) [] = refl
relost_same (run ∷ runs) (n ∷ lost) = ap (λ (rs : List ThreadRun). record run { lost = 0 } ∷ rs) (relost_same runs lost)

relost_count : (runs : List ThreadRun) (lost : List ℕ) → length (relost runs lost) ≡ length runs
relost_count [] lost = refl
relost_count (run ∷ runs) [] = refl
relost_count (run ∷ runs) (n ∷ lost) = let rest = relost_count runs lost in omega (arith, rest)

relost_at : (runs : List ThreadRun) (lost : List ℕ) (i : ℕ) (run : ThreadRun) → slice_get (relost runs lost) i ≡ Some run
    → (own : ThreadRun) × (slice_get runs i ≡ Some own) × (own.passed ≡ run.passed) × (own.end ≡ run.end) × (own.last ≡ run.last)
relost_at [] lost i run e = absurd cc
relost_at (first ∷ runs) [] i run e = (run, e, refl, refl, refl)
relost_at (first ∷ runs) (n ∷ lost) zero run e =
    let same : record first { lost = n } ≡ run = cc in
    (first, refl, ap (λ (r : ThreadRun). r.passed) same, ap (λ (r : ThreadRun). r.end) same, ap (λ (r : ThreadRun). r.last) same)
relost_at (first ∷ runs) (n ∷ lost) (suc i) run e = relost_at runs lost i run e

-- ---- the places of a run

-- its sleds exist
pub sleds_exist : (program : Program) (threads : ℕ) (code : ℕ → ℕ → ℕ) (thread : ℕ) (passed : List Passing) → All (IsSled program) passed
    → Exist program threads code thread (sleds_passed passed)
sleds_exist program threads code thread [] all = tt
sleds_exist program threads code thread (passing ∷ passed) all =
    (All-head (IsSled program) passing passed all, sleds_exist program threads code thread passed (All-tail (IsSled program) passing passed all))

pub sleds_all : (program : Program) (passed : List Passing) → All (IsSled program) passed → All (λ sled. sled < length program.sleds) (sleds_passed passed)
sleds_all program [] all = All-nil (λ sled. sled < length program.sleds)
sleds_all program (passing ∷ passed) all =
    All-cons (λ sled. sled < length program.sleds) passing.sled (sleds_passed passed) (All-head (IsSled program) passing passed all)
    (sleds_all program passed (All-tail (IsSled program) passing passed all))

pub run_exists : (program : Program) (setup : Setup) (runs : List ThreadRun) → IsRun program setup runs → (i : ℕ) (run : ThreadRun) → slice_get runs i ≡ Some run
    → All (IsSled program) run.passed
run_exists program setup runs is i run e =
    let plain = is.plain i run e in
    run_sleds program setup.limits (i + 1) plain.0 (opening program (i + 1)) run.passed run.end run.last plain.1

have_of : (program : Program) (setup : Setup) (script : List PatchCommand) (runs : List ThreadRun) (places : List (List ℕ)) → IsRun program setup runs
    → AreRunPlaces program (length (passings_of runs)) script runs places → HavePlaces program script runs places
have_of program setup script runs places is are = record {
  count = are.count;
  exist = λ i run e.
      sleds_exist program (length (passings_of runs)) (code_at program (length (passings_of runs)) script) (i + 1) run.passed (run_exists program setup runs is i run e);
  places_are = λ i run own e f.
      let back : i + 1 - 1 ≡ i = omega arith in
      are.each i run e ∙ ap (slice_get places) back ∙ f;
}

pub starts_within : (program : Program) (threads : ℕ) (script : List PatchCommand) → start_of program threads script ≤ total_of program threads script
starts_within program threads script = front_steps program threads [] (prefix_len (λ c. not (is_go c)) script) script

-- ---- what the order of a run leaves

-- each replay is one with buffers
abbrev HasBuffers : Type 0
HasBuffers = (cast : Cast) (pooling : Pooling) (schedule : List Turns) (marks : List (List Mark)) → Replay cast schedule marks
    → (last : Pooled) × PooledReplay cast pooling schedule last × (marks ≡ marks_at cast last.moment)

-- no bound is after the script's end
abbrev pub BoundsWithin : Type 0
BoundsWithin = (program : Program) (threads : ℕ) (script : List PatchCommand) (thread passing : ℕ)
    → bound_of program threads script thread passing ≤ total_of program threads script

-- ---- the schedule of an order

module _ (program : Program) (setup : Setup) (threads : ℕ) (script : List PatchCommand) (runs : List ThreadRun)
    (bounds : (thread passing : ℕ) → bound_of program threads script thread passing ≤ total_of program threads script) (is : IsRun program setup runs)
  where
    abbrev free : ℕ → ℕ
    free = free_place program threads script

    abbrev start : ℕ
    start = start_of program threads script

    abbrev total : ℕ
    total = total_of program threads script

    pub runs_rise : (places : List (List ℕ)) → AreRunPlaces program threads script runs places → (i : ℕ) (own : List ℕ) → slice_get places i ≡ Some own
        → Rise (free start) (free total) own
    runs_rise places are i own there = by_run (slice_get runs i) refl
      where
        by_run : (run : Option ThreadRun) → slice_get runs i ≡ run → Rise (free start) (free total) own
        by_run None e = let within = slice_get_within places i own there in absurd (none_there runs i (omega (arith, within, are.count)) e)
        by_run (Some run) e =
            let back : i + 1 - 1 ≡ i = omega arith in
            let made = was_made (map free) (load_places program threads script (i + 1) (sleds_passed run.passed) run.marks) own
            (are.each i run e ∙ (ap (slice_get places) back ∙ there)) in
            let placed = passings_placed program threads (code_at program threads script) (i + 1) (bound_of program threads script (i + 1)) (hold_of (i + 1) script)
            total (bounds (i + 1)) 0 start (sleds_passed run.passed) run.marks made.value
            (sleds_exist program threads (code_at program threads script) (i + 1) run.passed (run_exists program setup runs is i run e)) made.given_is in
            subst (Rise (free start) (free total)) made.makes
            (rise_mapped free (places_rise program threads script) start total made.value placed.rise)

    -- what is made of the places is their merge
    pub merge_made : (places : List (List ℕ)) → AreRunPlaces program threads script runs places
        → IsMerge (free start) (free total) places (ordered (free start) (free total) places)
    merge_made places are =
        order_merges (free start) (free total) places (places_rise program threads script start total (starts_within program threads script)) (runs_rise places are)

    -- so it is the order
    pub schedule_made : (schedule : List Turns) (order : IsOrderOf program threads script runs schedule)
        → schedule ≡ ordered (free start) (free total) order.places
    schedule_made schedule order =
        one_merge (free start) (free total) order.places schedule (ordered (free start) (free total) order.places) order.merge (merge_made order.places order.are)

    pub schedule_free : AllRelease threads script → (schedule : List Turns) (order : IsOrderOf program threads script runs schedule)
        → schedule ≡ ordered (start_of program threads (free_commands script)) (total_of program threads (free_commands script)) order.places
    schedule_free releases schedule order =
        schedule_made schedule order
        ∙ (ap (λ s. ordered s (free total) order.places) (sym (free_start program threads script releases))
        ∙ ap (λ t. ordered (start_of program threads (free_commands script)) t order.places) (sym (free_total program threads script releases)))

pub order_leaves : HasBuffers → BoundsWithin → (program : Program) (setup : Setup) (script : List PatchCommand) (runs : List ThreadRun) (schedule : List Turns)
    → IsRun program setup runs → AllRelease setup.threads script → IsOrderOf program setup.threads script runs schedule
    → (replayed : List ThreadRun) × IsReplayOf program (free_commands script) schedule setup replayed × (without_losses replayed ≡ without_losses runs)
order_leaves buffers bounds program setup script runs schedule is releases order =
    let n : ℕ = length (passings_of runs) in
    let count : setup.threads ≡ n = sym (passings_count runs ∙ is.count) in
    let releases_n : AllRelease n script = subst (λ (t : ℕ). AllRelease t script) count releases in
    let order_n : IsOrderOf program n script runs schedule = subst (λ (t : ℕ). IsOrderOf program t script runs schedule) count order in
    let have = have_of program setup script runs order_n.places is order_n.are in
    let cast : Cast = cast_with program (free_commands script) runs in
    let replay : Replay cast schedule (map (λ (run : ThreadRun). run.marks) runs) =
    subst (λ (s : List Turns). Replay cast s (map (λ (run : ThreadRun). run.marks) runs)) (sym (schedule_free program setup n script runs (bounds program n script) is releases_n schedule order_n))
    (order_replays program script runs releases_n (bounds program n script) (starts_within program n script) order_n.places have) in
    leaves is replay
  where
    leaves : IsRun program setup runs → Replay (cast_with program (free_commands script) runs) schedule (map (λ (run : ThreadRun). run.marks) runs)
        → (replayed : List ThreadRun) × IsReplayOf program (free_commands script) schedule setup replayed × (without_losses replayed ≡ without_losses runs)
    leaves is replay =
        let free : List PatchCommand = free_commands script in
        let pooling_by : List (List Passing) → Pooling = λ ps. pooling_of (cast_of program free (map sleds_passed ps)) ps setup.size (spare_of setup) in
        let pooled = buffers (cast_with program free runs) (pooling_by (passed_of runs)) schedule (map (λ (run : ThreadRun). run.marks) runs) replay in
        let last : Pooled = pooled.0 in
        let lost : List ℕ = map (λ thread. segments_among thread last.stock.taken) (numbers_from 1 setup.threads) in
        let others : List ThreadRun = relost runs lost in
        let passed : passed_of others ≡ passed_of runs = relost_passed runs lost in
        let many : length lost ≡ length runs =
        length-map (numbers_from 1 setup.threads) (λ thread. segments_among thread last.stock.taken) ∙ count_numbers 1 setup.threads ∙ sym is.count in (
          others,
          record {
            run = record {
              count = relost_count runs lost ∙ is.count;
              plain = λ i run e.
                  let own = relost_at runs lost i run e in
                  subst (λ (ps : List Passing). PlainRun program setup.limits (i + 1) ps run.end run.last) own.2
                  (subst (λ (h : End). PlainRun program setup.limits (i + 1) own.0.passed h run.last) own.3
                  (subst (λ (s : State). PlainRun program setup.limits (i + 1) own.0.passed own.0.end s) own.4 (is.plain i own.0 own.1)));
            };
            last = last;
            replay = subst (λ (ps : List (List Passing)). PooledReplay (cast_of program free (map sleds_passed ps)) (pooling_by ps) schedule last) (sym passed) pooled.1;
            marks =
                relost_marks runs lost ∙ pooled.2
                ∙ ap (λ (ps : List (List Passing)). marks_at (cast_of program free (map sleds_passed ps)) last.moment) (sym passed);
            lost = relost_lost runs lost many;
          },
          relost_same runs lost,
        )
      where
        count_numbers : (first n : ℕ) → length (numbers_from first n) ≡ n
        count_numbers first zero = refl
        count_numbers first (suc n) = let rest = count_numbers (first + 1) n in omega (arith, rest)

-- ---- each lawful run has an order

collect : (runs : List ThreadRun) (Own : ℕ → ThreadRun → List ℕ → Type 0) → ((i : ℕ) (run : ThreadRun) → slice_get runs i ≡ Some run → (own : List ℕ) × Own i run own)
    → (all : List (List ℕ)) × (length all ≡ length runs)
    × ((i : ℕ) (run : ThreadRun) → slice_get runs i ≡ Some run → (own : List ℕ) × (slice_get all i ≡ Some own) × Own i run own)
collect [] Own each = ([], refl, λ i run e. absurd (none i run e))
  where
    none : (i : ℕ) (run : ThreadRun) → slice_get [] i ≡ Some run → ⊥
    none i run e = cc
collect (first ∷ runs) Own each =
    let own = each 0 first refl in
    let rest = collect runs (λ i run ps. Own (suc i) run ps) (λ i run e. each (suc i) run e) in
    let count : length (own.0 ∷ rest.0) ≡ length (first ∷ runs) = omega (arith, rest.1) in
    (own.0 ∷ rest.0, count, at own.0 own.1 rest.0 rest.2)
  where
    at : (own : List ℕ) → Own 0 first own → (others : List (List ℕ))
        → ((i : ℕ) (run : ThreadRun) → slice_get runs i ≡ Some run → (ps : List ℕ) × (slice_get others i ≡ Some ps) × Own (suc i) run ps)
        → (i : ℕ) (run : ThreadRun) → slice_get (first ∷ runs) i ≡ Some run → (ps : List ℕ) × (slice_get (own ∷ others) i ≡ Some ps) × Own i run ps
    at own holds others each zero run e =
        let same : first ≡ run = cc in
        (own, refl, subst (λ (r : ThreadRun). Own 0 r own) same holds)
    at own holds others each (suc i) run e = each i run e

pub some_order : BoundsWithin → (program : Program) (setup : Setup) (script : List PatchCommand) (runs : List ThreadRun) → IsRun program setup runs
    → AllMarksFollow program setup.threads script runs → (schedule : List Turns) × IsOrderOf program setup.threads script runs schedule
some_order bounds program setup script runs is follow =
    let threads : ℕ = setup.threads in
    let all = collect runs (λ i run own. free_places program threads script (i + 1) (sleds_passed run.passed) run.marks ≡ Some own)
    (λ i run e.
    let within = slice_get_within runs i run e in
    let found = following_least program threads (code_at program threads script) (start_of program threads script) (bound_of program threads script (i + 1)) (i + 1)
    (hold_of (i + 1) script) (sleds_passed run.passed) run.marks (total_of program threads script) (omega arith) (omega (arith, within, is.count))
    (sleds_all program run.passed (run_exists program setup runs is i run e)) (follow i run e) in
    (map (free_place program threads script) found.0, ap (option_map (map (free_place program threads script))) found.1)) in
    let are : AreRunPlaces program threads script runs all.0 = record {
      count = all.1;
      each = λ i run e.
          let own = all.2 i run e in
          let back : i ≡ i + 1 - 1 = omega arith in
          own.2 ∙ sym own.1 ∙ ap (slice_get all.0) back;
    } in
    let f : ℕ → ℕ = free_place program threads script in
    let schedule : List Turns = ordered (f (start_of program threads script)) (f (total_of program threads script)) all.0 in
    (schedule, record { places = all.0; are = are; merge = merge_made program setup threads script runs (bounds program threads script) is all.0 are })

-- ---- and only one

same_lists : {X : Type 0} (xs ys : List X) → length xs ≡ length ys → ((i : ℕ) → i < length xs → slice_get xs i ≡ slice_get ys i) → xs ≡ ys
same_lists [] [] count each = refl
same_lists [] (y ∷ ys) count each = absurd (omega (arith, count))
same_lists (x ∷ xs) [] count each = absurd (omega (arith, count))
same_lists {X = X} (x ∷ xs) (y ∷ ys) count each =
    let first : ◌≡◌ {A = Option X} (Some x) (Some y) = each 0 (omega arith) in
    let same : x ≡ y = cc in
    let rest = same_lists xs ys (omega (arith, count)) (λ i low. each (suc i) (omega (arith, low))) in
    ap (λ (z : X). z ∷ xs) same ∙ ap (λ (zs : List X). y ∷ zs) rest

pub one_order : (program : Program) (threads : ℕ) (script : List PatchCommand) (runs : List ThreadRun) (schedule other : List Turns)
    → IsOrderOf program threads script runs schedule → IsOrderOf program threads script runs other → schedule ≡ other
one_order program threads script runs schedule other a b =
    let same : a.places ≡ b.places =
    same_lists a.places b.places (a.are.count ∙ sym b.are.count) (λ i low. by_run i (omega (arith, low, a.are.count))) in
    let f : ℕ → ℕ = free_place program threads script in
    let start : ℕ = f (start_of program threads script) in
    let total : ℕ = f (total_of program threads script) in
    one_merge start total b.places schedule other (subst (λ (ps : List (List ℕ)). IsMerge start total ps schedule) same a.merge) b.merge
  where
    by_run : (i : ℕ) → i < length runs → slice_get a.places i ≡ slice_get b.places i
    by_run i low = some_run (slice_get runs i) refl
      where
        some_run : (r : Option ThreadRun) → slice_get runs i ≡ r → slice_get a.places i ≡ slice_get b.places i
        some_run None e = absurd (none_there runs i low e)
        some_run (Some run) e =
            let back : i + 1 - 1 ≡ i = omega arith in
            ap (slice_get a.places) (sym back) ∙ sym (a.are.each i run e) ∙ b.are.each i run e ∙ ap (slice_get b.places) back
