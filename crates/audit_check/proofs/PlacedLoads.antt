-- Threads whose loads are placed.
use Rattle.std.proofs.Common.{◌≡◌, ℕ, zero, suc, ◌+◌, ◌-◌, ◌==◌, ◌<◌, Bool, true, false, List, [], ◌∷◌, ◌++◌, append-nil, length, length-append, take, Option, Some, None, refl, sym, ap, subst, ◌∙◌, arith, inl, inr}
use Rattle.std.specs.Prelude.{◌&&◌, ◌↔◌, IsTrue, Ok, Err, is_some, option_and_then, option_map, slice_get}
use Rattle.std.proofs.lemmas.Bool.{cases_lt}
use Rattle.std.proofs.lemmas.Option.{slice_get_within}
use Rattle.xray_image.specs.Program.{Program}
use Rattle.handler_word.specs.declared.mark.Mark.{Mark}
use Rattle.patch_script.specs.declared.command.PatchCommand.{PatchCommand}
use Rattle.patch_script.specs.CodeAt.{code_at}
use Rattle.patch_script.specs.Micros.{start_of}
use Rattle.machine_step.specs.declared.end.End.{End}
use Rattle.machine_step.specs.PlainStep.{Passing, PlainRun, State}
use Rattle.machine_step.specs.Traced.{Traced, sleds_passed}
use Rattle.traced_run.specs.Runs.{ThreadRun}
use Rattle.trace_flush.specs.Audit.{ThreadAudit}
use Rattle.audit_check.specs.declared.follower.Follower.{Follower}
use Rattle.audit_check.specs.declared.judging.FirstThreads.{FirstThreads}
use Rattle.audit_check.specs.declared.placing.PlaceFault.{PlaceFault}
use Rattle.audit_check.specs.declared.placing.PlaceFault.TheVariants.{Ends as Differs, Marks as Follows}
use Rattle.audit_check.specs.declared.placing.PlacedThread.{PlacedThread}
use Rattle.audit_check.specs.Places.{load_places}
use Rattle.audit_check.specs.Placings.{IsPlacing}
use Rattle.audit_check.specs.Rows.{AreRunsOf, EndsAgree, MarksAgree}
use Rattle.audit_check.specs.Statements.{AuditStatement}
use Rattle.audit_check.specs.Stops.{places_of}
use Rattle.audit_check.specs.Verdicts.{AllAgree, EndsRow, MarksRow}
use Rattle.audit_check.specs.private.Judging.{HasJudged}
use Rattle.audit_check.specs.private.Placed.{HasStopped, IsThreadPlaced, fault_by}
use Rattle.audit_check.specs.private.Searches.{HasPlaced}
use Rattle.audit_check.specs.private.Walks.{IsFirst, first_marks, first_of, mark_or_skipped}
use Rattle.audit_check.proofs.SameRows.{decides_row, of_row}
use Rattle.audit_check.proofs.FirstDifferences.{fewer, first_next, last, none_yet}
use Rattle.audit_check.proofs.SomeRuns.{some_runs}
use Rattle.audit_check.proofs.FoundAtEnd.{marks_found, marks_whole}
use Rattle.audit_check.proofs.WalkedThread.{first_more, sleds_more, take_all}

-- ---- one passing more

-- no passing was made
pub stopped_first : (program : Program) (threads : ℕ) (script : List PatchCommand) (all : List Mark) (passed : List Passing) (t : Traced) (f : Follower) (places : List ℕ)
    → t.marks ≡ [] → HasStopped program threads script all passed 0 f places
    → (t.marks ≡ first_marks (length t.marks) all) × HasStopped program threads script all passed (length t.marks) f places
stopped_first program threads script all passed t f places none has =
    subst (λ (ms : List Mark). (ms ≡ first_marks (length ms) all) × HasStopped program threads script all passed (length ms) f places) (sym none) (refl, has)

module _ (program : Program) (threads : ℕ) (script : List PatchCommand) (all : List Mark) (passed : List Passing) where
  stopped_more : (n : ℕ) (p : Passing) (f g : Follower) (sled : ℕ) (mark : Mark) (before after : List ℕ) → slice_get passed n ≡ Some p → p.sled ≡ sled
      → mark ≡ mark_or_skipped all n
      → ((program : Program) (threads : ℕ) (script : List PatchCommand) (sleds : List ℕ) (marks : List Mark) → HasJudged program threads script f sleds marks
      → HasJudged program threads script g (sleds ++ sled ∷ []) (marks ++ mark ∷ []))
      → ((program : Program) (threads : ℕ) (script : List PatchCommand) (sleds : List ℕ) (marks : List Mark) → HasJudged program threads script f sleds marks
      → HasPlaced program threads script f sleds marks before → HasPlaced program threads script g (sleds ++ sled ∷ []) (marks ++ mark ∷ []) after)
      → HasStopped program threads script all passed n f before → HasStopped program threads script all passed (n + 1) g after
  stopped_more n p f g sled mark before after found of_sled mark_is judges places has =
      let sleds : List ℕ = sleds_passed (take n passed) in
      let marks : List Mark = first_marks n all in
      let sleds_are : sleds ++ sled ∷ [] ≡ sleds_passed (take (n + 1) passed) =
      ap (λ k. sleds ++ k ∷ []) (sym of_sled) ∙ sym (sleds_more passed n p found) in
      let marks_are : marks ++ mark ∷ [] ≡ first_marks (n + 1) all = ap (λ (m : Mark). marks ++ m ∷ []) mark_is ∙ sym (first_more n all) in
      record {
        judged =
            subst (λ (ss : List ℕ). HasJudged program threads script g ss (first_marks (n + 1) all)) sleds_are
            (subst (λ (ms : List Mark). HasJudged program threads script g (sleds ++ sled ∷ []) ms) marks_are (judges program threads script sleds marks has.judged));
        placed =
            subst (λ (ss : List ℕ). HasPlaced program threads script g ss (first_marks (n + 1) all) after) sleds_are
            (subst (λ (ms : List Mark). HasPlaced program threads script g (sleds ++ sled ∷ []) ms after) marks_are
            (places program threads script sleds marks has.judged has.placed));
      }

  -- as many passings were made as a thread has marks
  pub stopped_next : (t u : Traced) (p : Passing) (f g : Follower) (sled : ℕ) (mark : Mark) (before after : List ℕ) → slice_get passed (length t.marks) ≡ Some p
      → p.sled ≡ sled → mark ≡ mark_or_skipped all (length t.marks) → u.marks ≡ t.marks ++ mark ∷ []
      → ((program : Program) (threads : ℕ) (script : List PatchCommand) (sleds : List ℕ) (marks : List Mark) → HasJudged program threads script f sleds marks
      → HasJudged program threads script g (sleds ++ sled ∷ []) (marks ++ mark ∷ []))
      → ((program : Program) (threads : ℕ) (script : List PatchCommand) (sleds : List ℕ) (marks : List Mark) → HasJudged program threads script f sleds marks
      → HasPlaced program threads script f sleds marks before → HasPlaced program threads script g (sleds ++ sled ∷ []) (marks ++ mark ∷ []) after)
      → (t.marks ≡ first_marks (length t.marks) all) × HasStopped program threads script all passed (length t.marks) f before
      → (u.marks ≡ first_marks (length u.marks) all) × HasStopped program threads script all passed (length u.marks) g after
  stopped_next t u p f g sled mark before after found of_sled mark_is more judges places (same, has) =
      let n : ℕ = length t.marks in
      let count : length u.marks ≡ n + 1 = ap length more ∙ length-append t.marks (mark ∷ []) in
      let next : u.marks ≡ first_marks (n + 1) all =
      more ∙ ap (λ (m : Mark). t.marks ++ m ∷ []) mark_is ∙ ap (λ (ms : List Mark). ms ++ mark_or_skipped all n ∷ []) same ∙ sym (first_more n all) in
      subst (λ m. (u.marks ≡ first_marks m all) × HasStopped program threads script all passed m g after) (sym count)
      (next, stopped_more n p f g sled mark before after found of_sled mark_is judges places has)

-- ---- a thread

right_of : (a b : Bool) → IsTrue (a && b) → IsTrue b
right_of true b both = both
right_of false b both = absurd (let q : false ≡ true = both in cc)

module _ (program : Program) (threads : ℕ) (script : List PatchCommand) (thread : ℕ) (f : Follower) (thread_is : f.thread ≡ thread) (said : ThreadAudit) (run : ThreadRun)
    (places : List ℕ) (has : HasStopped program threads script said.marks run.passed (length run.passed) f places) where
  places_found : EndsAgree said run → MarksAgree program threads script thread said run
      → load_places program threads script thread (sleds_passed run.passed) said.marks ≡ Some places
  places_found ends agree =
      let code : ℕ → ℕ → ℕ = code_at program threads script in
      let start : ℕ = start_of program threads script in
      let sleds : List ℕ = sleds_passed (take (length run.passed) run.passed) in
      let marks : List Mark = first_marks (length run.passed) said.marks in
      let sleds_are : sleds ++ [] ≡ sleds_passed run.passed = append-nil sleds ∙ ap sleds_passed (take_all run.passed) in
      let marks_are : marks ++ [] ≡ said.marks = append-nil marks ∙ marks_whole said.marks (length run.passed) (agree.each ∙ ends.passings) in
      let follows = right_of (length said.marks == said.passings) (is_some f.place)
      ((marks_found program threads script thread f thread_is said run has.judged ends).1 agree) in
      let whole : load_places program threads script f.thread (sleds_passed run.passed) said.marks ≡ Some places =
      ap (λ (ss : List ℕ). load_places program threads script f.thread ss said.marks) (sym sleds_are)
      ∙ ap (λ (ms : List Mark). load_places program threads script f.thread (sleds ++ []) ms) (sym marks_are)
      ∙ has.placed.goes_on [] [] ∙ at_end f.place follows in
      subst (λ t. load_places program threads script t (sleds_passed run.passed) said.marks ≡ Some places) thread_is whole
    where
      at_end : (place : Option ℕ) → IsTrue (is_some place)
          → option_and_then (λ (from : ℕ). option_map (λ (later : List ℕ). places ++ later) (Some [])) place ≡ Some places
      at_end None is = absurd (let q : false ≡ true = is in cc)
      at_end (Some from) is = ap Some (append-nil places)

  pub thread_placed : (placed : PlacedThread) (end : End) (passings : ℕ) → end ≡ run.end → passings ≡ length run.passed → places_of placed.stops.items ≡ places
      → IsTrue placed.agreement.ends ↔ (said.end ≡ end) × (said.passings ≡ passings)
      → placed.agreement.marks ≡ ((length said.marks == said.passings) && is_some f.place) → IsThreadPlaced program threads script thread said run placed
  thread_placed placed end passings end_is passings_are own_places by_ends by_marks = record {
    ends = (
      (λ is. let both = by_ends.0 is in record { end = both.0 ∙ end_is; passings = both.1 ∙ passings_are }),
      (λ agree. by_ends.1 (agree.end ∙ sym end_is, agree.passings ∙ sym passings_are)),
    );
    marks = λ ends.
        subst (λ b. IsTrue b ↔ MarksAgree program threads script thread said run) (sym by_marks)
        (marks_found program threads script thread f thread_is said run has.judged ends);
    places = λ ends agree. places_found ends agree ∙ ap Some (sym own_places);
  }

-- ---- the first threads

module _ (program : Program) (script : List PatchCommand) (statement : AuditStatement) (runs : List ThreadRun) where
  abbrev Ends : ℕ → Type 0
  Ends number = EndsRow program script statement [] runs number

  abbrev Marks : ℕ → Type 0
  Marks number = MarksRow program script statement [] runs number

  -- the loads of the first threads were placed
  pub record PlacedUpTo (threads : ℕ) (first : FirstThreads) (places : List (List ℕ)) : Type 0 where
    pub ends : IsFirst threads Ends first.ends
    pub marks : AllAgree threads Ends → IsFirst threads Marks first.marks
    pub count : length places ≡ threads
    pub each : AllAgree threads Ends → AllAgree threads Marks → (i : ℕ) (run : ThreadRun) → i < threads → slice_get runs i ≡ Some run
        → load_places program statement.setup.threads script (i + 1) (sleds_passed run.passed) run.marks ≡ slice_get places i

  pub placed_none : (first : FirstThreads) → first.ends ≡ None → first.marks ≡ None → PlacedUpTo 0 first []
  placed_none first ends marks = record {
    ends = subst (λ (o : Option ℕ). IsFirst 0 Ends o) (sym ends) (none_yet Ends);
    marks = λ _. subst (λ (o : Option ℕ). IsFirst 0 Marks o) (sym marks) (none_yet Marks);
    count = refl;
    each = λ all all' i run low at. absurd (omega (arith, low));
  }

  front_item : (places : List (List ℕ)) (own : List ℕ) (i : ℕ) → i < length places → slice_get (places ++ own ∷ []) i ≡ slice_get places i
  front_item [] own i low = absurd (omega (arith, low))
  front_item (first ∷ places) own zero low = refl
  front_item (first ∷ places) own (suc i) low = front_item places own i (omega (arith, low))

  last_item : (places : List (List ℕ)) (own : List ℕ) (i : ℕ) → i ≡ length places → slice_get (places ++ own ∷ []) i ≡ Some own
  last_item [] own zero e = refl
  last_item [] own (suc i) e = absurd (omega (arith, e))
  last_item (first ∷ places) own zero e = absurd (omega (arith, e))
  last_item (first ∷ places) own (suc i) e = last_item places own i (omega (arith, e))

  -- one more thread
  pub placed_next : (i : ℕ) (said : ThreadAudit) (run : ThreadRun) (placed : PlacedThread) (old new : FirstThreads) (places : List (List ℕ))
      → slice_get statement.threads i ≡ Some said → slice_get runs i ≡ Some run → run.marks ≡ said.marks
      → IsThreadPlaced program statement.setup.threads script (i + 1) said run placed
      → new.ends ≡ first_of old.ends (i + 1) placed.agreement.ends → new.marks ≡ first_of old.marks (i + 1) placed.agreement.marks → PlacedUpTo i old places
      → PlacedUpTo (i + 1) new (places ++ places_of placed.stops.items ∷ [])
  placed_next i said run placed old new places at at' same found ends marks before = record {
    ends = subst (λ (o : Option ℕ). IsFirst (i + 1) Ends o) (sym ends)
        (first_next Ends i old.ends placed.agreement.ends before.ends
        (decides_row program script statement [] runs EndsAgree placed.agreement.ends i said run at at' found.ends));
    marks = λ all.
        let end = of_row program script statement [] runs EndsAgree i said run at at' (last Ends i all) in
        subst (λ (o : Option ℕ). IsFirst (i + 1) Marks o) (sym marks)
        (first_next Marks i old.marks placed.agreement.marks (before.marks (fewer Ends i all))
        (decides_row program script statement [] runs (MarksAgree program statement.setup.threads script (i + 1)) placed.agreement.marks i said run at at'
        (found.marks end)));
    count = let e : length (places ++ places_of placed.stops.items ∷ []) ≡ i + 1 =
        omega (arith, length-append places (places_of placed.stops.items ∷ []), before.count) in e;
    each = λ all all' j other low there. elim (cases_lt j i) [
      | inl less ↦
          before.each (fewer Ends i all) (fewer Marks i all') j other less there
          ∙ sym (front_item places (places_of placed.stops.items) j (omega (arith, less, before.count)))
      | inr more ↦
          let here : i ≡ j = omega (arith, low, more) in
          let own : ThreadRun × (Some run ≡ Some other) = (run, sym at' ∙ ap (slice_get runs) here ∙ there) in
          let run_is : run ≡ other = let e = own.1 in cc in
          let end = of_row program script statement [] runs EndsAgree i said run at at' (last Ends i all) in
          let mark =
          of_row program script statement [] runs (MarksAgree program statement.setup.threads script (i + 1)) i said run at at' (last Marks i all') in
          let own_places : load_places program statement.setup.threads script (i + 1) (sleds_passed run.passed) run.marks ≡ Some (places_of placed.stops.items) =
          ap (λ (ms : List Mark). load_places program statement.setup.threads script (i + 1) (sleds_passed run.passed) ms) same ∙ found.places end mark in
          ap (λ (r : ThreadRun). load_places program statement.setup.threads script (j + 1) (sleds_passed r.passed) r.marks) (sym run_is)
          ∙ ap (λ k. load_places program statement.setup.threads script (k + 1) (sleds_passed run.passed) run.marks) (sym here)
          ∙ own_places ∙ sym (last_item places (places_of placed.stops.items) j (omega (arith, here, before.count)))
    ];
  }

  -- all threads
  pub faults : (ends marks : Option ℕ) (first : FirstThreads) (places : List (List ℕ)) (fault : PlaceFault) → first.ends ≡ ends → first.marks ≡ marks
      → PlacedUpTo statement.setup.threads first places → fault_by ends marks ≡ Some fault → IsPlacing program script statement runs (Err fault)
  faults (Some thread) marks first places fault ends_are marks_are up e =
      let same : Differs thread ≡ fault = cc in
      subst (λ (f : PlaceFault). IsPlacing program script statement runs (Err f)) same
      (subst (λ (o : Option ℕ). IsFirst statement.setup.threads Ends o) ends_are up.ends)
  faults None (Some thread) first places fault ends_are marks_are up e =
      let same : Follows thread ≡ fault = cc in
      let all = subst (λ (o : Option ℕ). IsFirst statement.setup.threads Ends o) ends_are up.ends in
      subst (λ (f : PlaceFault). IsPlacing program script statement runs (Err f)) same
      (all, subst (λ (o : Option ℕ). IsFirst statement.setup.threads Marks o) marks_are (up.marks all))
  faults None None first places fault ends_are marks_are up e = absurd cc

  pub all_placed : (ends marks : Option ℕ) (first : FirstThreads) (places : List (List ℕ)) → first.ends ≡ ends → first.marks ≡ marks
      → length runs ≡ statement.setup.threads → PlacedUpTo statement.setup.threads first places → fault_by ends marks ≡ None
      → IsPlacing program script statement runs (Ok places)
  all_placed (Some thread) marks first places ends_are marks_are count up e = absurd cc
  all_placed None (Some thread) first places ends_are marks_are count up e = absurd cc
  all_placed None None first places ends_are marks_are count up e =
      let all = subst (λ (o : Option ℕ). IsFirst statement.setup.threads Ends o) ends_are up.ends in
      let all' = subst (λ (o : Option ℕ). IsFirst statement.setup.threads Marks o) marks_are (up.marks all) in (
        all,
        all',
        record {
          count = up.count ∙ sym count;
          each = λ i run at.
              let within = slice_get_within runs i run at in
              let back : i + 1 - 1 ≡ i = omega arith in
              up.each all all' i run (omega (arith, within, count)) at ∙ ap (slice_get places) (sym back);
        },
      )

-- ---- some runs of which an audit speaks

-- all of their threads were placed, after as many as there are
pub some_placed : (program : Program) (script : List PatchCommand) (statement : AuditStatement) (first : FirstThreads) (places : List (List ℕ)) (threads : ℕ)
    → length statement.threads ≡ statement.setup.threads → threads ≡ statement.setup.threads
    → ((thread : ℕ) → (passed : List Passing) × (end : End) × (last : State) × PlainRun program statement.setup.limits thread passed end last)
    → ((runs : List ThreadRun) → AreRunsOf program statement runs → PlacedUpTo program script statement runs threads first places)
    → (runs : List ThreadRun) × AreRunsOf program statement runs × PlacedUpTo program script statement runs statement.setup.threads first places
some_placed program script statement first places threads count all ends up =
    let some = some_runs program statement count ends in
    (some.0, some.1, subst (λ n. PlacedUpTo program script statement some.0 n first places) all (up some.0 some.1))
