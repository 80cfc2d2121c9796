-- The audit and the trace of a lawful run.
use Rattle.std.proofs.Common.{◌≡◌, ℕ, zero, suc, ◌+◌, ◌-◌, ◌*◌, ◌<◌, ◌≤◌, cond, Bool, true, false, List, [], ◌∷◌, ◌++◌, length, map, Some, refl, sym, ap, subst, ◌∙◌, arith, suc-mul}
use Rattle.std.specs.Prelude.{All, if◌then◌else◌, slice_get, sum_by}
use Rattle.std.specs.List.{enumerate_from}
use Rattle.std.proofs.lemmas.List.{length-map}
use Rattle.std.proofs.lemmas.List.Elements.{All-cons, All-head, All-nil, All-tail}
use Rattle.std.proofs.lemmas.List.FromFn.{length-enumerate_from}
use Rattle.std.proofs.lemmas.List.Sums.{sum_by-cons}
use Rattle.std.proofs.lemmas.Option.{same_Some}
use Rattle.xray_image.specs.Program.{Program}
use Rattle.fdr_record.specs.declared.event.Event.{Event}
use Rattle.fdr_buffer.specs.Segments.{has_room, segments, segments_from}
use Rattle.handler_word.specs.declared.mark.Mark.{Mark}
use Rattle.handler_word.specs.declared.mark.Mark.TheVariants.{Skipped, NoHandler, NotLogging, Recorded, RecordedArg}
use Rattle.handler_word.specs.MarkList.{is_recorded, recorded_count}
use Rattle.patch_script.specs.declared.command.PatchCommand.{PatchCommand}
use Rattle.machine_step.specs.Buffers.{spare_of}
use Rattle.machine_step.specs.declared.end.End.{End}
use Rattle.machine_step.specs.declared.setup.Setup.{Setup}
use Rattle.machine_step.specs.Events.{recorded}
use Rattle.machine_step.specs.PlainStep.{Passing, PlainRun, State}
use Rattle.machine_step.specs.Setups.{IsSetup}
use Rattle.traced_run.specs.Following.{AllMarksFollow}
use Rattle.traced_run.specs.Kept.{segment_count}
use Rattle.traced_run.specs.Losses.{AreLost}
use Rattle.traced_run.specs.Runs.{IsRun, ThreadRun, events_of}
use Rattle.traced_run.proofs.RecordedEvents.{recorded_short}
use Rattle.trace_flush.specs.Audit.{ThreadAudit}
use Rattle.trace_flush.specs.Flush.{trace_bytes}
use Rattle.trace_flush.specs.Lines.{audit_of}
use Rattle.audit_check.specs.declared.verdict.Verdict.TheVariants.{Yes}
use Rattle.audit_check.specs.Rows.{AreRunsOf, CountsAgree, EndsAgree, MarksAgree, RecycledAgrees}
use Rattle.audit_check.specs.Statements.{HasCounts, MayState, run_statement}
use Rattle.audit_check.specs.Verdicts.{AllAgree, AtThread, IsJudged}
use Rattle.audit_check.proofs.SwitchesAtStart.{each}

-- ---- what is said of each thread

said_at : (setup : Setup) (n : ℕ) (runs : List ThreadRun) (i : ℕ) (said : ThreadAudit)
    → slice_get (map (audit_of setup) (enumerate_from n runs)) i ≡ Some said
    → (run : ThreadRun) × (slice_get runs i ≡ Some run) × (said ≡ audit_of setup (n + i, run))
said_at setup n [] i said at = absurd cc
said_at setup n (run ∷ runs) zero said at =
    let number : n ≡ n + 0 = omega arith in
    (run, refl, sym (same_Some (audit_of setup (n, run)) said at) ∙ ap (λ m. audit_of setup (m, run)) number)
said_at setup n (first ∷ runs) (suc i) said at =
    let rest = said_at setup (n + 1) runs i said at in
    let number : n + 1 + i ≡ n + suc i = omega arith in
    (rest.0, rest.1, rest.2 ∙ ap (λ m. audit_of setup (m, rest.0)) number)

module _ {X : Type 0} (setup : Setup) (f : ThreadAudit → X) (g : ThreadRun → X) (same : (n : ℕ) (run : ThreadRun) → f (audit_of setup (n, run)) ≡ g run) where
  said_of_all : (n : ℕ) (runs : List ThreadRun) → map g runs ≡ map f (map (audit_of setup) (enumerate_from n runs))
  said_of_all n [] = refl
  said_of_all n (run ∷ runs) =
      ap (λ x. x ∷ map g runs) (sym (same n run)) ∙ ap (λ l. f (audit_of setup (n, run)) ∷ l) (said_of_all (n + 1) runs)

sum_of_all : (setup : Setup) (f : ThreadAudit → ℕ) (g : ThreadRun → ℕ) → ((n : ℕ) (run : ThreadRun) → f (audit_of setup (n, run)) ≡ g run)
    → (n : ℕ) (runs : List ThreadRun) → sum_by g runs ≡ sum_by f (map (audit_of setup) (enumerate_from n runs))
sum_of_all setup f g same n [] = refl
sum_of_all setup f g same n (run ∷ runs) =
    let rest = sum_of_all setup f g same (n + 1) runs in
    let here = same n run in
    omega (arith, rest, here, sum_by-cons g run runs, sum_by-cons f (audit_of setup (n, run)) (map (audit_of setup) (enumerate_from (n + 1) runs)))

-- ---- counts

-- as many passings are recorded as events are
pub recorded_is : (passed : List Passing) (marks : List Mark) → length marks ≡ length passed → recorded_count marks ≡ length (recorded passed marks)
recorded_is [] [] same = refl
recorded_is [] (mark ∷ marks) same = absurd (omega (arith, same))
recorded_is (p ∷ passed) [] same = absurd (omega (arith, same))
recorded_is (p ∷ passed) (mark ∷ marks) same =
    sum_by-cons (λ m. cond (is_recorded m) 1 0) mark marks ∙ by mark (recorded_is passed marks (omega (arith, same)))
  where
    by : (m : Mark) → recorded_count marks ≡ length (recorded passed marks)
        → cond (is_recorded m) 1 0 + recorded_count marks ≡ length (recorded (p ∷ passed) (m ∷ marks))
    by Skipped e = omega (arith, e)
    by NoHandler e = omega (arith, e)
    by NotLogging e = omega (arith, e)
    by Recorded e = omega (arith, e)
    by RecordedArg e = omega (arith, e)

-- there are no more segments than events
cut_short : (size : ℕ) (opened events : List Event) → length (segments_from size opened events) ≤ suc (length events)
cut_short size opened [] = omega arith
cut_short size opened (event ∷ events) =
    by (has_room size (opened ++ event ∷ [])) (cut_short size (opened ++ event ∷ []) events) (cut_short size (event ∷ []) events)
  where
    by : (b : Bool) → length (segments_from size (opened ++ event ∷ []) events) ≤ suc (length events)
        → length (segments_from size (event ∷ []) events) ≤ suc (length events)
        → length (if b then segments_from size (opened ++ event ∷ []) events else opened ∷ segments_from size (event ∷ []) events) ≤ suc (suc (length events))
    by true joined cut = omega (arith, joined)
    by false joined cut = omega (arith, cut)

few_segments : (size : ℕ) (events : List Event) → length (segments size events) ≤ length events
few_segments size [] = omega arith
few_segments size (event ∷ events) = cut_short size (event ∷ []) events

pub sum_within : {X : Type 0} (g : X → ℕ) (most : ℕ) (xs : List X) → All (λ x. g x ≤ most) xs → sum_by g xs ≤ length xs * most
sum_within g most [] all = omega arith
sum_within g most (x ∷ xs) all =
    let rest = sum_within g most xs (All-tail (λ y. g y ≤ most) x xs all) in
    let here = All-head (λ y. g y ≤ most) x xs all in
    let product : length (x ∷ xs) * most ≡ length xs * most + most = suc-mul (length xs) most in
    omega (arith, rest, here, product, sum_by-cons g x xs)

-- ---- a lawful run

-- the audit of a run speaks of it
pub runs_stated : (program : Program) (setup : Setup) (runs : List ThreadRun) → IsRun program setup runs → AreRunsOf program (run_statement setup runs) runs
runs_stated program setup runs is_run = record {
  run = is_run;
  marks = said_of_all setup (λ said. said.marks) (λ run. run.marks) (λ n run. refl) 1 runs;
  lost = said_of_all setup (λ said. said.first) (λ run. run.lost) (λ n run. refl) 1 runs;
}

module _ (program : Program) (script : List PatchCommand) (setup : Setup) (runs : List ThreadRun) (is_run : IsRun program setup runs)
    (follow : AllMarksFollow program setup.threads script runs) (lost : AreLost setup.size (spare_of setup) runs) where
  as_many : (i : ℕ) (run : ThreadRun) → slice_get runs i ≡ Some run → length run.marks ≡ length run.passed
  as_many i run at = (follow i run at).each ∙ length-map run.passed (λ (p : Passing). p.sled)

  -- the row of a thread agrees if it does for what is said of its run
  row : (Agree : ℕ → ThreadAudit → ThreadRun → Type 0) → ((i : ℕ) (run : ThreadRun) → slice_get runs i ≡ Some run → Agree (i + 1) (audit_of setup (i + 1, run)) run)
      → AllAgree setup.threads (λ number. AtThread (run_statement setup runs) runs (Agree number) number)
  row Agree agrees number some within said run at at' =
      let found = said_at setup 1 runs (number - 1) said at in
      let same : found.0 ≡ run = same_Some found.0 run (sym found.1 ∙ at') in
      let here : number - 1 + 1 ≡ number = omega arith in
      let there : 1 + (number - 1) ≡ number = omega arith in
      let said_is : said ≡ audit_of setup (number, run) =
      found.2 ∙ (ap (λ n. audit_of setup (n, found.0)) there ∙ ap (λ (r : ThreadRun). audit_of setup (number, r)) same) in
      subst (λ (s : ThreadAudit). Agree number s run) (sym said_is)
      (subst (λ n. Agree n (audit_of setup (n, run)) run) here (agrees (number - 1) run at'))

  counts_agree : (i : ℕ) (run : ThreadRun) → slice_get runs i ≡ Some run → CountsAgree setup.size (audit_of setup (i + 1, run)) run
  counts_agree i run at = record {
    recorded = recorded_is run.passed run.marks (as_many i run at);
    segments = refl;
    below = each (λ r. 0 < segment_count setup.size r → r.lost < segment_count setup.size r) runs i run lost.few.below at;
    none = each (λ r. segment_count setup.size r ≡ 0 → r.lost ≡ 0) runs i run lost.few.none at;
  }

  recycled_agrees : RecycledAgrees (run_statement setup runs)
  recycled_agrees = record {
    sum = sum_of_all setup (λ said. said.first) (λ run. run.lost) (λ n run. refl) 1 runs;
    queue = lost.recycled ∙ ap (λ n. n - spare_of setup)
        (sum_of_all setup (λ said. said.segments - 1) (λ run. segment_count setup.size run - 1) (λ n run. refl) 1 runs);
  }

  -- its ends and its marks agree
  pub ends_stated : AllAgree setup.threads (λ number. AtThread (run_statement setup runs) runs EndsAgree number)
  ends_stated = row (λ number. EndsAgree) (λ i run at. record { end = refl; passings = as_many i run at })

  pub marks_stated : AllAgree setup.threads (λ number. AtThread (run_statement setup runs) runs (MarksAgree program setup.threads script number) number)
  marks_stated = row (MarksAgree program setup.threads script) (λ i run at. record { each = refl; follow = follow i run at })

  pub accepted : IsJudged program script (run_statement setup runs) (trace_bytes setup runs) Yes
  accepted = record {
    runs = runs;
    are = runs_stated program setup runs is_run;
    verdict_is = (
      ends_stated,
      marks_stated,
      row (λ number. CountsAgree setup.size) counts_agree,
      recycled_agrees,
      refl,
    );
  }

  -- ---- its audit

  module _ (setup_is : IsSetup setup) (limited : (thread : ℕ) (passed : List Passing) (end : End) (last : State)
      → PlainRun program setup.limits thread passed end last → length passed ≤ setup.limits.passings) where
    few_marks : (i : ℕ) (run : ThreadRun) → slice_get runs i ≡ Some run → length run.marks ≤ 1048576
    few_marks i run at =
        let within = limited (i + 1) run.passed run.end run.last (is_run.plain i run at) in
        let most = setup_is.limits_are.passings in omega (arith, within, most, as_many i run at)

    few_events : (i : ℕ) (run : ThreadRun) → slice_get runs i ≡ Some run → length (events_of run) ≤ 1048576
    few_events i run at = let few = few_marks i run at in omega (arith, few, recorded_short run.passed run.marks)

    few_lost : (i : ℕ) (run : ThreadRun) → slice_get runs i ≡ Some run → run.lost ≤ 1048576
    few_lost i run at = by (segment_count setup.size run) refl
      where
        by : (n : ℕ) → segment_count setup.size run ≡ n → run.lost ≤ 1048576
        by zero none = let is = each (λ r. segment_count setup.size r ≡ 0 → r.lost ≡ 0) runs i run lost.few.none at none in omega (arith, is)
        by (suc n) some =
            let below = each (λ r. 0 < segment_count setup.size r → r.lost < segment_count setup.size r) runs i run lost.few.below at (omega (arith, some)) in
            let few = few_events i run at in omega (arith, below, few, few_segments setup.size (events_of run))

    has_counts : (i : ℕ) (run : ThreadRun) → slice_get runs i ≡ Some run → HasCounts (audit_of setup (i + 1, run))
    has_counts i run at = record {
      passings = let few = few_marks i run at in omega (arith, few);
      recorded = let few = few_events i run at in omega (arith, few, recorded_is run.passed run.marks (as_many i run at));
      segments = let few = few_events i run at in omega (arith, few, few_segments setup.size (events_of run));
      first = let few = few_lost i run at in omega (arith, few);
      marks = few_marks i run at;
    }

    -- what is true of each thread, by its number
    all_have : (n : ℕ) (rest : List ThreadRun) → ((i : ℕ) (run : ThreadRun) → slice_get rest i ≡ Some run → HasCounts (audit_of setup (n + i, run)))
        → All HasCounts (map (audit_of setup) (enumerate_from n rest))
    all_have n [] have = All-nil HasCounts
    all_have n (run ∷ rest) have =
        let here : n + 0 ≡ n = omega arith in
        All-cons HasCounts (audit_of setup (n, run)) (map (audit_of setup) (enumerate_from (n + 1) rest))
        (subst (λ m. HasCounts (audit_of setup (m, run))) here (have 0 run refl))
        (all_have (n + 1) rest (λ i r at.
        let number : n + suc i ≡ n + 1 + i = omega arith in subst (λ m. HasCounts (audit_of setup (m, r))) number (have (suc i) r at)))

    each_lost : (rest : List ThreadRun) → ((i : ℕ) (run : ThreadRun) → slice_get rest i ≡ Some run → run.lost ≤ 1048576) → All (λ run. run.lost ≤ 1048576) rest
    each_lost [] few = All-nil (λ run. run.lost ≤ 1048576)
    each_lost (run ∷ rest) few = All-cons (λ r. r.lost ≤ 1048576) run rest (few 0 run refl) (each_lost rest (λ i r at. few (suc i) r at))

    pub stated : MayState (run_statement setup runs)
    stated = record {
      names = record {
        setup_is = setup_is;
        count = length-map (enumerate_from 1 runs) (audit_of setup) ∙ (length-enumerate_from 1 runs ∙ is_run.count);
        numbered = λ i said at.
            let found = said_at setup 1 runs i said at in
            let number : 1 + i ≡ i + 1 = omega arith in ap (λ (s : ThreadAudit). s.thread) found.2 ∙ number;
      };
      counts = all_have 1 runs (λ i run at. let number : i + 1 ≡ 1 + i = omega arith in subst (λ m. HasCounts (audit_of setup (m, run))) number (has_counts i run at));
      recycled =
          let sum = sum_within (λ run. run.lost) 1048576 runs (each_lost runs few_lost) in
          let threads = setup_is.few_threads in
          let count = is_run.count in omega (arith, sum, threads, count);
    }
