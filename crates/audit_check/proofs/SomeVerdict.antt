-- There is a verdict on any statement and any trace.
use Rattle.std.proofs.Common.{◌≡◌, ℕ, zero, suc, ◌+◌, ◌-◌, ◌==◌, ◌<◌, ◌≤◌, List, [], ◌∷◌, length, Option, Some, None, inl, inr, refl, sym, ap, subst, ◌∙◌, add-one, arith}
use Rattle.std.specs.Prelude.{◌⊎◌, ◌≢◌, All, if◌then◌else◌, slice_get, sum_by}
use Rattle.std.proofs.lemmas.Bool.{cases_lt}
use Rattle.std.proofs.lemmas.List.Elements.{All-cons, All-head, All-nil, All-tail}
use Rattle.xray_image.specs.Program.{Program}
use Rattle.handler_word.specs.declared.mark.Mark.{Mark}
use Rattle.handler_word.specs.Runs.{mark_byte}
use Rattle.patch_script.specs.declared.command.PatchCommand.{PatchCommand}
use Rattle.patch_script.specs.Bounds.{bound_of}
use Rattle.patch_script.specs.CodeAt.{code_at}
use Rattle.patch_script.specs.Micros.{hold_of, start_of, total_of}
use Rattle.machine_step.specs.Buffers.{spare_of}
use Rattle.machine_step.specs.declared.end.End.{End}
use Rattle.machine_step.specs.declared.end.End.TheVariants.{BadTarget, Fuel, OutputFull, Passings, Returned, StackEmpty, StackFull}
use Rattle.machine_step.specs.PlainStep.{Passing, PlainRun, State}
use Rattle.machine_step.specs.Traced.{sleds_passed}
use Rattle.machine_step.proofs.SomeMarks.{IsSled, run_sleds}
use Rattle.traced_run.specs.Following.{MarksFollowScript}
use Rattle.traced_run.specs.Kept.{segment_count}
use Rattle.traced_run.specs.Runs.{ThreadRun, events_of}
use Rattle.trace_flush.specs.Audit.{ThreadAudit}
use Rattle.trace_flush.specs.Flush.{trace_bytes}
use Rattle.audit_check.specs.declared.verdict.Verdict.{Verdict}
use Rattle.audit_check.specs.private.Turns.{IsLeast}
use Rattle.audit_check.specs.private.Walks.{IsFirst, first_of, verdict_by}
use Rattle.audit_check.specs.private.Ways.{Tree, Leaf, Node, Held, Passes, Reaches, trees_of}
use Rattle.audit_check.specs.Rows.{AreRunsOf, CountsAgree, EndsAgree, MarksAgree, RecycledAgrees}
use Rattle.audit_check.specs.Statements.{NamesThreads, AuditStatement}
use Rattle.audit_check.specs.Verdicts.{AtThread, IsJudged}
use Rattle.audit_check.proofs.SameRows.{of_row, row_of}
use Rattle.audit_check.proofs.FirstDifferences.{first_next, none_yet, verdict_is}
use Rattle.audit_check.proofs.FollowWays.{marks_pass}
use Rattle.audit_check.proofs.KnownFacts.{Known, known_as, known_below, known_both, known_bytes, known_equal, known_test}
use Rattle.audit_check.proofs.LeastEnds.{least_either, least_same}
use Rattle.audit_check.proofs.OwnRelease.{trees_own}
use Rattle.audit_check.proofs.Refusals.{some_item}
use Rattle.audit_check.proofs.RunTexts.{same_mark}
use Rattle.audit_check.proofs.SomeRuns.{some_runs}
use Rattle.audit_check.proofs.WayParts.{passes_earlier}
use Rattle.audit_check.proofs.WaysFollow.{passed_marks}

-- ---- ends and marks that are the same

known_by : {X : Type 0} (f : X → ℕ) → ((x y : X) → f x ≡ f y → x ≡ y) → (x y : X) → Known (x ≡ y)
known_by f one x y = known_as (one x y) (ap f) (known_equal (f x) (f y))

abbrev end_number : End → ℕ
end_number Returned = 0
end_number Fuel = 1
end_number Passings = 2
end_number OutputFull = 3
end_number StackFull = 4
end_number StackEmpty = 5
end_number BadTarget = 6

abbrev end_numbered : ℕ → End
end_numbered n = if n == 0 then Returned else if n == 1 then Fuel else if n == 2 then Passings else if n == 3 then OutputFull
    else if n == 4 then StackFull else if n == 5 then StackEmpty else BadTarget

end_back : (end : End) → end_numbered (end_number end) ≡ end
end_back Returned = refl
end_back Fuel = refl
end_back Passings = refl
end_back OutputFull = refl
end_back StackFull = refl
end_back StackEmpty = refl
end_back BadTarget = refl

known_end : (end other : End) → Known (end ≡ other)
known_end end other = known_by end_number (λ x y same. sym (end_back x) ∙ (ap end_numbered same ∙ end_back y)) end other

known_mark : (mark other : Mark) → Known (mark ≡ other)
known_mark mark other = known_by mark_byte same_mark mark other

-- ---- the least place at which passings may end

-- some least number of which this holds, or none
abbrev SomeLeast : (ℕ → Type 0) → Type 0
SomeLeast Holds = (least : Option ℕ) × IsLeast Holds least

-- of several
abbrev FromOne : (ℕ → ℕ → Type 0) → ℕ → ℕ → ℕ → Type 0
FromOne A from count n = (at : ℕ) × (from ≤ at) × (at < from + count) × A at n

least_of : (A : ℕ → ℕ → Type 0) → ((at : ℕ) → SomeLeast (A at)) → (count from : ℕ) → SomeLeast (FromOne A from count)
least_of A each zero from = (None, λ n (at, low, high, is). absurd (omega (arith, low, high)))
least_of A each (suc count) from =
    let here = each from in
    let later = least_of A each count (from + 1) in
    let x : Option ℕ = _ in (
      x,
      least_same (λ n. A from n ⊎ FromOne A (from + 1) count n) (FromOne A from (suc count)) x
          (λ n either. elim either [
            | inl is ↦ (from, omega arith, omega arith, is)
            | inr (at, low, high, is) ↦ (at, omega (arith, low), omega (arith, high), is)
          ])
          (λ n (at, low, high, is). elim (cases_lt from at) [
            | inl less ↦ inr (at, omega (arith, less), omega (arith, high), is)
            | inr more ↦ inl (let same : at ≡ from = omega (arith, low, more) in subst (λ k. A k n) same is)
          ])
          (least_either (A from) (FromOne A (from + 1) count) here.0 later.0 here.1 later.1),
    )

module _ (code : ℕ → ℕ → ℕ) where
  module _ (bound : ℕ) (mark : Mark) where
    -- what is loaded at a place within the bound leads on
    from_place : (A : ℕ → ℕ → Type 0) → ((at : ℕ) → SomeLeast (A at)) → (place : ℕ)
        → SomeLeast (λ n. (at : ℕ) × (place ≤ at) × (at ≤ bound) × A at n)
    from_place A each place =
        let count : ℕ = suc bound - place in
        let some = least_of A each count place in (
          some.0,
          least_same (FromOne A place count) (λ n. (at : ℕ) × (place ≤ at) × (at ≤ bound) × A at n) some.0
              (λ n (at, low, high, is). (at, low, omega (arith, low, high), is)) (λ n (at, low, high, is). (at, low, omega (arith, low, high), is)) some.1,
        )

    -- a word that has to be set
    if_set : (value : ℕ) (A : ℕ → Type 0) → SomeLeast A → SomeLeast (λ n. (value ≢ 0) × A n)
    if_set zero A some = (None, λ n (set, is). set refl)
    if_set (suc value) A some =
        let set : suc value ≢ 0 = λ e. cc in
        (some.0, least_same A (λ n. (suc value ≢ 0) × A n) some.0 (λ n is. (set, is)) (λ n (_, is). is) some.1)

    least_tree : (tree : Tree) (place : ℕ) → SomeLeast (λ n. Reaches code bound mark tree place n)
    least_tree (Leaf m) place = elim (known_mark m mark) [
      | inl is ↦ (Some place, ((is, omega arith), λ n (_, low). low))
      | inr other ↦ (None, λ n (is, low). other is)
    ]
    least_tree (Node word recording next) place =
        from_place (λ at n. Reaches code bound mark (next (code at word)) at n) (λ at. least_tree (next (code at word)) at) place
    least_tree (Held word next) place =
        let some = from_place (λ at n. (code at word ≢ 0) × Reaches code bound mark next at n)
        (λ at. if_set (code at word) (λ n. Reaches code bound mark next at n) (least_tree next at)) place in (
          some.0,
          least_same (λ n. (at : ℕ) × (place ≤ at) × (at ≤ bound) × ((code at word ≢ 0) × Reaches code bound mark next at n))
              (λ n. Reaches code bound mark (Held word next) place n) some.0 (λ n (at, low, high, (set, way)). (at, low, high, set, way))
              (λ n (at, low, high, set, way). (at, low, high, (set, way))) some.1,
        )

  module _ (bound : ℕ → ℕ) where
    least_way : (number : ℕ) (trees : List Tree) (marks : List Mark) (place : ℕ) → SomeLeast (Passes code bound number trees marks place)
    least_way number [] [] place = (Some place, (omega arith, λ n low. low))
    least_way number [] (mark ∷ marks) place = (None, λ n way. way)
    least_way number (tree ∷ trees) [] place = (None, λ n way. way)
    least_way number (tree ∷ trees) (mark ∷ marks) place =
        on (least_tree (bound number) mark tree place) (λ from. least_way (number + 1) trees marks from)
      where
        Later : ℕ → ℕ → Type 0
        Later from n = Passes code bound (number + 1) trees marks from n

        Here : ℕ → Type 0
        Here n = Reaches code (bound number) mark tree place n

        goes : (first : ℕ) → IsLeast Here (Some first) → SomeLeast (Later first) → SomeLeast (λ n. (at : ℕ) × Here at × Later at n)
        goes first here (None, never) =
            (None, λ n (at, way, rest). never n (passes_earlier code bound (number + 1) trees marks first at n (here.1 at way) rest))
        goes first here (Some end, found) = (
          Some end,
          (
            (first, here.0, found.0),
            (λ n (at, way, rest). found.1 n (passes_earlier code bound (number + 1) trees marks first at n (here.1 at way) rest)),
          ),
        )

        on : SomeLeast Here → ((from : ℕ) → SomeLeast (Later from)) → SomeLeast (λ n. (at : ℕ) × Here at × Later at n)
        on (None, never) again = (None, λ n (at, way, rest). never at way)
        on (Some first, here) again = goes first here (again first)

    passes_later : (number : ℕ) (trees : List Tree) (marks : List Mark) (place end late : ℕ) → end ≤ late
        → Passes code bound number trees marks place end → Passes code bound number trees marks place late
    passes_later number [] [] place end late after way = omega (arith, after, way)
    passes_later number [] (mark ∷ marks) place end late after way = way
    passes_later number (tree ∷ trees) [] place end late after way = way
    passes_later number (tree ∷ trees) (mark ∷ marks) place end late after (at, way, rest) =
        (at, way, passes_later (number + 1) trees marks at end late after rest)

    known_way : (number : ℕ) (trees : List Tree) (marks : List Mark) (place end : ℕ) → Known (Passes code bound number trees marks place end)
    known_way number trees marks place end = by (least_way number trees marks place)
      where
        by : SomeLeast (Passes code bound number trees marks place) → Known (Passes code bound number trees marks place end)
        by (None, never) = inr (never end)
        by (Some least, found) = elim (cases_lt end least) [
          | inl less ↦ inr (λ way. let low = found.1 end way in omega (arith, less, low))
          | inr more ↦ inl (passes_later number trees marks place least end more found.0)
        ]

-- ---- the rows of a thread

exist : (program : Program) (passed : List Passing) → All (IsSled program) passed → All (λ k. k < length program.sleds) (sleds_passed passed)
exist program [] all = All-nil (λ k. k < length program.sleds)
exist program (p ∷ passed) all =
    All-cons (λ k. k < length program.sleds) p.sled (sleds_passed passed) (All-head (IsSled program) p passed all)
    (exist program passed (All-tail (IsSled program) p passed all))

known_follow : (program : Program) (threads : ℕ) (script : List PatchCommand) (thread : ℕ) (sleds : List ℕ) (marks : List Mark) → 0 < thread → thread ≤ threads
    → All (λ k. k < length program.sleds) sleds → Known (MarksFollowScript program threads script thread sleds marks)
known_follow program threads script thread sleds marks some within all =
    let code : ℕ → ℕ → ℕ = code_at program threads script in
    let start : ℕ = start_of program threads script in
    let bound : ℕ → ℕ = bound_of program threads script thread in
    let hold : Option ℕ = hold_of thread script in
    let total : ℕ = total_of program threads script in
    let own = trees_own program threads thread some within hold 0 sleds all in
    known_as (passed_marks program threads code start bound thread hold sleds own marks total)
    (marks_pass program threads code start bound thread hold sleds own marks total)
    (known_way code bound 0 (trees_of program threads thread hold 0 sleds) marks start total)

known_ends : (said : ThreadAudit) (run : ThreadRun) → Known (EndsAgree said run)
known_ends said run =
    known_as (λ both. record { end = both.0; passings = both.1 }) (λ agree. (agree.end, agree.passings))
    (known_both (known_end said.end run.end) (known_equal said.passings (length run.passed)))

known_marks : (program : Program) (threads : ℕ) (script : List PatchCommand) (number : ℕ) (said : ThreadAudit) (run : ThreadRun) → 0 < number → number ≤ threads
    → All (λ k. k < length program.sleds) (sleds_passed run.passed) → Known (MarksAgree program threads script number said run)
known_marks program threads script number said run some within all =
    known_as (λ both. record { each = both.0; follow = both.1 }) (λ agree. (agree.each, agree.follow))
    (known_both (known_equal (length said.marks) said.passings)
    (known_follow program threads script number (sleds_passed run.passed) said.marks some within all))

known_if : {A B : Type 0} → Known A → Known B → Known (A → B)
known_if (inl a) (inl b) = inl (λ _. b)
known_if (inl a) (inr b) = inr (λ f. b (f a))
known_if (inr a) b = inl (λ is. absurd (a is))

known_counts : (size : ℕ) (said : ThreadAudit) (run : ThreadRun) → Known (CountsAgree size said run)
known_counts size said run =
    known_as (λ (recorded, (segments, (below, none))). record { recorded = recorded; segments = segments; below = below; none = none })
    (λ agree. (agree.recorded, (agree.segments, (agree.below, agree.none))))
    (known_both (known_equal said.recorded (length (events_of run))) (known_both (known_equal said.segments (segment_count size run))
    (known_both (known_if (known_below 0 said.segments) (known_below said.first said.segments))
    (known_if (known_equal said.segments 0) (known_equal said.first 0)))))

known_recycled : (s : AuditStatement) → Known (RecycledAgrees s)
known_recycled s =
    known_as (λ both. record { sum = both.0; queue = both.1 }) (λ agrees. (agrees.sum, agrees.queue))
    (known_both (known_equal s.recycled (sum_by (λ said. said.first) s.threads))
    (known_equal s.recycled (sum_by (λ said. said.segments - 1) s.threads - spare_of s.setup)))

-- ---- the first thread of which a row doesn't agree

some_first : (Row : ℕ → Type 0) (threads : ℕ) → ((i : ℕ) → i < threads → Known (Row (i + 1))) → (first : Option ℕ) × IsFirst threads Row first
some_first Row zero known = (None, none_yet Row)
some_first Row (suc threads) known =
    let before = some_first Row threads (λ i low. known i (omega (arith, low))) in
    let test = known_test (known threads (omega arith)) in (
      first_of before.0 (threads + 1) test.0,
      subst (λ n. IsFirst n Row (first_of before.0 (threads + 1) test.0)) (add-one threads)
          (first_next Row threads before.0 test.0 before.1 test.1),
    )

-- ---- the verdict

module _ (program : Program) (script : List PatchCommand) (s : AuditStatement) (trace : List ℕ) (names : NamesThreads s) (runs : List ThreadRun)
    (are : AreRunsOf program s runs) where
  known_row : (Agree : ℕ → ThreadAudit → ThreadRun → Type 0)
      → ((i : ℕ) (said : ThreadAudit) (run : ThreadRun) → i < s.setup.threads → slice_get runs i ≡ Some run → Known (Agree (i + 1) said run))
      → (i : ℕ) → i < s.setup.threads → Known (AtThread s runs (Agree (i + 1)) (i + 1))
  known_row Agree known i low =
      let said = some_item s.threads i (omega (arith, low, names.count)) in
      let run = some_item runs i (let count = are.run.count in omega (arith, low, count)) in
      known_as (row_of program script s trace runs (Agree (i + 1)) i said.0 run.0 said.1 run.1)
      (of_row program script s trace runs (Agree (i + 1)) i said.0 run.0 said.1 run.1) (known i said.0 run.0 low run.1)

  pub judged : (verdict : Verdict) × IsJudged program script s trace verdict
  judged =
      let ends = some_first (λ number. AtThread s runs EndsAgree number) s.setup.threads
      (known_row (λ _. EndsAgree) (λ i said run low at. known_ends said run)) in
      let marks = some_first (λ number. AtThread s runs (MarksAgree program s.setup.threads script number) number) s.setup.threads
      (known_row (MarksAgree program s.setup.threads script) (λ i said run low at.
      known_marks program s.setup.threads script (i + 1) said run (omega arith) (omega (arith, low))
      (exist program run.passed (let plain = are.run.plain i run at in
      run_sleds program s.setup.limits (i + 1) plain.0 _ run.passed run.end run.last plain.1)))) in
      let counts = some_first (λ number. AtThread s runs (CountsAgree s.setup.size) number) s.setup.threads
      (known_row (λ _. CountsAgree s.setup.size) (λ i said run low at. known_counts s.setup.size said run)) in
      let recycled = known_test (known_recycled s) in
      let same = known_test (known_bytes trace (trace_bytes s.setup runs)) in (
        verdict_by ends.0 marks.0 counts.0 recycled.0 same.0,
        record {
          runs = runs;
          are = are;
          verdict_is = verdict_is program script s trace runs ends.0 marks.0 counts.0 recycled.0 same.0 ends.1 (λ _. marks.1) (λ _ _. counts.1) recycled.1
              (λ _ _. same.1);
        },
      )

pub some_verdict : (program : Program)
    → ((thread : ℕ) (s : AuditStatement) → (passed : List Passing) × (end : End) × (last : State) × PlainRun program s.setup.limits thread passed end last)
    → (script : List PatchCommand) (s : AuditStatement) (trace : List ℕ) → NamesThreads s → (verdict : Verdict) × IsJudged program script s trace verdict
some_verdict program ends script s trace names =
    let runs = some_runs program s names.count (λ thread. ends thread s) in judged program script s trace names runs.0 runs.1
