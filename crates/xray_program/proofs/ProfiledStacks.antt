-- A profile whose threads make the marks of a run has the stacks of the run's trace.
use Rattle.std.proofs.Common.{◌≡◌, ◌+◌, ◌++◌, ◌<◌, ◌∙◌, ℕ, zero, suc, Bool, true, false, eqb, nat_eq, List, [], ◌∷◌, Option, Some, None, Result, Ok, length, map, filter, refl, sym, ap, subst, arith}
use Rattle.std.specs.Prelude.{All, Contains, slice_get}
use Rattle.std.specs.List.{AllByRecursion, IsDistinct, enumerate_from, flat_map, range_with_len}
use Rattle.std.proofs.lemmas.Bool.Decides.{nat_tests}
use Rattle.std.proofs.lemmas.List.Concat.{flat_map-cons}
use Rattle.std.proofs.lemmas.List.Elements.{All-append, All-cons, All-nil, All-weaker, Contains-append_right}
use Rattle.std.proofs.lemmas.List.Sums.{sum_by-cons}
use Rattle.std.proofs.lemmas.Map.Keys.{IsDistinct-cons}
use Rattle.call_trie.specs.Tries.{state_after}
use Rattle.command_words.specs.declared.profile_options.ProfileOptions.{ProfileOptions}
use Rattle.fdr_record.specs.declared.event.Event.{Event}
use Rattle.fdr_file.specs.declared.fault.TraceFault.{TraceFault}
use Rattle.fdr_file.specs.declared.trace.Block.{Block}
use Rattle.fdr_file.specs.declared.trace.Trace.{Trace}
use Rattle.function_names.specs.Name.{program_names}
use Rattle.handler_word.specs.declared.mark.Mark.{Mark}
use Rattle.machine_step.specs.Texts.{state_text}
use Rattle.machine_step.specs.declared.limits.Limits.{Limits}
use Rattle.machine_step.specs.declared.setup.Setup.{Setup}
use Rattle.machine_step.specs.PlainStep.{PlainRun}
use Rattle.stack_rebuild.specs.Histories.{events_of_thread}
use Rattle.stack_rebuild.specs.Stacks.{AreThreadsOf, PathRow, stack_of, stack_of_threads}
use Rattle.trace_flush.specs.Flush.{is_of, segment_block, thread_blocks}
use Rattle.traced_run.specs.Kept.{kept_of}
use Rattle.traced_run.specs.Losses.{recycled_of}
use Rattle.traced_run.specs.Runs.{ThreadRun, events_of}
use Rattle.xray_image.specs.Program.{IsAccepted, Program}
use Rattle.xray_program.specs.Outcomes.{Outcome, Done}
use Rattle.xray_program.specs.Profile.{printed_of, profile_of, states_before, trouble_of}
use Rattle.xray_program.specs.ProfiledStacks.{MakeMarksOf}
use Rattle.xray_program.specs.Stack.{rows_text}
use Rattle.xray_program.specs.Taking.{ended_by}
use Rattle.xray_program.specs.Traced.{IsReported, state_texts}
use Rattle.xray_program.proofs.PlainLaws.{OneEnd}

-- ---- runs with the same marks

abbrev ArePlain : Program → Limits → ℕ → List ThreadRun → Type 0
ArePlain program limits k runs = (i : ℕ) (run : ThreadRun) → slice_get runs i ≡ Some run → PlainRun program limits (k + i) run.passed run.end run.last

plain_first : (program : Program) (limits : Limits) (k : ℕ) (run : ThreadRun) (runs : List ThreadRun) → ArePlain program limits k (run ∷ runs)
    → PlainRun program limits k run.passed run.end run.last
plain_first program limits k run runs plain =
    let here : k + zero ≡ k = omega arith in
    subst (λ (n : ℕ). PlainRun program limits n run.passed run.end run.last) here (plain zero run refl)

plain_rest : (program : Program) (limits : Limits) (k : ℕ) (run : ThreadRun) (runs : List ThreadRun) → ArePlain program limits k (run ∷ runs)
    → ArePlain program limits (k + 1) runs
plain_rest program limits k run runs plain i r found =
    let there : k + suc i ≡ k + 1 + i = omega arith in
    subst (λ (n : ℕ). PlainRun program limits n r.passed r.end r.last) there (plain (suc i) r found)

-- they have the same events, and the same state texts
record AreAlike (k : ℕ) (runs others : List ThreadRun) : Type 0 where
  events : map events_of runs ≡ map events_of others
  states : state_texts k runs ≡ state_texts k others

marks_first : (a b : List Mark) (as' bs : List (List Mark)) → a ∷ as' ≡ b ∷ bs → a ≡ b
marks_first a b as' bs e = cc

marks_rest : (a b : List Mark) (as' bs : List (List Mark)) → a ∷ as' ≡ b ∷ bs → as' ≡ bs
marks_rest a b as' bs e = cc

same_texts : OneEnd → (bytes : List ℕ) (program : Program) (limits : Limits) (k : ℕ) (run other : ThreadRun) → IsAccepted bytes program
    → PlainRun program limits k run.passed run.end run.last → PlainRun program limits k other.passed other.end other.last → run.marks ≡ other.marks
    → (events_of run ≡ events_of other) × (state_text k run.end run.last run.marks ≡ state_text k other.end other.last other.marks)
same_texts one bytes program limits k run other accepted plain plain' marks =
    let ends = one bytes program limits k run.passed other.passed run.end other.end run.last other.last accepted plain plain' in
    (rw (ends.0, marks) refl, rw (ends.1, ends.2, marks) refl)

alike : OneEnd → (bytes : List ℕ) (program : Program) (limits : Limits) (k : ℕ) (runs others : List ThreadRun) → IsAccepted bytes program
    → ArePlain program limits k runs → ArePlain program limits k others
    → map (λ (run : ThreadRun). run.marks) runs ≡ map (λ (run : ThreadRun). run.marks) others → AreAlike k runs others
alike one bytes program limits k [] [] accepted plain plain' same = record { events = refl; states = refl }
alike one bytes program limits k [] (other ∷ others) accepted plain plain' same = absurd cc
alike one bytes program limits k (run ∷ runs) [] accepted plain plain' same = absurd cc
alike one bytes program limits k (run ∷ runs) (other ∷ others) accepted plain plain' same =
    let first = same_texts one bytes program limits k run other accepted (plain_first program limits k run runs plain)
    (plain_first program limits k other others plain') (marks_first _ _ _ _ same) in
    let rest = alike one bytes program limits (k + 1) runs others accepted (plain_rest program limits k run runs plain)
    (plain_rest program limits k other others plain') (marks_rest _ _ _ _ same) in
    record {
      events = ap (λ (e : List Event). e ∷ map events_of runs) first.0 ∙ ap (λ (es : List (List Event)). events_of other ∷ es) rest.events;
      states = ap (λ (t : List ℕ). t ++ state_texts (k + 1) runs) first.1
          ∙ ap (λ (ts : List ℕ). state_text k other.end other.last other.marks ++ ts) rest.states;
    }

-- ---- the threads of a trace

range_above : (a b n : ℕ) → a < b → AllByRecursion (λ (k : ℕ). nat_eq a k ≡ false) (range_with_len b n)
range_above a b zero less = tt
range_above a b (suc n) less = (grind (arith, nat_tests), range_above a (b + 1) n (omega (arith, less)))

range_distinct : (a n : ℕ) → IsDistinct nat_eq (range_with_len a n)
unfolding IsDistinct
range_distinct a zero = tt
range_distinct a (suc n) =
    IsDistinct-cons nat_eq a (range_with_len (a + 1) n) (range_above a (a + 1) n (omega arith)) (range_distinct (a + 1) n)

-- each block of a run is of one of its threads
of_thread : (setup : Setup) (thread : ℕ) (ns : List ℕ) (segs : List (List Event)) → Contains ns thread
    → All (λ (block : Block). Contains ns block.thread) (map (segment_block setup thread) segs)
of_thread setup thread ns [] has = All-nil (λ (block : Block). Contains ns block.thread)
of_thread setup thread ns (seg ∷ segs) has =
    All-cons (λ (block : Block). Contains ns block.thread) (segment_block setup thread seg) (map (segment_block setup thread) segs) has
    (of_thread setup thread ns segs has)

of_threads : (setup : Setup) (k : ℕ) (runs : List ThreadRun)
    → All (λ (block : Block). Contains (range_with_len k (length runs)) block.thread) (flat_map (thread_blocks setup) (enumerate_from k runs))
of_threads setup k [] = All-nil (λ (block : Block). Contains [] block.thread)
of_threads setup k (run ∷ runs) =
    let own : List ℕ = range_with_len k (suc (length runs)) in
    let Among : Block → Type 0 = λ block. Contains own block.thread in
    let rest : List Block = flat_map (thread_blocks setup) (enumerate_from (k + 1) runs) in
    let here : Contains own k = (0, omega arith, refl) in
    subst (All Among) (sym (flat_map-cons (thread_blocks setup) (k, run) (enumerate_from (k + 1) runs)))
    (All-append Among (thread_blocks setup (k, run)) rest (of_thread setup k own (kept_of setup.size run) here)
    (All-weaker (λ (block : Block). Contains (range_with_len (k + 1) (length runs)) block.thread) Among
    (λ block has. Contains-append_right (k ∷ []) (range_with_len (k + 1) (length runs)) block.thread has) rest (of_threads setup (k + 1) runs)))

-- the events of a thread are those of its blocks
abbrev all_events : List Block → List Event
all_events blocks = flat_map (λ (block : Block). block.events) blocks

events_in_blocks : (thread : ℕ) (blocks : List Block)
    → events_of_thread thread blocks ≡ all_events (filter (is_of thread) blocks)
events_in_blocks thread [] = refl
events_in_blocks thread (block ∷ blocks) = by_test (eqb block.thread thread) refl (events_in_blocks thread blocks)
  where
    by_test : (b : Bool) → eqb block.thread thread ≡ b → events_of_thread thread blocks ≡ all_events (filter (is_of thread) blocks)
        → events_of_thread thread (block ∷ blocks) ≡ all_events (filter (is_of thread) (block ∷ blocks))
    by_test true is rest =
        rw is (ap (λ (es : List Event). block.events ++ es) rest ∙ sym (flat_map-cons (λ (b : Block). b.events) block (filter (is_of thread) blocks)))
    by_test false is rest = rw is rest

-- if no segment is lost, no thread has lost one
none_of : (runs : List ThreadRun) → recycled_of runs ≡ 0 → (i : ℕ) (run : ThreadRun) → slice_get runs i ≡ Some run → run.lost ≡ 0
none_of [] none i run found = absurd (no_run i run found)
  where
    no_run : (i : ℕ) (run : ThreadRun) → slice_get [] i ≡ Some run → ⊥
    no_run zero run e = cc
    no_run (suc i) run e = cc
none_of (first ∷ runs) none zero run found =
    let same : first ≡ run = some_alike first run found in
    let sum = sum_by-cons (λ (r : ThreadRun). r.lost) first runs in
    let own : first.lost ≡ 0 = omega (arith, sum, none) in
    ap (λ (r : ThreadRun). r.lost) (sym same) ∙ own
  where
    some_alike : (a b : ThreadRun) → ◌≡◌ {A = Option ThreadRun} (Some a) (Some b) → a ≡ b
    some_alike a b e = cc
none_of (first ∷ runs) none (suc i) run found =
    let sum = sum_by-cons (λ (r : ThreadRun). r.lost) first runs in
    none_of runs (omega (arith, sum, none)) i run found

-- the events of the threads of a trace, from a number on, are those of runs
threads_events : (blocks : List Block) (k : ℕ) (runs : List ThreadRun)
    → ((i : ℕ) (run : ThreadRun) → slice_get runs i ≡ Some run → events_of_thread (k + i) blocks ≡ events_of run)
    → map (λ (thread : ℕ). events_of_thread thread blocks) (range_with_len k (length runs)) ≡ map events_of runs
threads_events blocks k [] each = refl
threads_events blocks k (run ∷ runs) each =
    let here : k + zero ≡ k = omega arith in
    let first : events_of_thread k blocks ≡ events_of run =
    subst (λ (n : ℕ). events_of_thread n blocks ≡ events_of run) here (each zero run refl) in
    ap (λ (e : List Event). e ∷ map (λ (thread : ℕ). events_of_thread thread blocks) (range_with_len (k + 1) (length runs))) first
    ∙ ap (λ (es : List (List Event)). events_of run ∷ es)
    (threads_events blocks (k + 1) runs (λ i r found.
    let there : k + suc i ≡ k + 1 + i = omega arith in
    subst (λ (n : ℕ). events_of_thread n blocks ≡ events_of r) there (each (suc i) r found)))

-- ---- stacks

-- what the crates below say
abbrev pub StacksOfThreads : Type 0
StacksOfThreads = (blocks : List Block) (threads : List ℕ) → AreThreadsOf blocks threads
    → stack_of blocks ≡ stack_of_threads (map (λ thread. events_of_thread thread blocks) threads)

module _ (one : OneEnd) (of_blocks : StacksOfThreads) where
  -- a whole trace has the stacks of its runs
  stacks_of_run : (setup : Setup) (runs : List ThreadRun) → recycled_of runs ≡ 0 → (reported : IsReported setup runs)
      → stack_of reported.traced.trace.blocks ≡ stack_of_threads (map events_of runs)
  stacks_of_run setup runs none reported =
      let traced = reported.traced in
      let blocks : List Block = traced.trace.blocks in
      let numbers : List ℕ = range_with_len 1 (length runs) in
      let threads : AreThreadsOf blocks numbers = record {
        once = range_distinct 1 (length runs);
        all = subst (All (λ (block : Block). Contains numbers block.thread)) (sym traced.order) (of_threads setup 1 runs);
      } in
      let each : (i : ℕ) (run : ThreadRun) → slice_get runs i ≡ Some run → events_of_thread (1 + i) blocks ≡ events_of run =
      (λ i run found.
      let flipped : i + 1 ≡ 1 + i = omega arith in
      subst (λ (n : ℕ). events_of_thread n blocks ≡ events_of run) flipped
      (events_in_blocks (i + 1) blocks ∙ traced.whole i run found (none_of runs none i run found))) in
      of_blocks blocks numbers threads ∙ ap stack_of_threads (threads_events blocks 1 runs each)

  module _ (program : Program) (setup : Setup) (runs : List ThreadRun) (trace : Trace) (options : ProfileOptions) (profiled : List ThreadRun)
      (reported : IsReported setup runs) (make : MakeMarksOf program setup runs trace options profiled) where
    same : AreAlike 1 profiled runs
    same =
        let flipped : (i : ℕ) → i + 1 ≡ 1 + i = (λ i. omega arith) in
        alike one make.image program setup.limits 1 profiled runs make.accepted
        (λ i run found.
        subst (λ (n : ℕ). PlainRun program setup.limits n run.passed run.end run.last) (flipped i)
        (subst (λ (l : Limits). PlainRun program l (i + 1) run.passed run.end run.last) make.limits (make.were_profiled.plain i run found)))
        (λ i run found. subst (λ (n : ℕ). PlainRun program setup.limits n run.passed run.end run.last) (flipped i) (make.run.plain i run found))
        make.marks

    pub same_rows : stack_of_threads (map events_of profiled) ≡ stack_of trace.blocks
    same_rows =
        let read : reported.traced.trace ≡ trace = same_trace _ _ (sym reported.reads_back ∙ make.reads) in
        ap stack_of_threads same.events ∙ sym (stacks_of_run setup runs make.none_lost reported) ∙ ap (λ (t : Trace). stack_of t.blocks) read
      where
        same_trace : (a b : Trace) → (let x : Result Trace TraceFault = Ok a in let y : Result Trace TraceFault = Ok b in x ≡ y) → a ≡ b
        same_trace a b e = cc

    pub same_printed : trouble_of 1 (map (state_after options.nodes) (map events_of profiled)) ≡ None
        → profile_of options program profiled
        ≡ Done [] (states_before options.format (state_texts 1 runs) ++ rows_text options.format 0 (program_names program) (stack_of trace.blocks))
    same_printed none =
        let ended : Option (List ℕ) → Outcome = λ trouble.
        ended_by [] (printed_of trouble options.format program (state_texts 1 profiled) (map events_of profiled)) trouble in
        let shown : List ℕ → List PathRow → Outcome = λ states rows.
        Done [] (states_before options.format states ++ rows_text options.format 0 (program_names program) rows) in
        ap ended none ∙ ap (λ (states : List ℕ). shown states (stack_of_threads (map events_of profiled))) same.states
        ∙ ap (λ (rows : List PathRow). shown (state_texts 1 runs) rows) same_rows
