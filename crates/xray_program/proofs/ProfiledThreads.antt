-- What threads leave that were profiled, and what comes of it.
use Rattle.std.proofs.Common.{◌≡◌, ◌<◌, ◌+◌, ◌++◌, ◌∙◌, ℕ, zero, suc, List, [], ◌∷◌, Option, Some, None, length, map, refl, sym, ap, arith, subst}
use Rattle.std.specs.Prelude.{◌≤◌, All, slice_get}
use Rattle.std.proofs.lemmas.List.{length-map}
use Rattle.std.proofs.lemmas.List.Elements.{All-cons, All-nil}
use Rattle.std.proofs.lemmas.Option.{get_or_from_slice_get, slice_get_within}
use Rattle.call_trie.specs.Merging.{AllStandFor}
use Rattle.call_trie.specs.Tries.{HasSameRoom, StandsFor, Trie, state_after}
use Rattle.call_trie.specs.declared.state.TrieState.{TrieState}
use Rattle.call_trie.specs.declared.state.TrieState.TheVariants.{Live, Full, Deep}
use Rattle.command_words.specs.Limits.{most_threads}
use Rattle.command_words.specs.Ranges.{AreProfileOptions}
use Rattle.command_words.specs.declared.profile_options.ProfileOptions.{ProfileOptions}
use Rattle.machine_step.specs.declared.limits.Limits.{Limits}
use Rattle.machine_step.specs.PlainStep.{PlainRun}
use Rattle.machine_step.specs.Traced.{Traced, sleds_passed}
use Rattle.patch_script.specs.Plans.{Plan}
use Rattle.patch_script.specs.Refusals.{commands_of}
use Rattle.sled_rule.specs.declared.views.WorkView.{WorkView}
use Rattle.stack_rebuild.specs.Stacks.{stack_of_threads}
use Rattle.thread_run.specs.Each.{HaveChanged}
use Rattle.thread_run.specs.Recorded.{HaveRecorded}
use Rattle.thread_run.proofs.EachItem.{there_is}
use Rattle.traced_run.specs.Following.{MarksFollowScript}
use Rattle.traced_run.specs.Runs.{ThreadRun, events_of}
use Rattle.xray_image.specs.Program.{IsAccepted, Program}
use Rattle.function_names.specs.Name.{program_names}
use Rattle.xray_program.specs.Outcomes.{Outcome, Done, Fell}
use Rattle.xray_program.specs.Profile.{AreProfiled, printed_of, profile_of, states_before, trouble_of}
use Rattle.xray_program.specs.private.CallLaws.{CallLaws}
use Rattle.xray_program.specs.private.Profiled.{HaveProfiled}
use Rattle.xray_program.specs.Setups.{limits_of}
use Rattle.xray_program.specs.Stack.{rows_text}
use Rattle.xray_program.specs.Taking.{ended_by}
use Rattle.xray_program.specs.Traced.{state_texts}
use Rattle.xray_program.proofs.LawfulRuns.{ran_beside}

-- ---- the recorders

-- each recorder stands for the events of its run
abbrev StandEach : List ThreadRun → List Trie → Type 0
StandEach runs tries = (i : ℕ) (run : ThreadRun) (trie : Trie) → slice_get runs i ≡ Some run → slice_get tries i ≡ Some trie → StandsFor trie (events_of run)

all_stand : (runs : List ThreadRun) (tries : List Trie) → length tries ≡ length runs → StandEach runs tries → AllStandFor tries (map events_of runs)
all_stand [] [] count each = tt
all_stand [] (trie ∷ tries) count each = absurd (omega (arith, count))
all_stand (run ∷ runs) [] count each = absurd (omega (arith, count))
all_stand (run ∷ runs) (trie ∷ tries) count each =
    (each zero run trie refl refl, all_stand runs tries (omega (arith, count)) (λ i r t found at. each (suc i) r t found at))

-- so it has the state that these events determine
states_are : (nodes : ℕ) (runs : List ThreadRun) (tries : List Trie) → length tries ≡ length runs → StandEach runs tries
    → ((i : ℕ) (trie : Trie) → slice_get tries i ≡ Some trie → trie.room ≡ nodes)
    → map (λ (trie : Trie). trie.state) tries ≡ map (state_after nodes) (map events_of runs)
states_are nodes [] [] count each room = refl
states_are nodes [] (trie ∷ tries) count each room = absurd (omega (arith, count))
states_are nodes (run ∷ runs) [] count each room = absurd (omega (arith, count))
states_are nodes (run ∷ runs) (trie ∷ tries) count each room =
    let first : trie.state ≡ state_after nodes (events_of run) =
    subst (λ (n : ℕ). trie.state ≡ state_after n (events_of run)) (room zero trie refl) (each zero run trie refl refl).state in
    ap (λ (s : TrieState). s ∷ map (λ (t : Trie). t.state) tries) first
    ∙ ap (λ (ss : List TrieState). state_after nodes (events_of run) ∷ ss)
    (states_are nodes runs tries (omega (arith, count)) (λ i r t found at. each (suc i) r t found at) (λ i t at. room (suc i) t at))

-- it has as many nodes as at first
same_rooms : (nodes : ℕ) (old new : List Trie) → HaveChanged HasSameRoom old new → All (λ (t : Trie). t.room ≡ nodes) old
    → (i : ℕ) (trie : Trie) → slice_get new i ≡ Some trie → trie.room ≡ nodes
same_rooms nodes old new followed rooms i trie found =
    let within : i < length old = omega (arith, slice_get_within new i trie found, followed.count) in
    let was = there_is old i within in
    let first = ap (λ (t : Trie). t.room) (sym (get_or_from_slice_get old i was.0 was.0 was.1)) ∙ rooms i was.0 within in
    (followed.each i was.0 trie was.1 found).room ∙ first

pub profiled : (options : ProfileOptions) (program : Program) (plan : Plan) (limits : Limits) (old : List Trie) (cpus : List Traced)
    (seats : List WorkView) (new : List Trie) → plan.program ≡ program → plan.threads ≡ options.bounds.threads
    → limits ≡ limits_of options.bounds options.stamps → length old ≡ options.bounds.threads → All (λ (t : Trie). t.room ≡ options.nodes) old
    → HaveRecorded StandsFor HasSameRoom plan limits old cpus seats new → HaveProfiled options program plan cpus new
profiled options program plan limits old cpus seats new same_program same_threads same_limits count rooms have =
    let threads : ℕ = options.bounds.threads in
    let news : length new ≡ length have.runs = have.followed.count ∙ sym have.count in
    record {
      runs = have.runs;
      threads = have.count ∙ count;
      plain = λ i run found.
          subst (λ (q : Program). PlainRun q (limits_of options.bounds options.stamps) (i + 1) run.passed run.end run.last) same_program
          (subst (λ (l : Limits). PlainRun plan.program l (i + 1) run.passed run.end run.last) same_limits (have.plain i run found));
      follow = λ i run found.
          subst (λ (q : Program). MarksFollowScript q threads (commands_of plan.lines) (i + 1) (sleds_passed run.passed) run.marks) same_program
          (subst (λ (n : ℕ). MarksFollowScript plan.program n (commands_of plan.lines) (i + 1) (sleds_passed run.passed) run.marks) same_threads
          (have.follow i run found));
      count = have.cpus_count;
      cpus_are = have.cpus_are;
      stand = all_stand have.runs new news have.recorded;
      states = states_are options.nodes have.runs new news have.recorded (same_rooms options.nodes old new have.followed rooms);
    }

-- they have run by the law of `run`
pub were_profiled : CallLaws → (image : List ℕ) (options : ProfileOptions) (program : Program) (plan : Plan) (cpus : List Traced) (tries : List Trie)
    → IsAccepted image program → (have : HaveProfiled options program plan cpus tries) → AreProfiled options program (commands_of plan.lines) have.runs
were_profiled laws image options program plan cpus tries accepted have =
    ran_beside laws image program (commands_of plan.lines) options.bounds.threads (limits_of options.bounds options.stamps) have.runs accepted have.threads
    have.plain have.follow

-- there are as many recorders as threads
pub recorders_few : (options : ProfileOptions) (program : Program) (plan : Plan) (cpus : List Traced) (tries : List Trie)
    → HaveProfiled options program plan cpus tries → AreProfileOptions options → length tries ≤ most_threads
recorders_few options program plan cpus tries have ranges =
    let threads = map events_of have.runs in
    let count = sym (length-map tries (λ (trie : Trie). trie.state)) ∙ ap length have.states ∙ length-map threads (state_after options.nodes)
    ∙ length-map have.runs events_of ∙ have.threads in
    omega (arith, count, ranges.bounds.threads.1)

-- ---- what went wrong

-- if nothing did, all recorders still take events
pub all_live : (thread : ℕ) (tries : List Trie) → trouble_of thread (map (λ (trie : Trie). trie.state) tries) ≡ None
    → All (λ (trie : Trie). trie.state ≡ Live) tries
all_live thread [] none = All-nil (λ (trie : Trie). trie.state ≡ Live)
all_live thread (trie ∷ tries) none = by_state trie.state refl (all_live (thread + 1) tries)
  where
    by_state : (state : TrieState) → trie.state ≡ state
        → (trouble_of (thread + 1) (map (λ (t : Trie). t.state) tries) ≡ None → All (λ (t : Trie). t.state ≡ Live) tries)
        → All (λ (t : Trie). t.state ≡ Live) (trie ∷ tries)
    by_state Live is later = All-cons (λ (t : Trie). t.state ≡ Live) trie tries is (later (rw is at none))
    by_state Full is later = absurd (let never = rw is at none in cc)
    by_state Deep is later = absurd (let never = rw is at none in cc)

-- ---- what comes of runs

module _ (options : ProfileOptions) (program : Program) (runs : List ThreadRun) where
  -- with this trouble
  abbrev ended_with : Option (List ℕ) → Outcome
  ended_with trouble = ended_by [] (printed_of trouble options.format program (state_texts 1 runs) (map events_of runs)) trouble

  abbrev trouble_is : Option (List ℕ) → Type 0
  trouble_is trouble = trouble ≡ trouble_of 1 (map (state_after options.nodes) (map events_of runs))

  pub profile_fell : (text trouble : List ℕ) → text ≡ state_texts 1 runs → trouble_is (Some trouble)
      → ended_by [] text (Some trouble) ≡ profile_of options program runs
  profile_fell text trouble is wrong =
      ap (λ (t : List ℕ). Fell [] t trouble) is ∙ ap ended_with wrong

  pub profile_done : (text : List ℕ)
      → text ≡ states_before options.format (state_texts 1 runs) ++ rows_text options.format 0 (program_names program) (stack_of_threads (map events_of runs))
      → trouble_is None → ended_by [] text None ≡ profile_of options program runs
  profile_done text is none = ap (λ (t : List ℕ). Done [] t) is ∙ ap ended_with none
