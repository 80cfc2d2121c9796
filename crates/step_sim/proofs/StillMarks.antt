-- The marks of a replay in which nothing waits follow its script.
use Rattle.std.proofs.Common.{◌≡◌, ◌≢◌, ℕ, ◌+◌, ◌<◌, ◌≤◌, List, [], ◌∷◌, ◌++◌, length, map, take, Option, Some, None, refl, sym, ap, subst, ◌∙◌, arith}
use Rattle.std.specs.Prelude.{All}
use Rattle.std.specs.List.{flat_map, position_or_len}
use Rattle.std.proofs.lemmas.List.{length-map}
use Rattle.std.proofs.lemmas.List.Elements.{All-append, All-cons, All-nil}
use Rattle.std.proofs.lemmas.Option.{slice_get_within}
use Rattle.xray_image.specs.Program.{Program}
use Rattle.sled_words.specs.Words.{release_word}
use Rattle.patch_script.specs.declared.command.PatchCommand.{PatchCommand}
use Rattle.patch_script.specs.declared.command.PatchCommand.TheVariants as commands
use Rattle.patch_script.specs.declared.micro.Micro.{Micro}
use Rattle.patch_script.specs.declared.micro.Micro.TheVariants.{Store, Await, End}
use Rattle.patch_script.specs.Bounds.{awaits_passing, bound_of}
use Rattle.patch_script.specs.CodeAt.{code_at}
use Rattle.patch_script.specs.Micros.{Numbered, all_sleds, hold_of, micros_after, numbers, patch_sled, patches, sleds_of, start_of, steps_of, total_of, unpatch_sled}
use Rattle.patch_script.specs.Plans.{waiting_line}
use Rattle.patch_script.specs.Refusals.{Lines, commands_of}
use Rattle.machine_step.specs.declared.end.End.{End as How}
use Rattle.machine_step.specs.declared.limits.Limits.{Limits}
use Rattle.machine_step.specs.declared.setup.Setup.{Setup}
use Rattle.machine_step.specs.Follows.{Follows}
use Rattle.machine_step.specs.Loads.{Load, marks_of}
use Rattle.machine_step.specs.PlainStep.{Passing, PlainRun, State}
use Rattle.machine_step.specs.Traced.{sleds_passed}
use Rattle.machine_step.proofs.LoadByLoad.{ByLoads, by_later, by_loaded, by_loads, by_none, later}
use Rattle.machine_step.proofs.WantedWords.{release_wanted}
use Rattle.traced_run.specs.Decoded.{DecodesWhole}
use Rattle.traced_run.specs.Following.{AllMarksFollow}
use Rattle.traced_run.specs.Runs.{ThreadRun}
use Rattle.step_sim.specs.declared.turns.Turns.{Turns}
use Rattle.step_sim.specs.Along.{IsAlong, NamesThread}
use Rattle.step_sim.specs.Plays.{Plays}
use Rattle.step_sim.specs.Replay.{Cast, first_moment, moment_rules, of_thread, thread_count}
use Rattle.step_sim.specs.Replayed.{IsReplayOf, cast_with, passed_of, pooling_with}
use Rattle.step_sim.proofs.Bounds.{no_holds, some_is_not_none}
use Rattle.step_sim.proofs.EndedRuns.{of_thread_at}
use Rattle.step_sim.proofs.PooledReplay.{last_moment}
use Rattle.step_sim.proofs.ReplayAlong.{replay_along}
use Rattle.step_sim.proofs.WholeRuns.{NoneTorn, NoneUnwanted, decodes_whole, sleds_at}

-- ---- a script without waits has only stores

abbrev AreStores : List Micro → Type 0
AreStores [] = Unit {0}
AreStores (Store word value ∷ steps) = AreStores steps
AreStores (Await thread count ∷ steps) = ⊥
AreStores (End ∷ steps) = ⊥

stores-append : (xs ys : List Micro) → AreStores xs → AreStores ys → AreStores (xs ++ ys)
stores-append [] ys are are' = are'
stores-append (Store word value ∷ xs) ys are are' = stores-append xs ys are are'
stores-append (Await thread count ∷ xs) ys are are' = absurd are
stores-append (End ∷ xs) ys are are' = absurd are

patches_store : (program : Program) (sleds : List Numbered) → AreStores (flat_map (patch_sled program) sleds)
patches_store program [] = tt
patches_store program ((k, sled) ∷ sleds) = patches_store program sleds

unpatches_store : (earlier : List ℕ) (sleds : List Numbered) → AreStores (map (unpatch_sled earlier) sleds)
unpatches_store earlier [] = tt
unpatches_store earlier ((k, sled) ∷ sleds) = unpatches_store earlier sleds

-- a command whose own steps are stores, before commands whose steps are
goes_on : (program : Program) (threads : ℕ) (earlier : List ℕ) (command : PatchCommand) (rest : List PatchCommand)
    → AreStores (steps_of program threads earlier command) → AreStores (micros_after program threads (earlier ++ numbers (patches program command)) rest)
    → AreStores (micros_after program threads earlier (command ∷ rest))
goes_on program threads earlier command rest here there =
    stores-append (steps_of program threads earlier command) (micros_after program threads (earlier ++ numbers (patches program command)) rest) here there

all_store : (program : Program) (threads : ℕ) (earlier : List ℕ) (lines : Lines) → waiting_line lines ≡ None
    → AreStores (micros_after program threads earlier (commands_of lines))
all_store program threads earlier [] e = tt
all_store program threads earlier ((n, commands.Patch) ∷ rest) e =
    goes_on program threads earlier commands.Patch (commands_of rest) (patches_store program (all_sleds program))
    (all_store program threads (earlier ++ numbers (patches program commands.Patch)) rest e)
all_store program threads earlier ((n, commands.Unpatch) ∷ rest) e =
    goes_on program threads earlier commands.Unpatch (commands_of rest) (unpatches_store earlier (all_sleds program))
    (all_store program threads (earlier ++ numbers (patches program commands.Unpatch)) rest e)
all_store program threads earlier ((n, commands.PatchFunction id) ∷ rest) e =
    goes_on program threads earlier (commands.PatchFunction id) (commands_of rest) (patches_store program (sleds_of program id))
    (all_store program threads (earlier ++ numbers (patches program (commands.PatchFunction id))) rest e)
all_store program threads earlier ((n, commands.UnpatchFunction id) ∷ rest) e =
    goes_on program threads earlier (commands.UnpatchFunction id) (commands_of rest) (unpatches_store earlier (sleds_of program id))
    (all_store program threads (earlier ++ numbers (patches program (commands.UnpatchFunction id))) rest e)
all_store program threads earlier ((n, commands.SetHandler) ∷ rest) e =
    goes_on program threads earlier commands.SetHandler (commands_of rest) tt
    (all_store program threads (earlier ++ numbers (patches program commands.SetHandler)) rest e)
all_store program threads earlier ((n, commands.RemoveHandler) ∷ rest) e =
    goes_on program threads earlier commands.RemoveHandler (commands_of rest) tt
    (all_store program threads (earlier ++ numbers (patches program commands.RemoveHandler)) rest e)
all_store program threads earlier ((n, commands.SetArgHandler) ∷ rest) e =
    goes_on program threads earlier commands.SetArgHandler (commands_of rest) tt
    (all_store program threads (earlier ++ numbers (patches program commands.SetArgHandler)) rest e)
all_store program threads earlier ((n, commands.RemoveArgHandler) ∷ rest) e =
    goes_on program threads earlier commands.RemoveArgHandler (commands_of rest) tt
    (all_store program threads (earlier ++ numbers (patches program commands.RemoveArgHandler)) rest e)
all_store program threads earlier ((n, commands.Init) ∷ rest) e =
    goes_on program threads earlier commands.Init (commands_of rest) tt
    (all_store program threads (earlier ++ numbers (patches program commands.Init)) rest e)
all_store program threads earlier ((n, commands.Finalize) ∷ rest) e =
    goes_on program threads earlier commands.Finalize (commands_of rest) tt
    (all_store program threads (earlier ++ numbers (patches program commands.Finalize)) rest e)
all_store program threads earlier ((n, commands.Go) ∷ rest) e =
    goes_on program threads earlier commands.Go (commands_of rest) tt
    (all_store program threads (earlier ++ numbers (patches program commands.Go)) rest e)
all_store program threads earlier ((n, commands.Hold thread passing) ∷ rest) e = absurd (some_is_not_none n e)
all_store program threads earlier ((n, commands.Release thread) ∷ rest) e = absurd (some_is_not_none n e)
all_store program threads earlier ((n, commands.Await thread count) ∷ rest) e = absurd (some_is_not_none n e)

-- so each bound is the end of the script
no_await : (thread passing : ℕ) (steps : List Micro) → AreStores steps → position_or_len (awaits_passing thread passing) steps ≡ length steps
no_await thread passing [] are = refl
no_await thread passing (Store word value ∷ steps) are = let rest = no_await thread passing steps are in omega (arith, rest)
no_await thread passing (Await awaited count ∷ steps) are = absurd are
no_await thread passing (End ∷ steps) are = absurd are

still_bound : (program : Program) (threads thread passing : ℕ) (lines : Lines) → waiting_line lines ≡ None
    → bound_of program threads (commands_of lines) thread passing ≡ total_of program threads (commands_of lines)
still_bound program threads thread passing lines still =
    no_await thread passing (micros_after program threads [] (commands_of lines)) (all_store program threads [] lines still)

-- ---- loads

-- the same loads follow with other bounds that aren't lower
higher : (program : Program) (threads : ℕ) (code : ℕ → ℕ → ℕ) (start : ℕ) (bound other : ℕ → ℕ) (thread : ℕ) (hold : Option ℕ) (sleds : List ℕ)
    → ((n : ℕ) → bound n ≤ other n) → (loads : List Load) (place : ℕ)
    → Follows program threads code start bound thread hold sleds loads place → Follows program threads code start other thread hold sleds loads place
higher program threads code start bound other thread hold sleds more loads place f = record {
  places = f.places;
  count = f.count;
  begun = f.begun;
  rise = f.rise;
  wanted = f.wanted;
  values = f.values;
  within = λ i at placed.
      let high = f.within i at placed in
      let up = more (length (marks_of program threads thread hold sleds (take i loads))) in omega (arith, high, up);
}

module _ (program : Program) (limits : Limits) (threads thread : ℕ) (some : 0 < thread) (within : thread ≤ threads) (passed : List Passing) (end : How) (last : State)
    (run : PlainRun program limits thread passed end last) where
  abbrev IsFree : Load → Type 0
  IsFree load = load.word ≡ release_word program thread → load.value ≢ 0

  -- a thread that nothing holds loads no release word
  free_made : (code : ℕ → ℕ → ℕ) (start : ℕ) (bound : ℕ → ℕ) (loads : List Load) (place : ℕ)
      → ByLoads program threads code start bound thread None (sleds_passed passed) loads place → All IsFree loads
  free_made code start bound loads place by_none = All-nil IsFree
  free_made code start bound loads place (by_later before early next low follow) = free_made code start bound before early follow
  free_made code start bound loads place (by_loaded before at word follow wants high) =
      let load : Load = record { word = word; value = code at word } in
      All-append IsFree before (load ∷ []) (free_made code start bound before at follow)
      (All-cons IsFree load [] (λ e. absurd (never (release_wanted program limits thread None passed before end last run threads some within (wants ∙ ap Some e)))) (All-nil IsFree))
    where
      never : {n : ℕ} → ◌≡◌ {A = Option ℕ} None (Some n) → ⊥
      never e = cc

  free : (code : ℕ → ℕ → ℕ) (start : ℕ) (bound : ℕ → ℕ) (loads : List Load) (place : ℕ)
      → Follows program threads code start bound thread None (sleds_passed passed) loads place → All IsFree loads
  free code start bound loads place follow = free_made code start bound loads place (by_loads follow)

-- ---- runs

pub marks_follow : NoneUnwanted → NoneTorn → (program : Program) (lines : Lines) (schedule : List Turns) (setup : Setup) (runs : List ThreadRun)
    → All NamesThread schedule → waiting_line lines ≡ None → IsReplayOf program (commands_of lines) schedule setup runs
    → AllMarksFollow program setup.threads (commands_of lines) runs
marks_follow wanted whole program lines schedule setup runs names still is j run found = record {
  loads = loads;
  follow = later loads place total low
      (higher program setup.threads code start (λ _. total) (bound_of program setup.threads script (j + 1)) (j + 1) (hold_of (j + 1) script) (sleds_passed run.passed)
      (λ n. let same = still_bound program setup.threads (j + 1) n lines still in omega (arith, same)) loads place follow);
  leave = decodes.marks;
  released = free program setup.limits setup.threads (j + 1) (omega arith) within run.passed run.end run.last (is.run.plain j run found)
      code start (λ _. total) loads place
      (subst (λ (h : Option ℕ). Follows program setup.threads code start (λ _. total) (j + 1) h (sleds_passed run.passed) loads place) (no_holds lines still (j + 1)) follow);
  each = decodes.each ∙ sym (length-map run.passed (λ (p : Passing). p.sled));
}
  where
    script : List PatchCommand
    script = commands_of lines

    cast : Cast
    cast = cast_with program script runs

    code : ℕ → ℕ → ℕ
    code = code_at program setup.threads script

    start : ℕ
    start = start_of program setup.threads script

    total : ℕ
    total = total_of program setup.threads script

    loads : List Load
    loads = of_thread is.last.moment.loads (j + 1)

    place : ℕ
    place = is.last.moment.place

    decodes : DecodesWhole program setup.threads (j + 1) (hold_of (j + 1) script) run loads
    decodes = decodes_whole wanted whole program script schedule setup runs names is j run found

    long : thread_count cast ≡ setup.threads
    long = length-map (passed_of runs) sleds_passed ∙ length-map runs (λ (r : ThreadRun). r.passed) ∙ is.run.count

    played : Plays (moment_rules cast) (length cast.passings) (first_moment cast) schedule is.last.moment
    played = last_moment cast (pooling_with program script setup runs) schedule is.last is.replay

    along : IsAlong cast is.last.moment
    along = replay_along cast schedule is.last.moment names played

    low : place ≤ total
    low = subst (λ (n : ℕ). place ≤ total_of program n script) long along.within

    sleds : of_thread cast.passings (j + 1) ≡ sleds_passed run.passed
    sleds =
        let number : j + 1 ≡ 1 + j = omega arith in
        ap (of_thread cast.passings) number ∙ of_thread_at cast.passings j (sleds_passed run.passed) (sleds_at runs j run found)

    follow : Follows program setup.threads code start (λ _. total) (j + 1) (hold_of (j + 1) script) (sleds_passed run.passed) loads place
    follow =
        subst (λ (n : ℕ). Follows program n (code_at program n script) (start_of program n script) (λ _. total_of program n script) (j + 1) (hold_of (j + 1) script)
        (sleds_passed run.passed) loads place) long
        (subst (λ (xs : List ℕ). Follows program (thread_count cast) (code_at program (thread_count cast) script) (start_of program (thread_count cast) script)
        (λ _. total_of program (thread_count cast) script) (j + 1) (hold_of (j + 1) script) xs loads place) sleds (along.along (j + 1) (omega arith)))

    within : j + 1 ≤ setup.threads
    within =
        let here = slice_get_within runs j run found in
        let count = is.run.count in omega (arith, here, count)
