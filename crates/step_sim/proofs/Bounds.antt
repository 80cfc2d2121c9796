-- The beginning and the end of a replay.
use Rattle.std.proofs.Common.{◌≡◌, ℕ, zero, suc, ◌+◌, ◌-◌, ◌*◌, ◌<◌, List, [], ◌∷◌, ◌++◌, Option, Some, None, refl, sym, subst, ap, ◌∙◌, arith, length, length-append, get_or, inl, inr, map, vec_len}
use Rattle.std.specs.Prelude.{Err, IfOk, Ok, Result, replicate, slice_get, unwrap_or}
use Rattle.std.specs.List.{flat_map}
use Rattle.std.proofs.lemmas.Bool.{cases_lt}
use Rattle.std.proofs.lemmas.List.{get_or_append_left, get_or_push, length-map, length-replicate}
use Rattle.std.proofs.lemmas.Option.{get_or_from_slice_get, slice_get-get_or, slice_get_within}
use Rattle.xray_image.specs.Program.{Program, IsAccepted}
use Rattle.xray_image.specs.declared.sled.Sled.{Sled}
use Rattle.sled_words.specs.Parts.{all_sled_words, initial_words, sled_words}
use Rattle.sled_words.specs.Words.{word_count}
use Rattle.patch_script.specs.declared.command.PatchCommand.{PatchCommand}
use Rattle.patch_script.specs.declared.command.PatchCommand.TheVariants as commands
use Rattle.patch_script.specs.Micros.{hold_of, start_of}
use Rattle.patch_script.specs.Plans.{waiting_line}
use Rattle.patch_script.specs.Refusals.{Lines, commands_of}
use Rattle.machine_step.specs.declared.limits.Limits.{Limits}
use Rattle.machine_step.specs.declared.end.End.{End}
use Rattle.machine_step.specs.Loads.{Load, marks_of}
use Rattle.machine_step.specs.PlainStep.{Passing, PlainRun, State}
use Rattle.machine_step.specs.Traced.{HasLoaded, IsThreadOf, Traced, sleds_passed}
use Rattle.step_sim.specs.declared.patcher.Patcher.{Patcher}
use Rattle.step_sim.specs.Replay.{Cast, Moment, first_moment, of_thread}
use Rattle.step_sim.specs.Replayed.{cast_of}
use Rattle.step_sim.specs.private.Standing.{AllHaveBegun, AllStandAt, HasBegun, IsPatcherAt}
use Rattle.step_sim.proofs.ReplayAlong.{first_along, no_loads, of_thread_is}

-- ---- holds

pub some_is_not_none : (n : ℕ) → Some n ≡ None → ⊥
some_is_not_none n e = cc

-- a script at which nothing may wait holds no thread
pub no_holds : (lines : Lines) → waiting_line lines ≡ None → (number : ℕ) → hold_of number (commands_of lines) ≡ None
no_holds [] e number = refl
no_holds ((n, commands.Patch) ∷ rest) e number = no_holds rest e number
no_holds ((n, commands.Unpatch) ∷ rest) e number = no_holds rest e number
no_holds ((n, commands.PatchFunction id) ∷ rest) e number = no_holds rest e number
no_holds ((n, commands.UnpatchFunction id) ∷ rest) e number = no_holds rest e number
no_holds ((n, commands.SetHandler) ∷ rest) e number = no_holds rest e number
no_holds ((n, commands.RemoveHandler) ∷ rest) e number = no_holds rest e number
no_holds ((n, commands.SetArgHandler) ∷ rest) e number = no_holds rest e number
no_holds ((n, commands.RemoveArgHandler) ∷ rest) e number = no_holds rest e number
no_holds ((n, commands.Init) ∷ rest) e number = no_holds rest e number
no_holds ((n, commands.Finalize) ∷ rest) e number = no_holds rest e number
no_holds ((n, commands.Go) ∷ rest) e number = no_holds rest e number
no_holds ((n, commands.Hold thread passing) ∷ rest) e number = absurd (some_is_not_none n e)
no_holds ((n, commands.Release thread) ∷ rest) e number = absurd (some_is_not_none n e)
no_holds ((n, commands.Await thread count) ∷ rest) e number = absurd (some_is_not_none n e)

-- ---- the beginning

-- the passings of threads that have begun, as one list
pub record Gathered (ts : List Traced) : Type 0 where
  pub all : List (List Passing)
  pub count : length all ≡ length ts
  pub own : (i : ℕ) (t : Traced) → slice_get ts i ≡ Some t → HasLoaded t (unwrap_or (slice_get all i) []) []

pub some_alike : {X : Type 0} (a b : X) → ◌≡◌ {A = Option X} (Some a) (Some b) → a ≡ b
some_alike a b s = cc

pub nothing_there : {X : Type 0} (x : X) → ◌≡◌ {A = Option X} None (Some x) → ⊥
nothing_there x e = cc

pub gathered : (ts : List Traced) → ((i : ℕ) (t : Traced) → slice_get ts i ≡ Some t → (passed : List Passing) × HasLoaded t passed [])
    → Gathered ts
gathered [] own = record { all = []; count = refl; own = λ i t found. absurd (nothing_there t found) }
gathered (t ∷ ts) own =
    more t ts (own zero t refl) (gathered ts (λ i. own (suc i)))
  where
    more : (t : Traced) (ts : List Traced) → (passed : List Passing) × HasLoaded t passed [] → Gathered ts → Gathered (t ∷ ts)
    more t ts (passed, loaded) rest = record {
      all = passed ∷ rest.all;
      count = ap suc rest.count;
      own = by_place;
    }
      where
        by_place : (i : ℕ) (u : Traced) → slice_get (t ∷ ts) i ≡ Some u → HasLoaded u (unwrap_or (slice_get (passed ∷ rest.all) i) []) []
        by_place zero u found = subst (λ (x : Traced). HasLoaded x passed []) (some_alike t u found) loaded
        by_place (suc i) u found = rest.own i u found

-- the sleds of an item
pub item_sleds : (all : List (List Passing)) (i : ℕ)
    → unwrap_or (slice_get (map sleds_passed all) i) [] ≡ sleds_passed (unwrap_or (slice_get all i) [])
item_sleds [] i = refl
item_sleds (passed ∷ all) zero = refl
item_sleds (passed ∷ all) (suc i) = item_sleds all i

-- the item of a thread
pub item_of : {X : Type 0} (lists : List (List X)) (i number : ℕ) → number ≡ i + 1 → of_thread lists number ≡ unwrap_or (slice_get lists i) []
item_of lists i number e =
    let back : number - 1 ≡ i = omega (arith, e) in
    ap (λ (k : ℕ). unwrap_or (slice_get lists k) []) back

-- all threads and the patcher are at the first moment
pub begins : (program : Program) (script : List PatchCommand) (threads : ℕ) (limits : Limits) (p : Patcher) (ts : List Traced)
    → length ts ≡ threads → AllHaveBegun program script threads limits ts → ((number : ℕ) → hold_of number script ≡ None)
    → IsPatcherAt program threads script (start_of program threads script) p → vec_len p.words ≡ word_count program threads → (its : Gathered ts)
    → AllStandAt (cast_of program script (map sleds_passed its.all)) threads limits (first_moment (cast_of program script (map sleds_passed its.all))) p ts
begins program script threads limits p ts count begun free patcher words its =
    let passings : List (List ℕ) = map sleds_passed its.all in
    let cast : Cast = cast_of program script passings in
    let first : Moment = first_moment cast in
    let listed : length passings ≡ threads = length-map its.all sleds_passed ∙ its.count ∙ count in
    let room : length first.loads ≡ threads = length-map passings (λ (_ : List ℕ). let none : List Load = [] in none) ∙ listed in
    record {
      count = count;
      passings = listed;
      loads = room;
      along = first_along cast;
      patcher = subst (λ (n : ℕ). IsPatcherAt program n script (start_of program n script) p) (sym listed) patcher;
      words = omega (arith, words);
      thread = λ i t found. thread_of i t (begun i t found);
      no_hold = free;
      each = λ i t found.
          let is = (begun i t found).thread_is in
          record {
            program_is = is.program_is;
            threads_are = is.threads_are ∙ sym listed;
            first = omega (arith, is.thread_is);
            last = omega (arith, is.thread_is, is.threads_are, slice_get_within ts i t found, count);
            room = omega (arith, is.thread_is, slice_get_within ts i t found, count, room);
            no_hold = free t.thread;
            free = is.hold_is ∙ free (i + 1);
            passed = unwrap_or (slice_get its.all i) [];
            sleds = item_of passings i t.thread is.thread_is ∙ item_sleds its.all i;
            loaded = subst (HasLoaded t (unwrap_or (slice_get its.all i) []))
                (sym (of_thread_is first.loads t.thread ∙ no_loads passings (t.thread - 1))) (its.own i t found);
          };
    }
  where
    thread_of : (i : ℕ) (t : Traced) → HasBegun program script threads limits (i + 1) t → IsThreadOf program (i + 1) threads None limits t
    thread_of i t is = subst (λ (h : Option ℕ). IsThreadOf program (i + 1) threads h limits t) (free (i + 1)) is.thread_is

-- ---- the end

-- the law that a thread has one end
abbrev pub OneEnd : Type 0
OneEnd =
    (bytes : List ℕ) (program : Program) (limits : Limits) (thread : ℕ) (passed passed' : List Passing) (end end' : End) (last last' : State)
    → IsAccepted bytes program → PlainRun program limits thread passed end last → PlainRun program limits thread passed' end' last'
    → (passed ≡ passed') × (end ≡ end') × (last ≡ last')

pub run_alike : (program program' : Program) (limits limits' : Limits) (thread thread' : ℕ) (passed : List Passing) (end : End) (last : State)
    → program ≡ program' → limits ≡ limits' → thread ≡ thread' → PlainRun program limits thread passed end last
    → PlainRun program' limits' thread' passed end last
run_alike program program' limits limits' thread thread' passed end last a b c run =
    subst (λ (x : ℕ). PlainRun program' limits' x passed end last) c
    (subst (λ (x : Limits). PlainRun program' x thread passed end last) b
    (subst (λ (x : Program). PlainRun x limits thread passed end last) a run))

pub marks_alike : (program program' : Program) (threads threads' thread thread' : ℕ) (hold hold' : Option ℕ) (sleds sleds' : List ℕ) (loads loads' : List Load)
    → program ≡ program' → threads ≡ threads' → thread ≡ thread' → hold ≡ hold' → sleds ≡ sleds' → loads ≡ loads'
    → marks_of program threads thread hold sleds loads ≡ marks_of program' threads' thread' hold' sleds' loads'
marks_alike program program' threads threads' thread thread' hold hold' sleds sleds' loads loads' a n b c d e =
    ap (λ (x : Program). marks_of x threads thread hold sleds loads) a
    ∙ ap (λ (x : ℕ). marks_of program' x thread hold sleds loads) n
    ∙ ap (λ (x : ℕ). marks_of program' threads' x hold sleds loads) b
    ∙ ap (λ (x : Option ℕ). marks_of program' threads' thread' x sleds loads) c
    ∙ ap (λ (x : List ℕ). marks_of program' threads' thread' hold' x loads) d
    ∙ ap (λ (x : List Load). marks_of program' threads' thread' hold' sleds' x) e

-- ---- threads that begin, one after the other

pub none_begun : (program : Program) (script : List PatchCommand) (threads : ℕ) (limits : Limits) (ts : List Traced) → ts ≡ []
    → (length ts ≡ 0) × AllHaveBegun program script threads limits ts
none_begun program script threads limits ts e =
    subst (λ (us : List Traced). (length us ≡ 0) × AllHaveBegun program script threads limits us) (sym e)
    (refl, λ i t found. absurd (nothing_there t found))

pub one_begun : (program : Program) (script : List PatchCommand) (threads : ℕ) (limits : Limits) (n : ℕ) (ts us : List Traced) (t : Traced)
    → length ts ≡ n → AllHaveBegun program script threads limits ts → HasBegun program script threads limits (n + 1) t → us ≡ ts ++ t ∷ []
    → (length us ≡ n + 1) × AllHaveBegun program script threads limits us
one_begun program script threads limits n ts us t count begun one e =
    subst (λ (vs : List Traced). (length vs ≡ n + 1) × AllHaveBegun program script threads limits vs) (sym e)
    (omega (arith, length-append ts (t ∷ []), count), by_place)
  where
    by_place : AllHaveBegun program script threads limits (ts ++ t ∷ [])
    by_place i u found =
        let below : i < length (ts ++ t ∷ []) = slice_get_within (ts ++ t ∷ []) i u found in
        let is : get_or (ts ++ t ∷ []) i u ≡ u = get_or_from_slice_get (ts ++ t ∷ []) i u u found in
        elim (cases_lt i (length ts)) [
          | inl before ↦
              begun i u (slice_get-get_or ts i u before ∙ ap Some (sym (get_or_append_left ts (t ∷ []) u i before) ∙ is))
          | inr following ↦
              let last : i ≡ n = omega (arith, below, length-append ts (t ∷ []), count, following) in
              let same : t ≡ u = sym (get_or_push ts t u i (omega (arith, count, last))) ∙ is in
              subst (λ (x : Traced). HasBegun program script threads limits (i + 1) x) same
              (subst (λ (k : ℕ). HasBegun program script threads limits (k + 1) t) (sym last) one)
        ]

-- ---- how many words there are

length-sleds : (sleds : List Sled) → length (flat_map sled_words sleds) ≡ 4 * length sleds
length-sleds [] = refl
length-sleds (sled ∷ sleds) = omega (arith, length-append (sled_words sled) (flat_map sled_words sleds), length-sleds sleds)

pub length-initial_words : (program : Program) (threads : ℕ) → length (initial_words program threads) ≡ word_count program threads
length-initial_words program threads =
    let unset : ℕ = 0 in
    omega (arith, length-append (all_sled_words program) (replicate (3 + 2 * threads) unset), length-sleds program.sleds, length-replicate (3 + 2 * threads) unset)

-- ---- one thread that begins

pub begun_if : {E : Type 0} (program : Program) (script : List PatchCommand) (threads : ℕ) (limits : Limits) (number : ℕ) (hold : Option ℕ)
    (made : Result Traced E) → hold ≡ hold_of number script
    → (passed : List Passing) × (end : End) × (last : State) × PlainRun program limits number passed end last
    → IfOk made (IsThreadOf program number threads hold limits)
    → IfOk made (λ t. (passed : List Passing) (end : End) (last : State) → PlainRun program limits number passed end last → HasLoaded t passed [])
    → IfOk made (HasBegun program script threads limits number)
begun_if program script threads limits number hold (Ok t) is (passed, end, last, run) thread loads = record {
  thread_is = subst (λ (h : Option ℕ). IsThreadOf program number threads h limits t) is thread;
  passed = passed;
  loaded = loads passed end last run;
}
begun_if program script threads limits number hold (Err e) is some thread loads = tt
