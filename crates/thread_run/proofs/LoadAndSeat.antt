-- What one load makes of a thread and its seat.
use Rattle.std.proofs.Common.{◌≡◌, ◌≢◌, ℕ, ◌+◌, ◌<◌, ◌≤◌, List, [], ◌∷◌, ◌++◌, Bool, true, false, ◌==◌, Option, Some, refl, sym, subst, ap, ◌∙◌, arith, length, eq-eqb}
use Rattle.std.specs.Prelude.{◌&&◌, ◌||◌, All, Err, IfOk, Ok, Result}
use Rattle.std.proofs.lemmas.Bool.{eqb-true}
use Rattle.std.proofs.lemmas.List.{length-map}
use Rattle.std.proofs.lemmas.List.Elements.{All-nil, All-push}
use mathlib.Core.List.{map-append}
use Rattle.xray_io.specs.declared.faults.NoMemory.{NoMemory}
use Rattle.xray_image.specs.Program.{IsAccepted, Program}
use Rattle.sled_words.specs.Allowed.{IsAllowed}
use Rattle.sled_words.specs.Words.{IsCodeWord, release_word}
use Rattle.patch_script.specs.declared.command.PatchCommand.{PatchCommand}
use Rattle.patch_script.specs.Bounds.{bound_of}
use Rattle.patch_script.specs.CodeAt.{code_at}
use Rattle.patch_script.specs.Micros.{hold_of, start_of, total_of}
use Rattle.patch_script.specs.Plans.{Plan}
use Rattle.patch_script.specs.Refusals.{commands_of}
use Rattle.patch_script.proofs.AllowedCode.{keeps_sleds}
use Rattle.patch_script.proofs.PassingBounds.{bound_within}
use Rattle.fdr_record.specs.declared.event.Event.{Event}
use Rattle.machine_step.specs.declared.want.Want.{Want}
use Rattle.machine_step.specs.declared.want.Want.TheVariants.{Load as Loads}
use Rattle.machine_step.specs.Ended.{EndsAsPlain}
use Rattle.machine_step.proofs.LoadByLoad.{later, loaded, none}
use Rattle.machine_step.specs.Loads.{Load, marks_of, next_load}
use Rattle.machine_step.specs.declared.end.End.{End}
use Rattle.machine_step.specs.declared.limits.Limits.{Limits}
use Rattle.machine_step.specs.PlainStep.{Passing, PlainRun, State}
use Rattle.machine_step.specs.Traced.{HasLoaded, IsFresh, IsKept, IsSameThread, IsThreadOf, IsWant, Traced, load_of, sleds_passed, wanted_after}
use Rattle.machine_step.proofs.AllowedLoads.{next_allowed}
use Rattle.machine_step.proofs.WantedWords.{release_wanted}
use Rattle.sled_rule.specs.declared.seats.WorkSeat.{WorkSeat}
use Rattle.sled_rule.specs.declared.views.Load.{Load as SeatLoad}
use Rattle.sled_rule.specs.declared.views.PatchView.{PatchView}
use Rattle.sled_rule.specs.declared.views.WorkView.{WorkView}
use Rattle.sled_rule.specs.Plans.{IsCodeIn, bound_in, code_in, start_in}
use Rattle.sled_rule.specs.Seats.{work_view, script_of, IsWorkerOf}
use Rattle.sled_rule.specs.Steps.{IsFetched}
use Rattle.sled_rule.specs.Views.{counting, loading, next_work}
use Rattle.traced_run.specs.Following.{HasFollowed, LoadsFollow, MarksFollowScript}
use Rattle.thread_run.specs.Following.{given, is_held_by}
use Rattle.thread_run.specs.Workers.{IsAlong, IsAtWork, IsFreshIn, IsFreshThread, IsThreadIn, cpu_of, seat_of, table_of}
use Rattle.thread_run.specs.declared.worker.Worker.{Worker}

-- ---- a script's plan

code_is : (plan : Plan) (place word : ℕ) → code_in plan place word ≡ code_at plan.program plan.threads (commands_of plan.lines) place word
unfolding code_in
code_is plan place word = refl

bound_is : (plan : Plan) (thread passing : ℕ) → bound_in plan thread passing ≡ bound_of plan.program plan.threads (commands_of plan.lines) thread passing
unfolding bound_in
bound_is plan thread passing = refl

-- a word that a thread may load is one that may be fetched
pub word_there : (plan : Plan) (t : Traced) (word : ℕ) → IsThreadIn plan t → IsCodeWord t.program t.threads word → IsCodeIn plan word
word_there plan t word is low =
    subst (λ (n : ℕ). IsCodeWord plan.program n word) is.threads (subst (λ (q : Program). IsCodeWord q t.threads word) is.program low)

-- ---- the fetched value

-- what a seat found, for a thread whose passings it counts
pub record IsFound (plan : Plan) (t : Traced) (seen word value place : ℕ) : Type 0 where
  pub from : seen ≤ place
  pub bound : place ≤ bound_of plan.program plan.threads (commands_of plan.lines) t.thread (length t.marks)
  pub here : code_at plan.program plan.threads (commands_of plan.lines) place word ≡ value

pub is_found : (plan : Plan) (t : Traced) (v new : WorkView) (word value : ℕ) → v.script ≡ plan → v.thread ≡ t.thread → v.count ≡ length t.marks
    → (fetched : IsFetched v word value new) → IsFound plan t v.seen word value fetched.place
is_found plan t v new word value script thread count fetched = record {
  from = fetched.from;
  bound =
      let place : ℕ = fetched.place in
      let there : place ≤ bound_in plan v.thread v.count = subst (λ (p : Plan). place ≤ bound_in p v.thread v.count) script fetched.bound in
      subst (λ (n : ℕ). place ≤ n) (bound_is plan t.thread (length t.marks))
      (subst (λ (n : ℕ). place ≤ bound_in plan t.thread n) count (subst (λ (n : ℕ). place ≤ bound_in plan n v.count) thread there));
  here = sym (code_is plan fetched.place word) ∙ ap (λ (p : Plan). code_in p fetched.place word) (sym script) ∙ fetched.here;
}

-- no place that is found is after the script's end
pub found_within : (plan : Plan) (t : Traced) (seen word value place : ℕ) → IsFound plan t seen word value place
    → place ≤ total_of plan.program plan.threads (commands_of plan.lines)
found_within plan t seen word value place found =
    omega (arith, found.bound, bound_within plan.program plan.threads (commands_of plan.lines) t.thread (length t.marks))

-- ---- loads

next_alike : (program program' : Program) (threads threads' thread : ℕ) (hold hold' : Option ℕ) (sleds : List ℕ) (loads : List Load)
    → program ≡ program' → threads ≡ threads' → hold ≡ hold'
    → next_load program threads thread hold sleds loads ≡ next_load program' threads' thread hold' sleds loads
next_alike program program' threads threads' thread hold hold' sleds loads a n b =
    ap (λ (x : Program). next_load x threads thread hold sleds loads) a
    ∙ ap (λ (x : ℕ). next_load program' x thread hold sleds loads) n
    ∙ ap (λ (x : Option ℕ). next_load program' threads' thread x sleds loads) b

same_marks : (program program' : Program) (threads threads' thread : ℕ) (hold hold' : Option ℕ) (sleds : List ℕ) (loads : List Load)
    → program ≡ program' → threads ≡ threads' → hold ≡ hold'
    → marks_of program threads thread hold sleds loads ≡ marks_of program' threads' thread hold' sleds loads
same_marks program program' threads threads' thread hold hold' sleds loads a n b =
    ap (λ (x : Program). marks_of x threads thread hold sleds loads) a
    ∙ ap (λ (x : ℕ). marks_of program' x thread hold sleds loads) n
    ∙ ap (λ (x : Option ℕ). marks_of program' threads' thread x sleds loads) b

pub next_is : (t : Traced) (passed : List Passing) (loads : List Load) (word : ℕ) → HasLoaded t passed loads → t.want ≡ Loads word
    → next_load t.program t.threads t.thread t.hold (sleds_passed passed) loads ≡ Some word
next_is t passed loads word has wants =
    subst (IsWant t passed (wanted_after t passed loads) has.end) wants has.wants

module _ (plan : Plan) where
  abbrev Script : List PatchCommand
  Script = commands_of plan.lines

  abbrev Along : Traced → List Passing → ℕ → List Load → Type 0
  Along t passed seen loads = HasFollowed plan.program plan.threads Script t passed seen loads

  next_in : (t : Traced) (passed : List Passing) (loads : List Load) (word : ℕ) → IsThreadIn plan t → HasLoaded t passed loads → t.want ≡ Loads word
      → next_load plan.program plan.threads t.thread (hold_of t.thread Script) (sleds_passed passed) loads ≡ Some word
  next_in t passed loads word is has wants =
      sym (next_alike t.program plan.program t.threads plan.threads t.thread t.hold (hold_of t.thread Script) (sleds_passed passed) loads is.program is.threads is.hold)
      ∙ next_is t passed loads word has wants

  -- the script has gone on
  up_to : (t : Traced) (passed : List Passing) (seen place : ℕ) (loads : List Load) → seen ≤ place → Along t passed seen loads
      → LoadsFollow plan.program plan.threads Script t.thread (sleds_passed passed) loads place
  up_to t passed seen place loads le along = later loads seen place le along.follow

  -- the value may be given to the thread
  pub value_allowed : (t : Traced) (passed : List Passing) (seen place : ℕ) (loads : List Load) (word value : ℕ) → IsThreadIn plan t
      → Along t passed seen loads → t.want ≡ Loads word → IsFound plan t seen word value place → IsAllowed t.program t.threads t.thread word value
  value_allowed t passed seen place loads word value is along wants found =
      let here : IsAllowed plan.program plan.threads t.thread word (code_at plan.program plan.threads Script place word) =
      next_allowed plan.program plan.threads (code_at plan.program plan.threads Script) (start_of plan.program plan.threads Script)
      (bound_of plan.program plan.threads Script t.thread) t.thread (keeps_sleds plan.program plan.threads Script t.thread) (hold_of t.thread Script) (sleds_passed passed) loads place word
      (up_to t passed seen place loads found.from along) (next_in t passed loads word is along.loaded wants) in
      subst (λ (q : Program). IsAllowed q t.threads t.thread word value) (sym is.program)
      (subst (λ (n : ℕ). IsAllowed plan.program n t.thread word value) (sym is.threads)
      (subst (λ (v : ℕ). IsAllowed plan.program plan.threads t.thread word v) found.here here))

  -- the loads, with the one that was made
  more : (t t' : Traced) (passed : List Passing) (seen place : ℕ) (loads : List Load) (word value : ℕ) → IsThreadIn plan t
      → Along t passed seen loads → t.want ≡ Loads word → IsFound plan t seen word value place → t'.thread ≡ t.thread
      → HasLoaded t' passed (loads ++ record { word = word; value = value } ∷ [])
      → Along t' passed place (loads ++ record { word = word; value = value } ∷ [])
  more t t' passed seen place loads word value is along wants found same has =
      let Follow : ℕ → ℕ → Type 0 = λ thread v. LoadsFollow plan.program plan.threads Script thread (sleds_passed passed) (loads ++ record { word = word; value = v } ∷ []) place in
      let count : length t.marks ≡ length (marks_of plan.program plan.threads t.thread (hold_of t.thread Script) (sleds_passed passed) loads) =
      ap length along.loaded.marks
      ∙ ap length (same_marks t.program plan.program t.threads plan.threads t.thread t.hold (hold_of t.thread Script) (sleds_passed passed) loads is.program is.threads is.hold) in
      let within : place ≤ bound_of plan.program plan.threads Script t.thread (length (marks_of plan.program plan.threads t.thread (hold_of t.thread Script) (sleds_passed passed) loads)) =
      subst (λ (n : ℕ). place ≤ bound_of plan.program plan.threads Script t.thread n) count found.bound in
      let one : Follow t.thread (code_at plan.program plan.threads Script place word) =
      loaded loads place word (up_to t passed seen place loads found.from along) (next_in t passed loads word is along.loaded wants) within in
      record { loaded = has; follow = subst (λ (n : ℕ). Follow n value) (sym same) (subst (Follow t.thread) found.here one) }

  -- the same loads, at a later place
  still : (t t' : Traced) (passed : List Passing) (seen place : ℕ) (loads : List Load) → Along t passed seen loads → seen ≤ place
      → t'.thread ≡ t.thread → HasLoaded t' passed loads → Along t' passed place loads
  still t t' passed seen place loads along le same has = record {
    loaded = has;
    follow = subst (λ (n : ℕ). LoadsFollow plan.program plan.threads Script n (sleds_passed passed) loads place) (sym same) (up_to t passed seen place loads le along);
  }

-- ---- a load that holds the thread

both_true : (a b : Bool) → ((a && b) || false) ≡ true → (a ≡ true) × (b ≡ true)
both_true true true e = (refl, refl)
both_true true false e = absurd cc
both_true false b e = absurd cc

not_both : (a b : Bool) → ((a && b) || false) ≡ false → a ≡ true → b ≡ true → ⊥
not_both true true e p q = cc
not_both true false e p q = cc
not_both false b e p q = cc

-- it is of the release word, which is 0
pub holds : (program : Program) (thread : ℕ) (load : SeatLoad) → is_held_by program thread (load ∷ []) ≡ true
    → (load.word ≡ release_word program thread) × (load.value ≡ 0)
holds program thread load e =
    let both = both_true (load.word == release_word program thread) (load.value == 0) e in
    (eqb-true _ _ both.0, eqb-true _ _ both.1)

pub lets_on : (program : Program) (thread : ℕ) (load : SeatLoad) → is_held_by program thread (load ∷ []) ≡ false
    → load.word ≡ release_word program thread → load.value ≡ 0 → ⊥
lets_on program thread load e word value =
    not_both (load.word == release_word program thread) (load.value == 0) e (eq-eqb _ _ word) (eq-eqb _ _ value)

-- so it changes nothing
pub is_kept : (plan : Plan) (t : Traced) (passed : List Passing) (loads : List Load) (load : SeatLoad) → IsThreadIn plan t → HasLoaded t passed loads
    → t.want ≡ Loads load.word → is_held_by t.program t.thread (load ∷ []) ≡ true → IsKept t load.value
is_kept plan t passed loads load is has wants held =
    let one = holds t.program t.thread load held in
    let next : next_load t.program t.threads t.thread t.hold (sleds_passed passed) loads ≡ Some (release_word t.program t.thread) =
    next_is t passed loads load.word has wants ∙ ap Some one.0 in
    record {
      held =
          release_wanted t.program t.limits t.thread t.hold passed loads has.end has.last has.run t.threads is.first is.last next
          ∙ ap (λ marks. Some (length marks)) (sym has.marks);
      word = wants ∙ ap Loads one.0;
      unset = one.1;
    }

load_alike : (a b : ℕ) → ◌≡◌ {A = Want} (Loads a) (Loads b) → a ≡ b
load_alike a b e = cc

pub not_kept : (t : Traced) (load : SeatLoad) → t.want ≡ Loads load.word → is_held_by t.program t.thread (load ∷ []) ≡ false → IsKept t load.value → ⊥
not_kept t load wants on kept =
    lets_on t.program t.thread load on (load_alike load.word (release_word t.program t.thread) (sym wants ∙ kept.word)) kept.unset

-- ---- all loads, and those that didn't hold it

abbrev pub Gives : Traced → ℕ → Traced → Type 0
Gives t value t' = (passed : List Passing) (loads : List Load) → HasLoaded t passed loads → HasLoaded t' passed (loads ++ load_of t.want value)

gives_one : (t t' : Traced) (passed : List Passing) (loads : List Load) (word value : ℕ) → t.want ≡ Loads word → Gives t value t' → HasLoaded t passed loads
    → HasLoaded t' passed (loads ++ record { word = word; value = value } ∷ [])
gives_one t t' passed loads word value wants gives has =
    subst (λ (w : Want). HasLoaded t' passed (loads ++ load_of w value)) wants (gives passed loads has)

given_more : (loads : List SeatLoad) (load : SeatLoad) → given (loads ++ load ∷ []) ≡ given loads ++ record { word = load.word; value = load.value } ∷ []
given_more loads load = map-append (λ load. record { word = load.word; value = load.value }) loads (load ∷ [])

-- the load that a seat made
abbrev pub the_load : WorkView → ℕ → ℕ → ℕ → SeatLoad
the_load v word value place = record { count = v.count; word = word; value = value; place = place }

along_loading : (plan : Plan) (t t' : Traced) (v : WorkView) (passed : List Passing) (word value place : ℕ) → IsThreadIn plan t
    → IsAlong plan t v passed → t.want ≡ Loads word → IsFound plan t v.seen word value place → t'.thread ≡ t.thread → Gives t value t'
    → (IsKept t value → t' ≡ t) → IsAlong plan t' (loading v word value place) passed
along_loading plan t t' v passed word value place is along wants found same gives kept =
    by_held (is_held_by t.program t.thread (load ∷ [])) refl
  where
    load : SeatLoad
    load = the_load v word value place

    every : HasFollowed plan.program plan.threads (commands_of plan.lines) t' passed place (given (v.loads ++ load ∷ []))
    every =
        subst (HasFollowed plan.program plan.threads (commands_of plan.lines) t' passed place) (sym (given_more v.loads load))
        (more plan t t' passed v.seen place (given v.loads) word value is along.all wants found same
        (gives_one t t' passed (given v.loads) word value wants gives along.all.loaded))

    release : ℕ → ℕ
    release thread = release_word plan.program thread

    Released : ℕ → Load → Type 0
    Released thread l = l.word ≡ release thread → l.value ≢ 0

    by_held : (held : Bool) → is_held_by t.program t.thread (load ∷ []) ≡ held → IsAlong plan t' (loading v word value place) passed
    by_held true held =
        let unmoved : t' ≡ t = kept (is_kept plan t passed (given v.loads) load is along.all.loaded wants held) in
        record {
          all = every;
          made = along.made;
          free = still plan t t' passed v.seen place along.made along.free found.from same
              (subst (λ (u : Traced). HasLoaded u passed along.made) (sym unmoved) along.free.loaded);
          released = subst (λ (n : ℕ). All (Released n) along.made) (sym same) along.released;
        }
    by_held false on =
        let one : Load = record { word = word; value = value } in
        let goes : Released t.thread one =
        λ is_release zero. lets_on t.program t.thread load on (is_release ∙ ap (λ (q : Program). release_word q t.thread) (sym is.program)) zero in
        record {
          all = every;
          made = along.made ++ one ∷ [];
          free = more plan t t' passed v.seen place along.made word value is along.free wants found same
              (gives_one t t' passed along.made word value wants gives along.free.loaded);
          released = subst (λ (n : ℕ). All (Released n) (along.made ++ one ∷ [])) (sym same)
              (All-push (Released t.thread) along.made one along.released goes);
        }

pub along_more : (plan : Plan) (t t' : Traced) (v v' : WorkView) (passed : List Passing) (word value place : ℕ) → IsThreadIn plan t
    → IsAlong plan t v passed → t.want ≡ Loads word → IsFound plan t v.seen word value place → t'.thread ≡ t.thread → Gives t value t'
    → (IsKept t value → t' ≡ t) → v' ≡ loading v word value place → IsAlong plan t' v' passed
along_more plan t t' v v' passed word value place is along wants found same gives kept view =
    subst (λ (x : WorkView). IsAlong plan t' x passed) (sym view)
    (along_loading plan t t' v passed word value place is along wants found same gives kept)

-- ---- what stays

pub same_in : (plan : Plan) (t t' : Traced) → IsThreadIn plan t → IsSameThread t t' → IsThreadIn plan t'
same_in plan t t' is same = record {
  program = same.program ∙ is.program;
  threads = same.threads ∙ is.threads;
  hold = same.hold ∙ is.hold ∙ ap (λ (n : ℕ). hold_of n (commands_of plan.lines)) (sym same.thread);
  first = subst (λ (n : ℕ). 0 < n) (sym same.thread) is.first;
  last = omega (arith, same.thread, same.threads, is.last);
  accepted = is.accepted;
}

-- the same loads, of a thread that has passed a gate
pub along_same : (plan : Plan) (t t' : Traced) (v : WorkView) (passed : List Passing) → t'.thread ≡ t.thread
    → ((loads : List Load) → HasLoaded t passed loads → HasLoaded t' passed loads) → IsAlong plan t v passed → IsAlong plan t' v passed
along_same plan t t' v passed same keeps along = record {
  all = still plan t t' passed v.seen v.seen (given v.loads) along.all (omega arith) same (keeps (given v.loads) along.all.loaded);
  made = along.made;
  free = still plan t t' passed v.seen v.seen along.made along.free (omega arith) same (keeps along.made along.free.loaded);
  released = subst (λ (n : ℕ). All (λ load. load.word ≡ release_word plan.program n → load.value ≢ 0) along.made) (sym same) along.released;
}

pub along_counting : (plan : Plan) (t : Traced) (v v' : WorkView) (passed : List Passing) (count : ℕ) → v' ≡ counting v count
    → IsAlong plan t v passed → IsAlong plan t v' passed
along_counting plan t v v' passed count view along =
    let same : IsAlong plan t (counting v count) passed = record { all = along.all; made = along.made; free = along.free; released = along.released } in
    subst (λ (x : WorkView). IsAlong plan t x passed) (sym view) same

-- a worker at work that has stored this count is at work
abbrev pub at_work_counted : {R : Type 0} (stands : R → List Event → Type 0) (worker : Worker R) (seat : WorkSeat) (count : ℕ) → IsAtWork stands worker
    → IsWorkerOf (table_of worker) seat → work_view seat ≡ counting (work_view (seat_of worker)) count → IsAtWork stands (record worker { seat = seat })
at_work_counted stands worker seat count at own view = let plan = script_of (table_of worker) in record {
  own = own;
  thread = at.thread;
  seat = ap (λ (x : WorkView). x.thread) view ∙ at.seat;
  within = subst (λ (x : WorkView). x.seen ≤ total_of plan.program plan.threads (commands_of plan.lines)) (sym view) at.within;
  passed = at.passed;
  along = along_counting plan (cpu_of worker) (work_view (seat_of worker)) _ at.passed count view at.along;
  recorded_are = at.recorded_are;
}

-- ---- the marks of a thread follow its script

-- those of a thread that has ended as its plain run does
pub marks_follow : (plan : Plan) (t : Traced) (v : WorkView) (passed : List Passing) (end : End) (last : State) (loads : List Load) → IsThreadIn plan t
    → IsAlong plan t v passed → v.seen ≤ total_of plan.program plan.threads (commands_of plan.lines) → EndsAsPlain t passed end last loads
    → MarksFollowScript plan.program plan.threads (commands_of plan.lines) t.thread (sleds_passed passed) t.marks
marks_follow plan t v passed end last loads is along within ends = record {
  loads = along.made;
  follow = later along.made v.seen (total_of plan.program plan.threads (commands_of plan.lines)) within along.free.follow;
  leave =
      along.free.loaded.marks
      ∙ same_marks t.program plan.program t.threads plan.threads t.thread t.hold (hold_of t.thread (commands_of plan.lines)) (sleds_passed passed) along.made
      is.program is.threads is.hold;
  released = along.released;
  each = ends.each ∙ sym (length-map passed (λ (p : Passing). p.sled));
}

-- ---- before the first load

pub fresh_along : (plan : Plan) (t : Traced) (v : WorkView) (is : IsFreshIn plan t v) → IsAlong plan t v is.fresh.passed
fresh_along plan t v is =
    let Script : List PatchCommand = commands_of plan.lines in
    let Has : ℕ → List Load → Type 0 = λ seen loads. HasFollowed plan.program plan.threads Script t is.fresh.passed seen loads in
    let first : Has (start_of plan.program plan.threads Script) [] = record { loaded = is.fresh.loaded; follow = none } in
    let here : Has v.seen [] = subst (λ (n : ℕ). Has n []) (sym is.seen) first in
    record {
      all = subst (λ (ls : List SeatLoad). Has v.seen (given ls)) (sym is.loads) here;
      made = [];
      free = here;
      released = All-nil _;
    }

start_is : (plan : Plan) → start_in plan ≡ start_of plan.program plan.threads (commands_of plan.lines)
unfolding start_in
start_is plan = refl

-- the seat of the next thread
pub fresh_in : (plan : Plan) (t : Traced) (p : PatchView) (v : WorkView) → p.script ≡ plan → IsFreshThread plan t → t.thread ≡ p.given + 1
    → v ≡ next_work p → IsFreshIn plan t v
fresh_in plan t p v script fresh next view = record {
  fresh = fresh;
  own = ap (λ (x : WorkView). x.thread) view ∙ sym next;
  seen = ap (λ (x : WorkView). x.seen) view ∙ ap start_in script ∙ start_is plan;
  count = ap (λ (x : WorkView). x.count) view;
  loads = ap (λ (x : WorkView). x.loads) view;
}

-- a new thread has no load yet
pub new_thread : (plan : Plan) (program : Program) (threads : ℕ) (hold : Option ℕ) (limits : Limits) (number : ℕ) (made : Result Traced NoMemory)
    → plan.program ≡ program → plan.threads ≡ threads → hold ≡ hold_of number (commands_of plan.lines)
    → (bytes : List ℕ) × IsAccepted bytes program → 0 < number → number ≤ threads
    → IfOk made (IsThreadOf program number threads hold limits)
    → IfOk made IsFresh
    → IfOk made (λ cpu. (passed : List Passing) (end : End) (last : State) → PlainRun program limits number passed end last → HasLoaded cpu passed [])
    → (passed : List Passing) × (end : End) × (last : State) × PlainRun program limits number passed end last
    → IfOk made (IsFreshThread plan)
new_thread plan program threads hold limits number (Err e) image count holds accepted some known thread fresh loads run = tt
new_thread plan program threads hold limits number (Ok t) image count holds accepted some known thread fresh loads (passed, end, last, run) = record {
  thread = record {
    program = thread.program_is ∙ sym image;
    threads = thread.threads_are ∙ sym count;
    hold = thread.hold_is ∙ holds ∙ ap (λ (n : ℕ). hold_of n (commands_of plan.lines)) (sym thread.thread_is);
    first = subst (λ (n : ℕ). 0 < n) (sym thread.thread_is) some;
    last = omega (arith, thread.thread_is, thread.threads_are, known);
    accepted = (accepted.0, subst (IsAccepted accepted.0) (sym image) accepted.1);
  };
  no_marks = fresh.no_marks;
  passed = passed;
  loaded = loads passed end last run;
}
