-- One thread of a replay with buffers, from moment to moment.
use Rattle.std.proofs.Common.{◌≡◌, ◌≢◌, ℕ, zero, suc, ◌+◌, ◌-◌, ◌<◌, ◌≤◌, ◌^◌, List, ◌++◌, Option, Some, None, refl, sym, subst, ap, ◌∙◌, inl, inr, arith, length}
use Rattle.std.specs.Prelude.{All, IfSome, slice_get}
use Rattle.std.proofs.lemmas.Bool.{cases_eq}
use Rattle.std.proofs.lemmas.List.{append-nil}
use Rattle.fdr_record.specs.declared.event.Event.{Event}
use Rattle.fdr_record.specs.Recordable.{IsRecordable}
use Rattle.fdr_buffer.specs.Segments.{segments}
use Rattle.machine_step.specs.Events.{events_in, recorded}
use Rattle.patch_script.specs.Micros.{hold_of}
use Rattle.machine_step.specs.declared.end.End.{End}
use Rattle.machine_step.specs.Loads.{Load, marks_of}
use Rattle.machine_step.specs.PlainStep.{Passing, PlainRun, State}
use Rattle.machine_step.specs.Traced.{HasLoaded, IsKept, IsSameThread, Traced, sleds_passed}
use Rattle.traced_run.proofs.RecordedEvents.{event_recordable, recorded_short}
use Rattle.step_sim.specs.declared.patcher.Patcher.{Patcher}
use Rattle.step_sim.specs.declared.pool.Pool.{Pool}
use Rattle.step_sim.specs.Plays.{turns}
use Rattle.step_sim.specs.Replay.{Cast, Moment, of_thread, thread_count, thread_turn, wanted_by}
use Rattle.step_sim.specs.private.Standing.{IsThreadAt, Play, Rests, StandAt}
use Rattle.step_sim.proofs.Bounds.{marks_alike, run_alike}
use Rattle.step_sim.proofs.OneThread.{KeepsLoads, ended_turn, none_wanted, rest_wants_none, same_again, same_then}
use Rattle.step_sim.proofs.PlayLemmas.{turns_add, turns_still}
use Rattle.step_sim.proofs.PooledReplay.{ended_still}
use Rattle.step_sim.proofs.ReplayAlong.{turn_without}
use Rattle.step_sim.proofs.TurnLemmas.{turn_other}
use Rattle.step_sim.specs.Pool.{Pooled, Stock, stock_after}
use Rattle.step_sim.specs.private.Turns.{PooledRunsOut}
use Rattle.traced_run.specs.Kept.{Stamp}
use Rattle.step_sim.specs.Recorded.{events_at, segments_at}
use Rattle.step_sim.specs.private.Holding.{CanNote, Histories, IsHand, NotesEvent, PoolHolds, below, segments_in}
use Rattle.step_sim.specs.private.Recording.{NotesAny, RecordAt, Recording, Records, histories, pooling_in, turn_in}
use Rattle.step_sim.proofs.PoolLemmas.{GoesOn, all_closed_more, all_held_same, eqb_not, stock_stays}

-- ---- no event

-- a pool holds what it holds, however the histories are written
pub holds_same : (stamp : Stamp) (threads : ℕ) (events later : Histories) (stock : Stock) (pool : Pool) → ((k : ℕ) → later k ≡ events k)
    → PoolHolds stamp threads events stock pool → PoolHolds stamp threads later stock pool
holds_same stamp threads events later stock pool same holds =
    let first : segments_in stamp later 0 ≡ segments_in stamp events 0 = ap (segments stamp.size) (same 0) in
    let on : GoesOn stamp events later 0 = record {
      own = record { longer = omega (arith, ap length first); same = λ i within. ap (λ (ss : List (List Event)). slice_get ss i) first };
      others = λ k apart. same k;
    } in
    let closed = all_closed_more stamp events later 0 threads stock.queue on holds.closed in
    record {
      least = holds.least;
      wall = holds.wall;
      pid = holds.pid;
      hand_count = holds.hand_count;
      sealed_count = holds.sealed_count;
      first_count = holds.first_count;
      hand = λ i h found. subst (λ (es : List Event). IsHand stamp (i + 1) (segments stamp.size es) h) (sym (same (i + 1))) (holds.hand i h found);
      sealed = λ i n found. holds.sealed i n found ∙ ap (λ (es : List Event). length (segments stamp.size es) - 1) (sym (same (i + 1)));
      first = holds.first;
      queue = holds.queue ∙ sym (all_held_same stamp events later 0 threads stock.queue on closed);
      closed = closed;
      order = λ k. holds.order k ∙ ap (λ (es : List Event). below (length (segments stamp.size es) - 1)) (sym (same k));
    }

pub notes_none : (pool : Pool) (thread : ℕ) (event : Option Event) → event ≡ None → NotesAny pool pool thread event
notes_none pool thread event none stamp threads events later stock holds more others =
    let own : later thread ≡ events thread =
    more ∙ ap (λ (o : Option Event). events thread ++ events_in o) none ∙ append-nil (events thread) in
    let same : (k : ℕ) → later k ≡ events k = λ k. elim (cases_eq k thread) [
      | inl here ↦ subst (λ (n : ℕ). later n ≡ events n) (sym here) own
      | inr apart ↦ others k apart
    ] in
    let count : length (segments_in stamp later thread) ≡ length (segments_in stamp events thread) =
    ap (λ (es : List Event). length (segments stamp.size es)) own in
    subst (λ (s : Stock). PoolHolds stamp threads later s pool)
    (sym (stock_stays thread (length (segments_in stamp events thread)) (length (segments_in stamp later thread)) stock (inr count)))
    (holds_same stamp threads events later stock pool same holds)

pub notes_some : (old new : Pool) (thread : ℕ) (event : Option Event) (its : Event) → event ≡ Some its → NotesEvent old new thread its
    → NotesAny old new thread event
notes_some old new thread event its is notes stamp threads events later stock holds more others =
    notes stamp threads events later stock holds (more ∙ ap (λ (o : Option Event). events thread ++ events_in o) is) others

-- ---- a load

-- the events of a thread
pub history_is : (r : Recording) (m : Moment) (thread : ℕ) → 0 < thread → histories r m thread ≡ events_at r.cast r.passed thread m
history_is r m thread some = rw (eqb_not thread 0 (λ e. omega (arith, e, some))) refl

-- a thread that loads leaves the events of the others as they are
histories_other : (r : Recording) (m : Moment) (thread other : ℕ) → 0 < thread → other ≢ thread
    → histories r (thread_turn r.cast thread m) other ≡ histories r m other
histories_other r m thread zero some apart = refl
histories_other r m thread (suc n) some apart =
    let there : 0 < suc n = omega arith in
    history_is r (thread_turn r.cast thread m) (suc n) there
    ∙ ap (λ (ls : List Load). recorded (of_thread r.passed (suc n))
    (marks_of r.cast.program (thread_count r.cast) (suc n) (hold_of (suc n) r.cast.script) (of_thread r.cast.passings (suc n)) ls))
    (turn_other r.cast thread (suc n) m some there apart)
    ∙ sym (history_is r m (suc n) there)

-- the marks of a thread that has loaded what it has at a moment
marks_at_moment : (cast : Cast) (m : Moment) (old t : Traced) (at : IsThreadAt cast m old) → IsSameThread old t
    → HasLoaded t at.passed (of_thread m.loads old.thread)
    → t.marks ≡ marks_of cast.program (thread_count cast) old.thread (hold_of old.thread cast.script) (of_thread cast.passings old.thread) (of_thread m.loads old.thread)
marks_at_moment cast m old t at same loaded =
    loaded.marks ∙ marks_alike t.program cast.program t.threads (thread_count cast) t.thread old.thread t.hold (hold_of old.thread cast.script) (sleds_passed at.passed)
    (of_thread cast.passings old.thread) (of_thread m.loads old.thread) (of_thread m.loads old.thread)
    (same.program ∙ at.program_is) (same.threads ∙ at.threads_are) same.thread (same.hold ∙ at.free ∙ sym at.no_hold) (sym at.sleds) refl

-- its events are those that its marks record
pub events_of_marks : (r : Recording) (m : Moment) (p : Patcher) (old mid : Traced) → StandAt r.cast m p old → IsSameThread old mid
    → KeepsLoads old mid → histories r m old.thread ≡ recorded (of_thread r.passed old.thread) mid.marks
events_of_marks r m p old mid at same keeps =
    history_is r m old.thread at.thread.first
    ∙ ap (recorded (of_thread r.passed old.thread))
    (sym (marks_at_moment r.cast m old mid at.thread same (keeps at.thread.passed _ at.thread.loaded)))

-- its plain run
its_run : (r : Recording) (pooled : Pooled) (p : Patcher) (old mid : Traced) (pool : Pool) → RecordAt r pooled p old pool → IsSameThread old mid
    → (end : End) × (last : State) × PlainRun mid.program mid.limits mid.thread (of_thread r.passed old.thread) end last
its_run r pooled p old mid pool at same =
    let stands = at.stands.thread in
    let run = at.traced.run old.thread stands.first (omega (arith, stands.last, at.threads_are)) in (
      run.0,
      run.1,
      run_alike r.cast.program mid.program r.limits mid.limits old.thread mid.thread (of_thread r.passed old.thread) run.0 run.1
          (sym (same.program ∙ stands.program_is)) (sym (same.limits ∙ at.limits_are)) (sym same.thread) run.2,
    )

its_small : (r : Recording) (pooled : Pooled) (p : Patcher) (old : Traced) (pool : Pool) → RecordAt r pooled p old pool
    → All (λ p. p.id < 2 ^ 28) (of_thread r.passed old.thread)
its_small r pooled p old pool at =
    at.traced.small old.thread at.stands.thread.first (omega (arith, at.stands.thread.last, at.threads_are))

-- what `give` says about events
abbrev pub GivesEvent : Traced → Traced → Option Event → Type 0
GivesEvent mid new event =
    (passed : List Passing) (end : End) (last : State) → PlainRun mid.program mid.limits mid.thread passed end last
    → recorded passed new.marks ≡ recorded passed mid.marks ++ events_in event

-- the pool can note the event
pub can_note : (p : Patcher) (old mid new : Traced) (pool : Pool) (event : Option Event) (thread : ℕ) → Records p old pool
    → IsSameThread old mid → KeepsLoads old mid → GivesEvent mid new event → thread ≡ mid.thread → length mid.marks < 2 ^ 32
    → IfSome event (λ e. CanNote pool thread × IsRecordable e)
can_note p old mid new pool None thread records same keeps gives number few = tt
can_note p old mid new pool (Some event) thread (r, pooled, at) same keeps gives number few =
    let run = its_run r pooled p old mid pool at same in
    let passed = of_thread r.passed old.thread in
    let here : thread ≡ old.thread = number ∙ same.thread in
    let events : histories r pooled.moment thread ≡ recorded passed mid.marks =
    ap (histories r pooled.moment) here ∙ events_of_marks r pooled.moment p old mid at.stands same keeps in
    let count : length (histories r pooled.moment thread) < 2 ^ 32 =
    omega (arith, ap length events, recorded_short passed mid.marks, few) in (
      (
        r.stamp,
        r.threads,
        histories r pooled.moment,
        pooled.stock,
        at.holds,
        omega (arith, here, at.stands.thread.first),
        omega (arith, here, at.stands.thread.last, at.threads_are),
        count,
      ),
      event_recordable passed mid.marks new.marks event (its_small r pooled p old pool at) (gives passed run.0 run.1 run.2),
    )

-- the same thread, with the pool after its load
pub load_recorded : (r : Recording) (pooled : Pooled) (p : Patcher) (old mid new : Traced) (pool pool' : Pool) (event : Option Event) (thread : ℕ)
    → RecordAt r pooled p old pool → IsSameThread old mid → KeepsLoads old mid → IsSameThread mid new → GivesEvent mid new event
    → thread ≡ mid.thread → NotesAny pool pool' thread event
    → StandAt r.cast (thread_turn r.cast old.thread pooled.moment) p new
    → RecordAt r (turn_in r old.thread pooled) p new pool'
load_recorded r pooled p old mid new pool pool' event thread at same keeps same' gives number notes stands =
    let turned : Moment = thread_turn r.cast old.thread pooled.moment in
    let whole = same_then old mid new same same' in
    let here : thread ≡ old.thread = number ∙ same.thread in
    let passed = of_thread r.passed old.thread in
    let run = its_run r pooled p old mid pool at same in
    let following : histories r turned old.thread ≡ recorded passed new.marks =
    subst (λ (k : ℕ). histories r turned k ≡ recorded (of_thread r.passed k) new.marks) whole.thread
    (events_of_marks r turned p new new stands (same_again new) (λ ps ls is. is)) in
    let more : histories r turned old.thread ≡ histories r pooled.moment old.thread ++ events_in event =
    following ∙ gives passed run.0 run.1 run.2
    ∙ ap (λ (es : List Event). es ++ events_in event) (sym (events_of_marks r pooled.moment p old mid at.stands same keeps)) in
    let own = subst (λ (k : ℕ). NotesAny pool pool' k event) here notes in
    let noted = own r.stamp r.threads (histories r pooled.moment) (histories r turned) pooled.stock at.holds more
    (λ other apart. histories_other r pooled.moment old.thread other at.stands.thread.first apart) in
    let counts : (m : Moment) → length (segments_in r.stamp (histories r m) old.thread)
    ≡ length (segments_at r.cast r.passed r.stamp.size old.thread m) =
    λ m. ap (λ (es : List Event). length (segments r.stamp.size es)) (history_is r m old.thread at.stands.thread.first) in
    let stock : stock_after old.thread (length (segments_in r.stamp (histories r pooled.moment) old.thread))
    (length (segments_in r.stamp (histories r turned) old.thread)) pooled.stock ≡ (turn_in r old.thread pooled).stock =
    ap (λ (n : ℕ). stock_after old.thread n (length (segments_in r.stamp (histories r turned) old.thread)) pooled.stock) (counts pooled.moment)
    ∙ ap (λ (n : ℕ). stock_after old.thread (length (segments_at r.cast r.passed r.stamp.size old.thread pooled.moment)) n pooled.stock) (counts turned) in
    record {
      stands = stands;
      limits_are = whole.limits ∙ at.limits_are;
      threads_are = whole.threads ∙ at.threads_are;
      traced = at.traced;
      holds = subst (λ (s : Stock). PoolHolds r.stamp r.threads (histories r turned) s pool') stock noted;
    }

-- the turn of a thread that has ended
pub ended_recorded : (r : Recording) (pooled : Pooled) (p : Patcher) (old mid : Traced) (pool : Pool) → RecordAt r pooled p old pool
    → IsSameThread old mid → KeepsLoads old mid → Rests mid → RecordAt r (turn_in r old.thread pooled) p mid pool
ended_recorded r pooled p old mid pool at same keeps rests =
    let none : wanted_by r.cast old.thread pooled.moment ≡ None = none_wanted r.cast pooled.moment p old mid at.stands same keeps rests in
    let still : turn_in r old.thread pooled ≡ pooled = ended_still r.cast (pooling_in r) old.thread pooled none in
    subst (λ (x : Pooled). RecordAt r x p mid pool) (sym still)
    (record {
      stands = subst (λ (x : Moment). StandAt r.cast x p mid) (turn_without r.cast old.thread pooled.moment none)
          (ended_turn r.cast pooled.moment p old mid at.stands same keeps rests);
      limits_are = same.limits ∙ at.limits_are;
      threads_are = same.threads ∙ at.threads_are;
      traced = at.traced;
      holds = at.holds;
    })

-- a thread that no hold stops isn't held by a value
pub not_kept : (p : Patcher) (old mid : Traced) (value : ℕ) → Play p old → IsSameThread old mid → IsKept mid value → ⊥
not_kept p old mid value (cast, m, at) same kept =
    let free : ◌≡◌ {A = Option ℕ} (Some (length mid.marks)) None = sym kept.held ∙ same.hold ∙ at.thread.free in cc

-- ---- many turns

-- n turns of a thread lead it and the pool on
abbrev pub LeadsRecord : ℕ → Patcher → Traced → Pool → Traced → Pool → Type 0
LeadsRecord n p old pool new pool' =
    (r : Recording) (pooled : Pooled) → RecordAt r pooled p old pool → RecordAt r (turns n (turn_in r old.thread) pooled) p new pool'

pub record_none : (p : Patcher) (t : Traced) (pool : Pool) → LeadsRecord 0 p t pool t pool
record_none p t pool r pooled at = at

pub record_more : (n : ℕ) (p : Patcher) (old mid new : Traced) (pool pool' pool'' : Pool) → IsSameThread old mid
    → LeadsRecord n p old pool mid pool'
    → ((r : Recording) (pooled : Pooled) → RecordAt r pooled p mid pool' → RecordAt r (turn_in r mid.thread pooled) p new pool'')
    → LeadsRecord (n + 1) p old pool new pool''
record_more n p old mid new pool pool' pool'' same leads turn r pooled at =
    let here : Pooled = turns n (turn_in r old.thread) pooled in
    let next = subst (λ (k : ℕ). RecordAt r (turn_in r k here) p new pool'') same.thread (turn r here (leads r pooled at)) in
    subst (λ (x : Pooled). RecordAt r x p new pool'') (sym (turns_add n 1 (turn_in r old.thread) pooled)) next

-- a replay with buffers is a replay
pub plays : (p : Patcher) (t : Traced) (pool : Pool) → Records p t pool → Play p t
plays p t pool (r, pooled, at) = (r.cast, pooled.moment, at.stands)

pub records_on : (n : ℕ) (p : Patcher) (old new : Traced) (pool pool' : Pool) → LeadsRecord n p old pool new pool' → Records p old pool
    → Records p new pool'
records_on n p old new pool pool' leads (r, pooled, at) = (r, turns n (turn_in r old.thread) pooled, leads r pooled at)

-- a thread that rests has nothing to load
rests_there : (r : Recording) (pooled : Pooled) (p : Patcher) (old new : Traced) (pool : Pool) → RecordAt r pooled p new pool
    → IsSameThread old new → Rests new → wanted_by r.cast old.thread pooled.moment ≡ None
rests_there r pooled p old new pool at same rests =
    subst (λ (k : ℕ). wanted_by r.cast k pooled.moment ≡ None) same.thread (rest_wants_none r.cast pooled.moment p new at.stands rests)

pub record_early : (made count : ℕ) (p : Patcher) (old new : Traced) (pool pool' : Pool) → made ≤ count → IsSameThread old new
    → LeadsRecord made p old pool new pool' → Rests new → LeadsRecord count p old pool new pool'
record_early made count p old new pool pool' few same leads rests r pooled at =
    let here : Pooled = turns made (turn_in r old.thread) pooled in
    let there = leads r pooled at in
    let still = ended_still r.cast (pooling_in r) old.thread here (rests_there r here p old new pool' there same rests) in
    let whole : count ≡ made + (count - made) = omega (arith, few) in
    let all : turns count (turn_in r old.thread) pooled ≡ here =
    ap (λ n. turns n (turn_in r old.thread) pooled) whole ∙ turns_add made (count - made) (turn_in r old.thread) pooled
    ∙ turns_still (count - made) (turn_in r old.thread) here still in
    subst (λ (x : Pooled). RecordAt r x p new pool') (sym all) there

pub record_out : (n : ℕ) (p : Patcher) (old new : Traced) (pool pool' : Pool) → IsSameThread old new → LeadsRecord n p old pool new pool'
    → Rests new → (r : Recording) (pooled : Pooled) → RecordAt r pooled p old pool
    → (last : Pooled) × PooledRunsOut r.cast (pooling_in r) old.thread pooled last × RecordAt r last p new pool'
record_out n p old new pool pool' same leads rests r pooled at =
    let here : Pooled = turns n (turn_in r old.thread) pooled in
    let there = leads r pooled at in
    (here, (n, refl, rests_there r here p old new pool' there same rests), there)
