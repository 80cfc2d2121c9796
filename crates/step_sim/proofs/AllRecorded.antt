-- All threads of a replay with buffers, from moment to moment.
use Rattle.std.proofs.Common.{◌≡◌, ℕ, zero, suc, ◌+◌, ◌<◌, ◌≤◌, List, [], Some, refl, sym, subst, ap, ◌∙◌, arith, length, fold, take, get_or}
use Rattle.std.specs.Prelude.{◌==◌, if◌then◌else◌, slice_get, slice_set}
use Rattle.std.proofs.lemmas.List.{take_all}
use Rattle.std.proofs.lemmas.List.Sums.{fold_more}
use Rattle.patch_script.specs.Micros.{hold_of}
use Rattle.machine_step.specs.Events.{recorded}
use Rattle.machine_step.specs.Loads.{Load, marks_of}
use Rattle.machine_step.specs.Traced.{IsSameThread, Traced}
use Rattle.step_sim.specs.declared.patcher.Patcher.{Patcher}
use Rattle.step_sim.specs.declared.pool.Pool.{Pool}
use Rattle.step_sim.specs.declared.turns.Turns.{Turns}
use Rattle.step_sim.specs.declared.turns.Turns.TheVariants as turns_of
use Rattle.step_sim.specs.Plays.{turns}
use Rattle.step_sim.specs.Replay.{Cast, Moment, of_thread, thread_count, thread_turn}
use Rattle.step_sim.specs.private.Turns.{line_turns, AllPooledRunOut, PooledRunsOut}
use Rattle.step_sim.specs.Pool.{Pooled, Stock, pooled_rules, pooled_step}
use Rattle.step_sim.specs.private.Standing.{AllPlay, AllStandAt, StandAt}
use Rattle.step_sim.specs.private.Holding.{PoolHolds}
use Rattle.step_sim.specs.private.Recording.{AllRecord, AllRecordAt, PoolAt, RecordAt, Recording, Records, histories, line_in, pooling_in, turn_in}
use Rattle.step_sim.proofs.AllThreads.{RunOut, found_at, run_count, stand_of, turns_moved}
use Rattle.step_sim.proofs.OneRecorded.{holds_same}
use Rattle.step_sim.proofs.PlayLemmas.{one_more_out}
use Rattle.step_sim.proofs.PooledReplay.{line_moment, thread_moment}

-- a replay with buffers is a replay
pub all_play : (p : Patcher) (ts : List Traced) (pool : Pool) → AllRecord p ts pool → AllPlay p ts
all_play p ts pool (r, pooled, at) = (r.cast, r.threads, r.limits, pooled.moment, at.stands)

-- ---- each of them

pub record_of : (r : Recording) (pooled : Pooled) (p : Patcher) (ts : List Traced) (pool : Pool) (i : ℕ) (t : Traced)
    → AllRecordAt r pooled p ts pool → slice_get ts i ≡ Some t → RecordAt r pooled p t pool
record_of r pooled p ts pool i t at found = record {
  stands = stand_of r.cast r.threads r.limits pooled.moment p ts i t at.stands found;
  limits_are = (at.stands.thread i t found).limits_are;
  threads_are = (at.stands.thread i t found).threads_are;
  traced = at.traced;
  holds = at.holds;
}

pub records_of : (p : Patcher) (ts : List Traced) (pool : Pool) (i : ℕ) (t : Traced) → AllRecord p ts pool → slice_get ts i ≡ Some t
    → Records p t pool
records_of p ts pool i t (r, pooled, at) found = (r, pooled, record_of r pooled p ts pool i t at found)

-- n turns of one thread
pub turns_recorded : (r : Recording) (pooled : Pooled) (p : Patcher) (ts : List Traced) (pool pool' : Pool) (i n : ℕ) (old new : Traced)
    → AllRecordAt r pooled p ts pool → slice_get ts i ≡ Some old → IsSameThread old new
    → RecordAt r (turns n (turn_in r old.thread) pooled) p new pool'
    → AllRecordAt r (turns n (turn_in r (i + 1)) pooled) p (slice_set ts i new) pool'
turns_recorded r pooled p ts pool pool' i n old new at found same there =
    let number = (at.stands.thread i old found).thread_is in
    let here : StandAt r.cast (turns n (thread_turn r.cast old.thread) pooled.moment) p new =
    subst (λ (m : Moment). StandAt r.cast m p new) (thread_moment r.cast (pooling_in r) old.thread n pooled) there.stands in
    let moved = turns_moved r.cast r.threads r.limits pooled.moment p ts i n old new at.stands found same here in
    record {
      stands = subst (λ (m : Moment). AllStandAt r.cast r.threads r.limits m p (slice_set ts i new))
          (sym (thread_moment r.cast (pooling_in r) (i + 1) n pooled)) moved;
      traced = at.traced;
      holds = subst (λ (k : ℕ). PoolAt r (turns n (turn_in r k) pooled) pool') number there.holds;
    }

-- the turns of a line of a thread
pub thread_recorded : (r : Recording) (pooled : Pooled) (p : Patcher) (ts : List Traced) (pool pool' : Pool) (line : Turns) (number count i : ℕ)
    (old new : Traced) → line ≡ turns_of.Thread number count → i + 1 ≡ number → AllRecordAt r pooled p ts pool → slice_get ts i ≡ Some old
    → IsSameThread old new → RecordAt r (turns count (turn_in r old.thread) pooled) p new pool'
    → AllRecordAt r (line_in r pooled line) p (slice_set ts i new) pool'
thread_recorded r pooled p ts pool pool' line number count i old new is place at found same there =
    let moved = turns_recorded r pooled p ts pool pool' i count old new at found same there in
    let numbered = subst (λ (k : ℕ). AllRecordAt r (turns count (turn_in r k) pooled) p (slice_set ts i new) pool') place moved in
    subst (λ (l : Turns). AllRecordAt r (line_in r pooled l) p (slice_set ts i new) pool') (sym is) numbered

-- steps of the patcher leave the loads and the stock as they are
steps_stock : (cast : Cast) (n : ℕ) (pooled : Pooled) → (turns n (pooled_step cast) pooled).stock ≡ pooled.stock
steps_stock cast zero pooled = refl
steps_stock cast (suc n) pooled = steps_stock cast n (pooled_step cast pooled)

steps_loads : (cast : Cast) (n : ℕ) (pooled : Pooled) → (turns n (pooled_step cast) pooled).moment.loads ≡ pooled.moment.loads
steps_loads cast zero pooled = refl
steps_loads cast (suc n) pooled = steps_loads cast n (pooled_step cast pooled)

histories_alike : (r : Recording) (m m' : Moment) (k : ℕ) → m'.loads ≡ m.loads → histories r m' k ≡ histories r m k
histories_alike r m m' k e =
    ap (λ (loads : List (List Load)). if k == 0 then [] else recorded (of_thread r.passed k)
    (marks_of r.cast.program (thread_count r.cast) k (hold_of k r.cast.script) (of_thread r.cast.passings k) (of_thread loads k))) e

-- the turns of a line of the patcher
pub patcher_recorded : (r : Recording) (pooled : Pooled) (old new : Patcher) (ts : List Traced) (pool : Pool) (line : Turns) (count : ℕ)
    → line ≡ turns_of.Patcher count → AllRecordAt r pooled old ts pool
    → AllStandAt r.cast r.threads r.limits (line_turns r.cast pooled.moment line) new ts
    → AllRecordAt r (line_in r pooled line) new ts pool
patcher_recorded r pooled old new ts pool line count is at there =
    let stepped : Pooled = turns count (pooled_step r.cast) pooled in
    let line_is : line_in r pooled line ≡ stepped = ap (line_in r pooled) is in
    let held : PoolHolds r.stamp r.threads (histories r stepped.moment) pooled.stock pool =
    holds_same r.stamp r.threads (histories r pooled.moment) (histories r stepped.moment) pooled.stock pool
    (λ k. histories_alike r pooled.moment stepped.moment k (steps_loads r.cast count pooled)) at.holds in
    record {
      stands = subst (λ (m : Moment). AllStandAt r.cast r.threads r.limits m new ts) (sym (line_moment r.cast (pooling_in r) pooled line)) there;
      traced = at.traced;
      holds = subst (λ (x : Pooled). PoolAt r x pool) (sym line_is)
          (subst (λ (s : Stock). PoolHolds r.stamp r.threads (histories r stepped.moment) s pool) (sym (steps_stock r.cast count pooled)) held);
    }

-- ---- lines

-- lines lead all threads on
abbrev pub LeadRecords : List Turns → Patcher → List Traced → Pool → Patcher → List Traced → Pool → Type 0
LeadRecords lines p ts pool p' ts' pool' =
    (r : Recording) (pooled : Pooled) → AllRecordAt r pooled p ts pool → AllRecordAt r (fold (line_in r) pooled lines) p' ts' pool'

pub records_nowhere : (p : Patcher) (ts : List Traced) (pool : Pool) → LeadRecords [] p ts pool p ts pool
records_nowhere p ts pool r pooled at = at

pub line_records : (lines : List Turns) (i : ℕ) (line : Turns) (p q s : Patcher) (ts us vs : List Traced) (a b c : Pool) → i < length lines
    → LeadRecords (take i lines) p ts a q us b
    → ((r : Recording) (pooled : Pooled) → AllRecordAt r pooled q us b → AllRecordAt r (line_in r pooled (get_or lines i line)) s vs c)
    → LeadRecords (take (i + 1) lines) p ts a s vs c
line_records lines i line p q s ts us vs a b c within leads turn r pooled at =
    subst (λ (x : Pooled). AllRecordAt r x s vs c) (sym (fold_more (line_in r) pooled lines i line within)) (turn r _ (leads r pooled at))

pub all_lines : (lines : List Turns) (i : ℕ) (p q : Patcher) (ts us : List Traced) (a b : Pool) → length lines ≤ i
    → LeadRecords (take i lines) p ts a q us b → LeadRecords lines p ts a q us b
all_lines lines i p q ts us a b past leads = subst (λ (ls : List Turns). LeadRecords ls p ts a q us b) (take_all i lines past) leads

pub all_record_on : (lines : List Turns) (p q : Patcher) (ts us : List Traced) (a b : Pool) → LeadRecords lines p ts a q us b
    → AllRecord p ts a → AllRecord q us b
all_record_on lines p q ts us a b leads (r, pooled, at) = (r, fold (line_in r) pooled lines, leads r pooled at)

-- ---- running out

-- the first threads have run out
abbrev pub RunRecords : ℕ → Patcher → List Traced → Pool → List Traced → Pool → Type 0
RunRecords n p ts pool us pool' =
    (r : Recording) (pooled : Pooled) → AllRecordAt r pooled p ts pool
    → (last : Pooled) × AllPooledRunOut r.cast (pooling_in r) n 1 pooled last × AllRecordAt r last p us pool'

pub none_records : (p : Patcher) (ts : List Traced) (pool : Pool) → RunRecords 0 p ts pool ts pool
none_records p ts pool r pooled at = (pooled, refl, at)

pub one_records : (n : ℕ) (p : Patcher) (ts us : List Traced) (old new : Traced) (a b c : Pool) → RunRecords n p ts a us b
    → slice_get us n ≡ Some old → IsSameThread old new
    → ((r : Recording) (pooled : Pooled) → RecordAt r pooled p old b
    → (last : Pooled) × PooledRunsOut r.cast (pooling_in r) old.thread pooled last × RecordAt r last p new c)
    → RunRecords (n + 1) p ts a (slice_set us n new) c
one_records n p ts us old new a b c runs found same run r pooled at =
    let here = runs r pooled at in
    let stands = here.2 in
    let out = run r here.0 (record_of r here.0 p us b n old stands found) in
    let number = (stands.stands.thread n old found).thread_is in
    let flipped : n + 1 ≡ 1 + n = omega arith in
    let count : ℕ = out.1.0 in
    let own : PooledRunsOut r.cast (pooling_in r) (1 + n) here.0 out.0 =
    subst (λ (k : ℕ). PooledRunsOut r.cast (pooling_in r) k here.0 out.0) (number ∙ flipped) out.1 in
    let there : RecordAt r (turns count (turn_in r old.thread) here.0) p new c = subst (λ (x : Pooled). RecordAt r x p new c) out.1.1 out.2 in
    let all = turns_recorded r here.0 p us b c n count old new stands found same there in
    let e : out.0 ≡ turns count (turn_in r (n + 1)) here.0 =
    out.1.1 ∙ ap (λ (k : ℕ). turns count (turn_in r k) here.0) number in (
      out.0,
      one_more_out (pooled_rules r.cast (pooling_in r)) n 1 pooled here.0 out.0 here.1 own,
      subst (λ (x : Pooled). AllRecordAt r x p (slice_set us n new) c) (sym e) all,
    )

pub run_records_on : (n : ℕ) (p : Patcher) (ts us : List Traced) (a b : Pool) → RunRecords n p ts a us b → AllRecord p ts a → AllRecord p us b
run_records_on n p ts us a b runs (r, pooled, at) =
    let here = runs r pooled at in
    (r, here.0, here.2)

-- the thread that was read, after others have run out
pub run_found : (i : ℕ) (p : Patcher) (ts us : List Traced) (t : Traced) (pool : Pool) → RunOut i p ts us → AllRecord p ts pool → i < length ts
    → t ≡ get_or us i t → slice_get us i ≡ Some t
run_found i p ts us t pool runs records within e =
    found_at us i t (omega (arith, run_count i p ts us runs (all_play p ts pool records), within)) e

-- the lines, and then all threads that run out
pub records_then_out : (lines : List Turns) (p q : Patcher) (ts us vs : List Traced) (a b c : Pool) → length us ≡ length ts
    → LeadRecords lines p ts a q us b → RunRecords (length us) q us b vs c
    → (r : Recording) (pooled : Pooled) → AllRecordAt r pooled p ts a
    → (last : Pooled) × AllPooledRunOut r.cast (pooling_in r) (length ts) 1 (fold (line_in r) pooled lines) last × AllRecordAt r last q vs c
records_then_out lines p q ts us vs a b c count leads out r pooled at =
    let run = out r (fold (line_in r) pooled lines) (leads r pooled at) in
    (run.0, subst (λ (n : ℕ). AllPooledRunOut r.cast (pooling_in r) n 1 (fold (line_in r) pooled lines) run.0) count run.1, run.2)
