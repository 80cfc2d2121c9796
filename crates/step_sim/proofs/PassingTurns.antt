-- Turns of a thread in a passing, made before the thread is given the values.
use Rattle.std.proofs.Common.{◌≡◌, ℕ, ◌+◌, ◌≤◌, ◌<◌, Bool, true, false, List, ◌++◌, None, refl, sym, subst, ap, ◌∙◌, arith}
use Rattle.std.specs.Bool.{OnTrue}
use Rattle.std.proofs.lemmas.List.{append-nil}
use Rattle.patch_script.specs.CodeAt.{code_at}
use Rattle.machine_step.specs.declared.underway.Underway.{Underway}
use Rattle.machine_step.specs.declared.want.Want.TheVariants.{Load as Loads}
use Rattle.machine_step.specs.Events.{recorded}
use Rattle.machine_step.specs.Loads.{Load}
use Rattle.machine_step.specs.PlainStep.{Passing}
use Rattle.machine_step.specs.Traced.{HasLoaded, IsSameThread, Traced, load_of}
use Rattle.machine_step.specs.Underway.{in_passing}
use Rattle.step_sim.specs.declared.patcher.Patcher.{Patcher}
use Rattle.step_sim.specs.declared.pool.Pool.{Pool}
use Rattle.step_sim.specs.declared.thread.Found.{Found}
use Rattle.step_sim.specs.Plays.{turns}
use Rattle.step_sim.specs.Pool.{Pooled}
use Rattle.step_sim.specs.Replay.{Cast, Moment, thread_count, thread_turn}
use Rattle.step_sim.specs.private.Recording.{LeadsBy, come_to, underway_of, NotesAny, RecordAt, Recording, Records, turn_in}
use Rattle.step_sim.specs.private.Standing.{StandAt}
use Rattle.step_sim.proofs.OneRecorded.{load_recorded, record_none, records_on}
use Rattle.step_sim.proofs.OneThread.{KeepsLoads, leads_none, load_made, same_again, stand_moved, thread_moved}
use Rattle.step_sim.proofs.PlayLemmas.{turns_add}

-- a thread that is let into its passing is where it was
stand_let_in : (cast : Cast) (m : Moment) (p : Patcher) (old mid : Traced) → StandAt cast m p old → IsSameThread old mid → KeepsLoads old mid
    → StandAt cast m p mid
stand_let_in cast m p old mid at same keeps =
    stand_moved cast m m p old mid at same refl at.along
    (thread_moved cast m m old mid at.thread same refl (keeps at.thread.passed _ at.thread.loaded))

pub on_same : (t : Traced) (u v : Underway) → IsSameThread (in_passing t u) (in_passing t v)
on_same t u v = record { program = refl; thread = refl; threads = refl; hold = refl; limits = refl }

-- ---- turns, counted or not

pub leads_nowhere : (p : Patcher) (t : Traced) (pool : Pool) → LeadsBy p t pool t pool
leads_nowhere p t pool = record { count = 0; at = leads_none p t; records = record_none p t pool }

-- one turn
pub leads_one : (p : Patcher) (old new : Traced) (pool pool' : Pool)
    → ((cast : Cast) (m : Moment) → StandAt cast m p old → StandAt cast (thread_turn cast old.thread m) p new)
    → ((r : Recording) (pooled : Pooled) → RecordAt r pooled p old pool → RecordAt r (turn_in r old.thread pooled) p new pool')
    → LeadsBy p old pool new pool'
leads_one p old new pool pool' at records = record { count = 1; at = at; records = records }

-- some turns, and then some more
pub leads_then : (p : Patcher) (old mid new : Traced) (pool pool' pool'' : Pool) → IsSameThread old mid → LeadsBy p old pool mid pool'
    → LeadsBy p mid pool' new pool'' → LeadsBy p old pool new pool''
leads_then p old mid new pool pool' pool'' same first more = record {
  count = first.count + more.count;
  at = λ cast m at.
      let here : Moment = turns first.count (thread_turn cast old.thread) m in
      let next = subst (λ (k : ℕ). StandAt cast (turns more.count (thread_turn cast k) here) p new) same.thread (more.at cast here (first.at cast m at)) in
      subst (λ (x : Moment). StandAt cast x p new) (sym (turns_add first.count more.count (thread_turn cast old.thread) m)) next;
  records = λ r pooled at.
      let here : Pooled = turns first.count (turn_in r old.thread) pooled in
      let next = subst (λ (k : ℕ). RecordAt r (turns more.count (turn_in r k) here) p new pool'') same.thread (more.records r here (first.records r pooled at)) in
      subst (λ (x : Pooled). RecordAt r x p new pool'') (sym (turns_add first.count more.count (turn_in r old.thread) pooled)) next;
}

pub records_by : (p : Patcher) (old new : Traced) (pool pool' : Pool) → LeadsBy p old pool new pool' → Records p old pool → Records p new pool'
records_by p old new pool pool' leads = records_on leads.count p old new pool pool' leads.records

-- a thread that is let into its passing has made no turn
pub leads_let_in : (p : Patcher) (old mid : Traced) (pool : Pool) → IsSameThread old mid → KeepsLoads old mid → LeadsBy p old pool mid pool
leads_let_in p old mid pool same keeps = record {
  count = 0;
  at = λ cast m at. stand_let_in cast m p old mid at same keeps;
  records = λ r pooled at. record {
    stands = stand_let_in r.cast pooled.moment p old mid at.stands same keeps;
    limits_are = same.limits ∙ at.limits_are;
    threads_are = same.threads ∙ at.threads_are;
    traced = at.traced;
    holds = at.holds;
  };
}

-- a turn with a load that doesn't end its passing
pub leads_load : (p : Patcher) (t t' : Traced) (pool pool' : Pool) (word value thread : ℕ) → IsSameThread t t' → t'.marks ≡ t.marks
    → t.want ≡ Loads word
    → ((cast : Cast) (m : Moment) → StandAt cast m p t → value ≡ code_at cast.program (thread_count cast) cast.script m.place word)
    → ((passed : List Passing) (loads : List Load) → HasLoaded t passed loads → HasLoaded t' passed (loads ++ load_of t.want value))
    → thread ≡ t.thread → NotesAny pool pool' thread None → LeadsBy p t pool t' pool'
leads_load p t t' pool pool' word value thread same marks wants is gives number notes =
    let turned : (cast : Cast) (m : Moment) → StandAt cast m p t → StandAt cast (thread_turn cast t.thread m) p t' =
    λ cast m at. load_made cast m p t t t' word value at (same_again t) (λ passed loads has. has) wants (is cast m at) same gives in
    leads_one p t t' pool pool' turned (λ r pooled at.
    load_recorded r pooled p t t t' pool pool' None thread at (same_again t) (λ passed loads has. has) same
    (λ passed end last run. ap (recorded passed) marks ∙ sym (append-nil (recorded passed t.marks)))
    number notes (turned r.cast pooled.moment at.stands))

-- the loads of a passing, one after the other
pub found_then : (p : Patcher) (t : Traced) (f g h : Found) (pool pool' pool'' : Pool) → LeadsBy p (come_to t f) pool (come_to t g) pool'
    → LeadsBy p (come_to t g) pool' (come_to t h) pool'' → LeadsBy p (come_to t f) pool (come_to t h) pool''
found_then p t f g h pool pool' pool'' first more =
    leads_then p (come_to t f) (come_to t g) (come_to t h) pool pool' pool'' (on_same t (underway_of f) (underway_of g)) first more

pub nearer_by : (is : Bool) (a b c : ℕ) → OnTrue is (a < b) → b ≤ c → OnTrue is (a < c)
nearer_by true a b c less le = omega (arith, less, le)
nearer_by false a b c less le = tt
