-- Where a replay with buffers is, for the contracts of private functions.
use Rattle.std.specs.Prelude.{◌≡◌, ◌≢◌, ◌<◌, ◌≤◌, ◌^◌, ◌++◌, ◌==◌, ℕ, List, [], length, All, Option, if◌then◌else◌}
use Rattle.fdr_record.specs.declared.event.Event.{Event}
use Rattle.machine_step.specs.declared.end.End.{End}
use Rattle.machine_step.specs.declared.limits.Limits.{Limits}
use Rattle.machine_step.specs.Events.{events_in}
use Rattle.machine_step.specs.PlainStep.{Passing, PlainRun, State}
use Rattle.machine_step.specs.Traced.{Traced, sleds_passed}
use Rattle.machine_step.specs.declared.underway.Underway.{Underway}
use Rattle.machine_step.specs.Underway.{IsPassingOf, in_passing}
use Rattle.step_sim.specs.declared.patcher.Patcher.{Patcher}
use Rattle.step_sim.specs.declared.thread.Found.{Found}
use Rattle.step_sim.specs.declared.thread.Found.TheVariants.{Last, More}
use Rattle.step_sim.specs.declared.pool.Pool.{Pool}
use Rattle.step_sim.specs.declared.turns.Turns.{Turns}
use Rattle.step_sim.specs.Plays.{turns}
use Rattle.step_sim.specs.Replay.{Cast, Moment, of_thread, thread_turn}
use Rattle.step_sim.specs.Pool.{Pooled, Pooling, Stock, pooled_turn, stock_after}
use Rattle.step_sim.specs.private.Turns.{pooled_line}
use Rattle.traced_run.specs.Kept.{Stamp}
use Rattle.step_sim.specs.Recorded.{events_at, pooling_of}
use Rattle.step_sim.specs.private.Standing.{AllStandAt, StandAt}
use Rattle.step_sim.specs.private.Holding.{Histories, PoolHolds, segments_in}

-- what a replay with buffers is played with
pub record Recording : Type 0 where
  pub cast : Cast
  pub limits : Limits
  pub threads : ℕ
  pub passed : List (List Passing)
  pub stamp : Stamp
  pub spare : ℕ

abbrev pub pooling_in : Recording → Pooling
pooling_in r = pooling_of r.cast r.passed r.stamp.size r.spare

-- the events of each thread at a moment; there is no thread 0
abbrev pub histories : Recording → Moment → Histories
histories r moment thread = if thread == 0 then [] else events_at r.cast r.passed thread moment

-- the passings are those of the threads' plain runs, at these sleds, and the id of each function fits its record
pub record IsTraced (r : Recording) : Type 0 where
  pub run : (thread : ℕ) → 0 < thread → thread ≤ r.threads
      → (end : End) × (last : State) × PlainRun r.cast.program r.limits thread (of_thread r.passed thread) end last
  pub sleds : (thread : ℕ) → 0 < thread → thread ≤ r.threads → of_thread r.cast.passings thread ≡ sleds_passed (of_thread r.passed thread)
  pub small : (thread : ℕ) → 0 < thread → thread ≤ r.threads → All (λ p. p.id < 2 ^ 28) (of_thread r.passed thread)

-- the pool holds the events of all threads
abbrev pub PoolAt : Recording → Pooled → Pool → Type 0
PoolAt r pooled pool = PoolHolds r.stamp r.threads (histories r pooled.moment) pooled.stock pool

-- the patcher, the thread and the pool are where a replay is
pub record RecordAt (r : Recording) (pooled : Pooled) (p : Patcher) (t : Traced) (pool : Pool) : Type 0 where
  pub stands : StandAt r.cast pooled.moment p t
  pub limits_are : t.limits ≡ r.limits
  pub threads_are : t.threads ≡ r.threads
  pub traced : IsTraced r
  pub holds : PoolAt r pooled pool

-- they are somewhere in a replay
abbrev pub Records : Patcher → Traced → Pool → Type 0
Records p t pool = (r : Recording) × (pooled : Pooled) × RecordAt r pooled p t pool

-- a thread's turn
abbrev pub turn_in : Recording → ℕ → Pooled → Pooled
turn_in r thread pooled = pooled_turn r.cast (pooling_in r) thread pooled

-- some turns of a thread lead it and the pool on
pub record LeadsBy (p : Patcher) (old : Traced) (pool : Pool) (new : Traced) (pool' : Pool) : Type 0 where
  pub count : ℕ
  pub at : (cast : Cast) (moment : Moment) → StandAt cast moment p old → StandAt cast (turns count (thread_turn cast old.thread) moment) p new
  pub records : (r : Recording) (pooled : Pooled) → RecordAt r pooled p old pool → RecordAt r (turns count (turn_in r old.thread) pooled) p new pool'

-- ---- the loads of a passing

-- where the passing is
abbrev pub underway_of : Found → Underway
underway_of (More u) = u
underway_of (Last u) = u

-- the thread, once it has come there
abbrev pub come_to : Traced → Found → Traced
come_to t found = in_passing t (underway_of found)

-- the passing is the thread's, and the thread would be somewhere in a replay once it has come there
pub record IsFound (p : Patcher) (t : Traced) (pool : Pool) (found : Found) : Type 0 where
  pub of : IsPassingOf t (underway_of found)
  pub records : Records p (come_to t found) pool

-- a pool with the events of one load of a thread, whatever it held
abbrev pub NotesAny : Pool → Pool → ℕ → Option Event → Type 0
NotesAny old new thread event =
    (stamp : Stamp) (threads : ℕ) (events later : Histories) (stock : Stock) → PoolHolds stamp threads events stock old
    → later thread ≡ events thread ++ events_in event → ((other : ℕ) → other ≢ thread → later other ≡ events other)
    → PoolHolds stamp threads later
    (stock_after thread (length (segments_in stamp events thread)) (length (segments_in stamp later thread)) stock) new

-- all threads, in order, the patcher and the pool are where a replay is
pub record AllRecordAt (r : Recording) (pooled : Pooled) (p : Patcher) (ts : List Traced) (pool : Pool) : Type 0 where
  pub stands : AllStandAt r.cast r.threads r.limits pooled.moment p ts
  pub traced : IsTraced r
  pub holds : PoolAt r pooled pool

abbrev pub AllRecord : Patcher → List Traced → Pool → Type 0
AllRecord p ts pool = (r : Recording) × (pooled : Pooled) × AllRecordAt r pooled p ts pool

-- the turns of a line
abbrev pub line_in : Recording → Pooled → Turns → Pooled
line_in r pooled turns = pooled_line r.cast (pooling_in r) pooled turns
