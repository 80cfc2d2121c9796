-- The loads of a passing, made before the thread is told of them.
use Rattle.std.proofs.Common.{◌≡◌, ℕ, ◌<◌, ◌≤◌, List, [], ◌∷◌, Bool, true, false, refl, sym, subst, ap, ◌∙◌, arith, append-nil, length}
use Rattle.std.specs.Prelude.{None}
use Rattle.xray_image.specs.Program.{Program}
use Rattle.fdr_record.specs.declared.event.Event.{Event}
use Rattle.machine_step.specs.declared.underway.Underway.{Underway}
use Rattle.machine_step.specs.declared.want.Want.TheVariants.{Load as Loads}
use Rattle.machine_step.specs.Events.{recorded}
use Rattle.machine_step.specs.Traced.{IsSameThread, MarksAdded, Traced, loads_left}
use Rattle.machine_step.specs.Underway.{in_passing}
use Rattle.sled_rule.specs.declared.seats.WorkSeat.{WorkSeat}
use Rattle.sled_rule.specs.declared.views.Load.{Load as SeatLoad}
use Rattle.sled_rule.specs.declared.views.WorkView.{WorkView}
use Rattle.sled_rule.specs.Seats.{work_view}
use Rattle.thread_run.specs.Following.{is_held_by}
use Rattle.thread_run.specs.declared.worker.Found.{Found}
use Rattle.thread_run.specs.declared.worker.Worker.{Worker}
use Rattle.thread_run.specs.private.Steps.{HasCome, HasFetched, HasRead, HasTaken, HasTakenOne, Lacks, come_to, left_in}
use Rattle.thread_run.specs.Workers.{HasMade, IsGoing, IsSameWorker, cpu_of, loads_of, seat_of}
use Rattle.thread_run.proofs.WorkerLoads.{held_again, made_none, made_then, moved_on, no_nearer, same_again, seat_changed}

-- ---- what was taken

-- one load
pub taken_one : {R : Type 0} (word : ℕ) (old new : Worker R) → HasTakenOne word old new → IsSameThread (cpu_of old) (cpu_of new)
    → (cpu_of old).want ≡ Loads word → HasTaken word old new
taken_one word old new one same wants = record {
  count = one.count;
  marks = one.marks;
  made = one.load ∷ [];
  loads = one.loads;
  again = λ again. record { load = one.load; only = refl; held = held_again word old new one same wants again };
  free = λ moved. moved_on word old new one wants moved;
  nearer = λ moved. one.goes_on (moved_on word old new one wants moved);
}

-- the loads of a passing
pub taken_all : {R : Type 0} (word : ℕ) (old new : Worker R) → IsSameThread (cpu_of old) (cpu_of new) → (cpu_of old).want ≡ Loads word
    → HasCome old new → HasMade old new → loads_left (cpu_of new) < loads_left (cpu_of old) → HasTaken word old new
taken_all word old new same wants come made less = record {
  count = come.count;
  marks = come.marks;
  made = made.made;
  loads = made.loads;
  again = λ again. absurd (no_nearer (cpu_of old) (cpu_of new) word same wants again come.marks less);
  free = λ moved. made.free;
  nearer = λ moved. less;
}

-- ---- loads that were read

pub le_then : (a b c : ℕ) → a ≤ b → b ≤ c → a ≤ c
le_then a b c p q = omega (arith, p, q)

pub less_then : (a b c : ℕ) → a ≤ b → b < c → a < c
less_then a b c p q = omega (arith, p, q)

pub less_is : (a b : ℕ) → a < b → a ≤ b
less_is a b less = omega (arith, less)

-- a load that can't hold a thread doesn't
pub never_held : (program : Program) (thread : ℕ) (load : SeatLoad) → (is_held_by program thread (load ∷ []) ≡ true → ⊥)
    → is_held_by program thread (load ∷ []) ≡ false
never_held program thread load never = by_held (is_held_by program thread (load ∷ [])) refl
  where
    by_held : (held : Bool) → is_held_by program thread (load ∷ []) ≡ held → is_held_by program thread (load ∷ []) ≡ false
    by_held true is = absurd (never is)
    by_held false is = is

-- only the seat has changed
pub cpu_same : {R : Type 0} (old new : Worker R) → new ≡ record old { seat = seat_of new } → cpu_of new ≡ cpu_of old
cpu_same old new same = ap (λ (w : Worker _). cpu_of w) same

pub thread_same : {R : Type 0} (old new : Worker R) → new ≡ record old { seat = seat_of new } → IsSameThread (cpu_of old) (cpu_of new)
thread_same old new same = subst (λ (t : Traced). IsSameThread (cpu_of old) t) (sym (cpu_same old new same)) (same_again (cpu_of old))

pub worker_same : {R : Type 0} (follows : R → R → Type 0) → ((x : R) → follows x x) → (old new : Worker R) → new ≡ record old { seat = seat_of new }
    → IsSameWorker follows old new
worker_same follows itself old new same =
    subst (λ (w : Worker _). IsSameWorker follows old w) (sym same) (seat_changed follows itself old (seat_of new))

pub read_none : {R : Type 0} (found : Found) (worker : Worker R) → HasRead found found worker worker
read_none found worker = record { same = refl; made = made_none worker worker refl; left = omega arith }

pub read_then : {R : Type 0} (a b c : Found) (one two three : Worker R) → HasRead a b one two → HasRead b c two three → HasRead a c one three
read_then a b c one two three p q = record {
  same = q.same ∙ ap (λ (w : Worker _). record w { seat = seat_of three }) p.same;
  made = made_then one two three (thread_same one two p.same) p.made q.made;
  left = le_then _ _ _ (subst (λ (t : Traced). left_in t c ≤ left_in t b) (cpu_same one two p.same) q.left) p.left;
}

-- the thread has come to where its passing is after loads that were read
pub come_after : {R : Type 0} (old mid new : Worker R) → mid ≡ record old { seat = seat_of mid } → HasCome mid new → HasCome old new
come_after old mid new same come = record {
  count = subst (λ (t : Traced). (work_view (seat_of new)).count ≡ length t.marks) (cpu_same old mid same) come.count;
  marks = subst (λ (t : Traced). MarksAdded t.marks (cpu_of new).marks (cpu_of new).want) (cpu_same old mid same) come.marks;
}

pub made_after : {R : Type 0} (old mid new : Worker R) → HasMade old mid → loads_of new ≡ loads_of mid → HasMade old new
made_after old mid new made same = record { made = made.made; loads = same ∙ made.loads; free = made.free }

-- ---- a thread that has come to where its passing is

-- before its next load
pub going_lacks : {R : Type 0} (stands : R → List Event → Type 0) (worker : Worker R) → IsGoing stands worker → Lacks stands None worker
going_lacks stands worker going = record {
  once = λ noted notes. record {
    own = going.at.own;
    thread = going.at.thread;
    seat = going.at.seat;
    within = going.at.within;
    passed = going.at.passed;
    along = going.at.along;
    recorded_are = subst (stands noted) (append-nil (recorded going.at.passed (cpu_of worker).marks)) (notes (recorded going.at.passed (cpu_of worker).marks) going.at.recorded_are);
  };
}

-- the same worker as one whose thread has come there
pub came : {R : Type 0} (worker : Worker R) (u : Underway) (t : Traced) → t ≡ in_passing (cpu_of worker) u → come_to worker u ≡ record worker { cpu = t }
came worker u t is = ap (λ (x : Traced). record worker { cpu = x }) (sym is)

pub came_same : {R : Type 0} (follows : R → R → Type 0) → ((x : R) → follows x x) → (worker : Worker R) (u : Underway) (t : Traced)
    → t ≡ in_passing (cpu_of worker) u → IsSameWorker follows worker (record worker { cpu = t })
came_same follows itself worker u t is =
    subst (λ (w : Worker _). IsSameWorker follows worker w) (came worker u t is)
    (record { table = refl; thread = record { program = refl; thread = refl; threads = refl; hold = refl; limits = refl }; recorder = itself _ })

-- it has no more marks
pub came_more : {R : Type 0} (stands : R → List Event → Type 0) (worker : Worker R) (u : Underway) (t : Traced) → t ≡ in_passing (cpu_of worker) u
    → IsGoing stands (come_to worker u) → HasCome worker (record worker { cpu = t })
came_more stands worker u t is going =
    subst (λ (w : Worker _). HasCome worker w) (came worker u t is) (record { count = going.count; marks = refl })

-- its last value was given to it
pub came_last : {R : Type 0} (stands : R → List Event → Type 0) (worker new : Worker R) (u : Underway) (value : ℕ)
    → (fetched : HasFetched stands value (come_to worker u)) → seat_of new ≡ seat_of worker
    → MarksAdded (cpu_of worker).marks (cpu_of new).marks (cpu_of new).want → HasCome worker new
came_last stands worker new u value fetched seat marks = record {
  count =
      ap (λ (s : WorkSeat). (work_view s).count) seat
      ∙ ap (λ (v : WorkView). v.count) fetched.fetched.view
      ∙ fetched.going.count;
  marks = marks;
}
