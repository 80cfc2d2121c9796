-- Loads, one after the other.
use Rattle.std.proofs.Common.{◌≡◌, ℕ, ◌+◌, ◌-◌, ◌*◌, ◌<◌, List, [], ◌∷◌, ◌++◌, Bool, true, false, refl, sym, subst, ap, ◌∙◌, arith, length, append_assoc, append-nil, length-append, inl, inr}
use Rattle.std.specs.Prelude.{◌||◌, ◌⊎◌}
use Rattle.std.specs.List.{list_any}
use Rattle.xray_image.specs.Program.{Program}
use Rattle.sled_words.specs.Words.{release_word}
use Rattle.fdr_record.specs.declared.event.Event.{Event}
use Rattle.handler_word.specs.declared.mark.Mark.{Mark}
use Rattle.machine_step.specs.declared.end.End.{End}
use Rattle.machine_step.specs.declared.limits.Limits.{Limits}
use Rattle.machine_step.specs.declared.want.Want.{Want}
use Rattle.machine_step.specs.declared.want.Want.TheVariants.{Gate, Load as Loads, Done}
use Rattle.machine_step.specs.Events.{recorded}
use Rattle.machine_step.specs.PlainStep.{Passing}
use Rattle.machine_step.specs.Traced.{IsLoadable, IsSameThread, MarksAdded, Traced, loads_left, stage_count, steps_left}
use Rattle.sled_rule.specs.declared.seats.WorkSeat.{WorkSeat}
use Rattle.sled_rule.specs.declared.views.Load.{Load as SeatLoad}
use Rattle.sled_rule.specs.Seats.{work_view}
use Rattle.thread_run.specs.declared.worker.Worker.{Worker}
use Rattle.thread_run.specs.Following.{is_held_by}
use Rattle.thread_run.specs.private.Steps.{CountIsBehind, HasTaken, HasTakenOne, IsBehind}
use Rattle.thread_run.specs.Workers.{HasMade, IsGoing, IsSameWorker, WasHeld, cpu_of, loads_of, seat_of}
use Rattle.thread_run.proofs.LoadAndSeat.{holds}

-- ---- the same worker

pub same_then : (a b c : Traced) → IsSameThread a b → IsSameThread b c → IsSameThread a c
same_then a b c p q = record { program = q.program ∙ p.program; thread = q.thread ∙ p.thread; threads = q.threads ∙ p.threads; hold = q.hold ∙ p.hold; limits = q.limits ∙ p.limits }

pub same_again : (a : Traced) → IsSameThread a a
same_again a = record { program = refl; thread = refl; threads = refl; hold = refl; limits = refl }

pub worker_then : {R : Type 0} (follows : R → R → Type 0) → ((x y z : R) → follows x y → follows y z → follows x z) → (a b c : Worker R)
    → IsSameWorker follows a b → IsSameWorker follows b c → IsSameWorker follows a c
worker_then follows along a b c p q = record {
  table = q.table ∙ p.table;
  thread = same_then (cpu_of a) (cpu_of b) (cpu_of c) p.thread q.thread;
  recorder = along _ _ _ p.recorder q.recorder;
}

pub worker_again : {R : Type 0} (follows : R → R → Type 0) → ((x : R) → follows x x) → (a : Worker R) → IsSameWorker follows a a
worker_again follows itself a = record { table = refl; thread = same_again (cpu_of a); recorder = itself _ }

-- nothing but its seat has changed
pub seat_changed : {R : Type 0} (follows : R → R → Type 0) → ((x : R) → follows x x) → (a : Worker R) (seat : WorkSeat) → IsSameWorker follows a (record a { seat = seat })
seat_changed follows itself a seat = record { table = refl; thread = same_again (cpu_of a); recorder = itself _ }

-- ---- what was made

any_both : {X : Type 0} (p : X → Bool) (xs ys : List X) → list_any p xs ≡ false → list_any p (xs ++ ys) ≡ list_any p ys
any_both p [] ys none = refl
any_both {X = X} p (x ∷ xs) ys none = by_first (p x) (λ rest. any_both p xs ys rest) none
  where
    by_first : (b : Bool) → (list_any p xs ≡ false → list_any p (xs ++ ys) ≡ list_any p ys) → (b || list_any p xs) ≡ false
        → (b || list_any p (xs ++ ys)) ≡ list_any p ys
    by_first true rest none = absurd cc
    by_first false rest none = rest none

-- loads of which none holds a thread hold none for the same thread at another moment
free_of : (a b : Traced) (loads : List SeatLoad) → IsSameThread a b → is_held_by b.program b.thread loads ≡ false → is_held_by a.program a.thread loads ≡ false
free_of a b loads same free =
    ap (λ (x : Program). is_held_by x a.thread loads) (sym same.program) ∙ ap (λ (x : ℕ). is_held_by b.program x loads) (sym same.thread) ∙ free

pub made_then : {R : Type 0} (a b c : Worker R) → IsSameThread (cpu_of a) (cpu_of b) → HasMade a b → HasMade b c → HasMade a c
made_then a b c same p q = record {
  made = p.made ++ q.made;
  loads = q.loads ∙ ap (λ (ls : List SeatLoad). ls ++ q.made) p.loads ∙ append_assoc (loads_of a) p.made q.made;
  free = any_both _ p.made q.made p.free ∙ free_of (cpu_of a) (cpu_of b) q.made same q.free;
}

-- nothing was made
pub made_none : {R : Type 0} (a b : Worker R) → loads_of b ≡ loads_of a → HasMade a b
made_none a b same = record { made = []; loads = same ∙ sym (append-nil (loads_of a)); free = refl }

-- one load was made, which didn't hold the worker
pub made_one : {R : Type 0} (a b : Worker R) (load : SeatLoad) → loads_of b ≡ loads_of a ++ load ∷ []
    → is_held_by (cpu_of a).program (cpu_of a).thread (load ∷ []) ≡ false → HasMade a b
made_one a b load loads is = record { made = load ∷ []; loads = loads; free = is }

-- some loads were made, and then one that held the worker
pub made_held : {R : Type 0} (a b c : Worker R) (load : SeatLoad) → IsSameThread (cpu_of a) (cpu_of b) → HasMade a b
    → loads_of c ≡ loads_of b ++ load ∷ [] → is_held_by (cpu_of b).program (cpu_of b).thread (load ∷ []) ≡ true → WasHeld a c
made_held a b c load same made loads held =
    let found = holds (cpu_of b).program (cpu_of b).thread load held in
    record {
      made = made.made;
      last = load;
      loads = loads ∙ ap (λ (ls : List SeatLoad). ls ++ load ∷ []) made.loads;
      free = made.free;
      word = found.0 ∙ ap (λ (x : Program). release_word x (cpu_of b).thread) same.program ∙ ap (λ (x : ℕ). release_word (cpu_of a).program x) same.thread;
      value = found.1;
    }

-- ---- more loads

-- a worker has its earlier loads, and maybe more
pub record HasMore {R : Type 0} (old new : Worker R) : Type 0 where
  pub made : List SeatLoad
  pub loads : loads_of new ≡ loads_of old ++ made

pub more_none : {R : Type 0} (a : Worker R) → HasMore a a
more_none a = record { made = []; loads = sym (append-nil (loads_of a)) }

more_then : {R : Type 0} (a b c : Worker R) → HasMore a b → HasMore b c → HasMore a c
more_then a b c p q = record {
  made = p.made ++ q.made;
  loads = q.loads ∙ ap (λ (ls : List SeatLoad). ls ++ q.made) p.loads ∙ append_assoc (loads_of a) p.made q.made;
}

-- after a turn that ended, and after one that was held
pub more_ended : {R : Type 0} (a b c : Worker R) → HasMore a b → HasMade b c → HasMore a c
more_ended a b c p q = more_then a b c p (record { made = q.made; loads = q.loads })

pub more_held : {R : Type 0} (a b c : Worker R) → HasMore a b → WasHeld b c → HasMore a c
more_held a b c p q =
    more_then a b c p (record { made = q.made ++ q.last ∷ []; loads = q.loads ∙ append_assoc (loads_of b) q.made (q.last ∷ []) })

-- ---- going on

-- the worker goes on, no load has held it since the first, and what it wants is known
pub record GoesOn {R : Type 0} (stands : R → List Event → Type 0) (follows : R → R → Type 0) (first worker : Worker R) (next : Want) : Type 0 where
  pub going : IsGoing stands worker
  pub same : IsSameWorker follows first worker
  pub made : HasMade first worker
  pub want : next ≡ (cpu_of worker).want
  pub there : IsLoadable (cpu_of worker) (cpu_of worker).want

pub goes_on : {R : Type 0} (stands : R → List Event → Type 0) (follows : R → R → Type 0)
    → ((x y z : R) → follows x y → follows y z → follows x z) → (first mid new : Worker R) (old_want want : Want)
    → GoesOn stands follows first mid old_want → IsSameWorker follows mid new → HasMade mid new → IsGoing stands new
    → want ≡ (cpu_of new).want → IsLoadable (cpu_of new) (cpu_of new).want → GoesOn stands follows first new want
goes_on stands follows along first mid new old_want want kept same made going wants there = record {
  going = going;
  same = worker_then follows along first mid new kept.same same;
  made = made_then first mid new kept.same.thread kept.made made;
  want = wants;
  there = there;
}

-- ---- where a thread is

-- how many loads are left, by the parts of a thread
abbrev left_by : Program → ℕ → ℕ → Limits → List Mark → Want → ℕ
left_by program threads thread limits marks want =
    stage_count program threads thread * (limits.passings - length marks) + steps_left program threads thread want

-- a thread that wants the same word, and has no more marks, is no nearer to its end
pub no_nearer : (old new : Traced) (word : ℕ) → IsSameThread old new → old.want ≡ Loads word → new.want ≡ Loads word
    → MarksAdded old.marks new.marks new.want → loads_left new < loads_left old → ⊥
no_nearer old new word same was is added less =
    let marks : new.marks ≡ old.marks = subst (MarksAdded old.marks new.marks) is added in
    let left : loads_left new ≡ loads_left old =
    ap (λ (x : Program). left_by x new.threads new.thread new.limits new.marks new.want) same.program
    ∙ ap (λ (x : ℕ). left_by old.program x new.thread new.limits new.marks new.want) same.threads
    ∙ ap (λ (x : ℕ). left_by old.program old.threads x new.limits new.marks new.want) same.thread
    ∙ ap (λ (x : Limits). left_by old.program old.threads old.thread x new.marks new.want) same.limits
    ∙ ap (λ (x : List Mark). left_by old.program old.threads old.thread old.limits x new.want) marks
    ∙ ap (λ (x : Want). left_by old.program old.threads old.thread old.limits old.marks x) (is ∙ sym was) in
    omega (arith, less, left)

-- the count of a seat after a load, before the passing that it ended is counted
following_after : (old new : List Mark) (count : ℕ) (want : Want) → MarksAdded old new want → count ≡ length old → IsBehind count new want
following_after old new count (Gate passing) (mark, e) is = omega (arith, is, ap length e, length-append old (mark ∷ []))
following_after old new count (Loads word) e is = is ∙ ap length (sym e)
following_after old new count (Done end) (mark, e) is = omega (arith, is, ap length e, length-append old (mark ∷ []))

pub after_taken : {R : Type 0} (word : ℕ) (old new : Worker R) → HasTaken word old new → CountIsBehind new
after_taken word old new taken = following_after (cpu_of old).marks (cpu_of new).marks (work_view (seat_of new)).count (cpu_of new).want taken.marks taken.count

-- a thread in its passing, and one whose passing has ended
pub counts_all : (count : ℕ) (marks : List Mark) (found want : Want) (word : ℕ) → found ≡ want → found ≡ Loads word → IsBehind count marks want
    → count ≡ length marks
counts_all count marks found want word is load following = subst (IsBehind count marks) (sym is ∙ load) following

pub leaves_one_out : (count : ℕ) (marks : List Mark) (found want : Want) → found ≡ want
    → ((passing : ℕ) × (found ≡ Gate passing)) ⊎ ((end : End) × (found ≡ Done end)) → IsBehind count marks want → count + 1 ≡ length marks
leaves_one_out count marks found want is (inl (passing, gate)) following = subst (IsBehind count marks) (sym is ∙ gate) following
leaves_one_out count marks found want is (inr (end, done)) following = subst (IsBehind count marks) (sym is ∙ done) following

-- a thread that was let into its passing
pub opened_same : (old new : Traced) → new ≡ record old { want = new.want } → IsSameThread old new
opened_same old new e = record {
  program = ap (λ (x : Traced). x.program) e;
  thread = ap (λ (x : Traced). x.thread) e;
  threads = ap (λ (x : Traced). x.threads) e;
  hold = ap (λ (x : Traced). x.hold) e;
  limits = ap (λ (x : Traced). x.limits) e;
}

-- ---- one load

-- a thread that wants the same word again is held
pub held_again : {R : Type 0} (word : ℕ) (old new : Worker R) → (taken : HasTakenOne word old new)
    → IsSameThread (cpu_of old) (cpu_of new) → (cpu_of old).want ≡ Loads word → (cpu_of new).want ≡ Loads word
    → is_held_by (cpu_of old).program (cpu_of old).thread (taken.load ∷ []) ≡ true
held_again word old new taken same was is = by_held (is_held_by (cpu_of old).program (cpu_of old).thread (taken.load ∷ [])) refl
  where
    by_held : (held : Bool) → is_held_by (cpu_of old).program (cpu_of old).thread (taken.load ∷ []) ≡ held
        → is_held_by (cpu_of old).program (cpu_of old).thread (taken.load ∷ []) ≡ true
    by_held true e = e
    by_held false e = absurd (no_nearer (cpu_of old) (cpu_of new) word same was is taken.marks (taken.goes_on e))

-- a thread that wants anything else isn't
pub moved_on : {R : Type 0} (word : ℕ) (old new : Worker R) → (taken : HasTakenOne word old new)
    → (cpu_of old).want ≡ Loads word → ((cpu_of new).want ≡ Loads word → ⊥)
    → is_held_by (cpu_of old).program (cpu_of old).thread (taken.load ∷ []) ≡ false
moved_on word old new taken was moved = by_held (is_held_by (cpu_of old).program (cpu_of old).thread (taken.load ∷ [])) refl
  where
    by_held : (held : Bool) → is_held_by (cpu_of old).program (cpu_of old).thread (taken.load ∷ []) ≡ held
        → is_held_by (cpu_of old).program (cpu_of old).thread (taken.load ∷ []) ≡ false
    by_held true e = absurd (moved (ap (λ (t : Traced). t.want) (taken.held e) ∙ was))
    by_held false e = e

-- the loads that were taken, if none held the thread
pub made_free : {R : Type 0} (word : ℕ) (old mid new : Worker R) → HasTaken word old mid → ((cpu_of mid).want ≡ Loads word → ⊥)
    → loads_of new ≡ loads_of mid → HasMade old new
made_free word old mid new taken moved same = record { made = taken.made; loads = same ∙ taken.loads; free = taken.free moved }

-- ---- before the first load

none_recorded : (passed : List Passing) → recorded passed [] ≡ []
none_recorded [] = refl
none_recorded (p ∷ passed) = refl

pub none_noted : {R : Type 0} (stands : R → List Event → Type 0) (recorder : R) (passed : List Passing) (marks : List Mark) → marks ≡ []
    → stands recorder [] → stands recorder (recorded passed marks)
none_noted stands recorder passed marks none is =
    subst (λ (ms : List Mark). stands recorder (recorded passed ms)) (sym none) (subst (stands recorder) (sym (none_recorded passed)) is)
