-- Threads in order: how many there are, and of how many the counter goes back.
use Rattle.std.proofs.Common.{◌≡◌, ℕ, ◌+◌, ◌<◌, ◌≤◌, Bool, true, false, cond, eqb, List, [], ◌∷◌, ◌++◌, map, refl, sym, ap, ◌∙◌, zero-add, arith}
use Rattle.std.specs.Prelude.{◌&&◌, ◌||◌, ◌≢◌, ⊤, filter, nat_lt}
use Rattle.std.specs.List.{AllByRecursion, IsDistinct}
use Rattle.std.specs.Set.{distinct_count, is_member, unique_keys}
use Rattle.std.proofs.lemmas.Bool.{eqb-false, eqb-true, ne_eqb}
use Rattle.std.proofs.lemmas.Cmp.{nat_eq_equiv}
use Rattle.std.proofs.lemmas.Map.Made.{is_member-filter, length-from_keys}
use Rattle.fdr_file.specs.ThreadEvents.{ThreadEvent}
use Rattle.runtime_log.specs.Facts.{different, fall, falls}
use Rattle.runtime_log.specs.LogLaws.{goes_back, distinct_threads, thread_counters}
use Rattle.runtime_log.specs.Threads.{recorded_by}
use Rattle.runtime_log.proofs.ByThread.{eqb_same}

-- ---- how many threads

-- each number is at most those behind it
abbrev pub AtMost : ℕ → List ℕ → Type 0
AtMost n ns = AllByRecursion (λ (m : ℕ). n ≤ m) ns

abbrev pub DontFall : List ℕ → Type 0
DontFall [] = ⊤
DontFall (n ∷ ns) = AtMost n ns × DontFall ns

not_among : (n m : ℕ) (ns : List ℕ) → n < m → AtMost m ns → is_member (λ (a b : ℕ). eqb a b) ns n ≡ false
not_among n m [] low high = refl
not_among n m (x ∷ ns) low high = rw (ne_eqb n x (λ same. omega (arith, same, low, high.0))) (not_among n m ns low high.1)

pub threads_counted : (ns : List ℕ) → DontFall ns → different ns ≡ distinct_count (λ (a b : ℕ). eqb a b) ns
threads_counted [] rise = refl
threads_counted (n ∷ []) rise = refl
threads_counted (n ∷ m ∷ ns) rise = by_test (threads_counted (m ∷ ns) rise.1) (eqb n m) refl
  where
    by_test : different (m ∷ ns) ≡ distinct_count (λ (a b : ℕ). eqb a b) (m ∷ ns) → (b : Bool) → eqb n m ≡ b → different (n ∷ m ∷ ns) ≡ distinct_count (λ (a b : ℕ). eqb a b) (n ∷ m ∷ ns)
    by_test again true e = rw e (zero-add (different (m ∷ ns)) ∙ again)
    by_test again false e =
        let other = eqb-false n m e in
        let below : n < m = omega (arith, rise.0.0, other) in
        rw (e, not_among n m ns below rise.1.0) (ap (λ (k : ℕ). 1 + k) again ∙ omega arith)

-- ---- the same threads are as many

abbrev pub same : ℕ → ℕ → Bool
same n m = eqb n m

unique_has : (ns : List ℕ) (q : ℕ) → is_member same (unique_keys same ns) q ≡ is_member same ns q
unique_has [] q = refl
unique_has (n ∷ ns) q = by_test (is_member same ns n) (eqb q n) refl refl (unique_has ns q)
  where
    by_test : (b c : Bool) → is_member same ns n ≡ b → eqb q n ≡ c → is_member same (unique_keys same ns) q ≡ is_member same ns q
        → is_member same (cond b (unique_keys same ns) (n ∷ unique_keys same ns)) q ≡ (c || is_member same ns q)
    by_test true true m t again = again ∙ ap (is_member same ns) (eqb-true q n t) ∙ m
    by_test true false m t again = again
    by_test false c m t again = rw t (ap (λ (b : Bool). c || b) again)

apart : (n : ℕ) (ns : List ℕ) → is_member same ns n ≡ false → AllByRecursion (λ (m : ℕ). eqb n m ≡ false) ns
apart n [] absent = tt
apart n (m ∷ ns) absent = by_test (apart n ns) (eqb n m) refl absent
  where
    by_test : (is_member same ns n ≡ false → AllByRecursion (λ (x : ℕ). eqb n x ≡ false) ns) → (b : Bool) → eqb n m ≡ b → (b || is_member same ns n) ≡ false
        → AllByRecursion (λ (x : ℕ). eqb n x ≡ false) (m ∷ ns)
    by_test again true e none = absurd cc
    by_test again false e none = (e, again none)

unique_apart : (ns : List ℕ) → IsDistinct same (unique_keys same ns)
unfolding IsDistinct
unique_apart [] = tt
unique_apart (n ∷ ns) = by_test (is_member same ns n) refl (unique_apart ns)
  where
    by_test : (b : Bool) → is_member same ns n ≡ b → IsDistinct same (unique_keys same ns) → IsDistinct same (cond b (unique_keys same ns) (n ∷ unique_keys same ns))
    by_test true m again = again
    by_test false m again = (apart n (unique_keys same ns) (unique_has ns n ∙ m), again)

pub same_count : (ns ms : List ℕ) → ((q : ℕ) → is_member same ns q ≡ is_member same ms q) → distinct_count same ns ≡ distinct_count same ms
same_count ns ms are = length-from_keys nat_eq_equiv (unique_keys same ns) ms (unique_apart ns) (λ q. unique_has ns q ∙ are q)

-- ---- the threads whose counters fall

abbrev pub threads_of : List ThreadEvent → List ℕ
threads_of events = map (λ (e : ThreadEvent). e.thread) events

falls_low : (n : ℕ) (events : List ThreadEvent) → AtMost n (threads_of events) → AtMost n (falls events)
falls_low n [] low = tt
falls_low n (e ∷ []) low = tt
falls_low n (e ∷ next ∷ events) low = by_test (falls_low n (next ∷ events) low.1) (eqb e.thread next.thread && nat_lt next.event.tsc e.event.tsc)
  where
    by_test : AtMost n (falls (next ∷ events)) → (b : Bool) → AtMost n (cond b (next.thread ∷ []) [] ++ falls (next ∷ events))
    by_test again true = (low.1.0, again)
    by_test again false = again

falls_rise : (events : List ThreadEvent) → DontFall (threads_of events) → DontFall (falls events)
falls_rise [] rise = tt
falls_rise (e ∷ []) rise = tt
falls_rise (e ∷ next ∷ events) rise = by_test (falls_rise (next ∷ events) rise.1) (eqb e.thread next.thread && nat_lt next.event.tsc e.event.tsc)
  where
    reached : AtMost next.thread (threads_of (next ∷ events))
    reached = (omega arith, rise.1.0)

    by_test : DontFall (falls (next ∷ events)) → (b : Bool) → DontFall (cond b (next.thread ∷ []) [] ++ falls (next ∷ events))
    by_test again true = (falls_low next.thread (next ∷ events) reached, again)
    by_test again false = again

-- no event of a lower thread
none_recorded : (thread : ℕ) (events : List ThreadEvent) → is_member same (threads_of events) thread ≡ false → recorded_by thread events ≡ []
none_recorded thread [] absent = refl
none_recorded thread (e ∷ events) absent = by_test (none_recorded thread events) (eqb thread e.thread) refl absent
  where
    by_test : (is_member same (threads_of events) thread ≡ false → recorded_by thread events ≡ []) → (b : Bool) → eqb thread e.thread ≡ b
        → (b || is_member same (threads_of events) thread) ≡ false → recorded_by thread (e ∷ events) ≡ []
    by_test again true t none = absurd cc
    by_test again false t none = rw (ne_eqb e.thread thread (λ p. eqb-false thread e.thread t (sym p))) (again none)

-- the thread of an event falls, or it is one of others
fall_member : (e next : ThreadEvent) (ns : List ℕ) (thread : ℕ)
    → is_member same (fall e next ++ ns) thread ≡ (((eqb e.thread next.thread && nat_lt next.event.tsc e.event.tsc) && eqb thread next.thread) || is_member same ns thread)
fall_member e next ns thread = by_test (eqb e.thread next.thread && nat_lt next.event.tsc e.event.tsc)
  where
    by_test : (b : Bool) → is_member same (cond b (next.thread ∷ []) [] ++ ns) thread ≡ ((b && eqb thread next.thread) || is_member same ns thread)
    by_test true = refl
    by_test false = refl

-- the counter of a thread goes back if the thread is one of these
falls_are : (events : List ThreadEvent) → DontFall (threads_of events) → (thread : ℕ) → is_member same (falls events) thread ≡ goes_back (thread_counters thread events)
falls_are [] rise thread = refl
falls_are (e ∷ []) rise thread = by_own (eqb e.thread thread)
  where
    by_own : (own : Bool) → false ≡ goes_back (map (λ (x : ThreadEvent). x.event.tsc) (cond own (e ∷ []) []))
    by_own true = refl
    by_own false = refl
falls_are (e ∷ next ∷ events) rise thread =
    fall_member e next (falls (next ∷ events)) thread
    ∙ ap (λ (b : Bool). (level && eqb thread next.thread) || b) (falls_are (next ∷ events) rise.1 thread)
    ∙ by_own (eqb e.thread thread) refl
  where
    lower : Bool
    lower = nat_lt next.event.tsc e.event.tsc

    level : Bool
    level = eqb e.thread next.thread && lower

    later : List ThreadEvent
    later = recorded_by thread events

    tscs : List ThreadEvent → List ℕ
    tscs es = map (λ (x : ThreadEvent). x.event.tsc) es

    both : (b : Bool) → ((true && b) && true) ≡ b
    both true = refl
    both false = refl

    none_later : next.thread ≢ thread → e.thread ≡ thread → later ≡ []
    none_later other own = none_recorded thread events (not_among thread next.thread (threads_of events) (omega (arith, rise.0.0, own, other)) rise.1.0)

    by_next : e.thread ≡ thread → (b : Bool) → eqb next.thread thread ≡ b
        → ((level && eqb thread next.thread) || goes_back (tscs (cond b (next ∷ later) later))) ≡ goes_back (e.event.tsc ∷ tscs (cond b (next ∷ later) later))
    by_next own true t =
        let is : next.thread ≡ thread = eqb-true next.thread thread t in
        ap (λ (b : Bool). ((b && lower) && eqb thread next.thread) || goes_back (tscs (next ∷ later))) (eqb_same e.thread next.thread (own ∙ sym is))
        ∙ ap (λ (b : Bool). ((true && lower) && b) || goes_back (tscs (next ∷ later))) (eqb_same thread next.thread (sym is))
        ∙ ap (λ (b : Bool). b || goes_back (tscs (next ∷ later))) (both lower)
    by_next own false t =
        let other : next.thread ≢ thread = eqb-false next.thread thread t in
        ap (λ (b : Bool). ((b && lower) && eqb thread next.thread) || goes_back (tscs later)) (ne_eqb e.thread next.thread (λ p. other (sym p ∙ own)))
        ∙ ap (λ (es : List ThreadEvent). goes_back (tscs es)) (none_later other own)
        ∙ ap (λ (es : List ThreadEvent). goes_back (e.event.tsc ∷ tscs es)) (sym (none_later other own))

    apart_from : e.thread ≢ thread → (b : Bool) → eqb e.thread next.thread ≡ b → ((b && lower) && eqb thread next.thread) ≡ false
    apart_from other true t = ap (λ (b : Bool). (true && lower) && b) (ne_eqb thread next.thread (λ p. other (eqb-true e.thread next.thread t ∙ sym p))) ∙ none (true && lower)
      where
        none : (b : Bool) → (b && false) ≡ false
        none true = refl
        none false = refl
    apart_from other false t = refl

    by_own : (own : Bool) → eqb e.thread thread ≡ own
        → ((level && eqb thread next.thread) || goes_back (tscs (recorded_by thread (next ∷ events)))) ≡ goes_back (tscs (cond own (e ∷ recorded_by thread (next ∷ events)) (recorded_by thread (next ∷ events))))
    by_own true t = by_next (eqb-true e.thread thread t) (eqb next.thread thread) refl
    by_own false t = ap (λ (b : Bool). b || goes_back (tscs (recorded_by thread (next ∷ events)))) (apart_from (eqb-false e.thread thread t) (eqb e.thread next.thread) refl)

-- a thread whose counter goes back is one of the threads
back_are : (events : List ThreadEvent) (thread : ℕ) → (is_member same (threads_of events) thread && goes_back (thread_counters thread events)) ≡ goes_back (thread_counters thread events)
back_are events thread = by_test (is_member same (threads_of events) thread) refl
  where
    by_test : (b : Bool) → is_member same (threads_of events) thread ≡ b → (b && goes_back (thread_counters thread events)) ≡ goes_back (thread_counters thread events)
    by_test true t = refl
    by_test false t = ap (λ (es : List ThreadEvent). goes_back (map (λ (x : ThreadEvent). x.event.tsc) es)) (sym (none_recorded thread events t))

-- how many they are
pub back_counted : (events : List ThreadEvent) → DontFall (threads_of events)
    → different (falls events) ≡ distinct_threads (filter (λ (thread : ℕ). goes_back (thread_counters thread events)) (threads_of events))
back_counted events rise =
    threads_counted (falls events) (falls_rise events rise)
    ∙ same_count (falls events) (filter back (threads_of events)) are
  where
    back : ℕ → Bool
    back thread = goes_back (thread_counters thread events)

    alike : (q n : ℕ) → eqb q n ≡ true → back q ≡ back n
    alike q n e = ap back (eqb-true q n e)

    are : (q : ℕ) → is_member same (falls events) q ≡ is_member same (filter back (threads_of events)) q
    are q = falls_are events rise q ∙ sym (is_member-filter nat_eq_equiv back q (alike q) (threads_of events) ∙ back_are events q)
