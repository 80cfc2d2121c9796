-- Events of which each thread has the same: the same is printed of them.
use Rattle.std.proofs.Common.{◌≡◌, ℕ, ◌≤◌, Bool, true, false, cond, eqb, List, [], ◌∷◌, ◌++◌, length, drop, map, Option, Some, None, refl, sym, ap, subst, ◌∙◌, arith}
use Rattle.std.specs.Prelude.{◌&&◌, IsPermutation, filter}
use Rattle.std.specs.Set.{is_member}
use Rattle.std.proofs.lemmas.Bool.{eqb-true}
use Rattle.std.proofs.lemmas.Cmp.{nat_eq_equiv}
use Rattle.std.proofs.lemmas.List.Elements.{filter-append}
use Rattle.std.proofs.lemmas.List.Sorted.{All-permutation, Contains-permutation, IsPermutation-cons, IsPermutation-map, IsPermutation-middle, IsPermutation-refl, IsPermutation-sym, IsPermutation-trans, length_permutation, list_any-IsPermutation, sum_by-IsPermutation}
use Rattle.std.proofs.lemmas.Map.Made.{is_member-filter}
use Rattle.fdr_file.specs.ThreadEvents.{ThreadEvent}
use Rattle.fdr_file.specs.Traces.{logs_arg}
use Rattle.runtime_log.specs.declared.facts.Facts.{Facts}
use Rattle.runtime_log.specs.LogLaws.{IsGreatest, IsLeast, NumbersAreOfEvents, distinct_threads, goes_back, thread_counters}
use Rattle.runtime_log.specs.Threads.{recorded_by}
use Rattle.runtime_log.proofs.ByThread.{eqb_same}
use Rattle.runtime_log.proofs.CountedThreads.{same, same_count, threads_of}

-- ---- the same events in another order

abbrev Same : List ThreadEvent → List ThreadEvent → Type 0
Same xs ys = (thread : ℕ) → recorded_by thread xs ≡ recorded_by thread ys

-- events around the first one of its thread
record IsFirst (e : ThreadEvent) (ys : List ThreadEvent) : Type 0 where
  front : List ThreadEvent
  later : List ThreadEvent
  parts : ys ≡ front ++ e ∷ later
  none : recorded_by e.thread front ≡ []

first_of_thread : (e : ThreadEvent) (ys rest : List ThreadEvent) → recorded_by e.thread ys ≡ e ∷ rest → IsFirst e ys
first_of_thread e [] rest is = absurd cc
first_of_thread e (y ∷ ys) rest is = by_test (first_of_thread e ys rest) (eqb y.thread e.thread) refl is
  where
    by_test : (recorded_by e.thread ys ≡ e ∷ rest → IsFirst e ys) → (b : Bool) → eqb y.thread e.thread ≡ b → cond b (y ∷ recorded_by e.thread ys) (recorded_by e.thread ys) ≡ e ∷ rest → IsFirst e (y ∷ ys)
    by_test again true t h =
        let one : y ≡ e = cc in
        record { front = []; later = ys; parts = ap (λ (x : ThreadEvent). x ∷ ys) one; none = refl }
    by_test again false t h =
        let f = again h in
        record {
          front = y ∷ f.front;
          later = f.later;
          parts = ap (λ (xs : List ThreadEvent). y ∷ xs) f.parts;
          none = ap (λ (b : Bool). cond b (y ∷ recorded_by e.thread f.front) (recorded_by e.thread f.front)) t ∙ f.none;
        }

none_left : (y : ThreadEvent) (ys : List ThreadEvent) → Same [] (y ∷ ys) → ⊥
none_left y ys are =
    let some : [] ≡ y ∷ recorded_by y.thread ys =
    are y.thread ∙ ap (λ (b : Bool). cond b (y ∷ recorded_by y.thread ys) (recorded_by y.thread ys)) (eqb_same y.thread y.thread refl) in
    absurd cc

others_same : (e : ThreadEvent) (xs front later : List ThreadEvent) → recorded_by e.thread front ≡ [] → Same (e ∷ xs) (front ++ e ∷ later) → Same xs (front ++ later)
others_same e xs front later none are thread = by_test (eqb e.thread thread) refl (are thread ∙ filter-append of front (e ∷ later)) ∙ sym (filter-append of front later)
  where
    of : ThreadEvent → Bool
    of x = eqb x.thread thread

    by_test : (b : Bool) → eqb e.thread thread ≡ b
        → cond b (e ∷ recorded_by thread xs) (recorded_by thread xs) ≡ recorded_by thread front ++ cond b (e ∷ recorded_by thread later) (recorded_by thread later)
        → recorded_by thread xs ≡ recorded_by thread front ++ recorded_by thread later
    by_test true t h =
        let empty : recorded_by thread front ≡ [] = ap (λ (n : ℕ). recorded_by n front) (sym (eqb-true e.thread thread t)) ∙ none in
        ap (drop 1) (h ∙ ap (λ (es : List ThreadEvent). es ++ e ∷ recorded_by thread later) empty)
        ∙ ap (λ (es : List ThreadEvent). es ++ recorded_by thread later) (sym empty)
    by_test false t h = h

-- they are the same events
moved : (xs ys : List ThreadEvent) → Same xs ys → IsPermutation xs ys
moved [] [] are = IsPermutation-refl []
moved [] (y ∷ ys) are = absurd (none_left y ys are)
moved (e ∷ xs) ys are =
    let own : recorded_by e.thread ys ≡ e ∷ recorded_by e.thread xs =
    sym (are e.thread) ∙ ap (λ (b : Bool). cond b (e ∷ recorded_by e.thread xs) (recorded_by e.thread xs)) (eqb_same e.thread e.thread refl) in
    let f = first_of_thread e ys (recorded_by e.thread xs) own in
    let others = others_same e xs f.front f.later f.none (λ thread. are thread ∙ ap (recorded_by thread) f.parts) in
    subst (IsPermutation (e ∷ xs)) (sym f.parts)
    (IsPermutation-trans (e ∷ xs) (e ∷ (f.front ++ f.later)) (f.front ++ e ∷ f.later) (IsPermutation-cons e xs (f.front ++ f.later) (moved xs (f.front ++ f.later) others))
    (IsPermutation-sym (f.front ++ e ∷ f.later) (e ∷ (f.front ++ f.later)) (IsPermutation-middle f.front e f.later)))

-- ---- what is printed of them

none_moved : (ns ms : List ℕ) → IsPermutation ns ms → ns ≡ [] → ms ≡ []
none_moved ns [] perm none = refl
none_moved ns (m ∷ ms) perm none = absurd (omega (arith, length_permutation ns (m ∷ ms) perm, ap length none))

least_moved : (ns ms : List ℕ) → IsPermutation ns ms → (o : Option ℕ) → IsLeast ns o → IsLeast ms o
least_moved ns ms perm None is = none_moved ns ms perm is
least_moved ns ms perm (Some n) is = (Contains-permutation ns ms n perm is.0, All-permutation (λ (m : ℕ). n ≤ m) ns ms perm is.1)

greatest_moved : (ns ms : List ℕ) → IsPermutation ns ms → (o : Option ℕ) → IsGreatest ns o → IsGreatest ms o
greatest_moved ns ms perm None is = none_moved ns ms perm is
greatest_moved ns ms perm (Some n) is = (Contains-permutation ns ms n perm is.0, All-permutation (λ (m : ℕ). m ≤ n) ns ms perm is.1)

pub numbers_move : (xs ys : List ThreadEvent) (facts : Facts) → ((thread : ℕ) → recorded_by thread xs ≡ recorded_by thread ys) → NumbersAreOfEvents xs facts → NumbersAreOfEvents ys facts
numbers_move xs ys facts are numbers = record {
  events = numbers.events ∙ sym (length_permutation xs ys perm);
  arguments = numbers.arguments ∙ sym (sum_by-IsPermutation (λ (e : ThreadEvent). cond (logs_arg e.event.kind) 1 0) xs ys perm);
  threads = numbers.threads ∙ same_count (threads_of xs) (threads_of ys) members;
  first = least_moved (map tsc xs) (map tsc ys) (IsPermutation-map tsc xs ys perm) facts.first numbers.first;
  last = greatest_moved (map tsc xs) (map tsc ys) (IsPermutation-map tsc xs ys perm) facts.last numbers.last;
  back = numbers.back ∙ ap (λ (p : ℕ → Bool). distinct_threads (filter p (threads_of xs))) alike ∙ same_count (filter back (threads_of xs)) (filter back (threads_of ys)) both;
}
  where
    tsc : ThreadEvent → ℕ
    tsc e = e.event.tsc

    perm : IsPermutation xs ys
    perm = moved xs ys are

    back : ℕ → Bool
    back thread = goes_back (thread_counters thread ys)

    alike : ◌≡◌ {A = ℕ → Bool} (λ thread. goes_back (thread_counters thread xs)) (λ thread. goes_back (thread_counters thread ys))
    alike = λ i thread. goes_back (map (λ (e : ThreadEvent). e.event.tsc) (are thread i))

    members : (q : ℕ) → is_member same (threads_of xs) q ≡ is_member same (threads_of ys) q
    members q = list_any-IsPermutation (λ (n : ℕ). eqb q n) (threads_of xs) (threads_of ys) (IsPermutation-map (λ (e : ThreadEvent). e.thread) xs ys perm)

    level : (q n : ℕ) → eqb q n ≡ true → back q ≡ back n
    level q n e = ap back (eqb-true q n e)

    both : (q : ℕ) → is_member same (filter back (threads_of xs)) q ≡ is_member same (filter back (threads_of ys)) q
    both q =
        is_member-filter nat_eq_equiv back q (level q) (threads_of xs)
        ∙ ap (λ (b : Bool). b && back q) (members q)
        ∙ sym (is_member-filter nat_eq_equiv back q (level q) (threads_of ys))
