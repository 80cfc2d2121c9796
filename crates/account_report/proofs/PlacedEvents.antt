-- Events that are counted with their positions: all at once, and thread by thread.
use Rattle.std.proofs.Common.{◌≡◌, ◌+◌, ◌++◌, ◌<◌, ◌≤◌, ◌∙◌, ℕ, zero, suc, Bool, true, false, cond, List, [], ◌∷◌, length, map, reverse, count_by, refl, ap, sym, subst, arith, inl, inr, nat_eq}
use Rattle.std.specs.Prelude.{sum_by}
use Rattle.std.specs.Cmp.{nat_cmp_total}
use Rattle.std.specs.FinMap.{nat_cmp-IsAntisymmetric}
use Rattle.std.specs.Ordering.{nat_cmp}
use Rattle.std.specs.List.{AllByRecursion, IsDistinct, range_with_len}
use Rattle.std.proofs.Math.ListN.{get_or-append}
use Rattle.std.proofs.Math.Seq.{get_or-append_seam}
use Rattle.std.proofs.lemmas.Bool.{eqb-true, eq-eqb}
use Rattle.std.proofs.lemmas.List.{length-reverse, reverse-append}
use Rattle.std.proofs.lemmas.List.Sums.{sum_by-append, sum_by-cons}
use Rattle.fdr_record.specs.declared.event.Event.{Event}
use Rattle.fdr_file.specs.ThreadEvents.{ThreadEvent}
use Rattle.stack_rebuild.specs.Histories.{history_of_thread}
use Rattle.stack_rebuild.specs.PairLaws.{event_at, no_event}
use Rattle.stack_rebuild.proofs.AscendingLists.{each_once-in, strict-each_once}
use Rattle.stack_rebuild.proofs.Groups.{sum_by-none}
use Rattle.stack_rebuild.proofs.Items.{IsIn, in-map}
use Rattle.stack_rebuild.proofs.Orders.{range_more}
use Rattle.account_report.specs.Account.{threads_in}
use Rattle.account_report.proofs.AscendingLists.{distinct_from_strict}

-- how many events of a history pass a test, which looks at the event and at its position among the events of its thread
abbrev pub count_placed : (ThreadEvent → ℕ → Bool) → List ThreadEvent → ℕ
count_placed test [] = 0
count_placed test (e ∷ before) = cond (test e (length (history_of_thread e.thread before))) 1 0 + count_placed test before

-- the same of one thread, whose events are listed from the last one to the first
abbrev pub count_own : (Event → ℕ → Bool) → List Event → ℕ
count_own test [] = 0
count_own test (e ∷ before) = cond (test e (length before)) 1 0 + count_own test before

-- ---- one thread, position by position

count_alike : (p q : ℕ → Bool) (a n : ℕ) → ((i : ℕ) → a ≤ i → i < a + n → p i ≡ q i) → count_by p (range_with_len a n) ≡ count_by q (range_with_len a n)
count_alike p q a zero same = refl
count_alike p q a (suc n) same =
    let rest : count_by p (range_with_len (a + 1) n) ≡ count_by q (range_with_len (a + 1) n) =
    count_alike p q (a + 1) n (λ i low high. same i (omega (arith, low)) (omega (arith, high))) in
    let here = ap {B = ℕ} (λ (b : Bool). cond b 1 0) (same a (omega arith) (omega arith)) in
    omega (arith, here, rest, sum_by-cons (λ i. cond (p i) 1 0) a (range_with_len (a + 1) n), sum_by-cons (λ i. cond (q i) 1 0) a (range_with_len (a + 1) n))

pub by_position : (test : Event → ℕ → Bool) (own : List Event)
    → count_by (λ at. test (event_at (reverse own) at) at) (range_with_len 0 (length own)) ≡ count_own test own
by_position test [] = refl
by_position test (e ∷ before) =
    let n = length before in
    let p : ℕ → Bool = λ at. test (event_at (reverse (e ∷ before)) at) at in
    let q : ℕ → Bool = λ at. test (event_at (reverse before) at) at in
    let turned : reverse (e ∷ before) ≡ reverse before ++ e ∷ [] = reverse-append (e ∷ []) before in
    let long : length (reverse before) ≡ n = length-reverse before in
    let last : event_at (reverse (e ∷ before)) n ≡ e =
    ap (λ (es : List Event). event_at es n) turned
    ∙ (ap (λ (k : ℕ). event_at (reverse before ++ e ∷ []) k) (sym long) ∙ get_or-append_seam (reverse before) e [] no_event) in
    let same : count_by p (range_with_len 0 n) ≡ count_by q (range_with_len 0 n) =
    count_alike p q 0 n
    (λ i low high. ap (λ (x : Event). test x i)
    (ap (λ (es : List Event). event_at es i) turned ∙ get_or-append (reverse before) (e ∷ []) no_event i (omega (arith, high, long)))) in
    let split : count_by p (range_with_len 0 (suc n)) ≡ count_by p (range_with_len 0 n) + count_by p (n ∷ []) =
    ap (λ (ks : List ℕ). count_by p ks) (range_more 0 n n (omega arith)) ∙ sum_by-append (λ (k : ℕ). cond (p k) 1 0) (range_with_len 0 n) (n ∷ []) in
    let here : cond (p n) 1 0 ≡ cond (test e n) 1 0 = ap {B = ℕ} (λ (x : Event). cond (test x n) 1 0) last in
    let one = sum_by-cons (λ (k : ℕ). cond (p k) 1 0) n [] in
    let rest : count_by q (range_with_len 0 n) ≡ count_own test before = by_position test before in
    omega (arith, split, same, here, one, rest)

-- ---- all threads

-- what one thread's events count
abbrev own_count : (ℕ → Event → ℕ → Bool) → List ThreadEvent → ℕ → ℕ
own_count p h thread = count_own (p thread) (history_of_thread thread h)

abbrev placed_test : (ℕ → Event → ℕ → Bool) → ThreadEvent → ℕ → Bool
placed_test p e at = p e.thread e.event at

-- an event of another thread changes nothing
not_more : (p : ℕ → Event → ℕ → Bool) (e : ThreadEvent) (h : List ThreadEvent) (threads : List ℕ) → AllByRecursion (λ (thread : ℕ). nat_eq e.thread thread ≡ false) threads
    → sum_by (own_count p (e ∷ h)) threads ≡ sum_by (own_count p h) threads
not_more p e h [] none = refl
not_more p e h (thread ∷ threads) none =
    let here : own_count p (e ∷ h) thread ≡ own_count p h thread =
    ap (λ (b : Bool). count_own (p thread) (cond b (e.event ∷ history_of_thread thread h) (history_of_thread thread h))) none.0 in
    omega (arith, here, not_more p e h threads none.1, sum_by-cons (own_count p (e ∷ h)) thread threads, sum_by-cons (own_count p h) thread threads)

-- an event counts in its own thread
one_more : (p : ℕ → Event → ℕ → Bool) (e : ThreadEvent) (h : List ThreadEvent) (threads : List ℕ) → IsDistinct nat_eq threads → IsIn e.thread threads
    → sum_by (own_count p (e ∷ h)) threads ≡ cond (placed_test p e (length (history_of_thread e.thread h))) 1 0 + sum_by (own_count p h) threads
unfolding IsDistinct
one_more p e h [] once is = absurd is
one_more p e h (thread ∷ threads) once (inl is) =
    let none : AllByRecursion (λ (t : ℕ). nat_eq e.thread t ≡ false) threads =
    subst (λ (n : ℕ). AllByRecursion (λ (t : ℕ). nat_eq n t ≡ false) threads) (sym is) once.0 in
    let here : own_count p (e ∷ h) thread ≡ cond (placed_test p e (length (history_of_thread e.thread h))) 1 0 + own_count p h thread =
    ap (λ (b : Bool). count_own (p thread) (cond b (e.event ∷ history_of_thread thread h) (history_of_thread thread h))) (eq-eqb e.thread thread is)
    ∙ ap (λ (t : ℕ). cond (p t e.event (length (history_of_thread t h))) 1 0 + own_count p h thread) (sym is) in
    omega (arith, here, not_more p e h threads none, sum_by-cons (own_count p (e ∷ h)) thread threads, sum_by-cons (own_count p h) thread threads)
one_more p e h (thread ∷ threads) once (inr is) =
    let apart : nat_eq e.thread thread ≡ false = other (nat_eq e.thread thread) refl in
    let here : own_count p (e ∷ h) thread ≡ own_count p h thread =
    ap (λ (b : Bool). count_own (p thread) (cond b (e.event ∷ history_of_thread thread h) (history_of_thread thread h))) apart in
    omega (arith, here, one_more p e h threads once.1 is, sum_by-cons (own_count p (e ∷ h)) thread threads, sum_by-cons (own_count p h) thread threads)
  where
    never : (ts : List ℕ) → AllByRecursion (λ (t : ℕ). nat_eq thread t ≡ false) ts → IsIn thread ts → ⊥
    never [] all there = there
    never (t ∷ ts) all (inl same) = let e : true ≡ false = sym (eq-eqb thread t same) ∙ all.0 in (let n : ⊥ = cc in n)
    never (t ∷ ts) all (inr there) = never ts all.1 there

    other : (b : Bool) → nat_eq e.thread thread ≡ b → nat_eq e.thread thread ≡ false
    other true same = absurd (never threads once.0 (subst (λ (n : ℕ). IsIn n threads) (eqb-true e.thread thread same) is))
    other false same = same

by_thread : (p : ℕ → Event → ℕ → Bool) (threads : List ℕ) (h : List ThreadEvent) → IsDistinct nat_eq threads → ((e : ThreadEvent) → IsIn e h → IsIn e.thread threads)
    → count_placed (placed_test p) h ≡ sum_by (own_count p h) threads
by_thread p threads [] once all = sym (sum_by-none threads)
by_thread p threads (e ∷ h) once all =
    omega (arith, one_more p e h threads once (all e (inl refl)), by_thread p threads h once (λ x is. all x (inr is)))

abbrev thread_of : ThreadEvent → ℕ
thread_of e = e.thread

-- the events of all threads are those of each
pub over_threads : (p : ℕ → Event → ℕ → Bool) (h : List ThreadEvent)
    → count_placed (λ e at. p e.thread e.event at) h
    ≡ sum_by (λ thread. count_own (p thread) (history_of_thread thread h)) (threads_in h)
over_threads p h =
    by_thread p (threads_in h) h (distinct_from_strict (threads_in h) (strict-each_once nat_cmp nat_cmp_total (map thread_of h)))
    (λ e is. each_once-in nat_cmp nat_cmp-IsAntisymmetric (map thread_of h) e.thread (in-map thread_of h e is))
