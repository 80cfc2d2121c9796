-- The weight of a path is its sum, and what is in no sum.
use Rattle.std.proofs.Common.{◌≡◌, ◌≢◌, ◌≤◌, ◌<◌, ◌+◌, ◌-◌, ◌++◌, ◌∙◌, ℕ, suc, Bool, true, false, cond, List, [], ◌∷◌, length, map, reverse, take, refl, ap, sym, subst, arith, nat_eq, length-append}
use Rattle.std.specs.Prelude.{◌&&◌, ◌||◌, not, IsTrue, All, sum_by}
use Rattle.std.specs.List.{AllPairs, flat_map, list_any}
use Rattle.std.specs.Cmp.Lexicographic.{nat_list_cmp_total}
use Rattle.std.proofs.lemmas.Bool.{and_from, and_parts, eq-eqb, eqb-true, false≢true}
use Rattle.std.proofs.lemmas.List.{length-take-le, get_or-take, reverse-reverse, take-take}
use Rattle.std.proofs.lemmas.List.Elements.{All-head, All-tail}
use Rattle.std.proofs.lemmas.List.Sums.{sum_by-append, sum_by-cons}
use Rattle.fdr_record.specs.declared.event.Event.{Event}
use Rattle.stack_rebuild.specs.declared.call.Call.{Call}
use Rattle.stack_rebuild.specs.declared.call.Pair.{Pair}
use Rattle.stack_rebuild.specs.Ascending.{each_once}
use Rattle.stack_rebuild.specs.Calls.{enters, open_calls, pairs_of}
use Rattle.stack_rebuild.specs.PairLaws.{IsWholeCall, event_at, no_event}
use Rattle.stack_rebuild.specs.Stacks.{PathRow, Timed, has_path, is_innermost, open_before, pair_path, path_cmp, path_of, path_row, rows_of_pairs, spent_in, timed, timed_pairs}
use Rattle.stack_rebuild.specs.Weights.{IsAllTimed, WeighsNoMore, WeighsSum, begins, entry_path, has_ended, innermost_ended, is_left_over, left_over, overrun, weight_of}
use Rattle.stack_rebuild.proofs.AscendingLists.{each_once-in, strict-each_once}
use Rattle.stack_rebuild.proofs.Groups.{IsGrouped, counts_once, sum_by-groups, sum_by-map, sum_by-none, sum_by-plus, sum_by-same}
use Rattle.stack_rebuild.proofs.Items.{IsIn, all_in, in-map}
use Rattle.stack_rebuild.proofs.NestedCalls.{Nested, nested_history}
use Rattle.stack_rebuild.proofs.PairFacts.{AllEntered, all_entered, entries_apart, pairs_are_whole}
use Rattle.stack_rebuild.proofs.SpentTimes.{path_of-cons}
use Rattle.stack_rebuild.proofs.Sums.{has_own, has_path-other, has_path-same, path_cmp_equal}

-- ---- sums

-- a sum of sums, in the other order
sum_by-swap : {X Y : Type 0} (f : X → Y → ℕ) (xs : List X) (ys : List Y) → sum_by (λ x. sum_by (λ y. f x y) ys) xs ≡ sum_by (λ y. sum_by (λ x. f x y) xs) ys
sum_by-swap f [] ys = sym (sum_by-none ys)
sum_by-swap {X} {Y} f (x ∷ xs) ys =
    let more : sum_by (λ y. sum_by (λ z. f z y) (x ∷ xs)) ys ≡ sum_by (λ y. f x y + sum_by (λ z. f z y) xs) ys =
    sum_by-same (λ y. sum_by (λ z. f z y) (x ∷ xs)) (λ y. f x y + sum_by (λ z. f z y) xs) ys (λ y is. sum_by-cons (λ z. f z y) x xs) in
    omega (
      arith,
      more,
      sum_by-plus (λ y. f x y) (λ y. sum_by (λ z. f z y) xs) ys,
      sum_by-swap f xs ys,
      sum_by-cons (λ z. sum_by (λ y. f z y) ys) x xs,
    )

-- a sum that counts or not
sum_by-cond : {X : Type 0} (b : Bool) (f : X → ℕ) (xs : List X) → cond b (sum_by f xs) 0 ≡ sum_by (λ x. cond b (f x) 0) xs
sum_by-cond true f xs = refl
sum_by-cond false f xs = sym (sum_by-none xs)

cond_twice : (a b : Bool) (n : ℕ) → cond a (cond b n 0) 0 ≡ cond b (cond a n 0) 0
cond_twice true true n = refl
cond_twice true false n = refl
cond_twice false true n = refl
cond_twice false false n = refl

cond_none : (b : Bool) → ◌≡◌ {A = ℕ} (cond b 0 0) 0
cond_none true = refl
cond_none false = refl

-- ---- paths that begin with a path

begins_own : (path : List ℕ) → begins path path ≡ true
begins_own [] = refl
begins_own (f ∷ path) = and_from (nat_eq f f) (begins path path) (eq-eqb f f refl) (begins_own path)

begins_short : (path base : List ℕ) → begins path base ≡ true → length path ≤ length base
begins_short [] base is = omega arith
begins_short (f ∷ path) [] is = absurd (false≢true is)
begins_short (f ∷ path) (g ∷ base) is = omega (arith, begins_short path base (and_parts (nat_eq f g) (begins path base) is).1)

begins_longer : (path base : List ℕ) (own : ℕ) → begins path base ≡ true → begins path (base ++ own ∷ []) ≡ true
begins_longer [] base own is = refl
begins_longer (f ∷ path) [] own is = absurd (false≢true is)
begins_longer (f ∷ path) (g ∷ base) own is =
    let parts = and_parts (nat_eq f g) (begins path base) is in
    and_from (nat_eq f g) (begins path (base ++ own ∷ [])) parts.0 (begins_longer path base own parts.1)

-- what begins with a path, and not without its own function, is the path
begins_just : (path base : List ℕ) (own : ℕ) → begins path base ≡ false → begins path (base ++ own ∷ []) ≡ true → base ++ own ∷ [] ≡ path
begins_just [] base own isnt is = absurd (false≢true (sym isnt))
begins_just (f ∷ []) [] own isnt is = ap (λ (g : ℕ). g ∷ []) (sym (eqb-true f own (and_parts (nat_eq f own) true is).0))
begins_just (f ∷ g ∷ path) [] own isnt is = absurd (false≢true (and_parts (nat_eq f own) false is).1)
begins_just (f ∷ path) (g ∷ base) own isnt is =
    let parts = and_parts (nat_eq f g) (begins path (base ++ own ∷ [])) is in
    let rest : begins path base ≡ false = sym (ap (λ (b : Bool). b && begins path base) parts.0) ∙ isnt in
    ap (λ (h : ℕ). h ∷ base ++ own ∷ []) (sym (eqb-true f g parts.0)) ∙ ap (λ (l : List ℕ). f ∷ l) (begins_just path base own rest parts.1)

-- a path that begins with another is this one, or its caller's path begins with it
begins_or_is : (path base : List ℕ) (own n : ℕ) (pair : Timed) → pair.path ≡ base ++ own ∷ []
    → cond (begins path pair.path) n 0 ≡ cond (has_path path pair) n 0 + cond (begins path base) n 0
begins_or_is path base own n pair whole = by_test (begins path base) refl (begins path (base ++ own ∷ [])) refl
  where
    is_own : begins path (base ++ own ∷ []) ≡ true → begins path pair.path ≡ true
    is_own is = ap (begins path) whole ∙ is

    by_test : (b : Bool) → begins path base ≡ b → (d : Bool) → begins path (base ++ own ∷ []) ≡ d
        → cond (begins path pair.path) n 0 ≡ cond (has_path path pair) n 0 + cond (begins path base) n 0
    by_test true is d so =
        let longer = begins_short path base is in
        let other : has_path path pair ≡ false =
        has_path-other path pair (λ same. let e = ap {B = ℕ} length (sym whole ∙ same) in omega (arith, e, longer, length-append base (own ∷ []))) in
        omega (
          arith,
          ap {B = ℕ} (λ c. cond c n 0) (ap (begins path) whole ∙ begins_longer path base own is),
          ap {B = ℕ} (λ c. cond c n 0) other,
          ap {B = ℕ} (λ c. cond c n 0) is,
        )
    by_test false isnt true so =
        let just : pair.path ≡ path = whole ∙ begins_just path base own isnt so in
        let its : has_path path pair ≡ true = ap (λ (p : List ℕ). has_path p pair) (sym just) ∙ has_own pair in
        omega (arith, ap {B = ℕ} (λ c. cond c n 0) (ap (begins path) whole ∙ so), ap {B = ℕ} (λ c. cond c n 0) its, ap {B = ℕ} (λ c. cond c n 0) isnt)
    by_test false isnt false misses =
        let other : has_path path pair ≡ false =
        has_path-other path pair (λ same. false≢true (sym misses ∙ (ap (begins path) (sym whole ∙ same) ∙ begins_own path))) in
        omega (arith, ap {B = ℕ} (λ c. cond c n 0) (ap (begins path) whole ∙ misses), ap {B = ℕ} (λ c. cond c n 0) other, ap {B = ℕ} (λ c. cond c n 0) isnt)

-- ---- the innermost call

-- what is known of the innermost call before an event
record IsInnermost (events : List Event) (call : Call) (outer : List Call) : Type 0 where
  pub low : call.entry < length events
  pub begun : enters (event_at events call.entry).kind ≡ true
  pub func : (event_at events call.entry).func ≡ call.func
  pub outside : outer ≡ open_before events call.entry

innermost_is : (events : List Event) (at : ℕ) (call : Call) (outer : List Call) → at ≤ length events → open_before events at ≡ call ∷ outer → IsInnermost events call outer
innermost_is events at call outer within is = record {
  low = omega (arith, low, within, size);
  begun = ap (λ (e : Event). enters e.kind) (sym kept) ∙ entered.0.begins;
  func = ap (λ (e : Event). e.func) (sym kept) ∙ entered.0.func;
  outside = nested.2 ∙ ap (λ (es : List Event). open_calls (reverse es)) (take-take call.entry at events (omega (arith, low, size)));
}
  where
    size : length (take at events) ≡ at
    size = length-take-le at events within

    nested : Nested (take at events) (call ∷ outer)
    nested =
        subst (Nested (take at events)) is
        (subst (λ (es : List Event). Nested es (open_before events at)) (reverse-reverse (take at events)) (nested_history (reverse (take at events))).nested)

    entered : AllEntered (take at events) (call ∷ outer)
    entered =
        subst (AllEntered (take at events)) is
        (subst (λ (es : List Event). AllEntered es (open_before events at)) (reverse-reverse (take at events)) (all_entered (reverse (take at events))))

    low : call.entry < length (take at events)
    low = nested.0

    kept : event_at (take at events) call.entry ≡ event_at events call.entry
    kept = get_or-take at events call.entry no_event (omega (arith, low, size))

-- ---- pairs in their callers

-- no other pair has an entry
none_there : (at n : ℕ) (pairs : List Pair) → All (λ (pair : Pair). at ≢ pair.entry) pairs → sum_by (λ (pair : Pair). cond (nat_eq at pair.entry) n 0) pairs ≡ 0
none_there at n [] apart = refl
none_there at n (pair ∷ pairs) apart =
    let P : Pair → Type 0 = λ p. at ≢ p.entry in
    let rest = none_there at n pairs (All-tail P pair pairs apart) in
    omega (arith, rest, sum_by-cons (λ (p : Pair). cond (nat_eq at p.entry) n 0) pair pairs, differs (nat_eq at pair.entry) refl)
  where
    differs : (b : Bool) → nat_eq at pair.entry ≡ b → cond (nat_eq at pair.entry) n 0 ≡ 0
    differs true same = absurd (All-head (λ (p : Pair). at ≢ p.entry) pair pairs apart (eqb-true at pair.entry same))
    differs false other = ap {B = ℕ} (λ b. cond b n 0) other

-- pairs with an entry are counted once
counted_once : (at n : ℕ) (pairs : List Pair) → AllPairs (λ (pair later : Pair). pair.entry ≢ later.entry) pairs
    → sum_by (λ (pair : Pair). cond (nat_eq at pair.entry) n 0) pairs ≡ cond (list_any (λ (pair : Pair). nat_eq pair.entry at) pairs) n 0
counted_once at n [] apart = refl
counted_once at n (pair ∷ pairs) apart =
    sum_by-cons (λ (p : Pair). cond (nat_eq at p.entry) n 0) pair pairs
    ∙ by_test (nat_eq pair.entry at) refl (counted_once at n pairs (λ i j d low within. apart (suc i) (suc j) d (omega (arith, low)) (omega (arith, within))))
  where
    others : All (λ (p : Pair). pair.entry ≢ p.entry) pairs
    others = λ k d within. apart 0 (suc k) d (omega arith) (omega (arith, within))

    by_test : (b : Bool) → nat_eq pair.entry at ≡ b
        → sum_by (λ (p : Pair). cond (nat_eq at p.entry) n 0) pairs ≡ cond (list_any (λ (p : Pair). nat_eq p.entry at) pairs) n 0
        → cond (nat_eq at pair.entry) n 0 + sum_by (λ (p : Pair). cond (nat_eq at p.entry) n 0) pairs ≡ cond (b || list_any (λ (p : Pair). nat_eq p.entry at) pairs) n 0
    by_test true is again =
        let same : pair.entry ≡ at = eqb-true pair.entry at is in
        let here = ap {B = ℕ} (λ b. cond b n 0) (eq-eqb at pair.entry (sym same)) in
        let rest = none_there at n pairs (subst (λ (m : ℕ). All (λ (p : Pair). m ≢ p.entry) pairs) same others) in
        omega (arith, here, rest)
    by_test false isnt again = omega (arith, again, differs (nat_eq at pair.entry) refl)
      where
        differs : (b : Bool) → nat_eq at pair.entry ≡ b → cond (nat_eq at pair.entry) n 0 ≡ 0
        differs true same = absurd (false≢true (sym isnt ∙ eq-eqb pair.entry at (sym (eqb-true at pair.entry same))))
        differs false other = ap {B = ℕ} (λ b. cond b n 0) other

-- the pair of the innermost call has the path of the open calls
path_in : (events : List Event) (call : Call) (outer : List Call) (pair : Pair) → IsInnermost events call outer → IsWholeCall events pair → call.entry ≡ pair.entry
    → pair_path events pair ≡ path_of (call ∷ outer)
path_in events call outer pair known whole same =
    let func : pair.func ≡ call.func = sym whole.entered ∙ (ap (λ (at : ℕ). (event_at events at).func) (sym same) ∙ known.func) in
    let calls : open_before events pair.entry ≡ outer = ap (open_before events) (sym same) ∙ sym known.outside in
    ap (λ (cs : List Call). path_of cs ++ pair.func ∷ []) calls ∙ (ap (λ (f : ℕ). path_of outer ++ f ∷ []) func ∙ sym (path_of-cons call outer))

-- a pair was made directly in one call at most
held_once : (events : List Event) (path : List ℕ) (at n : ℕ) → at ≤ length events → (calls : List Call) → open_before events at ≡ calls
    → sum_by (λ (pair : Pair). cond (begins path (pair_path events pair)) (cond (is_innermost pair.entry calls) n 0) 0) (pairs_of events)
    ≡ cond (begins path (path_of calls)) (cond (innermost_ended events calls) n 0) 0
held_once events path at n within [] is =
    sum_by-same (λ (pair : Pair). cond (begins path (pair_path events pair)) (cond (is_innermost pair.entry []) n 0) 0) (λ (pair : Pair). 0) (pairs_of events)
    (λ pair there. cond_none (begins path (pair_path events pair)))
    ∙ (sum_by-none (pairs_of events) ∙ sym (cond_none (begins path (path_of []))))
held_once events path at n within (call ∷ outer) is =
    sum_by-same (λ (pair : Pair). cond (begins path (pair_path events pair)) (cond (nat_eq call.entry pair.entry) n 0) 0)
    (λ (pair : Pair). cond (nat_eq call.entry pair.entry) (cond (begins path (path_of (call ∷ outer))) n 0) 0) (pairs_of events)
    (λ pair there. each pair there (nat_eq call.entry pair.entry) refl)
    ∙ (counted_once call.entry (cond (begins path (path_of (call ∷ outer))) n 0) (pairs_of events) (entries_apart (reverse events))
    ∙ cond_twice (has_ended events call.entry) (begins path (path_of (call ∷ outer))) n)
  where
    each : (pair : Pair) → IsIn pair (pairs_of events) → (b : Bool) → nat_eq call.entry pair.entry ≡ b
        → cond (begins path (pair_path events pair)) (cond b n 0) 0 ≡ cond b (cond (begins path (path_of (call ∷ outer))) n 0) 0
    each pair there true same =
        let whole = all_in (IsWholeCall events) (pairs_of events) (pairs_are_whole events) pair there in
        let known = innermost_is events at call outer within is in
        ap {B = ℕ} (λ b. cond b n 0) (ap (begins path) (path_in events call outer pair known whole (eqb-true call.entry pair.entry same)))
    each pair there false other = cond_none (begins path (pair_path events pair))

-- ---- one thread

-- the pairs that were made directly in calls on a path and below it
abbrev held : List Event → List ℕ → Pair → ℕ
held events path pair =
    cond (begins path (path_of (open_before events pair.entry))) (cond (innermost_ended events (open_before events pair.entry)) pair.duration 0) 0

all_spent : (events : List Event) (path : List ℕ)
    → sum_by (λ (pair : Pair). cond (begins path (pair_path events pair)) (spent_in events pair.entry) 0) (pairs_of events) ≡ sum_by (held events path) (pairs_of events)
all_spent events path =
    let pairs = pairs_of events in
    let share : Pair → Pair → ℕ = λ outer pair. cond (begins path (pair_path events outer)) (cond (is_innermost outer.entry (open_before events pair.entry)) pair.duration 0) 0 in
    sum_by-same (λ (outer : Pair). cond (begins path (pair_path events outer)) (spent_in events outer.entry) 0) (λ outer. sum_by (λ pair. share outer pair) pairs) pairs
    (λ outer there. sum_by-cond (begins path (pair_path events outer)) (λ (pair : Pair). cond (is_innermost outer.entry (open_before events pair.entry)) pair.duration 0) pairs)
    ∙ (sum_by-swap share pairs pairs
    ∙ sum_by-same (λ pair. sum_by (λ outer. share outer pair) pairs) (held events path) pairs
    (λ pair there.
    let whole = all_in (IsWholeCall events) pairs (pairs_are_whole events) pair there in
    held_once events path pair.entry pair.duration (omega (arith, whole.rises, whole.within)) (open_before events pair.entry) refl))

-- what is left of a duration without what was spent, and how much more was spent
left_and_over : (b : Bool) (duration spent : ℕ) → cond b (duration - spent) 0 + cond b spent 0 ≡ cond b duration 0 + cond b (spent - duration) 0
left_and_over true duration spent = omega arith
left_and_over false duration spent = refl

held_or_not : (b d : Bool) (n : ℕ) → cond b n 0 ≡ cond b (cond d n 0) 0 + cond (b && not d) n 0
held_or_not true true n = omega arith
held_or_not true false n = omega arith
held_or_not false d n = refl

thread_weighs : (events : List Event) (path : List ℕ)
    → sum_by (λ (pair : Timed). cond (begins path pair.path) pair.own 0) (timed_pairs events)
    ≡ sum_by (λ (pair : Timed). cond (has_path path pair) pair.duration 0) (timed_pairs events) + (left_over events path + overrun events path)
thread_weighs events path =
    let own : Pair → ℕ = λ pair. cond (on pair) (pair.duration - spent_in events pair.entry) 0 in
    let spent : Pair → ℕ = λ pair. cond (on pair) (spent_in events pair.entry) 0 in
    let whole : Pair → ℕ = λ pair. cond (on pair) pair.duration 0 in
    let more : Pair → ℕ = λ pair. cond (on pair) (spent_in events pair.entry - pair.duration) 0 in
    let its : Pair → ℕ = λ pair. cond (has_path path (timed events pair)) pair.duration 0 in
    let below : Pair → ℕ = λ pair. cond (begins path (path_of (open_before events pair.entry))) pair.duration 0 in
    let lost : Pair → ℕ = λ pair. cond (is_left_over events path pair) pair.duration 0 in
    let balance = sum_by-same (λ pair. own pair + spent pair) (λ pair. whole pair + more pair) pairs
    (λ pair there. left_and_over (on pair) pair.duration (spent_in events pair.entry)) in
    let parts = sum_by-same whole (λ pair. its pair + below pair) pairs
    (λ pair there. begins_or_is path (path_of (open_before events pair.entry)) pair.func pair.duration (timed events pair) refl) in
    let inner = sum_by-same below (λ pair. held events path pair + lost pair) pairs
    (λ pair there. held_or_not (begins path (path_of (open_before events pair.entry))) (innermost_ended events (open_before events pair.entry)) pair.duration) in
    omega (
      arith,
      balance,
      parts,
      inner,
      sum_by-plus own spent pairs,
      sum_by-plus whole more pairs,
      sum_by-plus its below pairs,
      sum_by-plus (held events path) lost pairs,
      all_spent events path,
      sum_by-map (timed events) (λ (pair : Timed). cond (begins path pair.path) pair.own 0) pairs,
      sum_by-map (timed events) (λ (pair : Timed). cond (has_path path pair) pair.duration 0) pairs,
    )
  where
    pairs : List Pair
    pairs = pairs_of events

    on : Pair → Bool
    on pair = begins path (pair_path events pair)

-- ---- all threads

threads_weigh : (threads : List (List Event)) (path : List ℕ)
    → sum_by (λ (pair : Timed). cond (begins path pair.path) pair.own 0) (flat_map timed_pairs threads)
    ≡ sum_by (λ (pair : Timed). cond (has_path path pair) pair.duration 0) (flat_map timed_pairs threads) + sum_by (λ events. left_over events path + overrun events path) threads
threads_weigh [] path = refl
threads_weigh (events ∷ threads) path =
    omega (
      arith,
      thread_weighs events path,
      threads_weigh threads path,
      sum_by-append (λ (pair : Timed). cond (begins path pair.path) pair.own 0) (timed_pairs events) (flat_map timed_pairs threads),
      sum_by-append (λ (pair : Timed). cond (has_path path pair) pair.duration 0) (timed_pairs events) (flat_map timed_pairs threads),
      sum_by-cons (λ (es : List Event). left_over es path + overrun es path) events threads,
    )

-- ---- rows

-- the pairs of one path, if it begins with a path
of_path : (path : List ℕ) (pairs : List Timed) (other : List ℕ)
    → cond (begins path other) (sum_by (λ (pair : Timed). cond (has_path other pair) pair.own 0) pairs) 0
    ≡ sum_by (λ (pair : Timed). cond (has_path other pair) (cond (begins path pair.path) pair.own 0) 0) pairs
of_path path pairs other =
    sum_by-cond (begins path other) (λ (pair : Timed). cond (has_path other pair) pair.own 0) pairs
    ∙ sum_by-same (λ (pair : Timed). cond (begins path other) (cond (has_path other pair) pair.own 0) 0)
    (λ (pair : Timed). cond (has_path other pair) (cond (begins path pair.path) pair.own 0) 0) pairs (λ pair there. each pair (has_path other pair) refl)
  where
    each : (pair : Timed) (b : Bool) → has_path other pair ≡ b → cond (begins path other) (cond b pair.own 0) 0 ≡ cond b (cond (begins path pair.path) pair.own 0) 0
    each pair true is = ap {B = ℕ} (λ b. cond b pair.own 0) (ap (begins path) (sym (has_path-same other pair is)))
    each pair false isnt = cond_none (begins path other)

-- each pair has one path
by_paths : (pairs : List Timed) → IsGrouped (λ (path : List ℕ) (pair : Timed). has_path path pair) (each_once path_cmp (map (λ pair. pair.path) pairs)) pairs
by_paths pairs = record {
  once = λ pair is n.
      counts_once path_cmp nat_list_cmp_total (λ path. has_path path pair) pair.path (has_own pair) (λ path so. sym (has_path-same path pair so))
      (each_once path_cmp (map (λ (p : Timed). p.path) pairs)) (strict-each_once path_cmp nat_list_cmp_total (map (λ (p : Timed). p.path) pairs))
      (each_once-in path_cmp path_cmp_equal (map (λ (p : Timed). p.path) pairs) pair.path (in-map (λ (p : Timed). p.path) pairs pair is)) n;
}

-- a path weighs what was spent in the calls themselves of the pairs on it and below it
rows_weigh : (pairs : List Timed) (path : List ℕ) → weight_of (rows_of_pairs pairs) path ≡ sum_by (λ (pair : Timed). cond (begins path pair.path) pair.own 0) pairs
rows_weigh pairs path =
    let paths = each_once path_cmp (map (λ (pair : Timed). pair.path) pairs) in
    sum_by-map (path_row pairs) (λ (row : PathRow). cond (begins path row.path) row.own 0) paths
    ∙ (sum_by-same (λ (other : List ℕ). cond (begins path other) (sum_by (λ (pair : Timed). cond (has_path other pair) pair.own 0) pairs) 0)
    (λ (other : List ℕ). sum_by (λ (pair : Timed). cond (has_path other pair) (cond (begins path pair.path) pair.own 0) 0) pairs) paths (λ other there. of_path path pairs other)
    ∙ sum_by-groups (λ (other : List ℕ) (pair : Timed). has_path other pair) (λ (pair : Timed). cond (begins path pair.path) pair.own 0) paths pairs (by_paths pairs))

pub weighs_sum : (threads : List (List Event)) (path : List ℕ) → WeighsSum threads path
weighs_sum threads path = rows_weigh (flat_map timed_pairs threads) path ∙ threads_weigh threads path

-- ---- when all calls are timed

-- nothing is left over
none_left : (events : List Event) (path : List ℕ) → 0 < length path → IsAllTimed path events → left_over events path ≡ 0
none_left events path some timed_all =
    sum_by-same (λ (pair : Pair). cond (is_left_over events path pair) pair.duration 0) (λ (pair : Pair). 0) (pairs_of events)
    (λ pair there.
    let whole = all_in (IsWholeCall events) (pairs_of events) (pairs_are_whole events) pair there in
    ap {B = ℕ} (λ b. cond b pair.duration 0) (none pair.entry (omega (arith, whole.rises, whole.within)) (open_before events pair.entry) refl))
    ∙ sum_by-none (pairs_of events)
  where
    none : (at : ℕ) → at ≤ length events → (calls : List Call) → open_before events at ≡ calls → (begins path (path_of calls) && not (innermost_ended events calls)) ≡ false
    none at within [] is = by_path path some
      where
        by_path : (p : List ℕ) → 0 < length p → (begins p (path_of []) && true) ≡ false
        by_path [] more = absurd (omega (arith, more))
        by_path (f ∷ p) more = refl
    none at within (call ∷ outer) is = by_test (begins path (path_of (call ∷ outer))) refl
      where
        known : IsInnermost events call outer
        known = innermost_is events at call outer within is

        same : path_of (call ∷ outer) ≡ entry_path events call.entry
        same =
            path_of-cons call outer
            ∙ (ap (λ (cs : List Call). path_of cs ++ call.func ∷ []) known.outside
            ∙ ap (λ (f : ℕ). path_of (open_before events call.entry) ++ f ∷ []) (sym known.func))

        by_test : (b : Bool) → begins path (path_of (call ∷ outer)) ≡ b → (b && not (has_ended events call.entry)) ≡ false
        by_test true begun = ap not (timed_all.ended call.entry known.low known.begun (ap (begins path) (sym same) ∙ begun))
        by_test false isnt = refl

-- and no call is overrun
none_over : (events : List Event) (path : List ℕ) → IsAllTimed path events → overrun events path ≡ 0
none_over events path timed_all =
    sum_by-same (λ (pair : Pair). cond (begins path (pair_path events pair)) (spent_in events pair.entry - pair.duration) 0) (λ (pair : Pair). 0) (pairs_of events)
    (λ pair there. by_test pair there (begins path (pair_path events pair)) refl)
    ∙ sum_by-none (pairs_of events)
  where
    by_test : (pair : Pair) → IsIn pair (pairs_of events) → (b : Bool) → begins path (pair_path events pair) ≡ b → cond b (spent_in events pair.entry - pair.duration) 0 ≡ 0
    by_test pair there true begun =
        let low = all_in (λ (p : Pair). IsTrue (begins path (pair_path events p)) → spent_in events p.entry ≤ p.duration) (pairs_of events) timed_all.held pair there begun in
        omega (arith, low)
    by_test pair there false isnt = refl

none_in_any : (threads : List (List Event)) (path : List ℕ) → 0 < length path → All (IsAllTimed path) threads
    → sum_by (λ events. left_over events path + overrun events path) threads ≡ 0
none_in_any [] path some all = refl
none_in_any (events ∷ threads) path some all =
    let here = All-head (IsAllTimed path) events threads all in
    omega (
      arith,
      none_left events path some here,
      none_over events path here,
      none_in_any threads path some (All-tail (IsAllTimed path) events threads all),
      sum_by-cons (λ (es : List Event). left_over es path + overrun es path) events threads,
    )

pub weighs_no_more : (threads : List (List Event)) (path : List ℕ) → WeighsNoMore threads path
weighs_no_more threads path some all = let sum = weighs_sum threads path in omega (arith, sum, none_in_any threads path some all)
