-- Which thread is the least that has too many calls open: after one more event, and over blocks.
use Rattle.std.proofs.Common.{◌≡◌, ◌⊎◌, ◌++◌, ◌<◌, ◌≤◌, ◌∙◌, ℕ, Bool, true, false, cond, ◌||◌, List, [], ◌∷◌, length, map, reverse, refl, ap, sym, subst, arith, nat_eq, nat_lt, Option, None, Some, inl, inr}
use Rattle.std.specs.Prelude.{filter}
use Rattle.std.specs.Cmp.{nat_cmp_total}
use Rattle.std.specs.FinMap.{nat_cmp-IsAntisymmetric}
use Rattle.std.specs.Ordering.{nat_cmp}
use Rattle.std.specs.declared.cmp.Ordering.TheVariants.{Less, Equal, Greater}
use Rattle.std.proofs.lemmas.Bool.{eqb-false, eqb-true}
use Rattle.std.proofs.lemmas.Bool.Decides.{nat_tests}
use Rattle.fdr_record.specs.declared.event.Event.{Event}
use Rattle.fdr_record.specs.declared.event.Kind.{Kind}
use Rattle.fdr_record.specs.declared.event.Kind.TheVariants.{Exit, TailExit}
use Rattle.fdr_file.specs.declared.trace.Block.{Block}
use Rattle.stack_rebuild.specs.declared.call.Call.{Call}
use Rattle.stack_rebuild.specs.Calls.{Standing, from_innermost, left_open, next_standing, open_after_kind, open_calls, standing_after}
use Rattle.stack_rebuild.specs.Histories.{events_of_thread, history_of, history_of_thread}
use Rattle.stack_rebuild.specs.Stacks.{deep_in, first_item, gets_deep, threads_of}
use Rattle.stack_rebuild.specs.private.Folding.{IsFollowed, IsLeast}
use Rattle.stack_rebuild.proofs.AscendingLists.{Strict, each_once-in, strict-each_once}
use Rattle.stack_rebuild.proofs.Items.{IsIn}
use Rattle.stack_rebuild.proofs.Views.{of_thread-blocks}

-- ---- one more event of a thread

or_true : (b : Bool) → b || true ≡ true
or_true true = refl
or_true false = refl

-- a thread that had too many calls open had so
pub deep_still : (limit : ℕ) (e : Event) (history : List Event) → gets_deep limit history ≡ true → gets_deep limit (e ∷ history) ≡ true
deep_still limit e history deep =
    ap (λ (b : Bool). nat_lt limit (length (open_calls (e ∷ history))) || b) deep ∙ or_true (nat_lt limit (length (open_calls (e ∷ history))))

-- after this event more calls are open
pub deep_now : (limit depth : ℕ) (e : Event) (calls calls' : Standing) (history : List Event) → calls' ≡ next_standing e calls → depth ≡ length calls'.calls
    → limit < depth → calls ≡ standing_after history → gets_deep limit (e ∷ history) ≡ true
deep_now limit depth e calls calls' history next count deep stands =
    let size : depth ≡ length (open_calls (e ∷ history)) = count ∙ ap (λ (s : Standing). length s.calls) (next ∙ ap (next_standing e) stands) in
    let over : nat_lt limit (length (open_calls (e ∷ history))) ≡ true =
    let high : limit < length (open_calls (e ∷ history)) = omega (arith, size, deep) in grind (arith, nat_tests) in
    ap (λ (b : Bool). b || gets_deep limit history) over

shallow_more : (limit : ℕ) (e : Event) (history : List Event) → length (open_calls (e ∷ history)) ≤ limit → gets_deep limit history ≡ false
    → gets_deep limit (e ∷ history) ≡ false
shallow_more limit e history low shallow =
    let under : nat_lt limit (length (open_calls (e ∷ history))) ≡ false = grind (arith, nat_tests) in
    ap (λ (b : Bool). b || gets_deep limit history) under ∙ shallow

-- after this event no more calls are open than may be
pub shallow_now : (limit depth : ℕ) (e : Event) (calls calls' : Standing) (history : List Event) → calls' ≡ next_standing e calls → depth ≡ length calls'.calls
    → depth ≤ limit → calls ≡ standing_after history → gets_deep limit history ≡ false → gets_deep limit (e ∷ history) ≡ false
shallow_now limit depth e calls calls' history next count low stands shallow =
    let size : depth ≡ length (open_calls (e ∷ history)) = count ∙ ap (λ (s : Standing). length s.calls) (next ∙ ap (next_standing e) stands) in
    shallow_more limit e history (omega (arith, size, low)) shallow

-- ---- an exit opens no call

from_short : (func : ℕ) (calls : List Call) → length (from_innermost func calls) ≤ length calls
from_short func [] = omega arith
from_short func (call ∷ outer) = by_func (nat_eq call.func func) (from_short func outer)
  where
    by_func : (b : Bool) → length (from_innermost func outer) ≤ length outer → length (cond b (call ∷ outer) (from_innermost func outer)) ≤ length (call ∷ outer)
    by_func true low = omega arith
    by_func false low = omega (arith, low)

left_short : (calls cs : List Call) → length cs ≤ length calls → length (left_open calls cs) ≤ length calls
left_short calls [] low = omega arith
left_short calls (ended ∷ outer) low = omega (arith, low)

depth_low : (limit : ℕ) (history : List Event) → gets_deep limit history ≡ false → length (open_calls history) ≤ limit
depth_low limit [] shallow = omega arith
depth_low limit (e ∷ history) shallow = by_test (nat_lt limit (length (open_calls (e ∷ history)))) refl shallow
  where
    by_test : (b : Bool) → nat_lt limit (length (open_calls (e ∷ history))) ≡ b → b || gets_deep limit history ≡ false → length (open_calls (e ∷ history)) ≤ limit
    by_test true is never = let wrong : true ≡ false = never in absurd (let n : ⊥ = cc in n)
    by_test false is own = let e : nat_lt limit (length (open_calls (e ∷ history))) ≡ false = is in grind (arith, nat_tests)

pub shallow_exit : (limit : ℕ) (e : Event) (history : List Event) → (e.kind ≡ Exit) ⊎ (e.kind ≡ TailExit) → gets_deep limit history ≡ false
    → gets_deep limit (e ∷ history) ≡ false
shallow_exit limit e history exit shallow = shallow_more limit e history (by_exit exit) shallow
  where
    calls : List Call
    calls = open_calls history

    low : length (left_open calls (from_innermost e.func calls)) ≤ limit
    low = omega (arith, depth_low limit history shallow, left_short calls (from_innermost e.func calls) (from_short e.func calls))

    by_exit : (e.kind ≡ Exit) ⊎ (e.kind ≡ TailExit) → length (open_calls (e ∷ history)) ≤ limit
    by_exit (inl is) = subst (λ (k : Kind). length (open_after_kind k e (length history) calls) ≤ limit) (sym is) low
    by_exit (inr is) = subst (λ (k : Kind). length (open_after_kind k e (length history) calls) ≤ limit) (sym is) low

-- ---- the least thread, after one more event of another

-- a thread that is followed didn't have too many calls open
pub followed_shallow : (test : ℕ → Bool) (thread : ℕ) (deep : Option ℕ) → IsFollowed deep thread → IsLeast test deep → test thread ≡ false
followed_shallow test thread None followed least = least thread
followed_shallow test thread (Some deep) followed least = least.1 thread followed

-- threads that are followed if the thread is the least one are so before
pub followed_down : (thread other : ℕ) (deep : Option ℕ) → IsFollowed deep thread → other < thread → IsFollowed deep other
followed_down thread other None followed low = tt
followed_down thread other (Some deep) followed low = omega (arith, followed, low)

-- the thread isn't followed
pub least_past : (test test' : ℕ → Bool) (thread : ℕ) (deep : Option ℕ) → ((n : ℕ) → (thread ≡ n → ⊥) → test' n ≡ test n) → (test thread ≡ true → test' thread ≡ true)
    → (IsFollowed deep thread → ⊥) → IsLeast test deep → IsLeast test' deep
least_past test test' thread None same still past least = absurd (past tt)
least_past test test' thread (Some deep) same still past least =
    (by_thread (nat_eq thread deep) refl, λ n low. same n (λ (is : thread ≡ n). past (omega (arith, low, is))) ∙ least.1 n low)
  where
    by_thread : (b : Bool) → nat_eq thread deep ≡ b → test' deep ≡ true
    by_thread true is =
        let at : thread ≡ deep = eqb-true thread deep is in
        ap test' (sym at) ∙ still (ap test at ∙ least.0)
    by_thread false is = same deep (eqb-false thread deep is) ∙ least.0

-- the thread still has few calls open
pub least_same : (test test' : ℕ → Bool) (thread : ℕ) (deep : Option ℕ) → ((n : ℕ) → (thread ≡ n → ⊥) → test' n ≡ test n) → test' thread ≡ false
    → IsFollowed deep thread → IsLeast test deep → IsLeast test' deep
least_same test test' thread None same shallow followed least = λ n. by_thread n (nat_eq thread n) refl
  where
    by_thread : (n : ℕ) (b : Bool) → nat_eq thread n ≡ b → test' n ≡ false
    by_thread n true is = ap test' (sym (eqb-true thread n is)) ∙ shallow
    by_thread n false is = same n (eqb-false thread n is) ∙ least n
least_same test test' thread (Some deep) same shallow followed least =
    (same deep (λ (is : thread ≡ deep). (let n : ⊥ = absurd (omega (arith, followed, is)) in n)) ∙ least.0, λ n low. by_thread n low (nat_eq thread n) refl)
  where
    by_thread : (n : ℕ) → n < deep → (b : Bool) → nat_eq thread n ≡ b → test' n ≡ false
    by_thread n low true is = ap test' (sym (eqb-true thread n is)) ∙ shallow
    by_thread n low false is = same n (eqb-false thread n is) ∙ least.1 n low

-- the thread has too many calls open, and is the least one
pub least_new : (test test' : ℕ → Bool) (thread : ℕ) (deep : Option ℕ) → ((n : ℕ) → (thread ≡ n → ⊥) → test' n ≡ test n) → test' thread ≡ true
    → IsFollowed deep thread → IsLeast test deep → IsLeast test' (Some thread)
least_new test test' thread deep same over followed least = (
  over,
  λ n low.
      same n (λ (is : thread ≡ n). (let n : ⊥ = absurd (omega (arith, low, is)) in n)) ∙ followed_shallow test n deep (followed_down thread n deep followed low) least,
)

-- ---- the least thread of blocks

-- a thread without blocks has no events
present : (thread : ℕ) (blocks : List Block) → (events_of_thread thread blocks ≡ []) ⊎ IsIn thread (map (λ (b : Block). b.thread) blocks)
present thread [] = inl refl
present thread (block ∷ later) = by_thread (nat_eq block.thread thread) refl (present thread later)
  where
    by_thread : (b : Bool) → nat_eq block.thread thread ≡ b → (events_of_thread thread later ≡ []) ⊎ IsIn thread (map (λ (x : Block). x.thread) later)
        → (cond b (block.events ++ events_of_thread thread later) (events_of_thread thread later) ≡ []) ⊎ IsIn thread (map (λ (x : Block). x.thread) (block ∷ later))
    by_thread true is rest = inr (inl (sym (eqb-true block.thread thread is)))
    by_thread false is (inl none) = inl none
    by_thread false is (inr there) = inr (inr there)

present_deep : (limit thread : ℕ) (blocks : List Block) → gets_deep limit (reverse (events_of_thread thread blocks)) ≡ true
    → IsIn thread (map (λ (b : Block). b.thread) blocks)
present_deep limit thread blocks deep = by_place (present thread blocks)
  where
    by_place : (events_of_thread thread blocks ≡ []) ⊎ IsIn thread (map (λ (b : Block). b.thread) blocks) → IsIn thread (map (λ (b : Block). b.thread) blocks)
    by_place (inl none) =
        let never : true ≡ false = sym deep ∙ ap (λ (es : List Event). gets_deep limit (reverse es)) none in absurd (let n : ⊥ = cc in n)
    by_place (inr there) = there

none_passes : (test : ℕ → Bool) (ns : List ℕ) → ((n : ℕ) → test n ≡ false) → filter test ns ≡ []
none_passes test [] none = refl
none_passes test (n ∷ ns) none = by_first (test n) (none n) (none_passes test ns none)
  where
    by_first : (b : Bool) → b ≡ false → filter test ns ≡ [] → cond b (n ∷ filter test ns) (filter test ns) ≡ []
    by_first true never rest = let wrong : true ≡ false = never in absurd (let n : ⊥ = cc in n)
    by_first false is rest = rest

first_least : (test : ℕ → Bool) (least : ℕ) (ns : List ℕ) → Strict nat_cmp ns → IsIn least ns → test least ≡ true → ((n : ℕ) → n < least → test n ≡ false)
    → first_item (filter test ns) ≡ Some least
first_least test least [] strict is passes below = absurd is
first_least test least (n ∷ ns) strict (inl is) passes below =
    ap (λ b. first_item (cond b (n ∷ filter test ns) (filter test ns))) (ap test (sym is) ∙ passes) ∙ ap (λ (m : ℕ). Some m) (sym is)
first_least test least (n ∷ ns) strict (inr there) passes below =
    let low : n < least = less n least (strict.0 least there) in
    ap (λ b. first_item (cond b (n ∷ filter test ns) (filter test ns))) (below n low) ∙ first_least test least ns strict.1 there passes below
  where
    less : (a b : ℕ) → nat_cmp a b ≡ Less → a < b
    less a b is = by_less (nat_lt a b) refl is
      where
        by_less : (c : Bool) → nat_lt a b ≡ c → cond c Less (cond (nat_eq a b) Equal Greater) ≡ Less → a < b
        by_less true lt so = let e : nat_lt a b ≡ true = lt in grind (arith, nat_tests)
        by_less false lt so = absurd (not_less (nat_eq a b) so)
          where
            not_less : (c : Bool) → cond c Equal Greater ≡ Less → ⊥
            not_less true never = cc
            not_less false never = cc

pub least_deep : (limit : ℕ) (blocks : List Block) (deep : Option ℕ) → IsLeast (λ thread. gets_deep limit (history_of_thread thread (history_of blocks))) deep
    → deep_in limit blocks ≡ deep
least_deep limit blocks None least =
    ap first_item (none_passes (λ thread. gets_deep limit (reverse (events_of_thread thread blocks))) (threads_of blocks)
    (λ n. ap (gets_deep limit) (sym (of_thread-blocks n blocks)) ∙ least n))
least_deep limit blocks (Some deep) least =
    let passes : gets_deep limit (reverse (events_of_thread deep blocks)) ≡ true = ap (gets_deep limit) (sym (of_thread-blocks deep blocks)) ∙ least.0 in
    first_least (λ thread. gets_deep limit (reverse (events_of_thread thread blocks))) deep (threads_of blocks)
    (strict-each_once nat_cmp nat_cmp_total (map (λ (b : Block). b.thread) blocks))
    (each_once-in nat_cmp nat_cmp-IsAntisymmetric (map (λ (b : Block). b.thread) blocks) deep (present_deep limit deep blocks passes)) passes
    (λ n low. ap (gets_deep limit) (sym (of_thread-blocks n blocks)) ∙ least.1 n low)
