-- Which exits end a call, and how two pairs of a thread lie.
use Rattle.std.proofs.Common.{◌≡◌, ◌⊎◌, ◌++◌, ◌<◌, ◌∙◌, ◌||◌, ℕ, suc, Bool, true, false, cond, List, [], ◌∷◌, length, reverse, refl, ap, sym, subst, arith, get_or, nat_eq, inl, inr, All}
use Rattle.std.specs.Prelude.{IsTrue}
use Rattle.std.specs.List.{AllPairs, list_any}
use Rattle.std.specs.Option.{option_to_list}
use Rattle.std.proofs.lemmas.Bool.{eqb-true, eq-eqb}
use Rattle.std.proofs.lemmas.Bool.Decides.{nat_tests}
use Rattle.std.proofs.lemmas.List.{length-reverse, reverse-reverse}
use Rattle.std.proofs.lemmas.List.Elements.{All-nil, All-push}
use Rattle.std.proofs.lemmas.List.Folds.{list_any-append, list_any_none}
use Rattle.std.proofs.lemmas.List.Quantifiers.{all_pairs_push}
use Rattle.fdr_record.specs.declared.event.Event.{Event}
use Rattle.fdr_record.specs.declared.event.Kind.{Kind}
use Rattle.fdr_record.specs.declared.event.Kind.TheVariants.{Entry, Exit, TailExit, EntryArgs}
use Rattle.stack_rebuild.specs.declared.call.Call.{Call}
use Rattle.stack_rebuild.specs.declared.call.Pair.{Pair}
use Rattle.stack_rebuild.specs.Calls.{from_innermost, leaves, left_open, open_after_kind, open_calls, pair_at, pair_of_call, pairs_in}
use Rattle.stack_rebuild.specs.PairLaws.{EndsAnOpenCall, EndsBefore, IsInside, event_at, has_open}
use Rattle.stack_rebuild.specs.Stacks.{open_before}
use Rattle.stack_rebuild.proofs.NestedCalls.{AllBefore, Nested, ended_by, kept_from, nested_from, nested_history, one_more, open_kept, open_then, pair_by}
use Rattle.stack_rebuild.proofs.PairFacts.{event_kept, event_last, exits_low, one_event, pair_with}

-- ---- exits that are in a pair

abbrev has_exit : List Pair → ℕ → Bool
has_exit pairs at = list_any (λ pair. nat_eq pair.exit at) pairs

-- there is a call of a function exactly if there is an innermost one
found_open : (func : ℕ) (calls : List Call) (e : Event) (at : ℕ)
    → has_exit (option_to_list (pair_of_call e at (from_innermost func calls))) at ≡ has_open func calls
found_open func [] e at = refl
found_open func (call ∷ outer) e at = by_func (nat_eq call.func func) (found_open func outer e at)
  where
    by_func : (b : Bool) → has_exit (option_to_list (pair_of_call e at (from_innermost func outer))) at ≡ has_open func outer
        → has_exit (option_to_list (pair_of_call e at (cond b (call ∷ outer) (from_innermost func outer)))) at ≡ (b || has_open func outer)
    by_func true following = ap (λ (b : Bool). b || false) (eq-eqb at at refl)
    by_func false following = following

-- an exit makes a pair exactly if a call of its function is open
made_open : (k : Kind) (e : Event) (at : ℕ) (calls : List Call) → IsTrue (leaves k)
    → has_exit (option_to_list (pair_of_call e at (ended_by k e.func calls))) at ≡ has_open e.func calls
made_open Entry e at calls so = let never : false ≡ true = so in absurd (let n : ⊥ = cc in n)
made_open EntryArgs e at calls so = let never : false ≡ true = so in absurd (let n : ⊥ = cc in n)
made_open Exit e at calls so = found_open e.func calls e at
made_open TailExit e at calls so = found_open e.func calls e at

-- no pair of a history has its exit at the end of the history
none_there : (h : List Event) (at : ℕ) → length h ≡ at → has_exit (pairs_in h) at ≡ false
none_there h at size =
    list_any_none (λ (pair : Pair). nat_eq pair.exit at) (pairs_in h) (λ k d within. differs _ (exits_low h k d within))
  where
    differs : (exit : ℕ) → exit < length h → nat_eq exit at ≡ false
    differs exit low = let less : exit < at = omega (arith, low, size) in grind (arith, nat_tests)

-- the pair of an event has its exit at the event
other_place : (e : Event) (last at : ℕ) (calls : List Call) → at < last → has_exit (option_to_list (pair_of_call e last calls)) at ≡ false
other_place e last at [] low = refl
other_place e last at (ended ∷ outer) low = ap (λ (b : Bool). b || false) (let apart : nat_eq last at ≡ false = grind (arith, nat_tests) in apart)

false_or : (a b : Bool) → a ≡ false → (a || b) ≡ b
false_or a b is = ap (λ (c : Bool). c || b) is

or_false : (a b : Bool) → b ≡ false → (a || b) ≡ a
or_false true b is = refl
or_false false b is = is

ends_in_history : (h : List Event) (at : ℕ) → at < length h → IsTrue (leaves (event_at (reverse h) at).kind)
    → has_exit (pairs_in h) at ≡ has_open (event_at (reverse h) at).func (open_before (reverse h) at)
ends_in_history [] at low so = absurd (omega (arith, low))
ends_in_history (e ∷ h) at low so = by_place (nat_eq at (length h)) refl (ends_in_history h at)
  where
    events : List Event
    events = reverse h ++ e ∷ []

    last : List Pair
    last = option_to_list (pair_at e (length h) (open_calls h))

    made : last ≡ option_to_list (pair_of_call e (length h) (ended_by e.kind e.func (open_calls h)))
    made = ap option_to_list (pair_by e.kind e (length h) (open_calls h))

    split : has_exit (pairs_in (e ∷ h)) at ≡ (has_exit (pairs_in h) at || has_exit last at)
    split = list_any-append (λ (pair : Pair). nat_eq pair.exit at) (pairs_in h) last

    turned : has_open (event_at (reverse (e ∷ h)) at).func (open_before (reverse (e ∷ h)) at) ≡ has_open (event_at events at).func (open_before events at)
    turned = ap (λ (es : List Event). has_open (event_at es at).func (open_before es at)) (one_more e h)

    leaving : IsTrue (leaves (event_at events at).kind)
    leaving = subst (λ (es : List Event). IsTrue (leaves (event_at es at).kind)) (one_more e h) so

    by_place : (b : Bool) → nat_eq at (length h) ≡ b
        → (at < length h → IsTrue (leaves (event_at (reverse h) at).kind)
        → has_exit (pairs_in h) at ≡ has_open (event_at (reverse h) at).func (open_before (reverse h) at))
        → has_exit (pairs_in (e ∷ h)) at ≡ has_open (event_at (reverse (e ∷ h)) at).func (open_before (reverse (e ∷ h)) at)
    by_place true is before =
        let same : at ≡ length h = eqb-true at (length h) is in
        let own : event_at events at ≡ e = ap (event_at events) same ∙ event_last h e in
        let opened : open_before events at ≡ open_calls h = ap (open_before events) same ∙ open_then h e in
        let leaves_here : IsTrue (leaves e.kind) = subst (λ (x : Event). IsTrue (leaves x.kind)) own leaving in
        let here : has_exit last at ≡ has_open e.func (open_calls h) =
        ap (λ (n : ℕ). has_exit last n) same ∙ (ap (λ (ps : List Pair). has_exit ps (length h)) made ∙ made_open e.kind e (length h) (open_calls h) leaves_here) in
        split ∙ (false_or (has_exit (pairs_in h) at) (has_exit last at) (none_there h at (sym same)) ∙ (here
        ∙ sym (turned ∙ (ap (λ (x : Event). has_open x.func (open_before events at)) own ∙ ap (has_open e.func) opened))))
    by_place false other before =
        let below : at < length h = (let size : at < suc (length h) = low in let apart : nat_eq at (length h) ≡ false = other in grind (arith, nat_tests)) in
        let kept : event_at events at ≡ event_at (reverse h) at = event_kept (reverse h) e at (omega (arith, below, length-reverse h)) in
        let opened : open_before events at ≡ open_before (reverse h) at = open_kept (reverse h) e at (omega (arith, below, length-reverse h)) in
        let none : has_exit last at ≡ false =
        ap (λ (ps : List Pair). has_exit ps at) made ∙ other_place e (length h) at (ended_by e.kind e.func (open_calls h)) below in
        split ∙ (or_false (has_exit (pairs_in h) at) (has_exit last at) none
        ∙ (before below (subst (λ (x : Event). IsTrue (leaves x.kind)) kept leaving)
        ∙ sym (turned ∙ (ap (λ (x : Event). has_open x.func (open_before events at)) kept ∙ ap (has_open (event_at (reverse h) at).func) opened))))

pub ends_open : (events : List Event) (at : ℕ) → EndsAnOpenCall events at
ends_open events at = λ low so.
    let P : List Event → Type 0 = λ es. at < length es → IsTrue (leaves (event_at es at).kind)
    → has_exit (pairs_in (reverse events)) at ≡ has_open (event_at es at).func (open_before es at) in
    subst P (reverse-reverse events) (λ low also. ends_in_history (reverse events) at (omega (arith, low, length-reverse (reverse events))) also) low so

-- ---- how two pairs lie

-- a pair lies inside each of these calls, or ends before it begins
abbrev Outside : Pair → List Call → Type 0
Outside pair [] = Unit {0}
Outside pair (call ∷ outer) = ((call.entry < pair.entry) ⊎ (pair.exit < call.entry)) × Outside pair outer

outside_from : (pair : Pair) (func : ℕ) (calls : List Call) → Outside pair calls → Outside pair (from_innermost func calls)
outside_from pair = kept_from (Outside pair) (λ call outer all. all.1)

outside_left : (pair : Pair) (calls found : List Call) → Outside pair calls → Outside pair found → Outside pair (left_open calls found)
outside_left pair calls [] all own = all
outside_left pair calls (ended ∷ outer) all own = own.1

outside_after : (k : Kind) (e : Event) (at : ℕ) (calls : List Call) (pair : Pair) → pair.exit < at → Outside pair calls → Outside pair (open_after_kind k e at calls)
outside_after Entry e at calls pair low all = (inr low, all)
outside_after EntryArgs e at calls pair low all = (inr low, all)
outside_after Exit e at calls pair low all = outside_left pair calls (from_innermost e.func calls) all (outside_from pair e.func calls all)
outside_after TailExit e at calls pair low all = outside_left pair calls (from_innermost e.func calls) all (outside_from pair e.func calls all)

outside_before : (pair : Pair) (calls : List Call) → AllBefore pair.entry calls → Outside pair calls
outside_before pair [] all = tt
outside_before pair (call ∷ outer) all = (inl all.0, outside_before pair outer all.1)

-- what an event that ends a call leaves open, and where the call is
left_by : (k : Kind) (e : Event) (at : ℕ) (calls : List Call) (ended : Call) (outer : List Call) → ended_by k e.func calls ≡ ended ∷ outer
    → open_after_kind k e at calls ≡ outer
left_by Entry e at calls ended outer is = absurd (omega (arith, ap {B = ℕ} length is))
left_by EntryArgs e at calls ended outer is = absurd (omega (arith, ap {B = ℕ} length is))
left_by Exit e at calls ended outer is = ap (left_open calls) is
left_by TailExit e at calls ended outer is = ap (left_open calls) is

found_by : (k : Kind) (func : ℕ) (calls : List Call) (ended : Call) (outer : List Call) → ended_by k func calls ≡ ended ∷ outer
    → from_innermost func calls ≡ ended ∷ outer
found_by Entry func calls ended outer is = absurd (omega (arith, ap {B = ℕ} length is))
found_by EntryArgs func calls ended outer is = absurd (omega (arith, ap {B = ℕ} length is))
found_by Exit func calls ended outer is = is
found_by TailExit func calls ended outer is = is

all_outside : (h : List Event) → All (λ pair. Outside pair (open_calls h)) (pairs_in h)
all_outside [] = All-nil (λ pair. Outside pair [])
all_outside (e ∷ h) =
    let after = open_calls (e ∷ h) in
    let kept : All (λ pair. Outside pair after) (pairs_in h) =
    λ k d within. outside_after e.kind e (length h) (open_calls h) (get_or (pairs_in h) k d) (exits_low h k d within) (all_outside h k d within) in
    one_event (All (λ pair. Outside pair after)) e h kept
    (λ ended outer is. All-push (λ pair. Outside pair after) (pairs_in h) (pair_with e (length h) ended) kept
    (subst (Outside (pair_with e (length h) ended)) (sym (left_by e.kind e (length h) (open_calls h) ended outer is))
    (outside_before (pair_with e (length h) ended) outer
    (subst (Nested (reverse h)) (found_by e.kind e.func (open_calls h) ended outer is) (nested_from (reverse h) e.func (open_calls h) (nested_history h).nested)).1)))

pub nest_or_apart : (h : List Event) → AllPairs (λ pair later. IsInside pair later ⊎ EndsBefore pair later) (pairs_in h)
nest_or_apart [] = λ i j d before within. absurd (omega (arith, within))
nest_or_apart (e ∷ h) =
    one_event (AllPairs (λ pair later. IsInside pair later ⊎ EndsBefore pair later)) e h (nest_or_apart h)
    (λ ended outer is. all_pairs_push (λ pair later. IsInside pair later ⊎ EndsBefore pair later) (pairs_in h) (pair_with e (length h) ended) (nest_or_apart h)
    (λ k d within. lie ended (get_or (pairs_in h) k d) (exits_low h k d within)
    (subst (Outside (get_or (pairs_in h) k d)) (found_by e.kind e.func (open_calls h) ended outer is) (outside_from (get_or (pairs_in h) k d) e.func (open_calls h) (all_outside h k d within))).0))
  where
    lie : (ended : Call) (pair : Pair) → pair.exit < length h → (ended.entry < pair.entry) ⊎ (pair.exit < ended.entry)
        → IsInside pair (pair_with e (length h) ended) ⊎ EndsBefore pair (pair_with e (length h) ended)
    lie ended pair low (inl later) = inl (later, low)
    lie ended pair low (inr before) = inr before
