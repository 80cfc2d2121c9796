-- The calls of a thread are nested.
use Rattle.std.proofs.Common.{◌≡◌, ◌+◌, ◌++◌, ◌<◌, ◌≤◌, ◌∙◌, ℕ, suc, Bool, true, false, cond, List, [], ◌∷◌, length, reverse, refl, ap, sym, subst, arith, nat_eq, length-append}
use Rattle.std.specs.Option.{option_to_list}
use Rattle.std.proofs.Math.Seq.{take-length}
use Rattle.std.proofs.lemmas.Bool.{eqb-true}
use Rattle.std.proofs.lemmas.Bool.Decides.{nat_tests}
use Rattle.std.proofs.lemmas.List.{append-nil, length-reverse, reverse-append, reverse-reverse, take-append-le}
use Rattle.fdr_record.specs.declared.event.Event.{Event}
use Rattle.fdr_record.specs.declared.event.Kind.{Kind}
use Rattle.fdr_record.specs.declared.event.Kind.TheVariants.{Entry, Exit, TailExit, EntryArgs}
use Rattle.stack_rebuild.specs.declared.call.Call.{Call}
use Rattle.stack_rebuild.specs.declared.call.Pair.{Pair}
use Rattle.stack_rebuild.specs.Calls.{cycles_between, from_innermost, left_open, open_after, open_after_kind, open_calls, pair_at, pair_at_kind, pair_of_call, pairs_in}
use Rattle.stack_rebuild.specs.Stacks.{open_before}

-- ---- what an event ends

-- the call that an event ends and those outside it, or none if it ends none
abbrev pub ended_by : Kind → ℕ → List Call → List Call
ended_by Entry func calls = []
ended_by EntryArgs func calls = []
ended_by Exit func calls = from_innermost func calls
ended_by TailExit func calls = from_innermost func calls

pub pair_by : (k : Kind) (e : Event) (at : ℕ) (calls : List Call) → pair_at_kind k e at calls ≡ pair_of_call e at (ended_by k e.func calls)
pair_by Entry e at calls = refl
pair_by EntryArgs e at calls = refl
pair_by Exit e at calls = refl
pair_by TailExit e at calls = refl

-- ---- one more event

abbrev pub in_order : List Event → List Event
in_order history = reverse history

pub one_more : (e : Event) (history : List Event) → reverse (e ∷ history) ≡ reverse history ++ e ∷ []
one_more e history = reverse-append (e ∷ []) history

pub open_kept : (events : List Event) (e : Event) (at : ℕ) → at ≤ length events → open_before (events ++ e ∷ []) at ≡ open_before events at
open_kept events e at low = ap (λ (es : List Event). open_calls (reverse es)) (take-append-le at events (e ∷ []) low)

pub open_now : (history : List Event) → open_before (reverse history) (length history) ≡ open_calls history
open_now history =
    ap (λ (n : ℕ). open_before (reverse history) n) (sym (length-reverse history))
    ∙ (ap (λ (es : List Event). open_calls (reverse es)) (take-length (reverse history)) ∙ ap open_calls (reverse-reverse history))

pub open_then : (history : List Event) (e : Event) → open_before (reverse history ++ e ∷ []) (length history) ≡ open_calls history
open_then history e = open_kept (reverse history) e (length history) (omega (arith, length-reverse history)) ∙ open_now history

-- ---- calls inside calls

-- each of these calls has its entry before a position
abbrev pub AllBefore : ℕ → List Call → Type 0
AllBefore at [] = Unit {0}
AllBefore at (call ∷ outer) = (call.entry < at) × AllBefore at outer

-- each call has its entry after those outside it, which were open just before it
abbrev pub Nested : List Event → List Call → Type 0
Nested events [] = Unit {0}
Nested events (call ∷ outer) = (call.entry < length events) × AllBefore call.entry outer × (outer ≡ open_before events call.entry) × Nested events outer

-- none of these calls has its entry at this position
abbrev pub NoneAt : ℕ → List Call → Type 0
NoneAt at [] = Unit {0}
NoneAt at (call ∷ outer) = (nat_eq call.entry at ≡ false) × NoneAt at outer

-- each pair has its entry before a position, and not that of one of these calls
abbrev pub AllEnded : ℕ → List Call → List Pair → Type 0
AllEnded end calls [] = Unit {0}
AllEnded end calls (pair ∷ pairs) = (pair.entry < end) × NoneAt pair.entry calls × AllEnded end calls pairs

pub before_less : (n m : ℕ) (calls : List Call) → n ≤ m → AllBefore n calls → AllBefore m calls
before_less n m [] low all = tt
before_less n m (call ∷ outer) low all = (omega (arith, all.0), before_less n m outer low all.1)

pub none_before : (at : ℕ) (calls : List Call) → AllBefore at calls → NoneAt at calls
none_before at [] all = tt
none_before at (call ∷ outer) all = (let low : call.entry < at = all.0 in grind (arith, nat_tests), none_before at outer all.1)

pub nested_before : (events : List Event) (calls : List Call) → Nested events calls → AllBefore (length events) calls
nested_before events [] nested = tt
nested_before events (call ∷ outer) nested = (nested.0, nested_before events outer nested.3)

nested_more : (events : List Event) (e : Event) (calls : List Call) → Nested events calls → Nested (events ++ e ∷ []) calls
nested_more events e [] nested = tt
nested_more events e (call ∷ outer) nested = (
  omega (arith, nested.0, length-append events (e ∷ [])),
  nested.1,
  nested.2 ∙ sym (open_kept events e call.entry (omega (arith, nested.0))),
  nested_more events e outer nested.3,
)

-- what holds of calls, and of the outer ones, holds of the calls from the innermost one of a function outwards
pub kept_from : (P : List Call → Type 0) → ((call : Call) (outer : List Call) → P (call ∷ outer) → P outer) → (func : ℕ) (calls : List Call) → P calls → P (from_innermost func calls)
kept_from P outwards func [] all = all
kept_from P outwards func (call ∷ outer) all = by_func (nat_eq call.func func) (kept_from P outwards func outer (outwards call outer all))
  where
    by_func : (b : Bool) → P (from_innermost func outer) → P (cond b (call ∷ outer) (from_innermost func outer))
    by_func true following = all
    by_func false following = following

pub nested_from : (events : List Event) (func : ℕ) (calls : List Call) → Nested events calls → Nested events (from_innermost func calls)
nested_from events = kept_from (Nested events) (λ call outer nested. nested.3)

pub none_from : (at func : ℕ) (calls : List Call) → NoneAt at calls → NoneAt at (from_innermost func calls)
none_from at = kept_from (NoneAt at) (λ call outer none. none.1)

-- the innermost call of a function belongs to it
pub its_func : (func : ℕ) (calls : List Call) (ended : Call) (outer : List Call) → from_innermost func calls ≡ ended ∷ outer → ended.func ≡ func
its_func func [] ended outer is = absurd (omega (arith, ap {B = ℕ} length is))
its_func func (call ∷ calls) ended outer is = by_func (nat_eq call.func func) refl is (its_func func calls ended outer)
  where
    first_func : List Call → ℕ
    first_func [] = 0
    first_func (c ∷ cs) = c.func

    by_func : (b : Bool) → nat_eq call.func func ≡ b → cond b (call ∷ calls) (from_innermost func calls) ≡ ended ∷ outer
        → (from_innermost func calls ≡ ended ∷ outer → ended.func ≡ func) → ended.func ≡ func
    by_func true same is following = sym (ap first_func is) ∙ eqb-true call.func func same
    by_func false same is following = following is

-- the calls that an event ends are nested, and those that were open
pub nested_ended : (events : List Event) (k : Kind) (func : ℕ) (calls : List Call) → Nested events calls → Nested events (ended_by k func calls)
nested_ended events Entry func calls nested = tt
nested_ended events EntryArgs func calls nested = tt
nested_ended events Exit func calls nested = nested_from events func calls nested
nested_ended events TailExit func calls nested = nested_from events func calls nested

pub none_ended : (at : ℕ) (k : Kind) (func : ℕ) (calls : List Call) → NoneAt at calls → NoneAt at (ended_by k func calls)
none_ended at Entry func calls none = tt
none_ended at EntryArgs func calls none = tt
none_ended at Exit func calls none = none_from at func calls none
none_ended at TailExit func calls none = none_from at func calls none

pub func_ended : (k : Kind) (func : ℕ) (calls : List Call) (ended : Call) (outer : List Call) → ended_by k func calls ≡ ended ∷ outer → ended.func ≡ func
func_ended Entry func calls ended outer is = absurd (omega (arith, ap {B = ℕ} length is))
func_ended EntryArgs func calls ended outer is = absurd (omega (arith, ap {B = ℕ} length is))
func_ended Exit func calls ended outer is = its_func func calls ended outer is
func_ended TailExit func calls ended outer is = its_func func calls ended outer is

ended_less : (end more : ℕ) (calls : List Call) (pairs : List Pair) → end ≤ more → AllEnded end calls pairs → AllEnded more calls pairs
ended_less end more calls [] low all = tt
ended_less end more calls (pair ∷ pairs) low all = (omega (arith, all.0), all.1, ended_less end more calls pairs low all.2)

-- pairs that have ended stay so when another call is opened
ended_open : (end : ℕ) (calls : List Call) (call : Call) (pairs : List Pair) → end ≡ call.entry → AllEnded end calls pairs
    → AllEnded (end + 1) (call ∷ calls) pairs
ended_open end calls call [] at all = tt
ended_open end calls call (pair ∷ pairs) at all = (
  omega (arith, all.0),
  (let low : pair.entry < call.entry = omega (arith, all.0, at) in grind (arith, nat_tests), all.1),
  ended_open end calls call pairs at all.2,
)

pub ended_append : (end : ℕ) (calls : List Call) (pairs : List Pair) (pair : Pair) → AllEnded end calls pairs → pair.entry < end → NoneAt pair.entry calls
    → AllEnded end calls (pairs ++ pair ∷ [])
ended_append end calls [] pair all low none = (low, none, tt)
ended_append end calls (p ∷ pairs) pair all low none = (all.0, all.1, ended_append end calls pairs pair all.2 low none)

-- what is known of a history's open calls and pairs
pub record IsNested (history : List Event) : Type 0 where
  pub nested : Nested (reverse history) (open_calls history)
  pub ended : AllEnded (length history) (open_calls history) (pairs_in history)

-- what an event leaves open and which pair it makes, by the calls that it ends
nested_exit : (e : Event) (history : List Event) (calls : List Call) → IsNested history → Nested (reverse history) calls
    → ((at : ℕ) → NoneAt at (open_calls history) → NoneAt at calls)
    → (Nested (reverse history ++ e ∷ []) (left_open (open_calls history) calls))
    × AllEnded (length history + 1) (left_open (open_calls history) calls) (pairs_in history ++ option_to_list (pair_of_call e (length history) calls))
nested_exit e history [] known own none = (
  nested_more (reverse history) e (open_calls history) known.nested,
  subst (AllEnded (length history + 1) (open_calls history)) (sym (append-nil (pairs_in history)))
      (ended_less (length history) (length history + 1) (open_calls history) (pairs_in history) (omega arith) known.ended),
)
nested_exit e history (ended ∷ outer) known own none = (
  nested_more (reverse history) e outer own.3,
  ended_append (length history + 1) outer (pairs_in history) (record { func = e.func; entry = ended.entry; exit = length history; duration = cycles_between ended.tsc e.tsc })
      (cut (pairs_in history) known.ended) (omega (arith, own.0, length-reverse history)) (none_before ended.entry outer own.1),
)
  where
    cut : (pairs : List Pair) → AllEnded (length history) (open_calls history) pairs → AllEnded (length history + 1) outer pairs
    cut [] all = tt
    cut (pair ∷ pairs) all = (omega (arith, all.0), (none pair.entry all.1).1, cut pairs all.2)

pub nested_history : (history : List Event) → IsNested history
nested_history [] = record { nested = tt; ended = tt }
nested_history (e ∷ history) = by_kind e.kind refl (nested_history history)
  where
    ends : (calls : List Call) (pairs : List Pair) → open_after e (length history) (open_calls history) ≡ calls
        → pairs_in history ++ option_to_list (pair_at e (length history) (open_calls history)) ≡ pairs
        → Nested (reverse history ++ e ∷ []) calls → AllEnded (length history + 1) calls pairs → IsNested (e ∷ history)
    ends calls pairs left made nested ended = record {
      nested = subst (λ (es : List Event). Nested es (open_calls (e ∷ history))) (sym (one_more e history))
          (subst (Nested (reverse history ++ e ∷ [])) (sym left) nested);
      ended = subst (λ (n : ℕ). AllEnded n (open_calls (e ∷ history)) (pairs_in (e ∷ history))) (let n : length history + 1 ≡ suc (length history) = omega arith in n)
          (subst (λ (ps : List Pair). AllEnded (length history + 1) (open_calls (e ∷ history)) ps) (sym made)
          (subst (λ (cs : List Call). AllEnded (length history + 1) cs pairs) (sym left) ended));
    }

    opened : Call
    opened = record { entry = length history; func = e.func; tsc = e.tsc }

    found : List Call
    found = from_innermost e.func (open_calls history)

    by_exit : IsNested history → open_after e (length history) (open_calls history) ≡ left_open (open_calls history) found
        → pairs_in history ++ option_to_list (pair_at e (length history) (open_calls history)) ≡ pairs_in history ++ option_to_list (pair_of_call e (length history) found)
        → IsNested (e ∷ history)
    by_exit known left made =
        let both = nested_exit e history found known (nested_from (reverse history) e.func (open_calls history) known.nested)
        (λ at none. none_from at e.func (open_calls history) none) in
        ends (left_open (open_calls history) found) (pairs_in history ++ option_to_list (pair_of_call e (length history) found)) left made both.0 both.1

    by_entry : IsNested history → open_after e (length history) (open_calls history) ≡ opened ∷ open_calls history
        → pairs_in history ++ option_to_list (pair_at e (length history) (open_calls history)) ≡ pairs_in history ++ [] → IsNested (e ∷ history)
    by_entry known left made =
        ends (opened ∷ open_calls history) (pairs_in history) left (made ∙ append-nil (pairs_in history)) (
          omega (arith, length-append (reverse history) (e ∷ []), length-reverse history),
          subst (λ (n : ℕ). AllBefore n (open_calls history)) (length-reverse history) (nested_before (reverse history) (open_calls history) known.nested),
          sym (open_then history e),
          nested_more (reverse history) e (open_calls history) known.nested,
        )
        (ended_open (length history) (open_calls history) opened (pairs_in history) refl known.ended)

    by_kind : (k : Kind) → e.kind ≡ k → IsNested history → IsNested (e ∷ history)
    by_kind Entry is known =
        by_entry known (ap (λ (k : Kind). open_after_kind k e (length history) (open_calls history)) is)
        (ap (λ (k : Kind). pairs_in history ++ option_to_list (pair_at_kind k e (length history) (open_calls history))) is)
    by_kind EntryArgs is known =
        by_entry known (ap (λ (k : Kind). open_after_kind k e (length history) (open_calls history)) is)
        (ap (λ (k : Kind). pairs_in history ++ option_to_list (pair_at_kind k e (length history) (open_calls history))) is)
    by_kind Exit is known =
        by_exit known (ap (λ (k : Kind). open_after_kind k e (length history) (open_calls history)) is)
        (ap (λ (k : Kind). pairs_in history ++ option_to_list (pair_at_kind k e (length history) (open_calls history))) is)
    by_kind TailExit is known =
        by_exit known (ap (λ (k : Kind). open_after_kind k e (length history) (open_calls history)) is)
        (ap (λ (k : Kind). pairs_in history ++ option_to_list (pair_at_kind k e (length history) (open_calls history))) is)
