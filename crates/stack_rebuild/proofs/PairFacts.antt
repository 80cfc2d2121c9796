-- What holds of each pair, and of any two.
use Rattle.std.proofs.Common.{◌≡◌, ◌≢◌, ◌++◌, ◌<◌, ◌∙◌, ℕ, suc, true, false, List, [], ◌∷◌, length, reverse, refl, ap, sym, subst, arith, nat_eq, Option, All, length-append}
use Rattle.std.specs.List.{AllPairs}
use Rattle.std.specs.Option.{option_to_list}
use Rattle.std.proofs.Math.ListN.{get_or-append}
use Rattle.std.proofs.Math.Seq.{get_or-append_seam}
use Rattle.std.proofs.lemmas.Bool.{eq-eqb}
use Rattle.std.proofs.lemmas.List.{append-nil, length-reverse, reverse-reverse}
use Rattle.std.proofs.lemmas.List.Elements.{All-cons, All-nil, All-push, All-weaker}
use Rattle.std.proofs.lemmas.List.Quantifiers.{all_pairs_push}
use Rattle.fdr_record.specs.declared.event.Event.{Event}
use Rattle.fdr_record.specs.declared.event.Kind.{Kind}
use Rattle.fdr_record.specs.declared.event.Kind.TheVariants.{Entry, Exit, TailExit, EntryArgs}
use Rattle.stack_rebuild.specs.declared.call.Call.{Call}
use Rattle.stack_rebuild.specs.declared.call.Pair.{Pair}
use Rattle.stack_rebuild.specs.Calls.{cycles_between, enters, from_innermost, leaves, left_open, open_after_kind, open_calls, pair_of_call, pairs_in, pairs_of}
use Rattle.stack_rebuild.specs.PairLaws.{IsWholeCall, event_at, innermost_entry, no_event}
use Rattle.stack_rebuild.proofs.NestedCalls.{AllEnded, NoneAt, ended_by, kept_from, nested_history, none_ended, func_ended, one_more, open_kept, open_then, pair_by}

-- the pair of an event at a position with the call that it ends
abbrev pub pair_with : Event → ℕ → Call → Pair
pair_with e at ended = record { func = e.func; entry = ended.entry; exit = at; duration = cycles_between ended.tsc e.tsc }

-- what holds of the pairs of a history holds after one more event, if it holds with the pair that the event may make
pub one_event : (P : List Pair → Type 0) (e : Event) (history : List Event) → P (pairs_in history)
    → ((ended : Call) (outer : List Call) → ended_by e.kind e.func (open_calls history) ≡ ended ∷ outer
    → P (pairs_in history ++ pair_with e (length history) ended ∷ []))
    → P (pairs_in (e ∷ history))
one_event P e history none some =
    subst P (sym (ap (λ (p : Option Pair). pairs_in history ++ option_to_list p) (pair_by e.kind e (length history) (open_calls history))))
    (by_ended (ended_by e.kind e.func (open_calls history)) refl)
  where
    by_ended : (calls : List Call) → ended_by e.kind e.func (open_calls history) ≡ calls
        → P (pairs_in history ++ option_to_list (pair_of_call e (length history) calls))
    by_ended [] is = subst P (sym (append-nil (pairs_in history))) none
    by_ended (ended ∷ outer) is = some ended outer is

-- ---- exits

exits_later : (end : ℕ) (pairs : List Pair) → All (λ pair. pair.exit < end) pairs → All (λ pair. pair.exit < suc end) pairs
exits_later end pairs low = All-weaker (λ pair. pair.exit < end) (λ pair. pair.exit < suc end) (λ pair less. omega (arith, less)) pairs low

pub exits_low : (history : List Event) → All (λ pair. pair.exit < length history) (pairs_in history)
exits_low [] = All-nil (λ pair. pair.exit < 0)
exits_low (e ∷ history) =
    let later = exits_later (length history) (pairs_in history) (exits_low history) in
    one_event (All (λ pair. pair.exit < suc (length history))) e history later
    (λ ended outer is. All-push (λ pair. pair.exit < suc (length history)) (pairs_in history) (pair_with e (length history) ended) later (omega arith))

pub exits_rise : (history : List Event) → AllPairs (λ pair later. pair.exit < later.exit) (pairs_in history)
exits_rise [] = λ i j d before within. absurd (omega (arith, within))
exits_rise (e ∷ history) =
    one_event (AllPairs (λ pair later. pair.exit < later.exit)) e history (exits_rise history)
    (λ ended outer is. all_pairs_push (λ pair later. pair.exit < later.exit) (pairs_in history) (pair_with e (length history) ended) (exits_rise history)
    (λ k d within. exits_low history k d within))

-- ---- entries

each_ended : (end : ℕ) (calls : List Call) (pairs : List Pair) → AllEnded end calls pairs → All (λ pair. NoneAt pair.entry calls) pairs
each_ended end calls [] all = All-nil (λ pair. NoneAt pair.entry calls)
each_ended end calls (pair ∷ pairs) all = All-cons (λ pair. NoneAt pair.entry calls) pair pairs all.1 (each_ended end calls pairs all.2)

pub entries_apart : (history : List Event) → AllPairs (λ pair later. pair.entry ≢ later.entry) (pairs_in history)
entries_apart [] = λ i j d before within. absurd (omega (arith, within))
entries_apart (e ∷ history) =
    one_event (AllPairs (λ pair later. pair.entry ≢ later.entry)) e history (entries_apart history)
    (λ ended outer is. all_pairs_push (λ pair later. pair.entry ≢ later.entry) (pairs_in history) (pair_with e (length history) ended) (entries_apart history)
    (λ k d within. differs ended.entry _
    (subst (NoneAt _) is (none_ended _ e.kind e.func (open_calls history)
    (each_ended (length history) (open_calls history) (pairs_in history) (nested_history history).ended k d within))).0))
  where
    differs : (n m : ℕ) → nat_eq n m ≡ false → m ≢ n
    differs n m apart same = never (sym (eq-eqb n m (sym same)) ∙ apart)
      where
        never : true ≡ false → ⊥
        never x = cc

-- ---- each pair

-- an open call is that of an entry
pub record IsEntered (events : List Event) (call : Call) : Type 0 where
  pub low : call.entry < length events
  pub begins : enters (event_at events call.entry).kind ≡ true
  pub func : (event_at events call.entry).func ≡ call.func
  pub tsc : (event_at events call.entry).tsc ≡ call.tsc

abbrev pub AllEntered : List Event → List Call → Type 0
AllEntered events [] = Unit {0}
AllEntered events (call ∷ outer) = IsEntered events call × AllEntered events outer

-- an event stays at its position
pub event_kept : (events : List Event) (e : Event) (at : ℕ) → at < length events → event_at (events ++ e ∷ []) at ≡ event_at events at
event_kept events e at low = get_or-append events (e ∷ []) no_event at low

pub event_last : (history : List Event) (e : Event) → event_at (reverse history ++ e ∷ []) (length history) ≡ e
event_last history e =
    ap (event_at (reverse history ++ e ∷ [])) (sym (length-reverse history)) ∙ get_or-append_seam (reverse history) e [] no_event

entered_more : (events : List Event) (e : Event) (calls : List Call) → AllEntered events calls → AllEntered (events ++ e ∷ []) calls
entered_more events e [] all = tt
entered_more events e (call ∷ outer) all =
    let kept = event_kept events e call.entry all.0.low in (
      record {
        low = omega (arith, all.0.low, length-append events (e ∷ []));
        begins = ap (λ (x : Event). enters x.kind) kept ∙ all.0.begins;
        func = ap (λ (x : Event). x.func) kept ∙ all.0.func;
        tsc = ap (λ (x : Event). x.tsc) kept ∙ all.0.tsc;
      },
      entered_more events e outer all.1,
    )

entered_from : (events : List Event) (func : ℕ) (calls : List Call) → AllEntered events calls → AllEntered events (from_innermost func calls)
entered_from events = kept_from (AllEntered events) (λ call outer all. all.1)

entered_left : (events : List Event) (calls found : List Call) → AllEntered events calls → AllEntered events found → AllEntered events (left_open calls found)
entered_left events calls [] all own = all
entered_left events calls (ended ∷ outer) all own = own.1

entered_after : (e : Event) (history : List Event) → AllEntered (reverse history) (open_calls history)
    → AllEntered (reverse history ++ e ∷ []) (open_calls (e ∷ history))
entered_after e history before = by_kind e.kind refl
  where
    events : List Event
    events = reverse history ++ e ∷ []

    calls : List Call
    calls = open_calls history

    kept : AllEntered events calls
    kept = entered_more (reverse history) e calls before

    by_entry : enters e.kind ≡ true → AllEntered events (record { entry = length history; func = e.func; tsc = e.tsc } ∷ calls)
    by_entry is = (
      record {
        low = omega (arith, length-append (reverse history) (e ∷ []), length-reverse history);
        begins = ap (λ (x : Event). enters x.kind) (event_last history e) ∙ is;
        func = ap (λ (x : Event). x.func) (event_last history e);
        tsc = ap (λ (x : Event). x.tsc) (event_last history e);
      },
      kept,
    )

    by_kind : (k : Kind) → e.kind ≡ k → AllEntered events (open_after_kind k e (length history) calls)
    by_kind Entry is = by_entry (ap enters is)
    by_kind EntryArgs is = by_entry (ap enters is)
    by_kind Exit is = entered_left events calls (from_innermost e.func calls) kept (entered_from events e.func calls kept)
    by_kind TailExit is = entered_left events calls (from_innermost e.func calls) kept (entered_from events e.func calls kept)

pub all_entered : (history : List Event) → AllEntered (reverse history) (open_calls history)
all_entered [] = tt
all_entered (e ∷ history) =
    subst (λ (events : List Event). AllEntered events (open_calls (e ∷ history))) (sym (one_more e history)) (entered_after e history (all_entered history))

-- an event that ends a call is an exit, and the call is the innermost one of its function
leaves_by : (k : Kind) (func : ℕ) (calls : List Call) (ended : Call) (outer : List Call) → ended_by k func calls ≡ ended ∷ outer → leaves k ≡ true
leaves_by Entry func calls ended outer is = absurd (omega (arith, ap {B = ℕ} length is))
leaves_by EntryArgs func calls ended outer is = absurd (omega (arith, ap {B = ℕ} length is))
leaves_by Exit func calls ended outer is = refl
leaves_by TailExit func calls ended outer is = refl

found_by : (k : Kind) (func : ℕ) (calls : List Call) (ended : Call) (outer : List Call) → ended_by k func calls ≡ ended ∷ outer
    → from_innermost func calls ≡ ended ∷ outer
found_by Entry func calls ended outer is = absurd (omega (arith, ap {B = ℕ} length is))
found_by EntryArgs func calls ended outer is = absurd (omega (arith, ap {B = ℕ} length is))
found_by Exit func calls ended outer is = is
found_by TailExit func calls ended outer is = is

whole_more : (events : List Event) (e : Event) (pair : Pair) → IsWholeCall events pair → IsWholeCall (events ++ e ∷ []) pair
whole_more events e pair own = record {
  rises = own.rises;
  within = omega (arith, own.within, length-append events (e ∷ []));
  begins = ap (λ (x : Event). enters x.kind) entry ∙ own.begins;
  entered = ap (λ (x : Event). x.func) entry ∙ own.entered;
  closes = ap (λ (x : Event). leaves x.kind) exit ∙ own.closes;
  left = ap (λ (x : Event). x.func) exit ∙ own.left;
  ends = ap (λ (calls : List Call). innermost_entry (from_innermost pair.func calls)) (open_kept events e pair.exit (omega (arith, own.within))) ∙ own.ends;
  duration = own.duration
      ∙ (ap (λ (x : Event). cycles_between x.tsc (event_at events pair.exit).tsc) (sym entry)
      ∙ ap (λ (x : Event). cycles_between (event_at (events ++ e ∷ []) pair.entry).tsc x.tsc) (sym exit));
}
  where
    entry : event_at (events ++ e ∷ []) pair.entry ≡ event_at events pair.entry
    entry = event_kept events e pair.entry (omega (arith, own.rises, own.within))

    exit : event_at (events ++ e ∷ []) pair.exit ≡ event_at events pair.exit
    exit = event_kept events e pair.exit own.within

whole_made : (e : Event) (history : List Event) (ended : Call) (outer : List Call) → ended_by e.kind e.func (open_calls history) ≡ ended ∷ outer
    → IsWholeCall (reverse history ++ e ∷ []) (pair_with e (length history) ended)
whole_made e history ended outer is = record {
  rises = omega (arith, own.low, length-reverse history);
  within = omega (arith, length-append (reverse history) (e ∷ []), length-reverse history);
  begins = ap (λ (x : Event). enters x.kind) entry ∙ own.begins;
  entered = ap (λ (x : Event). x.func) entry ∙ (own.func ∙ func_ended e.kind e.func (open_calls history) ended outer is);
  closes = ap (λ (x : Event). leaves x.kind) exit ∙ leaves_by e.kind e.func (open_calls history) ended outer is;
  left = ap (λ (x : Event). x.func) exit;
  ends = ap (λ (calls : List Call). innermost_entry (from_innermost e.func calls)) (open_then history e) ∙ ap innermost_entry found;
  duration = ap (λ (t : ℕ). cycles_between t e.tsc) (sym (ap (λ (x : Event). x.tsc) entry ∙ own.tsc))
      ∙ ap (λ (x : Event). cycles_between (event_at (reverse history ++ e ∷ []) ended.entry).tsc x.tsc) (sym exit);
}
  where
    found : from_innermost e.func (open_calls history) ≡ ended ∷ outer
    found = found_by e.kind e.func (open_calls history) ended outer is

    own : IsEntered (reverse history) ended
    own = (subst (AllEntered (reverse history)) found (entered_from (reverse history) e.func (open_calls history) (all_entered history))).0

    entry : event_at (reverse history ++ e ∷ []) ended.entry ≡ event_at (reverse history) ended.entry
    entry = event_kept (reverse history) e ended.entry own.low

    exit : event_at (reverse history ++ e ∷ []) (length history) ≡ e
    exit = event_last history e

all_whole_more : (events : List Event) (e : Event) (pairs : List Pair) → All (IsWholeCall events) pairs → All (IsWholeCall (events ++ e ∷ [])) pairs
all_whole_more events e pairs own =
    All-weaker (IsWholeCall events) (IsWholeCall (events ++ e ∷ [])) (λ pair whole. whole_more events e pair whole) pairs own

whole_calls : (history : List Event) → All (IsWholeCall (reverse history)) (pairs_in history)
whole_calls [] = All-nil (IsWholeCall [])
whole_calls (e ∷ history) =
    let kept = all_whole_more (reverse history) e (pairs_in history) (whole_calls history) in
    subst (λ (events : List Event). All (IsWholeCall events) (pairs_in (e ∷ history))) (sym (one_more e history))
    (one_event (All (IsWholeCall (reverse history ++ e ∷ []))) e history kept
    (λ ended outer is. All-push (IsWholeCall (reverse history ++ e ∷ [])) (pairs_in history) (pair_with e (length history) ended) kept
    (whole_made e history ended outer is)))

pub pairs_are_whole : (events : List Event) → All (IsWholeCall events) (pairs_of events)
pairs_are_whole events = subst (λ (es : List Event). All (IsWholeCall es) (pairs_of events)) (reverse-reverse events) (whole_calls (reverse events))
