-- What was open just before the entry of each open call.
use Rattle.std.proofs.Common.{◌≡◌, ◌++◌, ◌<◌, ◌≤◌, ◌∙◌, ℕ, Bool, true, false, cond, List, [], ◌∷◌, length, reverse, ap, sym, subst, arith, nat_eq, length-append}
use Rattle.std.proofs.Math.Seq.{take-length}
use Rattle.std.proofs.lemmas.List.{length-reverse, reverse-append, reverse-reverse, take-append-le}
use Rattle.fdr_record.specs.declared.event.Event.{Event}
use Rattle.fdr_record.specs.declared.event.Kind.{Kind}
use Rattle.fdr_record.specs.declared.event.Kind.TheVariants.{Entry, Exit, TailExit, EntryArgs}
use Rattle.stack_rebuild.specs.declared.call.Call.{Call}
use Rattle.stack_rebuild.specs.Calls.{from_innermost, left_open, open_after_kind, open_calls}
use Rattle.stack_rebuild.specs.Stacks.{open_before}

pub one_more : (e : Event) (history : List Event) → reverse (e ∷ history) ≡ reverse history ++ e ∷ []
one_more e history = reverse-append (e ∷ []) history

pub open_kept : (events : List Event) (e : Event) (at : ℕ) → at ≤ length events → open_before (events ++ e ∷ []) at ≡ open_before events at
open_kept events e at low = ap (λ (es : List Event). open_calls (reverse es)) (take-append-le at events (e ∷ []) low)

open_then : (history : List Event) (e : Event) → open_before (reverse history ++ e ∷ []) (length history) ≡ open_calls history
open_then history e =
    open_kept (reverse history) e (length history) (omega (arith, length-reverse history))
    ∙ (ap (λ (n : ℕ). open_before (reverse history) n) (sym (length-reverse history))
    ∙ (ap (λ (es : List Event). open_calls (reverse es)) (take-length (reverse history)) ∙ ap open_calls (reverse-reverse history)))

-- each call has its entry among the events, and those outside it were open just before
abbrev pub Nests : List Event → List Call → Type 0
Nests events [] = Unit {0}
Nests events (call ∷ outer) = (call.entry < length events) × (open_before events call.entry ≡ outer) × Nests events outer

pub nests_more : (events : List Event) (e : Event) (calls : List Call) → Nests events calls → Nests (events ++ e ∷ []) calls
nests_more events e [] nested = tt
nests_more events e (call ∷ outer) nested = (
  omega (arith, length-append events (e ∷ []), nested.0),
  open_kept events e call.entry (omega (arith, nested.0)) ∙ nested.1,
  nests_more events e outer nested.2,
)

pub nests_from : (events : List Event) (func : ℕ) (calls : List Call) → Nests events calls → Nests events (from_innermost func calls)
nests_from events func [] nested = tt
nests_from events func (call ∷ outer) nested = by_func (nat_eq call.func func) (nests_from events func outer nested.2)
  where
    by_func : (b : Bool) → Nests events (from_innermost func outer) → Nests events (cond b (call ∷ outer) (from_innermost func outer))
    by_func true later = nested
    by_func false later = later

nests_left : (events : List Event) (calls ended : List Call) → Nests events calls → Nests events ended → Nests events (left_open calls ended)
nests_left events calls [] nested inner = nested
nests_left events calls (call ∷ outer) nested inner = inner.2

nests_kind : (k : Kind) (e : Event) (history : List Event) → Nests (reverse history ++ e ∷ []) (open_calls history)
    → Nests (reverse history ++ e ∷ []) (open_after_kind k e (length history) (open_calls history))
nests_kind Entry e history nested =
    (omega (arith, length-append (reverse history) (e ∷ []), length-reverse history), open_then history e, nested)
nests_kind EntryArgs e history nested =
    (omega (arith, length-append (reverse history) (e ∷ []), length-reverse history), open_then history e, nested)
nests_kind Exit e history nested =
    nests_left _ (open_calls history) (from_innermost e.func (open_calls history)) nested (nests_from _ e.func (open_calls history) nested)
nests_kind TailExit e history nested =
    nests_left _ (open_calls history) (from_innermost e.func (open_calls history)) nested (nests_from _ e.func (open_calls history) nested)

-- the calls that are open after a history
pub nests : (history : List Event) → Nests (reverse history) (open_calls history)
nests [] = tt
nests (e ∷ history) =
    let P : List Event → Type 0 = λ es. Nests es (open_calls (e ∷ history)) in
    subst P (sym (one_more e history)) (nests_kind e.kind e history (nests_more (reverse history) e (open_calls history) (nests history)))
