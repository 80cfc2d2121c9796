-- The functions that had an event, as lists and tables have them.
use Rattle.std.proofs.Common.{◌≡◌, ◌+◌, ◌<◌, ◌≤◌, ◌∙◌, ◌&&◌, ◌||◌, ℕ, Bool, true, false, cond, List, [], ◌∷◌, length, get_or, refl, ap, sym, arith, nat_eq, nat_le, nat_lt, Option, Some, None, is_some, unwrap_or}
use Rattle.std.specs.Map.{keys_of, lookup}
use Rattle.std.specs.List.{IsDistinct}
use Rattle.std.proofs.lemmas.Bool.Decides.{nat_tests}
use Rattle.std.proofs.lemmas.List.{get_or_past}
use Rattle.stack_rebuild.proofs.Items.{IsIn}
use Rattle.fdr_record.specs.declared.event.Kind.{Kind}
use Rattle.fdr_record.specs.declared.event.Kind.TheVariants.{Entry, Exit, TailExit, EntryArgs}
use Rattle.fdr_file.specs.ThreadEvents.{ThreadEvent}
use Rattle.stack_rebuild.specs.Histories.{pair_after}
use Rattle.account_report.specs.declared.tallies.Tallies.{Tallies}
use Rattle.account_report.specs.declared.tallies.TheConstants.{FEW}
use Rattle.account_report.specs.private.AllTallies.{AreTallies, entries_in}
use Rattle.account_report.specs.private.Tallies.{Tallied, durations_in, has_event, has_events, no_tally, tally_tabled, tally_listed, tally_of, with_event}
use Rattle.account_report.proofs.LowIds.{found_first, found_other, ids_distinct}
use Rattle.account_report.proofs.HistoryRows.{key_found}
use Rattle.account_report.proofs.TallySteps.{tally_of-cons}

-- ---- no event yet

pub none_yet : (tallies : Tallies) → tallies.first.items ≡ [] → tallies.others.entries ≡ [] → AreTallies tallies []
none_yet tallies first others = record {
  each = λ func. each func (nat_lt func FEW);
  few = omega (arith, ap length first);
  present = λ func. ap (λ (es : List (ℕ × Tallied)). is_some (lookup (nat_eq func) es)) others ∙ none (nat_le FEW func);
}
  where
    none : (b : Bool) → false ≡ (b && false)
    none true = refl
    none false = refl

    among : (func : ℕ) → tally_tabled tallies.others func ≡ no_tally
    among func = ap (λ (es : List (ℕ × Tallied)). unwrap_or (lookup (nat_eq func) es) no_tally) others

    each : (func : ℕ) (b : Bool) → cond b (tally_listed tallies.first.items func) (tally_tabled tallies.others func) ≡ no_tally
    each func true = ap (λ (ts : List Tallied). get_or ts func no_tally) first
    each func false = among func

-- ---- whether a function had an event

with_events : (b : Bool) (kind : Kind) (ds : List ℕ) (t : Tallied) → has_events (cond b (with_event kind ds t) t) ≡ (b || has_events t)
with_events false kind ds t = refl
with_events true Entry ds t = let some : nat_lt 0 (t.entries + 1) ≡ true = grind (arith, nat_tests) in ap (λ (b : Bool). b || nat_lt 0 t.exits) some
with_events true EntryArgs ds t = let some : nat_lt 0 (t.entries + 1) ≡ true = grind (arith, nat_tests) in ap (λ (b : Bool). b || nat_lt 0 t.exits) some
with_events true Exit ds t = either (nat_lt 0 t.entries) (nat_lt 0 (t.exits + 1)) (grind (arith, nat_tests))
  where
    either : (a b : Bool) → b ≡ true → (a || b) ≡ true
    either true b is = refl
    either false b is = is
with_events true TailExit ds t = either (nat_lt 0 t.entries) (nat_lt 0 (t.exits + 1)) (grind (arith, nat_tests))
  where
    either : (a b : Bool) → b ≡ true → (a || b) ≡ true
    either true b is = refl
    either false b is = is

events_told : (history : List ThreadEvent) (func : ℕ) → has_events (tally_of history func) ≡ has_event history func
events_told [] func = refl
events_told (l ∷ h) func =
    ap has_events (tally_of-cons l h func)
    ∙ (with_events (nat_eq l.event.func func) l.event.kind (durations_in (pair_after l h)) (tally_of h func)
    ∙ ap (λ (b : Bool). nat_eq l.event.func func || b) (events_told h func))

-- ---- what is found of a function

abbrev Found : Tallies → List ThreadEvent → ℕ → Type 0
Found tallies history func =
    ((v : Tallied) → lookup (nat_eq func) (entries_in tallies) ≡ Some v → v ≡ tally_of history func)
    × (is_some (lookup (nat_eq func) (entries_in tallies)) ≡ has_event history func)

not_low : (x : Bool) (found : Option Tallied) → is_some found ≡ (false && x) → found ≡ None
not_low x None is = refl
not_low x (Some v) is = cc

higher : (tallies : Tallies) (history : List ThreadEvent) → AreTallies tallies history → (k : ℕ) → IsIn k (keys_of tallies.others.entries)
    → 0 + length tallies.first.items ≤ k
higher tallies history are k is = by_place (nat_le FEW k) refl
  where
    by_place : (b : Bool) → nat_le FEW k ≡ b → 0 + length tallies.first.items ≤ k
    by_place true place = let high : FEW ≤ k = grind (arith, nat_tests) in omega (arith, high, are.few)
    by_place false place =
        let never : true ≡ false =
        sym (key_found k tallies.others.entries is) ∙ (are.present k ∙ ap (λ (b : Bool). b && has_event history k) place) in
        cc

pub distinct_in : (tallies : Tallies) (history : List ThreadEvent) → AreTallies tallies history → IsDistinct nat_eq (keys_of tallies.others.entries)
    → IsDistinct nat_eq (keys_of (entries_in tallies))
distinct_in tallies history are distinct = ids_distinct 0 tallies.first.items tallies.others.entries distinct (higher tallies history are)

one_found : (t v : Tallied) (b : Bool) → cond b (Some t) None ≡ Some v → v ≡ t
one_found t v true is = cc
one_found t v false is = cc

some_found : (t : Tallied) (b : Bool) → is_some (cond b (Some t) None) ≡ b
some_found t true = refl
some_found t false = refl

pub found_in : (tallies : Tallies) (history : List ThreadEvent) → AreTallies tallies history → (func : ℕ) → Found tallies history func
found_in tallies history are func = by_place (nat_lt func (length tallies.first.items)) refl
  where
    first : List Tallied
    first = tallies.first.items

    listed : func < length first → Found tallies history func
    listed within =
        let t = get_or first func no_tally in
        let found = found_first func 0 func first tallies.others.entries (omega arith) within (higher tallies history are) in
        let low : nat_lt func FEW ≡ true = let below : func < FEW = omega (arith, are.few) in grind (arith, nat_tests) in
        let told : t ≡ tally_of history func =
        sym (ap (λ (b : Bool). cond b t (tally_tabled tallies.others func)) low) ∙ are.each func in (
          λ v is. one_found t v (has_events t) (sym found ∙ is) ∙ told,
          ap is_some found ∙ (some_found t (has_events t) ∙ (ap has_events told ∙ events_told history func)),
        )

    others : length first ≤ func → (b : Bool) → nat_lt func FEW ≡ b → Found tallies history func
    others past true low =
        let found = found_other func 0 first tallies.others.entries (omega (arith, past)) in
        let place : nat_le FEW func ≡ false = grind (arith, nat_tests) in
        let none : lookup (nat_eq func) tallies.others.entries ≡ None =
        not_low (has_event history func) (lookup (nat_eq func) tallies.others.entries)
        (are.present func ∙ ap (λ (b : Bool). b && has_event history func) place) in
        let told : no_tally ≡ tally_of history func =
        sym (ap (λ (b : Bool). cond b (tally_listed first func) (tally_tabled tallies.others func)) low ∙ get_or_past first func no_tally past) ∙ are.each func in (
          λ v is. cc,
          ap is_some (found ∙ none) ∙ (ap has_events told ∙ events_told history func),
        )
    others past false low =
        let found = found_other func 0 first tallies.others.entries (omega (arith, past)) in
        let place : nat_le FEW func ≡ true = grind (arith, nat_tests) in
        let told : tally_tabled tallies.others func ≡ tally_of history func =
        sym (ap (λ (b : Bool). cond b (tally_listed first func) (tally_tabled tallies.others func)) low) ∙ are.each func in (
          λ v is.
              let here : lookup (nat_eq func) tallies.others.entries ≡ Some v = sym found ∙ is in
              sym (ap (λ (o : Option Tallied). unwrap_or o no_tally) here) ∙ told,
          ap is_some found ∙ (are.present func ∙ ap (λ (b : Bool). b && has_event history func) place),
        )

    by_place : (b : Bool) → nat_lt func (length first) ≡ b → Found tallies history func
    by_place true is = listed (grind (arith, nat_tests))
    by_place false is = others (grind (arith, nat_tests)) (nat_lt func FEW) refl
