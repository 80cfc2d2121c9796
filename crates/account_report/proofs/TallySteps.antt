-- What one more event changes in what a history says of a function.
use Rattle.std.proofs.Common.{◌≡◌, ◌+◌, ◌++◌, ◌∙◌, ℕ, Bool, true, false, cond, ◌&&◌, ◌||◌, ◌≤◌, List, [], ◌∷◌, length, map, refl, ap, sym, arith, nat_eq, nat_le, Option, is_some}
use Rattle.std.specs.Prelude.{filter}
use Rattle.std.specs.HashMap.{get}
use Rattle.std.specs.Option.{option_to_list}
use Rattle.std.proofs.lemmas.List.{append-nil, map-append}
use Rattle.std.proofs.lemmas.List.Elements.{filter-append}
use Rattle.std.proofs.lemmas.List.Sums.{sum_by-cons}
use Rattle.std.proofs.lemmas.Bool.{eq-eqb}
use Rattle.fdr_record.specs.declared.event.Event.{Event}
use Rattle.fdr_record.specs.declared.event.Kind.{Kind}
use Rattle.fdr_record.specs.declared.event.Kind.TheVariants.{Entry, Exit, TailExit, EntryArgs}
use Rattle.fdr_file.specs.ThreadEvents.{ThreadEvent}
use Rattle.stack_rebuild.specs.declared.call.Call.{Call}
use Rattle.stack_rebuild.specs.declared.call.Pair.{Pair}
use Rattle.stack_rebuild.specs.Calls.{Standing, enters, from_innermost, leaves, open_calls, pair_at, pair_at_kind, pair_of_call, standing_after, next_standing}
use Rattle.stack_rebuild.specs.Histories.{ThreadPair, history_of_thread, pair_after, pairs_after, thread_event, thread_pair}
use Rattle.account_report.specs.declared.tallies.Tallies.{Tallies}
use Rattle.account_report.specs.declared.tallies.TheConstants.{FEW}
use Rattle.account_report.specs.Account.{durations_of, is_entry_of, is_exit_of}
use Rattle.account_report.specs.private.Tallies.{Tallied, durations_in, has_event, tally_of, with_event}
use Rattle.account_report.specs.private.AllTallies.{Reached, tally_in}

-- a pair is of the function of its event
abbrev is_pair_of : ℕ → Pair → Bool
is_pair_of func pair = nat_eq pair.func func

none_kept : (b : Bool) → [] ≡ cond b [] (let none : List Pair = [] in none)
none_kept true = refl
none_kept false = refl

call_kept : (e : Event) (at func : ℕ) (ended : List Call)
    → filter (is_pair_of func) (option_to_list (pair_of_call e at ended)) ≡ cond (nat_eq e.func func) (option_to_list (pair_of_call e at ended)) []
call_kept e at func [] = none_kept (nat_eq e.func func)
call_kept e at func (call ∷ outer) = refl

kind_kept : (k : Kind) (e : Event) (at func : ℕ) (calls : List Call)
    → filter (is_pair_of func) (option_to_list (pair_at_kind k e at calls)) ≡ cond (nat_eq e.func func) (option_to_list (pair_at_kind k e at calls)) []
kind_kept Entry e at func calls = none_kept (nat_eq e.func func)
kind_kept EntryArgs e at func calls = none_kept (nat_eq e.func func)
kind_kept Exit e at func calls = call_kept e at func (from_innermost e.func calls)
kind_kept TailExit e at func calls = call_kept e at func (from_innermost e.func calls)

map_cond : (b : Bool) (pairs : List Pair) → map (λ pair. pair.duration) (cond b pairs []) ≡ cond b (map (λ pair. pair.duration) pairs) []
map_cond true pairs = refl
map_cond false pairs = refl

-- the durations of a function's pairs, without their threads
plain_durations : (thread func : ℕ) (pairs : List Pair)
    → map (λ (made : ThreadPair). made.pair.duration) (filter (λ (made : ThreadPair). nat_eq made.pair.func func) (map (thread_pair thread) pairs))
    ≡ map (λ pair. pair.duration) (filter (is_pair_of func) pairs)
plain_durations thread func [] = refl
plain_durations thread func (pair ∷ pairs) = by_func (nat_eq pair.func func) (plain_durations thread func pairs)
  where
    later : List ThreadPair
    later = filter (λ (made : ThreadPair). nat_eq made.pair.func func) (map (thread_pair thread) pairs)

    by_func : (b : Bool) → map (λ (made : ThreadPair). made.pair.duration) later ≡ map (λ p. p.duration) (filter (is_pair_of func) pairs)
        → map (λ (made : ThreadPair). made.pair.duration) (cond b (thread_pair thread pair ∷ later) later)
        ≡ map (λ (p : Pair). p.duration) (cond b (pair ∷ filter (is_pair_of func) pairs) (filter (is_pair_of func) pairs))
    by_func true following = ap (λ (ds : List ℕ). pair.duration ∷ ds) following
    by_func false following = following

pub durations_of-cons : (func : ℕ) (l : ThreadEvent) (h : List ThreadEvent)
    → durations_of func (l ∷ h) ≡ durations_of func h ++ cond (nat_eq l.event.func func) (durations_in (pair_after l h)) []
durations_of-cons func l h =
    let made = option_to_list (pair_after l h) in
    let here = map (thread_pair l.thread) made in
    let duration : ThreadPair → ℕ = λ m. m.pair.duration in
    let test : ThreadPair → Bool = λ m. nat_eq m.pair.func func in
    let own = history_of_thread l.thread h in
    ap (map duration) (filter-append test (pairs_after h) here)
    ∙ (map-append duration (filter test (pairs_after h)) (filter test here)
    ∙ ap (λ (ds : List ℕ). durations_of func h ++ ds)
    (plain_durations l.thread func made
    ∙ (ap (map (λ (p : Pair). p.duration)) (kind_kept l.event.kind l.event (length own) func (open_calls own)) ∙ map_cond (nat_eq l.event.func func) made)))

abbrev tallied_as : List ℕ → ℕ → ℕ → Tallied
tallied_as durations entries exits = record { durations = durations; entries = entries; exits = exits }

same_tally : (x y : Tallied) → x.durations ≡ y.durations → x.entries ≡ y.entries → x.exits ≡ y.exits → x ≡ y
same_tally x y d e f =
    ap (λ (n : List ℕ). tallied_as n x.entries x.exits) d
    ∙ (ap (λ (n : ℕ). tallied_as y.durations n x.exits) e ∙ ap (λ (n : ℕ). tallied_as y.durations y.entries n) f)

-- the tally after an event: a new one with these three is the old one, or the old one with the event
counted : (b : Bool) (k : Kind) (ds : List ℕ) (old new : Tallied) → new.durations ≡ old.durations ++ cond b ds []
    → new.entries ≡ cond (b && enters k) 1 0 + old.entries → new.exits ≡ cond (b && leaves k) 1 0 + old.exits → new ≡ cond b (with_event k ds old) old
counted true Entry ds old new d e f = same_tally new _ d (omega arith) (omega arith)
counted true EntryArgs ds old new d e f = same_tally new _ d (omega arith) (omega arith)
counted true Exit ds old new d e f = same_tally new _ d (omega arith) (omega arith)
counted true TailExit ds old new d e f = same_tally new _ d (omega arith) (omega arith)
counted false k ds old new d e f = same_tally new old (d ∙ append-nil old.durations) (omega arith) (omega arith)

pub tally_of-cons : (l : ThreadEvent) (h : List ThreadEvent) (func : ℕ)
    → tally_of (l ∷ h) func ≡ cond (nat_eq l.event.func func) (with_event l.event.kind (durations_in (pair_after l h)) (tally_of h func)) (tally_of h func)
tally_of-cons l h func =
    counted (nat_eq l.event.func func) l.event.kind (durations_in (pair_after l h)) (tally_of h func) (tally_of (l ∷ h) func) (durations_of-cons func l h)
    (sum_by-cons (λ x. cond (is_entry_of func x) 1 0) l h) (sum_by-cons (λ x. cond (is_exit_of func x) 1 0) l h)

-- an event of the thread is added to its part of a history
of_thread-own : (thread pid : ℕ) (e : Event) (h : List ThreadEvent) → history_of_thread thread (thread_event thread pid e ∷ h) ≡ e ∷ history_of_thread thread h
of_thread-own thread pid e h = ap (λ b. cond b (e ∷ history_of_thread thread h) (history_of_thread thread h)) (eq-eqb thread thread refl)

joined : (a b c : Bool) → ((a && b) || (a && c)) ≡ (a && (b || c))
joined true b c = refl
joined false b c = refl

-- one more event of the thread
pub reached_after : (thread pid : ℕ) (h : List ThreadEvent) (e : Event) (pair : Option Pair) (calls calls' : Standing) (tallies tallies' : Tallies)
    → Reached thread h calls tallies → pair ≡ pair_at e calls.events calls.calls → calls' ≡ next_standing e calls
    → ((func : ℕ) → tally_in tallies' func ≡ cond (nat_eq e.func func) (with_event e.kind (durations_in pair) (tally_in tallies func)) (tally_in tallies func))
    → (length tallies.first.items ≤ FEW → length tallies'.first.items ≤ FEW)
    → ((func : ℕ) → is_some (get nat_eq tallies'.others func) ≡ ((nat_le FEW func && nat_eq e.func func) || is_some (get nat_eq tallies.others func)))
    → Reached thread (thread_event thread pid e ∷ h) calls' tallies'
reached_after thread pid h e pair calls calls' tallies tallies' reached made stands each few present =
    let made_after : pair ≡ pair_after (thread_event thread pid e) h = made ∙ ap (λ (s : Standing). pair_at e s.events s.calls) reached.stands in record {
      stands = stands ∙ (ap (next_standing e) reached.stands ∙ ap standing_after (sym (of_thread-own thread pid e h)));
      tallied = record {
        each = λ func. each func
            ∙ (ap (λ (t : Tallied). cond (nat_eq e.func func) (with_event e.kind (durations_in pair) t) t) (reached.tallied.each func)
            ∙ (ap (λ (p : Option Pair). cond (nat_eq e.func func) (with_event e.kind (durations_in p) (tally_of h func)) (tally_of h func)) made_after
            ∙ sym (tally_of-cons (thread_event thread pid e) h func)));
        few = few reached.tallied.few;
        present = λ func. present func
            ∙ (ap (λ (b : Bool). (nat_le FEW func && nat_eq e.func func) || b) (reached.tallied.present func)
            ∙ joined (nat_le FEW func) (nat_eq e.func func) (has_event h func));
      };
    }
