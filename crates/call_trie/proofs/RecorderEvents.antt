-- What a recorder stands for after one more event.
use Rattle.std.proofs.Common.{◌≡◌, ◌⊎◌, ◌+◌, ◌-◌, ◌++◌, ◌<◌, ◌≤◌, ◌∙◌, ℕ, zero, suc, Bool, true, false, cond, List, [], ◌∷◌, length, map, reverse, take, refl, ap, sym, subst, arith, nat_eq, nat_lt, get_or, set, inl, inr, length-append}
use Rattle.std.proofs.lemmas.Bool.Decides.{nat_tests}
use Rattle.std.specs.List.{range_with_len}
use Rattle.std.proofs.lemmas.List.{map-append, reverse-append, reverse-reverse, take-append-le, take_all}
use Rattle.fdr_record.specs.declared.event.Event.{Event}
use Rattle.fdr_record.specs.declared.event.Kind.{Kind}
use Rattle.fdr_record.specs.declared.event.Kind.TheVariants.{Entry, Exit, TailExit, EntryArgs}
use Rattle.stack_rebuild.specs.declared.call.Call.{Call}
use Rattle.stack_rebuild.specs.declared.tally.Tally.{Tally}
use Rattle.stack_rebuild.specs.Calls.{cycles_between, enters, open_calls}
use Rattle.stack_rebuild.specs.OpenPaths.{OpenPath, Stacked, innermost_path, next_by_kind, next_stacked, open_from, open_of, open_paths, opened_by, pair_of_open, stacked_after, stacked_closing, with_spent}
use Rattle.stack_rebuild.specs.PathSums.{AllNumbered, AreApart, no_tally, path_at, tally_of, with_pair}
use Rattle.stack_rebuild.specs.Stacks.{Timed, most_open, path_of, timed_pairs}
use Rattle.stack_rebuild.proofs.Orders.{range_more}
use Rattle.call_trie.specs.declared.state.TrieState.{TrieState}
use Rattle.call_trie.specs.declared.state.TrieState.TheVariants.{Live, Full, Deep}
use Rattle.call_trie.specs.private.Paths.{IsAt, IsNew}
use Rattle.call_trie.specs.private.Steps.{Enters, Leaves, deep, ended, fresh, full, known, none}
use Rattle.call_trie.specs.Tries.{StandsFor, Trie, excess, first_stop, is_among_paths, paths_opened, state_after}
use Rattle.call_trie.proofs.AmongPaths.{Has, Keeps, at_among, has_kept, new_among, none_has, numbered_append, numbered_kept, tallies_more, with_is, with_known, with_new, with_path}
use Rattle.call_trie.proofs.OpenedPaths.{newest, opened_more}

-- what one more event changes, as stacks say it
abbrev pub Law : Type 0
Law = (events : List Event) (e : Event) → stacked_after (events ++ e ∷ []) ≡ next_stacked e (stacked_after events)

abbrev pub IsEntry : Event → Type 0
IsEntry e = (e.kind ≡ Entry) ⊎ (e.kind ≡ EntryArgs)

abbrev pub IsExit : Event → Type 0
IsExit e = (e.kind ≡ Exit) ⊎ (e.kind ≡ TailExit)

either : (e : Event) → IsEntry e ⊎ IsExit e
either e = by_kind e.kind refl
  where
    by_kind : (k : Kind) → e.kind ≡ k → IsEntry e ⊎ IsExit e
    by_kind Entry is = inl (inl is)
    by_kind EntryArgs is = inl (inr is)
    by_kind Exit is = inr (inl is)
    by_kind TailExit is = inr (inr is)

-- what holds of no event, and of one more event, holds of all
snoc : (P : List Event → Type 0) → P [] → ((events : List Event) (e : Event) → P events → P (events ++ e ∷ [])) → (events : List Event) → P events
snoc P nil step events = subst P (reverse-reverse events) (all (reverse events))
  where
    all : (h : List Event) → P (reverse h)
    all [] = nil
    all (e ∷ h) = subst P (sym (reverse-append (e ∷ []) h)) (step (reverse h) e (all h))

-- ---- the open calls and the pairs

abbrev stacked_with : List OpenPath → List Timed → Stacked
stacked_with calls pairs = record { calls = calls; pairs = pairs }

entry_stack : Law → (events : List Event) (e : Event) → IsEntry e
    → stacked_after (events ++ e ∷ []) ≡ stacked_with (opened_by e (open_of events) ∷ open_of events) (timed_pairs events)
entry_stack law events e (inl is) = law events e ∙ ap (λ (k : Kind). next_by_kind k e (stacked_after events)) is
entry_stack law events e (inr is) = law events e ∙ ap (λ (k : Kind). next_by_kind k e (stacked_after events)) is

exit_stack : Law → (events : List Event) (e : Event) → IsExit e
    → stacked_after (events ++ e ∷ []) ≡ stacked_closing e (stacked_after events) (open_from e.func (open_of events))
exit_stack law events e (inl is) = law events e ∙ ap (λ (k : Kind). next_by_kind k e (stacked_after events)) is
exit_stack law events e (inr is) = law events e ∙ ap (λ (k : Kind). next_by_kind k e (stacked_after events)) is

innermost_is : (events : List Event) (calls : List Call) → innermost_path (open_paths events calls) ≡ path_of calls
innermost_is events [] = refl
innermost_is events (call ∷ outer) = refl

open_long : (events : List Event) (calls : List Call) → length (open_paths events calls) ≡ length calls
open_long events [] = refl
open_long events (call ∷ outer) = ap suc (open_long events outer)

-- as many calls are open, with their paths
depth_now : (events : List Event) → length (open_calls (reverse events)) ≡ length (open_of events)
depth_now events = sym (open_long events (open_calls (reverse events)))

-- ---- the paths that were opened

entry_paths : (events : List Event) (e : Event) → IsEntry e → paths_opened (events ++ e ∷ []) ≡ with_path (paths_opened events) (opened_by e (open_of events)).path
entry_paths events e is =
    opened_more events e
    ∙ (ap (λ b. cond b (with_path (paths_opened events) (newest events e)) (paths_opened events)) (opens is)
    ∙ ap (λ (path : List ℕ). with_path (paths_opened events) (path ++ e.func ∷ [])) (sym (innermost_is events (open_calls (reverse events)))))
  where
    opens : IsEntry e → enters e.kind ≡ true
    opens (inl kind) = ap enters kind
    opens (inr kind) = ap enters kind

exit_paths : (events : List Event) (e : Event) → IsExit e → paths_opened (events ++ e ∷ []) ≡ paths_opened events
exit_paths events e is = opened_more events e ∙ ap (λ b. cond b (with_path (paths_opened events) (newest events e)) (paths_opened events)) (opens is)
  where
    opens : IsExit e → enters e.kind ≡ false
    opens (inl kind) = ap enters kind
    opens (inr kind) = ap enters kind

-- each open call's path has a number
abbrev AllOpen : List (List ℕ) → List OpenPath → Type 0
AllOpen paths [] = Unit {0}
AllOpen paths (call ∷ outer) = Has paths call.path × AllOpen paths outer

open_kept : (old new : List (List ℕ)) (calls : List OpenPath) → Keeps old new → AllOpen old calls → AllOpen new calls
open_kept old new [] keeps all = tt
open_kept old new (call ∷ outer) keeps all = (has_kept old new call.path keeps all.0, open_kept old new outer keeps all.1)

from_open : (paths : List (List ℕ)) (func : ℕ) (calls : List OpenPath) → AllOpen paths calls → AllOpen paths (open_from func calls)
from_open paths func [] all = tt
from_open paths func (call ∷ outer) all = by_func (nat_eq call.func func) (from_open paths func outer all.1)
  where
    by_func : (b : Bool) → AllOpen paths (open_from func outer) → AllOpen paths (cond b (call ∷ outer) (open_from func outer))
    by_func true later = all
    by_func false later = later

open_spent : (paths : List (List ℕ)) (duration : ℕ) (calls : List OpenPath) → AllOpen paths calls → AllOpen paths (with_spent duration calls)
open_spent paths duration [] all = tt
open_spent paths duration (call ∷ outer) all = all

-- the paths of the pairs and of the open calls are among those that were opened, and no two of these are the same
pub record Known (paths : List (List ℕ)) (s : Stacked) : Type 0 where
  pub pairs : AllNumbered paths s.pairs
  pub calls : AllOpen paths s.calls
  pub apart : AreApart paths

known_closing : (paths : List (List ℕ)) (e : Event) (s : Stacked) (found : List OpenPath) → Known paths s → AllOpen paths found → Known paths (stacked_closing e s found)
known_closing paths e s [] own all = own
known_closing paths e s (call ∷ outer) own all = record {
  pairs = numbered_append paths s.pairs (pair_of_open e call) own.pairs all.0;
  calls = open_spent paths (cycles_between call.tsc e.tsc) outer all.1;
  apart = own.apart;
}

pub known_after : Law → (events : List Event) → Known (paths_opened events) (stacked_after events)
known_after law = snoc (λ events. Known (paths_opened events) (stacked_after events)) nil (λ events e own. step events e own (either e))
  where
    nil : Known (paths_opened []) (stacked_after [])
    nil = record { pairs = tt; calls = tt; apart = record { apart = λ n m low high same. absurd (omega (arith, low)) } }

    step : (events : List Event) (e : Event) → Known (paths_opened events) (stacked_after events) → IsEntry e ⊎ IsExit e
        → Known (paths_opened (events ++ e ∷ [])) (stacked_after (events ++ e ∷ []))
    step events e own (inl is) =
        let call = opened_by e (open_of events) in
        let more = with_is (paths_opened events) call.path in
        subst (λ (s : Stacked). Known (paths_opened (events ++ e ∷ [])) s) (sym (entry_stack law events e is))
        (subst (λ (paths : List (List ℕ)). Known paths (stacked_with (call ∷ open_of events) (timed_pairs events))) (sym (entry_paths events e is))
        (record {
          pairs = numbered_kept (paths_opened events) (with_path (paths_opened events) call.path) (timed_pairs events) more.keeps own.pairs;
          calls = (more.has, open_kept (paths_opened events) (with_path (paths_opened events) call.path) (open_of events) more.keeps own.calls);
          apart = more.apart own.apart;
        }))
    step events e own (inr is) =
        subst (λ (s : Stacked). Known (paths_opened (events ++ e ∷ [])) s) (sym (exit_stack law events e is))
        (subst (λ (paths : List (List ℕ)). Known paths (stacked_closing e (stacked_after events) (open_from e.func (open_of events)))) (sym (exit_paths events e is))
        (known_closing (paths_opened events) e (stacked_after events) (open_from e.func (open_of events)) own (from_open (paths_opened events) e.func (open_of events) own.calls)))

-- ---- the state

-- what events leave if nothing is too much
pub record IsWithin (room : ℕ) (events : List Event) : Type 0 where
  pub depth : length (open_calls (reverse events)) ≤ most_open
  pub nodes : length (paths_opened events) ≤ room

-- a state, and what is too much after one more event
abbrev next_stop : TrieState → TrieState → TrieState
next_stop Live later = later
next_stop Full later = Full
next_stop Deep later = Deep

stop_more : (states : List TrieState) (s : TrieState) → first_stop (states ++ s ∷ []) ≡ next_stop (first_stop states) s
stop_more [] Live = refl
stop_more [] Full = refl
stop_more [] Deep = refl
stop_more (Live ∷ states) s = stop_more states s
stop_more (Full ∷ states) s = refl
stop_more (Deep ∷ states) s = refl

map_alike : (f g : ℕ → TrieState) (a n : ℕ) → ((k : ℕ) → k < a + n → f k ≡ g k) → map f (range_with_len a n) ≡ map g (range_with_len a n)
map_alike f g a zero same = refl
map_alike f g a (suc n) same =
    ap (λ (s : TrieState). s ∷ map f (range_with_len (a + 1) n)) (same a (omega arith))
    ∙ ap (λ (ss : List TrieState). g a ∷ ss) (map_alike f g (a + 1) n (λ k low. same k (omega (arith, low))))

state_more : (room : ℕ) (events : List Event) (e : Event)
    → state_after room (events ++ e ∷ []) ≡ next_stop (state_after room events) (excess room (events ++ e ∷ []))
state_more room events e =
    let n = length events in
    let after : ℕ → TrieState = λ k. excess room (take k (events ++ e ∷ [])) in
    let before : ℕ → TrieState = λ k. excess room (take k events) in
    let long : suc (length (events ++ e ∷ [])) ≡ suc (suc n) = let more = length-append events (e ∷ []) in omega (arith, more) in
    let whole : after (suc n) ≡ excess room (events ++ e ∷ []) =
    ap (excess room) (take_all (suc n) (events ++ e ∷ []) (omega (arith, long))) in
    ap (λ (k : ℕ). first_stop (map after (range_with_len 0 k))) long
    ∙ (ap (λ (ks : List ℕ). first_stop (map after ks)) (range_more 0 (suc n) (suc n) (omega arith))
    ∙ (ap first_stop (map-append after (range_with_len 0 (suc n)) (suc n ∷ []))
    ∙ (stop_more (map after (range_with_len 0 (suc n))) (after (suc n))
    ∙ (ap (λ (ss : List TrieState). next_stop (first_stop ss) (after (suc n)))
    (map_alike after before 0 (suc n) (λ k low. ap (excess room) (take-append-le k events (e ∷ []) (omega (arith, low)))))
    ∙ ap (next_stop (state_after room events)) whole))))

not_live : (s x : TrieState) → next_stop s x ≡ Live → x ≡ Live
not_live Live x is = is
not_live Full x is = let never : Full ≡ Live = is in cc
not_live Deep x is = let never : Deep ≡ Live = is in cc

within_from : (room : ℕ) (events : List Event) → excess room events ≡ Live → IsWithin room events
within_from room events = by_tests (nat_lt most_open (length (open_calls (reverse events)))) (nat_lt room (length (paths_opened events))) refl refl
  where
    by_tests : (a b : Bool) → nat_lt most_open (length (open_calls (reverse events))) ≡ a → nat_lt room (length (paths_opened events)) ≡ b → cond a Deep (cond b Full Live) ≡ Live
        → IsWithin room events
    by_tests true b one two live = let never : Deep ≡ Live = live in cc
    by_tests false true one two live = let never : Full ≡ Live = live in cc
    by_tests false false one two live = record {
      depth = let shallow : nat_lt most_open (length (open_calls (reverse events))) ≡ false = one in grind (arith, nat_tests);
      nodes = let few : nat_lt room (length (paths_opened events)) ≡ false = two in grind (arith, nat_tests);
    }

live_within : (room : ℕ) (events : List Event) → state_after room events ≡ Live → IsWithin room events
live_within room = snoc (λ events. state_after room events ≡ Live → IsWithin room events)
    (λ is. record { depth = omega arith; nodes = omega arith })
    (λ events e earlier is. within_from room (events ++ e ∷ [])
    (not_live (state_after room events) (excess room (events ++ e ∷ [])) (sym (state_more room events e) ∙ is)))

excess_deep : (room : ℕ) (events : List Event) → most_open < length (open_calls (reverse events)) → excess room events ≡ Deep
excess_deep room events more =
    let test : nat_lt most_open (length (open_calls (reverse events))) ≡ true = grind (arith, nat_tests) in
    ap (λ b. cond b Deep (cond (nat_lt room (length (paths_opened events))) Full Live)) test

excess_full : (room : ℕ) (events : List Event) → length (open_calls (reverse events)) ≤ most_open → room < length (paths_opened events) → excess room events ≡ Full
excess_full room events shallow more =
    let one : nat_lt most_open (length (open_calls (reverse events))) ≡ false = grind (arith, nat_tests) in
    let two : nat_lt room (length (paths_opened events)) ≡ true = grind (arith, nat_tests) in
    ap (λ b. cond b Deep (cond (nat_lt room (length (paths_opened events))) Full Live)) one ∙ ap (λ b. cond b Full Live) two

excess_none : (room : ℕ) (events : List Event) → length (open_calls (reverse events)) ≤ most_open → length (paths_opened events) ≤ room → excess room events ≡ Live
excess_none room events shallow few =
    let one : nat_lt most_open (length (open_calls (reverse events))) ≡ false = grind (arith, nat_tests) in
    let two : nat_lt room (length (paths_opened events)) ≡ false = grind (arith, nat_tests) in
    ap (λ b. cond b Deep (cond (nat_lt room (length (paths_opened events))) Full Live)) one ∙ ap (λ b. cond b Full Live) two

state_now : (room : ℕ) (events : List Event) (e : Event) → state_after room events ≡ Live → state_after room (events ++ e ∷ []) ≡ excess room (events ++ e ∷ [])
state_now room events e live = state_more room events e ∙ ap (λ (s : TrieState). next_stop s (excess room (events ++ e ∷ []))) live

-- a state that isn't live stays
state_stays : (room : ℕ) (events : List Event) (e : Event) → (state_after room events ≡ Live → ⊥) → state_after room (events ++ e ∷ []) ≡ state_after room events
state_stays room events e stopped = state_more room events e ∙ stays (state_after room events) (excess room (events ++ e ∷ [])) stopped
  where
    stays : (s later : TrieState) → (s ≡ Live → ⊥) → next_stop s later ≡ s
    stays Live later ends = absurd (ends refl)
    stays Full later ends = refl
    stays Deep later ends = refl

-- ---- one more event

-- a recorder that has stopped
pub has_stopped : (s : TrieState) → (s ≡ Full) ⊎ (s ≡ Deep) → s ≡ Live → ⊥
has_stopped s (inl is) live = let never : Full ≡ Live = sym is ∙ live in (let n : ⊥ = cc in n)
has_stopped s (inr is) live = let never : Deep ≡ Live = sym is ∙ live in (let n : ⊥ = cc in n)

pub stands_stopped : (trie : Trie) (events : List Event) (e : Event) → (trie.state ≡ Live → ⊥) → StandsFor trie events → StandsFor trie (events ++ e ∷ [])
stands_stopped trie events e stopped own = record {
  state = own.state ∙ sym (state_stays trie.room events e (λ live. stopped (own.state ∙ live)));
  paths = λ live. absurd (stopped live);
  tallies = λ live. absurd (stopped live);
  calls = λ live. absurd (stopped live);
}

-- the numbers of paths, without the empty path
at_opened : (paths : List (List ℕ)) (front : List ℕ) (func n : ℕ) → IsAt ([] ∷ paths) (front ++ func ∷ []) n → Has paths (front ++ func ∷ [])
at_opened paths front func zero at =
    let long : length (front ++ func ∷ []) ≡ 0 = ap length (sym at.is) in absurd (omega (arith, length-append front (func ∷ []), long))
at_opened paths front func (suc k) at = (k, omega (arith, at.within), at.is)

new_opened : (paths : List (List ℕ)) (path : List ℕ) → IsNew ([] ∷ paths) path → IsNew paths path
new_opened paths path absent k within is = absent (suc k) (omega (arith, within)) is

-- an entry
pub stands_entered : Law → (old new : Trie) (events : List Event) (e : Event) → IsEntry e → old.state ≡ Live → StandsFor old events
    → Enters (opened_by e old.calls) old new → StandsFor new (events ++ e ∷ [])
stands_entered law old new events e is live own enters_now =
    by_case (subst (λ (calls : List OpenPath). Enters (opened_by e calls) old new) (own.calls live) enters_now)
  where
    call : OpenPath
    call = opened_by e (open_of events)

    after : List Event
    after = events ++ e ∷ []

    was : state_after old.room events ≡ Live
    was = sym own.state ∙ live

    within : IsWithin old.room events
    within = live_within old.room events was

    stack : stacked_after (events ++ e ∷ []) ≡ stacked_with (call ∷ open_of events) (timed_pairs events)
    stack = entry_stack law events e is

    open_now : open_of (events ++ e ∷ []) ≡ call ∷ open_of events
    open_now = ap (λ (s : Stacked). s.calls) stack

    pairs_now : timed_pairs (events ++ e ∷ []) ≡ timed_pairs events
    pairs_now = ap (λ (s : Stacked). s.pairs) stack

    deeper : length (open_calls (reverse after)) ≡ suc (length (open_of events))
    deeper = depth_now after ∙ ap {B = ℕ} length open_now

    paths_same : is_among_paths (paths_opened events) call.path ≡ true → paths_opened (events ++ e ∷ []) ≡ paths_opened events
    paths_same there = entry_paths events e is ∙ with_known (paths_opened events) call.path there

    paths_longer : is_among_paths (paths_opened events) call.path ≡ false → paths_opened (events ++ e ∷ []) ≡ paths_opened events ++ call.path ∷ []
    paths_longer absent = entry_paths events e is ∙ with_new (paths_opened events) call.path absent

    size : length old.calls ≡ length (open_of events)
    size = ap {B = ℕ} length (own.calls live)

    count : length old.paths ≡ suc (length (paths_opened events))
    count = ap {B = ℕ} length (own.paths live)

    stops : (s : TrieState) → (s ≡ Live → ⊥) → new ≡ record old { state = s } → excess old.room after ≡ s → StandsFor new (events ++ e ∷ [])
    stops s stopped is_new found =
        subst (λ (t : Trie). StandsFor t (events ++ e ∷ [])) (sym is_new) (record {
          state = sym (state_now old.room events e was ∙ found);
          paths = λ never. absurd (stopped never);
          tallies = λ never. absurd (stopped never);
          calls = λ never. absurd (stopped never);
        })

    by_case : Enters call old new → StandsFor new (events ++ e ∷ [])
    by_case (deep many is_new) =
        stops Deep (λ same. let never : Deep ≡ Live = same in (let n : ⊥ = cc in n)) is_new (excess_deep old.room after (omega (arith, many, deeper, size)))
    by_case (full few absent used is_new) =
        let fresh_path = new_among (paths_opened events) call.path (new_opened (paths_opened events) call.path (subst (λ (ps : List (List ℕ)). IsNew ps call.path) (own.paths live) absent)) in
        let longer : length (paths_opened after) ≡ suc (length (paths_opened events)) =
        ap {B = ℕ} length (paths_longer fresh_path) ∙ (let one : length (paths_opened events ++ call.path ∷ []) ≡ suc (length (paths_opened events)) = omega (arith, length-append (paths_opened events) (call.path ∷ [])) in one) in
        stops Full (λ same. let never : Full ≡ Live = same in (let n : ⊥ = cc in n)) is_new
        (excess_full old.room after (omega (arith, few, deeper, size)) (omega (arith, longer, used, count)))
    by_case (known few n at is_new) =
        let there = at_opened (paths_opened events) (innermost_path (open_of events)) e.func n (subst (λ (ps : List (List ℕ)). IsAt ps call.path n) (own.paths live) at) in
        let same = paths_same (at_among (paths_opened events) call.path there.0 there.1 there.2) in
        subst (λ (t : Trie). StandsFor t (events ++ e ∷ [])) (sym is_new) (record {
          state = live ∙ sym (state_now old.room events e was
              ∙ excess_none old.room after (omega (arith, few, deeper, size))
              (let as_many : length (paths_opened after) ≡ length (paths_opened events) = ap {B = ℕ} length same in omega (arith, as_many, within.nodes)));
          paths = λ still. own.paths live ∙ ap (λ (ps : List (List ℕ)). [] ∷ ps) (sym same);
          tallies = λ still. own.tallies live ∙ (ap (λ (ps : List Timed). map (tally_of ps) (paths_opened events)) (sym pairs_now)
              ∙ ap (map (tally_of (timed_pairs (events ++ e ∷ [])))) (sym same));
          calls = λ still. ap (λ (l : List OpenPath). call ∷ l) (own.calls live) ∙ sym open_now;
        })
    by_case (fresh few absent room is_new) =
        let own_new : IsNew (paths_opened events) call.path = new_opened (paths_opened events) call.path (subst (λ (ps : List (List ℕ)). IsNew ps call.path) (own.paths live) absent) in
        let longer = paths_longer (new_among (paths_opened events) call.path own_new) in
        let none_yet : tally_of (timed_pairs events) call.path ≡ no_tally = none_has (paths_opened events) call.path (timed_pairs events) (known_after law events).pairs own_new in
        subst (λ (t : Trie). StandsFor t (events ++ e ∷ [])) (sym is_new) (record {
          state = live ∙ sym (state_now old.room events e was
              ∙ excess_none old.room after (omega (arith, few, deeper, size))
              (let more : length (paths_opened after) ≡ length (paths_opened events ++ call.path ∷ []) = ap {B = ℕ} length longer in
              omega (arith, more, length-append (paths_opened events) (call.path ∷ []), room, count)));
          paths = λ still. ap (λ (ps : List (List ℕ)). ps ++ call.path ∷ []) (own.paths live) ∙ ap (λ (ps : List (List ℕ)). [] ∷ ps) (sym longer);
          tallies = λ still. ap (λ (ts : List Tally). ts ++ no_tally ∷ []) (own.tallies live)
              ∙ (ap (λ (t : Tally). map (tally_of (timed_pairs events)) (paths_opened events) ++ t ∷ []) (sym none_yet)
              ∙ (sym (map-append (tally_of (timed_pairs events)) (paths_opened events) (call.path ∷ []))
              ∙ (ap (λ (ps : List Timed). map (tally_of ps) (paths_opened events ++ call.path ∷ [])) (sym pairs_now)
              ∙ ap (map (tally_of (timed_pairs (events ++ e ∷ [])))) (sym longer))));
          calls = λ still. ap (λ (l : List OpenPath). call ∷ l) (own.calls live) ∙ sym open_now;
        })

-- fewer calls are open than before
from_shorter : (func : ℕ) (calls : List OpenPath) → length (open_from func calls) ≤ length calls
from_shorter func [] = omega arith
from_shorter func (call ∷ outer) = by_func (nat_eq call.func func) (from_shorter func outer)
  where
    by_func : (b : Bool) → length (open_from func outer) ≤ length outer → length (cond b (call ∷ outer) (open_from func outer)) ≤ length (call ∷ outer)
    by_func true later = omega arith
    by_func false later = omega (arith, later)

spent_long : (duration : ℕ) (calls : List OpenPath) → length (with_spent duration calls) ≡ length calls
spent_long duration [] = refl
spent_long duration (call ∷ outer) = refl

-- an exit
pub stands_left : Law → (old new : Trie) (events : List Event) (e : Event) → IsExit e → old.state ≡ Live → StandsFor old events
    → Leaves e.func e.tsc old new → StandsFor new (events ++ e ∷ [])
stands_left law old new events e is live own = by_case
  where
    after : List Event
    after = events ++ e ∷ []

    was : state_after old.room events ≡ Live
    was = sym own.state ∙ live

    within : IsWithin old.room events
    within = live_within old.room events was

    shallow : length (open_of events) ≤ most_open
    shallow = omega (arith, within.depth, depth_now events)

    same : paths_opened (events ++ e ∷ []) ≡ paths_opened events
    same = exit_paths events e is

    stack : (found : List OpenPath) → open_from e.func old.calls ≡ found → stacked_after (events ++ e ∷ []) ≡ stacked_closing e (stacked_after events) found
    stack found at =
        exit_stack law events e is
        ∙ ap (stacked_closing e (stacked_after events)) (ap (open_from e.func) (sym (own.calls live)) ∙ at)

    goes_on : length (open_of (events ++ e ∷ [])) ≤ most_open → state_after old.room (events ++ e ∷ []) ≡ Live
    goes_on few =
        state_now old.room events e was
        ∙ excess_none old.room after (omega (arith, few, depth_now after))
        (let as_many : length (paths_opened after) ≡ length (paths_opened events) = ap {B = ℕ} length same in omega (arith, as_many, within.nodes))

    by_case : Leaves e.func e.tsc old new → StandsFor new (events ++ e ∷ [])
    by_case (none found is_new) =
        let stacked = stack [] found in
        let open_now : open_of (events ++ e ∷ []) ≡ open_of events = ap (λ (s : Stacked). s.calls) stacked in
        let pairs_now : timed_pairs (events ++ e ∷ []) ≡ timed_pairs events = ap (λ (s : Stacked). s.pairs) stacked in
        subst (λ (t : Trie). StandsFor t (events ++ e ∷ [])) (sym is_new) (record {
          state = live ∙ sym (goes_on (let as_many : length (open_of (events ++ e ∷ [])) ≡ length (open_of events) = ap {B = ℕ} length open_now in omega (arith, as_many, shallow)));
          paths = λ still. own.paths live ∙ ap (λ (ps : List (List ℕ)). [] ∷ ps) (sym same);
          tallies = λ still. own.tallies live ∙ (ap (λ (ps : List Timed). map (tally_of ps) (paths_opened events)) (sym pairs_now)
              ∙ ap (map (tally_of (timed_pairs (events ++ e ∷ [])))) (sym same));
          calls = λ still. own.calls live ∙ sym open_now;
        })
    by_case (ended call outer n found some at is_new) =
        let stacked = stack (call ∷ outer) found in
        let duration = cycles_between call.tsc e.tsc in
        let pair = pair_of_open e call in
        let paths = paths_opened events in
        let pairs = timed_pairs events in
        let open_now : open_of (events ++ e ∷ []) ≡ with_spent duration outer = ap (λ (s : Stacked). s.calls) stacked in
        let pairs_now : timed_pairs (events ++ e ∷ []) ≡ pairs ++ pair ∷ [] = ap (λ (s : Stacked). s.pairs) stacked in
        let fewer : suc (length outer) ≤ length old.calls = omega (arith, from_shorter e.func old.calls, ap {B = ℕ} length found) in
        let its : (n - 1 < length paths) × (path_at paths (n - 1) ≡ call.path) = below n some (subst (λ (ps : List (List ℕ)). IsAt ps call.path n) (own.paths live) at) in
        subst (λ (t : Trie). StandsFor t (events ++ e ∷ [])) (sym is_new) (record {
          state = live ∙ sym (goes_on (let as_many : length (open_of (events ++ e ∷ [])) ≡ length (with_spent duration outer) = ap {B = ℕ} length open_now in
              let size : length old.calls ≡ length (open_of events) = ap {B = ℕ} length (own.calls live) in
              omega (arith, as_many, spent_long duration outer, fewer, size, shallow)));
          paths = λ still. own.paths live ∙ ap (λ (ps : List (List ℕ)). [] ∷ ps) (sym same);
          tallies = λ still. ap (λ (ts : List Tally). set ts (n - 1) (with_pair duration (duration - call.spent) (get_or ts (n - 1) no_tally))) (own.tallies live)
              ∙ (sym (tallies_more paths pairs pair (n - 1) (known_after law events).apart its.0 its.1)
              ∙ (ap (λ (ps : List Timed). map (tally_of ps) paths) (sym pairs_now) ∙ ap (map (tally_of (timed_pairs (events ++ e ∷ [])))) (sym same)));
          calls = λ still. sym open_now;
        })
      where
        below : (m : ℕ) → 0 < m → IsAt ([] ∷ paths_opened events) call.path m → (m - 1 < length (paths_opened events)) × (path_at (paths_opened events) (m - 1) ≡ call.path)
        below zero positive there = absurd (omega (arith, positive))
        below (suc k) positive there = rewrite_back k there
          where
            rewrite_back : (i : ℕ) → IsAt ([] ∷ paths_opened events) call.path (suc i) → (suc i - 1 < length (paths_opened events)) × (path_at (paths_opened events) (suc i - 1) ≡ call.path)
            rewrite_back i place =
                let back : suc i - 1 ≡ i = omega arith in
                (omega (arith, place.within), ap (path_at (paths_opened events)) back ∙ place.is)
