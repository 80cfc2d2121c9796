-- The frames of open calls: one more, and the end of some.
use Rattle.std.proofs.Common.{◌≡◌, ◌⊎◌, ◌-◌, ◌++◌, ◌<◌, ◌≤◌, ◌∙◌, ℕ, suc, Bool, true, false, cond, List, [], ◌∷◌, length, reverse, take, refl, ap, sym, subst, arith, nat_eq, get_or, set, Option, Some, None, length-append, inl, inr}
use Rattle.std.specs.Prelude.{All}
use Rattle.std.proofs.Math.ListN.{get_or-append}
use Rattle.std.proofs.Math.Seq.{get_or-append_seam, set-append_seam, take-append_seam}
use Rattle.std.proofs.lemmas.Bool.{eq-eqb}
use Rattle.std.proofs.lemmas.Bool.Decides.{nat_tests}
use Rattle.std.proofs.lemmas.List.{append-nil, length-reverse, reverse-append, reverse-reverse, take-append-le}
use Rattle.std.proofs.lemmas.List.Elements.{All-cons, All-head, All-tail, All-take}
use Rattle.std.proofs.lemmas.List.Sorted.{All-permutation, IsPermutation-reverse}
use Rattle.fdr_record.specs.declared.event.Event.{Event}
use Rattle.fdr_record.specs.declared.event.Kind.{Kind}
use Rattle.fdr_record.specs.declared.event.Kind.TheVariants.{Entry, Exit, TailExit, EntryArgs}
use Rattle.stack_rebuild.specs.declared.call.Call.{Call}
use Rattle.stack_rebuild.specs.declared.call.Pair.{Pair}
use Rattle.stack_rebuild.specs.declared.tally.Tally.{Tally}
use Rattle.stack_rebuild.specs.declared.thread_stack.Frame.{Frame}
use Rattle.stack_rebuild.specs.Calls.{Standing, cycles_between, from_innermost, leaves, left_open, next_standing, open_after_kind, open_calls, pair_at, pair_of_call, standing_after}
use Rattle.stack_rebuild.specs.Stacks.{Timed, path_of, spent_in}
use Rattle.stack_rebuild.specs.PathSums.{AreSums, path_at}
use Rattle.stack_rebuild.specs.private.Scanning.{AreFrames, Follows, IsFrame, Keeps, Opens, spending, timed_now, top_of, with_spent}
use Rattle.stack_rebuild.proofs.NestedCalls.{AllBefore, Nested, ended_by, nested_ended, nested_history, pair_by}
use Rattle.stack_rebuild.proofs.SpentTimes.{adds, made, path_of-cons, spent_at_end, spent_more, timed_new}

-- ---- the innermost frame

-- a list with one more item at its end, turned around, begins with that item
pub turned : {X : Type 0} (xs : List X) (x : X) → reverse (xs ++ x ∷ []) ≡ x ∷ reverse xs
turned xs x = reverse-append xs (x ∷ [])

spent_by : (following fs : List Frame) (n duration : ℕ) (frame new : Frame) → fs ≡ reverse following → n ≡ length fs → 0 < n → frame ≡ get_or fs (n - 1) frame
    → new ≡ spending duration frame → reverse (set fs (n - 1) new) ≡ with_spent duration following
spent_by [] fs n duration frame new is count some here spent = absurd (omega (arith, ap {B = ℕ} length is))
spent_by (f ∷ following) fs n duration frame new is count some here spent =
    let back : fs ≡ reverse following ++ f ∷ [] = is ∙ reverse-append (f ∷ []) following in
    let size : n - 1 ≡ length (reverse following) = omega (arith, ap {B = ℕ} length back, length-append (reverse following) (f ∷ [])) in
    let last : frame ≡ f =
    here ∙ (ap (λ (k : ℕ). get_or fs k frame) size ∙ (ap (λ (l : List Frame). get_or l (length (reverse following)) frame) back ∙ get_or-append_seam (reverse following) f [] frame)) in
    let changed : set fs (n - 1) new ≡ reverse following ++ new ∷ [] =
    ap (λ (k : ℕ). set fs k new) size ∙ (ap (λ (l : List Frame). set l (length (reverse following)) new) back ∙ set-append_seam (reverse following) f [] new) in
    ap reverse changed
    ∙ (turned (reverse following) new
    ∙ (ap (λ (l : List Frame). new ∷ l) (reverse-reverse following) ∙ ap (λ (g : Frame). g ∷ following) (spent ∙ ap (spending duration) last)))

pub spent_last : (fs : List Frame) (n duration : ℕ) (frame new : Frame) → n ≡ length fs → 0 < n → frame ≡ get_or fs (n - 1) frame → new ≡ spending duration frame
    → reverse (set fs (n - 1) new) ≡ with_spent duration (reverse fs)
spent_last fs n duration frame new count some here spent =
    spent_by (reverse fs) fs n duration frame new (sym (reverse-reverse fs)) count some here spent

-- ---- the numbers of frames' paths

abbrev Below : ℕ → List Frame → Type 0
Below n fs = All (λ (frame : Frame). frame.path < n) fs

below_spent : (n duration : ℕ) (fs : List Frame) → Below n fs → Below n (with_spent duration fs)
below_spent n duration [] all = all
below_spent n duration (f ∷ fs) all =
    All-cons (λ (frame : Frame). frame.path < n) (spending duration f) fs (All-head (λ (frame : Frame). frame.path < n) f fs all)
    (All-tail (λ (frame : Frame). frame.path < n) f fs all)

pub below_end : (n depth duration : ℕ) (old cut new : List Frame) → Below n old → cut ≡ take depth old → reverse new ≡ with_spent duration (reverse cut) → Below n new
below_end n depth duration old cut new all is spent =
    let P : Frame → Type 0 = λ frame. frame.path < n in
    let kept : Below n cut = subst (Below n) (sym is) (All-take P depth old all) in
    let other : Below n (reverse cut) = All-permutation P cut (reverse cut) (IsPermutation-reverse cut) kept in
    let changed : Below n (reverse new) = subst (Below n) (sym spent) (below_spent n duration (reverse cut) other) in
    subst (Below n) (reverse-reverse new) (All-permutation P (reverse new) (reverse (reverse new)) (IsPermutation-reverse (reverse new)) changed)

pub top_below : (n : ℕ) (fs : List Frame) → 0 < n → Below n fs → top_of (reverse fs) < n
top_below n fs some all = by_top (reverse fs) (All-permutation (λ (frame : Frame). frame.path < n) fs (reverse fs) (IsPermutation-reverse fs) all)
  where
    by_top : (following : List Frame) → Below n following → top_of following < n
    by_top [] below = some
    by_top (f ∷ following) below = All-head (λ (frame : Frame). frame.path < n) f following below

-- ---- frames of calls

pub frames_kept : (paths paths' : List (List ℕ)) (events events' : List Event) (fs : List Frame) (calls : List Call) → Keeps paths paths'
    → ((at : ℕ) → spent_in events' at ≡ spent_in events at) → AreFrames paths events fs calls → AreFrames paths' events' fs calls
frames_kept paths paths' events events' [] [] keeps spent all = tt
frames_kept paths paths' events events' [] (call ∷ outer) keeps spent all = all
frames_kept paths paths' events events' (f ∷ fs) [] keeps spent all = all
frames_kept paths paths' events events' (f ∷ fs) (call ∷ outer) keeps spent all =
    let own = all.0 in
    let still = keeps.kept f.path own.within in (
      record { path = still.1 ∙ own.path; within = still.0; spent = own.spent ∙ sym (spent call.entry) },
      frames_kept paths paths' events events' fs outer keeps spent all.1,
    )

frames_long : (paths : List (List ℕ)) (events : List Event) (fs : List Frame) (calls : List Call) → AreFrames paths events fs calls → length fs ≡ length calls
frames_long paths events [] [] all = refl
frames_long paths events [] (call ∷ outer) all = absurd all
frames_long paths events (f ∷ fs) [] all = absurd all
frames_long paths events (f ∷ fs) (call ∷ outer) all = ap suc (frames_long paths events fs outer all.1)

from_long : (func : ℕ) (calls : List Call) (ended : Call) (outer : List Call) → from_innermost func calls ≡ ended ∷ outer → length outer < length calls
from_long func [] ended outer is = absurd (omega (arith, ap {B = ℕ} length is))
from_long func (call ∷ calls) ended outer is = by_func (nat_eq call.func func) is (from_long func calls ended outer)
  where
    by_func : (b : Bool) → cond b (call ∷ calls) (from_innermost func calls) ≡ ended ∷ outer
        → (from_innermost func calls ≡ ended ∷ outer → length outer < length calls) → length outer < length (call ∷ calls)
    by_func true same following = omega (arith, ap {B = ℕ} length same)
    by_func false same following = omega (arith, following same)

-- what is at a depth, and what is outside it
pub record IsCut (paths : List (List ℕ)) (events : List Event) (fs : List Frame) (depth : ℕ) (ended : Call) (outer : List Call) (d : Frame) : Type 0 where
  pub within : depth < length fs
  pub frame : IsFrame paths events (get_or fs depth d) ended outer
  pub rest : AreFrames paths events (reverse (take depth fs)) outer

cut_by : (paths : List (List ℕ)) (events : List Event) (func : ℕ) (following : List Frame) (calls : List Call) (ended : Call) (outer : List Call) (d : Frame)
    → AreFrames paths events following calls → from_innermost func calls ≡ ended ∷ outer → IsCut paths events (reverse following) (length outer) ended outer d
cut_by paths events func [] [] ended outer d all is = absurd (omega (arith, ap {B = ℕ} length is))
cut_by paths events func [] (call ∷ calls) ended outer d all is = absurd all
cut_by paths events func (f ∷ following) [] ended outer d all is = absurd all
cut_by paths events func (f ∷ following) (call ∷ calls) ended outer d all is =
    by_func (nat_eq call.func func) is (cut_by paths events func following calls ended outer d all.1) (from_long func calls ended outer)
  where
    back : reverse (f ∷ following) ≡ reverse following ++ f ∷ []
    back = reverse-append (f ∷ []) following

    size : length (reverse following) ≡ length calls
    size = length-reverse following ∙ frames_long paths events following calls all.1

    here : IsCut paths events (reverse following ++ f ∷ []) (length (reverse following)) call calls d
    here = record {
      within = omega (arith, length-append (reverse following) (f ∷ []));
      frame = subst (λ (g : Frame). IsFrame paths events g call calls) (sym (get_or-append_seam (reverse following) f [] d)) all.0;
      rest = subst (λ (l : List Frame). AreFrames paths events l calls)
          (sym (ap reverse (take-append_seam (reverse following) (f ∷ [])) ∙ reverse-reverse following)) all.1;
    }

    first_of : Call → List Call → Call
    first_of c [] = c
    first_of c (e ∷ cs) = e

    rest_of : List Call → List Call
    rest_of [] = []
    rest_of (e ∷ cs) = cs

    by_func : (b : Bool) → cond b (call ∷ calls) (from_innermost func calls) ≡ ended ∷ outer
        → (from_innermost func calls ≡ ended ∷ outer → IsCut paths events (reverse following) (length outer) ended outer d)
        → (from_innermost func calls ≡ ended ∷ outer → length outer < length calls) → IsCut paths events (reverse (f ∷ following)) (length outer) ended outer d
    by_func true same later low =
        let first : call ≡ ended = ap (first_of call) same in
        let others : calls ≡ outer = ap rest_of same in
        subst (λ (l : List Frame). IsCut paths events l (length outer) ended outer d) (sym back)
        (subst (λ (cs : List Call). IsCut paths events (reverse following ++ f ∷ []) (length cs) ended cs d) others
        (subst (λ (c : Call). IsCut paths events (reverse following ++ f ∷ []) (length calls) c calls d) first
        (subst (λ (n : ℕ). IsCut paths events (reverse following ++ f ∷ []) n call calls d) size here)))
    by_func false same later low =
        let own = later same in
        let small : length outer < length (reverse following) = own.within in
        subst (λ (l : List Frame). IsCut paths events l (length outer) ended outer d) (sym back) (record {
          within = omega (arith, small, length-append (reverse following) (f ∷ []));
          frame = subst (λ (g : Frame). IsFrame paths events g ended outer) (sym (get_or-append (reverse following) (f ∷ []) d (length outer) small)) own.frame;
          rest = subst (λ (l : List Frame). AreFrames paths events (reverse l) outer)
              (sym (take-append-le (length outer) (reverse following) (f ∷ []) (let e : length outer ≤ length (reverse following) = omega (arith, small) in e))) own.rest;
        })

pub frames_cut : (paths : List (List ℕ)) (events : List Event) (func : ℕ) (fs : List Frame) (calls : List Call) (ended : Call) (outer : List Call) (d : Frame)
    → AreFrames paths events (reverse fs) calls → from_innermost func calls ≡ ended ∷ outer → IsCut paths events fs (length outer) ended outer d
frames_cut paths events func fs calls ended outer d all is =
    subst (λ (l : List Frame). IsCut paths events l (length outer) ended outer d) (reverse-reverse fs)
    (cut_by paths events func (reverse fs) calls ended outer d all is)

-- the frames outside a call that ends: the innermost of them has spent its duration
frames_spent : (paths : List (List ℕ)) (e : Event) (history : List Event) (ended : Call) (fs : List Frame) (outer : List Call)
    → Nested (reverse history) (ended_by e.kind e.func (open_calls history)) → ended_by e.kind e.func (open_calls history) ≡ ended ∷ outer
    → Nested (reverse history) outer → AreFrames paths (reverse history) fs outer
    → AreFrames paths (reverse (e ∷ history)) (with_spent (cycles_between ended.tsc e.tsc) fs) outer
frames_spent paths e history ended [] [] nested is own all = tt
frames_spent paths e history ended [] (call ∷ outer) nested is own all = all
frames_spent paths e history ended (f ∷ fs) [] nested is own all = all
frames_spent paths e history ended (f ∷ fs) (call ∷ outer) nested is own all = (
  record {
    path = all.0.path;
    within = all.0.within;
    spent = let more = spent_more e history call.entry nested in
        let added : adds e call.entry (ended_by e.kind e.func (open_calls history)) ≡ cycles_between ended.tsc e.tsc =
        ap (adds e call.entry) is ∙ ap (λ b. cond b (cycles_between ended.tsc e.tsc) 0) (eq-eqb call.entry call.entry refl) in
        omega (arith, all.0.spent, more, added);
  },
  others fs outer own.1 all.1,
)
  where
    others : (gs : List Frame) (calls : List Call) → AllBefore call.entry calls → AreFrames paths (reverse history) gs calls
        → AreFrames paths (reverse (e ∷ history)) gs calls
    others [] [] below same = tt
    others [] (c ∷ calls) below same = same
    others (g ∷ gs) [] below same = same
    others (g ∷ gs) (c ∷ calls) below same = (
      record {
        path = same.0.path;
        within = same.0.within;
        spent = let more = spent_more e history c.entry nested in
            let apart : nat_eq call.entry c.entry ≡ false = let low : c.entry < call.entry = below.0 in grind (arith, nat_tests) in
            let added : adds e c.entry (ended_by e.kind e.func (open_calls history)) ≡ 0 =
            ap (adds e c.entry) is ∙ ap (λ b. cond b (cycles_between ended.tsc e.tsc) 0) apart in
            omega (arith, same.0.spent, more, added);
      },
      others gs calls below.1 same.1,
    )

-- ---- one more event

-- if an event ends no call, nothing more was spent
nothing_spent : (e : Event) (history : List Event) → ended_by e.kind e.func (open_calls history) ≡ [] → (at : ℕ)
    → spent_in (reverse (e ∷ history)) at ≡ spent_in (reverse history) at
nothing_spent e history none at =
    omega (arith, spent_more e history at (nested_ended (reverse history) e.kind e.func (open_calls history) (nested_history history).nested), ap (adds e at) none)

nothing_made : (e : Event) (history : List Event) (pairs : List Timed) → ended_by e.kind e.func (open_calls history) ≡ [] → pairs ≡ pairs ++ timed_now e history
nothing_made e history pairs none =
    sym (ap (λ (ps : List Timed). pairs ++ ps) (timed_new e history ∙ ap (made e history) none) ∙ append-nil pairs)

path_top : (paths : List (List ℕ)) (events : List Event) (fs : List Frame) (calls : List Call) → path_at paths 0 ≡ [] → AreFrames paths events fs calls
    → path_at paths (top_of fs) ≡ path_of calls
path_top paths events [] [] root all = root
path_top paths events [] (call ∷ outer) root all = absurd all
path_top paths events (f ∷ fs) [] root all = absurd all
path_top paths events (f ∷ fs) (call ∷ outer) root all = all.0.path

-- what an entry ends, and what it leaves open
entry_opens : (k : Kind) (e : Event) (at : ℕ) (calls : List Call) → (k ≡ Entry) ⊎ (k ≡ EntryArgs)
    → (ended_by k e.func calls ≡ []) × (open_after_kind k e at calls ≡ record { entry = at; func = e.func; tsc = e.tsc } ∷ calls)
entry_opens k e at calls (inl is) = (ap (λ (k : Kind). ended_by k e.func calls) is, ap (λ (k : Kind). open_after_kind k e at calls) is)
entry_opens k e at calls (inr is) = (ap (λ (k : Kind). ended_by k e.func calls) is, ap (λ (k : Kind). open_after_kind k e at calls) is)

-- an entry
pub follows_entry : (e : Event) (history : List Event) (calls calls' : Standing) (fs fs' : List Frame) (paths paths' : List (List ℕ)) (ts ts' : List Tally) (pairs : List Timed)
    → (e.kind ≡ Entry) ⊎ (e.kind ≡ EntryArgs) → calls' ≡ next_standing e calls → Opens e.func fs fs' paths paths' → ((ps : List Timed) → AreSums paths ts ps → AreSums paths' ts' ps)
    → Follows calls fs paths ts pairs history → Follows calls' fs' paths' ts' (pairs ++ timed_now e history) (e ∷ history)
follows_entry e history calls calls' fs fs' paths paths' ts ts' pairs entry stands opens sums known =
    let both = entry_opens e.kind e (length history) (open_calls history) entry in
    let none : ended_by e.kind e.func (open_calls history) ≡ [] = both.0 in
    let opened : Call = record { entry = length history; func = e.func; tsc = e.tsc } in
    let now : open_calls (e ∷ history) ≡ opened ∷ open_calls history = both.1 in
    let frame = opens.frame in record {
      stands = stands ∙ ap (next_standing e) known.stands;
      framed = subst (AreFrames paths' (reverse (e ∷ history)) (reverse fs')) (sym now)
          (subst (λ (l : List Frame). AreFrames paths' (reverse (e ∷ history)) l (opened ∷ open_calls history)) (sym (ap reverse opens.is ∙ turned fs frame)) (
            record {
              path = opens.path
                  ∙ (ap (λ (path : List ℕ). path ++ e.func ∷ []) (path_top paths (reverse history) (reverse fs) (open_calls history) known.summed.root known.framed)
                  ∙ sym (path_of-cons opened (open_calls history)));
              within = opens.within;
              spent = opens.spent ∙ sym (nothing_spent e history none (length history) ∙ spent_at_end history);
            },
            frames_kept paths paths' (reverse history) (reverse (e ∷ history)) (reverse fs) (open_calls history) opens.keeps (nothing_spent e history none) known.framed,
          ));
      summed = subst (AreSums paths' ts') (nothing_made e history pairs none) (sums pairs known.summed);
    }

no_pair : (e : Event) (at : ℕ) (calls : List Call) → pair_of_call e at calls ≡ None → calls ≡ []
no_pair e at [] none = refl
no_pair e at (ended ∷ outer) none = absurd (let same : 1 ≡ 0 = ap count none in omega (arith, same))
  where
    count : Option Pair → ℕ
    count None = 0
    count (Some pair) = 1

-- an exit that ends no call
follows_none : (e : Event) (history : List Event) (calls calls' : Standing) (fs : List Frame) (paths : List (List ℕ)) (ts : List Tally) (pairs : List Timed)
    → open_calls (e ∷ history) ≡ left_open (open_calls history) (ended_by e.kind e.func (open_calls history))
    → pair_at e calls.events calls.calls ≡ None → calls' ≡ next_standing e calls
    → Follows calls fs paths ts pairs history → Follows calls' fs paths ts (pairs ++ timed_now e history) (e ∷ history)
follows_none e history calls calls' fs paths ts pairs left made_none stands known =
    let none : ended_by e.kind e.func (open_calls history) ≡ [] =
    no_pair e (length history) (ended_by e.kind e.func (open_calls history))
    (sym (pair_by e.kind e (length history) (open_calls history)) ∙ (sym (ap (λ (s : Standing). pair_at e s.events s.calls) known.stands) ∙ made_none)) in
    let now : open_calls (e ∷ history) ≡ open_calls history = left ∙ ap (left_open (open_calls history)) none in record {
      stands = stands ∙ ap (next_standing e) known.stands;
      framed = subst (AreFrames paths (reverse (e ∷ history)) (reverse fs)) (sym now)
          (frames_kept paths paths (reverse history) (reverse (e ∷ history)) (reverse fs) (open_calls history) (record { kept = λ n within. (within, refl) })
          (nothing_spent e history none) known.framed);
      summed = subst (AreSums paths ts) (nothing_made e history pairs none) known.summed;
    }

leaves_exit : (k : Kind) → (k ≡ Exit) ⊎ (k ≡ TailExit) → leaves k ≡ true
leaves_exit k (inl is) = ap leaves is
leaves_exit k (inr is) = ap leaves is

left_kind : (k : Kind) (e : Event) (history : List Event) → e.kind ≡ k → (k ≡ Exit) ⊎ (k ≡ TailExit)
    → open_calls (e ∷ history) ≡ left_open (open_calls history) (ended_by e.kind e.func (open_calls history))
left_kind Entry e history is exit = let no : false ≡ true = leaves_exit Entry exit in cc
left_kind EntryArgs e history is exit = let no : false ≡ true = leaves_exit EntryArgs exit in cc
left_kind Exit e history is exit =
    ap (λ (k : Kind). open_after_kind k e (length history) (open_calls history)) is
    ∙ ap (λ (k : Kind). left_open (open_calls history) (ended_by k e.func (open_calls history))) (sym is)
left_kind TailExit e history is exit =
    ap (λ (k : Kind). open_after_kind k e (length history) (open_calls history)) is
    ∙ ap (λ (k : Kind). left_open (open_calls history) (ended_by k e.func (open_calls history))) (sym is)

pub follows_exit : (e : Event) (history : List Event) (calls calls' : Standing) (fs : List Frame) (paths : List (List ℕ)) (ts : List Tally) (pairs : List Timed)
    → (e.kind ≡ Exit) ⊎ (e.kind ≡ TailExit) → pair_at e calls.events calls.calls ≡ None → calls' ≡ next_standing e calls
    → Follows calls fs paths ts pairs history → Follows calls' fs paths ts (pairs ++ timed_now e history) (e ∷ history)
follows_exit e history calls calls' fs paths ts pairs is = follows_none e history calls calls' fs paths ts pairs (left_kind e.kind e history refl is)

left_by : (k : Kind) (e : Event) (at : ℕ) (calls : List Call) (ended : Call) (outer : List Call) → ended_by k e.func calls ≡ ended ∷ outer
    → open_after_kind k e at calls ≡ outer
left_by Entry e at calls ended outer is = absurd (omega (arith, ap {B = ℕ} length is))
left_by EntryArgs e at calls ended outer is = absurd (omega (arith, ap {B = ℕ} length is))
left_by Exit e at calls ended outer is = ap (left_open calls) is
left_by TailExit e at calls ended outer is = ap (left_open calls) is

from_by : (k : Kind) (func : ℕ) (calls : List Call) (ended : Call) (outer : List Call) → ended_by k func calls ≡ ended ∷ outer
    → from_innermost func calls ≡ ended ∷ outer
from_by Entry func calls ended outer is = absurd (omega (arith, ap {B = ℕ} length is))
from_by EntryArgs func calls ended outer is = absurd (omega (arith, ap {B = ℕ} length is))
from_by Exit func calls ended outer is = is
from_by TailExit func calls ended outer is = is

-- an exit that ends a call
pub follows_pair : (e : Event) (history : List Event) (calls calls' : Standing) (fs fs' : List Frame) (paths paths' : List (List ℕ)) (ts ts' : List Tally)
    (pairs : List Timed) (pair : Pair) (depth : ℕ) (d : Frame)
    → pair_at e calls.events calls.calls ≡ Some pair → calls' ≡ next_standing e calls → depth ≡ length calls'.calls → paths' ≡ paths
    → (depth < length fs → reverse fs' ≡ with_spent pair.duration (reverse (take depth fs)))
    → ((ps : List Timed) → AreSums paths ts ps → depth < length fs → AreSums paths' ts' (ps ++ record {
      path = path_at paths (get_or fs depth d).path;
      duration = pair.duration;
      own = pair.duration - (get_or fs depth d).spent;
    } ∷ []))
    → Follows calls fs paths ts pairs history → Follows calls' fs' paths' ts' (pairs ++ timed_now e history) (e ∷ history)
follows_pair e history calls calls' fs fs' paths paths' ts ts' pairs pair depth d made_some stands deep same cut sums known =
    by_ended (ended_by e.kind e.func (open_calls history)) refl
  where
    duration_in : Option Pair → ℕ
    duration_in None = 0
    duration_in (Some p) = p.duration

    made_now : pair_of_call e (length history) (ended_by e.kind e.func (open_calls history)) ≡ Some pair
    made_now = sym (pair_by e.kind e (length history) (open_calls history)) ∙ (sym (ap (λ (s : Standing). pair_at e s.events s.calls) known.stands) ∙ made_some)

    standing : calls' ≡ standing_after (e ∷ history)
    standing = stands ∙ ap (next_standing e) known.stands

    by_ended : (cs : List Call) → ended_by e.kind e.func (open_calls history) ≡ cs → Follows calls' fs' paths' ts' (pairs ++ timed_now e history) (e ∷ history)
    by_ended [] is = absurd (let none : None ≡ Some pair = ap (pair_of_call e (length history)) (sym is) ∙ made_now in some_none none)
      where
        some_none : None ≡ Some pair → ⊥
        some_none wrong = let e : 0 ≡ 1 = ap count wrong in omega (arith, e)
          where
            count : Option Pair → ℕ
            count None = 0
            count (Some p) = 1
    by_ended (ended ∷ outer) is =
        let nested = (nested_history history).nested in
        let ends = nested_ended (reverse history) e.kind e.func (open_calls history) nested in
        let own = subst (Nested (reverse history)) is ends in
        let lasted : pair.duration ≡ cycles_between ended.tsc e.tsc =
        sym (ap duration_in (ap (pair_of_call e (length history)) (sym is) ∙ made_now)) in
        let now : open_calls (e ∷ history) ≡ outer = left_by e.kind e (length history) (open_calls history) ended outer is in
        let place : depth ≡ length outer = deep ∙ ap (λ (s : Standing). length s.calls) standing ∙ ap length now in
        let whole = frames_cut paths (reverse history) e.func fs (open_calls history) ended outer d known.framed (from_by e.kind e.func (open_calls history) ended outer is) in
        let at : IsCut paths (reverse history) fs depth ended outer d = subst (λ (n : ℕ). IsCut paths (reverse history) fs n ended outer d) (sym place) whole in
        let frames : AreFrames paths (reverse (e ∷ history)) (reverse fs') outer =
        subst (λ (l : List Frame). AreFrames paths (reverse (e ∷ history)) l outer)
        (sym (cut at.within ∙ ap (λ (n : ℕ). with_spent n (reverse (take depth fs))) lasted))
        (frames_spent paths e history ended (reverse (take depth fs)) outer ends is own.3 at.rest) in
        let new : Timed = record {
          path = path_of (ended ∷ outer);
          duration = cycles_between ended.tsc e.tsc;
          own = cycles_between ended.tsc e.tsc - spent_in (reverse history) ended.entry;
        } in
        let pair_is : (let p : Timed = record { path = path_at paths (get_or fs depth d).path; duration = pair.duration; own = pair.duration - (get_or fs depth d).spent } in p) ≡ new =
        ap (λ (n : ℕ). let p : Timed = record { path = path_at paths (get_or fs depth d).path; duration = n; own = n - (get_or fs depth d).spent } in p) lasted
        ∙ (ap (λ (path : List ℕ). let p : Timed = record { path = path; duration = cycles_between ended.tsc e.tsc; own = cycles_between ended.tsc e.tsc - (get_or fs depth d).spent } in p) at.frame.path
        ∙ ap (λ (n : ℕ). let p : Timed = record { path = path_of (ended ∷ outer); duration = cycles_between ended.tsc e.tsc; own = cycles_between ended.tsc e.tsc - n } in p) at.frame.spent) in
        let listed : pairs ++ new ∷ [] ≡ pairs ++ timed_now e history =
        ap (λ (ps : List Timed). pairs ++ ps) (sym (timed_new e history ∙ ap (made e history) is)) in
        let summed : AreSums paths' ts' (pairs ++ timed_now e history) =
        subst (AreSums paths' ts') listed
        (subst (λ (p : Timed). AreSums paths' ts' (pairs ++ p ∷ [])) pair_is
        (sums pairs known.summed at.within)) in record {
          stands = standing;
          framed = subst (λ (ps : List (List ℕ)). AreFrames ps (reverse (e ∷ history)) (reverse fs') (open_calls (e ∷ history))) (sym same)
              (subst (AreFrames paths (reverse (e ∷ history)) (reverse fs')) (sym now) frames);
          summed = summed;
        }
